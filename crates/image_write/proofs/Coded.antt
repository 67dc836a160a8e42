-- The code of signals and their records, signal by signal. Assumes nothing.
use Prim.Native.Nat.{ℕ, zero, suc, ◌+◌, ◌≤◌, ◌<◌}
use mathlib.Core.List.{List, [], ◌∷◌, ◌++◌, append_assoc}
use mathlib.Core.Path.{◌≡◌, refl, sym, ap, ap₂, ◌∙◌}
use native.Mathlib.Numerals.{add-one}
use native.Mathlib.Omega.{arith}
use lib.IntN.{ℤ}
use lib.ListN.{length, get_or, drop, drop_of_length-le, length-append}
use lib.Seq.{drop-cons}
use Rattle.model.specs.Rules.Image.{signal_code, joined, offsets, records}
use Rattle.model.specs.Rules.Program.{Program, Signal, Body, input, equation, no_signal, count}
use Rattle.model.specs.Rules.Search.{join_from}
use Rattle.model.specs.Rules.Word.{two_bytes, four_bytes, word_at, word_bytes}
use Rattle.model.proofs.Texts.Commands.{declaration-sound}
use Rattle.model.specs.Says.Stands.{SpellsBody, SpellsSignal}
use Rattle.text_program.specs.Tables.{Sums, code_in}
use Rattle.image_write.specs.Codes.{codes_from, CodesAt}
use Rattle.model.proofs.Images.Stretches.{joined-cons}
use Rattle.model.proofs.Basics.Left.{Parts, parts-length}

dropped : {A : Type 0} (l : List A) (x : ℕ) (d : A) → x < length l → drop x l ≡ get_or l x d ∷ drop (x + 1) l
dropped l x d lt = drop-cons l x d lt ∙ ap (λ (k : ℕ). get_or l x d ∷ drop k l) (sym (add-one x))

-- What is left of the code and of the records from signal x on.
module _ (signals : List Signal) where
  abbrev pub nth : ℕ → Signal
  nth x = get_or signals x no_signal

  unfoldable pub codes_left : ℕ → List ℕ
  codes_left x = joined (codes_from x (drop x signals))

  unfoldable pub records_left : List ℕ → ℕ → List ℕ
  records_left starts x = records (drop x signals) (drop x starts)

  here : (x : ℕ) → x < length signals → drop x signals ≡ nth x ∷ drop (x + 1) signals
  here x lt = dropped signals x no_signal lt

  codes-step : (x : ℕ) → x < length signals →
      codes_from x (drop x signals) ≡ signal_code x (nth x).body ∷ codes_from (x + 1) (drop (x + 1) signals)
  unfolding codes_from join_from
  codes-step x lt =
      ap (codes_from x) (here x lt) ∙
      ap (λ (k : ℕ). signal_code x (nth x).body ∷ codes_from k (drop (x + 1) signals)) (sym (add-one x))

  pub codes-start : codes_left 0 ≡ joined (codes_from 0 signals)
  unfolding codes_left
  codes-start = refl

  pub codes-next : (x : ℕ) → x < length signals → Parts (codes_left x) (signal_code x (nth x).body) (codes_left (x + 1))
  unfolding codes_left
  codes-next x lt =
      record {
        is = ap joined (codes-step x lt) ∙
            joined-cons (signal_code x (nth x).body) (codes_from (x + 1) (drop (x + 1) signals));
      }

  pub codes-end : (x : ℕ) → length signals ≤ x → codes_left x ≡ []
  unfolding codes_left codes_from join_from
  codes-end x le = ap (λ l. joined (codes_from x l)) (drop_of_length-le signals le)

  module _ (starts : List ℕ) where
    pub records-start : records_left starts 0 ≡ records signals starts
    unfolding records_left
    records-start = refl

    pub records-next : (x : ℕ) → x < length signals → x < length starts →
        Parts (records_left starts x) (word_bytes (nth x).initial ++ two_bytes (get_or starts x 0)) (records_left starts (x + 1))
    unfolding records_left records
    records-next x lt few =
        record {
          is =
              ap₂ records (here x lt) (dropped starts x 0 few) ∙
              sym (append_assoc (word_bytes (nth x).initial) (two_bytes (get_or starts x 0)) _);
        }

    pub records-end : (x : ℕ) → length signals ≤ x → records_left starts x ≡ []
    unfolding records_left records
    records-end x le = ap (λ l. records l (drop x starts)) (drop_of_length-le signals le)

-- Where the code of signal x starts: what is left of the code from there on ends where the whole does.
start-at : (k m start : ℕ) (signals : List Signal) (x : ℕ) → m ≡ k + x → x ≤ length signals →
    get_or (offsets start (codes_from k signals)) x 0 + length (joined (codes_from m (drop x signals))) ≡
    start + length (joined (codes_from k signals))
unfolding codes_from join_from offsets
start-at k m start [] zero e le = refl
start-at k m start [] (suc x) e le = absurd (omega arith)
start-at k m start (σ ∷ signals) zero e le = let z : m ≡ k = omega arith in rw z refl
start-at k m start (σ ∷ signals) (suc x) e le =
    let c = signal_code k σ.body in
    let t = codes_from (suc k) signals in
    omega (
      arith,
      ap length (joined-cons c t),
      length-append c (joined t),
      start-at (suc k) m (start + length c) signals x (omega arith) (omega arith),
    )

pub code-start : (start : ℕ) (signals : List Signal) (x : ℕ) → x ≤ length signals →
    get_or (offsets start (codes_from 0 signals)) x 0 + length (codes_left signals x) ≡ start + length (joined (codes_from 0 signals))
unfolding codes_left
code-start start signals x le = start-at 0 x start signals x (omega arith) le

-- Each signal has an offset, and so has the end.
pub starts-many : (k start : ℕ) (signals : List Signal) → length (offsets start (codes_from k signals)) ≡ suc (length signals)
unfolding codes_from join_from offsets
starts-many k start [] = refl
starts-many k start (σ ∷ signals) = ap suc (starts-many (suc k) (start + length (signal_code k σ.body)) signals)

-- The table of the reader has where the code of each signal starts.
module _ (p : Program) (table : List ℕ) (s : Sums code_in p table) where
  pub code_sum : (x : ℕ) → x ≤ count p →
      get_or table x 0 + length (codes_left p.signals x) ≡ length (joined (codes_from 0 p.signals))
  code_sum zero le = omega (arith, s.from_zero, ap length (codes-start p.signals))
  code_sum (suc x) le =
      let n = rw (add-one x) at (parts-length (codes-next p.signals x (omega arith))) in
      omega (arith, s.rises x (omega arith), n, code_sum x (omega arith))

  pub codes-by : (start : ℕ) → CodesAt start p.signals table
  codes-by start x le = omega (arith, code_sum x le, code-start start p.signals x le)

-- The initial word of a signal stands after its period.
pub initial-word : (text : List ℕ) (σ : Signal) → SpellsSignal text σ →
    (σ.initial ≡ word_at text (σ.place + 2)) × (σ.place + 6 ≤ length text)
initial-word text σ h = go σ.body h
  where
    go : (b : Body) → SpellsBody text σ b → (σ.initial ≡ word_at text (σ.place + 2)) × (σ.place + 6 ≤ length text)
    go input e = let f = declaration-sound text σ.place _ e in (f.2, f.3)
    go (equation weight x) e = let f = declaration-sound text σ.place _ e.0 in (f.2, omega (arith, f.3))

pub record-length : (w : ℤ) (o : ℕ) → length (word_bytes w ++ two_bytes o) ≡ 6
unfolding word_bytes four_bytes two_bytes
record-length w o = refl

-- The record of a signal, by the text.
pub records-at : (signals : List Signal) (starts text : List ℕ) (x place : ℕ) → x < length signals → x < length starts →
    (nth signals x).place ≡ place → SpellsSignal text (nth signals x) →
    Parts (records_left signals starts x) (word_bytes (word_at text (place + 2)) ++ two_bytes (get_or starts x 0))
    (records_left signals starts (x + 1))
records-at signals starts text x place lt few e h =
    rw (sym ((initial-word text (nth signals x) h).0 ∙ ap (λ (a : ℕ). word_at text (a + 2)) e))
    (records-next signals starts x lt few)
