-- The signals of a list run in order, the initial words, and the position as a number. Assumes nothing.
use mathlib.Core.Path.{◌≡◌, refl, sym, ap, ◌∙◌}
use mathlib.Core.Bool.{true, false}
use mathlib.Core.List.{List, [], ◌∷◌, ◌++◌}
use Prim.Native.Nat.{ℕ, zero, suc, ◌+◌, ◌*◌, ◌≤◌, ◌<◌, ◌^◌}
use native.Mathlib.Nat.{add-zero, add-suc, suc-add, zero-add}
use native.Mathlib.Numerals.{add-one}
use native.Mathlib.Omega.{arith}
use borrow.Author.Tests.{ltb-true}
use lib.Dec.{ltb}
use lib.IntN.{ℤ, pos, negsuc}
use lib.ListN.{length, get_or, drop, set, drop_of_length-le}
use lib.Seq.{drop-cons, set_at, append_snoc}
use lib.Signed.{mag, lt_z}
use mir.Syntax.{w32}
use mir.Val.{to_z, of_z}
use Rattle.model.proofs.Basics.Outcomes.{table-length}
use Rattle.model.specs.Rules.Machine.{
  count_of,
  rows_in,
  code_of,
  run_code,
  run_signals,
  count_code,
  count_signals,
  reset_words,
  is_position,
  position_of,
}
use Rattle.model.specs.Rules.Search.{table, table_from}
use Rattle.model.specs.Rules.Word.{byte_at, word_at}
use Rattle.word.proofs.Locals.{kept}

module _ (image list : List ℕ) (i : ℕ) (samples state : List ℤ) where
  pub signals-next : i < length list
      → run_signals image (drop i list) samples state
      ≡ run_signals image (drop (i + 1) list) samples
      (set state (byte_at list i + 1) (run_code (rows_in image) (code_of image (byte_at list i)) state samples))
  unfolding run_signals
  signals-next h = ap (λ (l : List ℕ). run_signals image l samples state) (drop-cons list i 0 h) ∙ rw (add-one i)

  pub signals-done : length list ≤ i → run_signals image (drop i list) samples state ≡ state
  unfolding run_signals
  signals-done h = ap (λ (l : List ℕ). run_signals image l samples state) (drop_of_length-le list h)

-- and their commands
module _ (image list : List ℕ) (i : ℕ) where
  pub counts-next : i < length list
      → count_signals image (drop i list) ≡ count_code (code_of image (byte_at list i)) + count_signals image (drop (i + 1) list)
  unfolding count_signals
  counts-next h = ap (count_signals image) (drop-cons list i 0 h) ∙ rw (add-one i)

  pub counts-done : length list ≤ i → count_signals image (drop i list) ≡ 0
  unfolding count_signals
  counts-done h = ap (count_signals image) (drop_of_length-le list h)

-- a table grows at its end
module _ {A : Type 0} (f : ℕ → A) where
  from_more : (i n : ℕ) → table_from i (suc n) f ≡ table_from i n f ++ (f (i + n) ∷ [])
  unfolding table_from
  from_more i zero = ap (λ (k : ℕ). f k ∷ []) (sym (add-zero i))
  from_more i (suc n) = ap (λ (r : List A). f i ∷ r)
      (from_more (suc i) n ∙ ap (λ (k : ℕ). table_from (suc i) n f ++ (f k ∷ [])) (suc-add i n ∙ sym (add-suc i n)))

  pub table_more : (n : ℕ) → table (n + 1) f ≡ table n f ++ (f n ∷ [])
  unfolding table
  table_more n = ap (λ (k : ℕ). table_from 0 k f) (add-one n) ∙ from_more 0 n ∙
      ap (λ (k : ℕ). table_from 0 n f ++ (f k ∷ [])) (zero-add n)

-- the state once x signals have their initial words
unfoldable pub begun : List ℕ → ℕ → List ℤ → List ℤ
begun image x state = pos 0 ∷ (table x (λ y. word_at image (4 + 6 * y)) ++ drop (x + 1) state)

pub begun-none : (image : List ℕ) (state : List ℤ) → 0 < length state → set state 0 (pos 0) ≡ begun image 0 (set state 0 (pos 0))
unfolding begun table table_from
begun-none image [] h = let z : ⊥ = omega (arith, h) in absurd z
begun-none image (w ∷ state) h = refl

pub begun_more : (image : List ℕ) (x : ℕ) (state : List ℤ) → x + 1 < length state
    → set (begun image x state) (x + 1) (word_at image (4 + 6 * x)) ≡ begun image (x + 1) state
unfolding begun
begun_more image x state h =
    let f : ℕ → ℤ = λ y. word_at image (4 + 6 * y) in
    let next : drop (x + 1) state ≡ get_or state (x + 1) (pos 0) ∷ drop (x + 1 + 1) state =
    rw (add-one (x + 1)) (drop-cons state (x + 1) (pos 0) h) in
    ap (λ (k : ℕ). set (begun image x state) k (f x)) (add-one x)
    ∙ ap (λ (r : List ℤ). pos 0 ∷ set (table x f ++ r) x (f x)) next
    ∙ ap (λ (r : List ℤ). pos 0 ∷ r)
    (set_at (table x f) (get_or state (x + 1) (pos 0)) (drop (x + 1 + 1) state) (f x) x (table-length x f)
    ∙ sym (ap (λ (t : List ℤ). t ++ drop (x + 1 + 1) state) (table_more f x) ∙
    append_snoc (table x f) (f x) (drop (x + 1 + 1) state)))

drop-set : (x : ℕ) (state : List ℤ) (w : ℤ) → drop (suc x) (set state 0 w) ≡ drop (suc x) state
drop-set x [] w = refl
drop-set x (v ∷ state) w = refl

pub begun_all : (image : List ℕ) (state : List ℤ) → begun image (count_of image) (set state 0 (pos 0)) ≡ reset_words image state
unfolding begun reset_words
begun_all image state =
    ap (λ (r : List ℤ). pos 0 ∷ (table (count_of image) (λ y. word_at image (4 + 6 * y)) ++ r))
    (ap (λ (k : ℕ). drop k (set state 0 (pos 0))) (add-one (count_of image)) ∙ drop-set (count_of image) state (pos 0) ∙
    ap (λ (k : ℕ). drop k state) (sym (add-one (count_of image))))

-- a word that is not negative is a position by its number alone
pub record Position (z : ℤ) : Type 0 where
  pub back : to_z w32 (of_z w32 z) ≡ pos (position_of z)
  pub test : (h : ℕ) → is_position h z ≡ ltb (position_of z) h
  pub small : position_of z < 2 ^ 31

pub position : (z : ℤ) → mag z < 2 ^ 31 → lt_z (to_z w32 (of_z w32 z)) (pos 0) ≡ false → Position z
position (pos k) m h = record { back = kept (pos k) m; test = λ h. refl; small = m }
position (negsuc k) m h = let e : true ≡ false = rw (kept (negsuc k) m) at h in absurd (never e)
  where
    never : true ≡ false → ⊥
    never p = let z : ◌≡◌ {A = ℕ} 0 1 = cc in omega arith

pub no-position : (z : ℤ) (h : ℕ) → mag z < 2 ^ 31 → lt_z (to_z w32 (of_z w32 z)) (pos 0) ≡ true → is_position h z ≡ false
no-position (pos k) h m t = let l = ltb-true k 0 (rw (kept (pos k) m) at t) in absurd (never l)
  where
    never : k < 0 → ⊥
    never p = omega arith
no-position (negsuc k) h m t = refl

-- a word that stands in the range is a position
pub stands_at : (z : ℤ) (h : ℕ) → mag z < 2 ^ 31 → is_position h z ≡ true → Position z
stands_at (pos k) h m t = record { back = kept (pos k) m; test = λ h. refl; small = m }
stands_at (negsuc k) h m t = let z : ◌≡◌ {A = ℕ} 0 1 = cc in absurd (omega arith)
