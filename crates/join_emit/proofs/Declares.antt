-- The parts declare what the joined tables say; their code and records are those of the joined program. Assumes nothing.
use Rattle.std.specs.Prelude.{Option, Some}
use Prim.Native.Nat.{ℕ, suc, ◌+◌, ◌-◌, ◌≤◌, ◌<◌}
use mathlib.Core.Bool.{Bool, true, false, cond, false≢true}
use mathlib.Core.List.{List, [], ◌∷◌, ◌++◌, append_assoc}
use mathlib.Core.Path.{◌≡◌, refl, sym, ap, ap₂, subst, ◌∙◌}
use native.Mathlib.Omega.{arith}
use borrow.Author.Tests.{eqb-true}
use lib.Dec.{eqb}
use lib.IntN.{ℤ}
use lib.ListN.{length, get_or}
use Rattle.model.specs.Rules.Image.{expr_code, signal_code, joined, codes, offsets, records}
use Rattle.model.specs.Rules.Join.{parts_in, texts_at, program_text, parts_from, lent}
use Rattle.model.specs.Rules.Outcome.{accepted}
use Rattle.model.specs.Rules.Parts.{
  Part,
  renumber_body,
  renumber_signal,
  joined_parts,
  base,
  part_at,
  Wire,
  wire_read,
  wired_body,
  wired_with,
}
use Rattle.model.specs.Rules.Program.{Program, Signal, Body, input, equation, read, no_signal, count, signal_at, is_input}
use Rattle.model.specs.Rules.Search.{table, table_from, join_from}
use Rattle.model.specs.Rules.Word.{two_bytes, word_bytes}
use Rattle.model.specs.Says.Feasible.{All}
use Rattle.model.proofs.Joining.Numbers.{
  base-zero,
  base-next,
  base-below,
  base-all,
  number-signal,
  wired-count,
  wired-signal,
}
use Rattle.model.specs.Says.Stands.{SpellsSignal}
use Rattle.model.proofs.Images.Stretches.{joined-cons}
use Rattle.text_program.specs.Tables.{Sums, code_in}
use Rattle.image_write.specs.Codes.{codes_from}
use Rattle.image_write.proofs.Coded.{code_sum, codes-by, codes-end, starts-many}
use Rattle.join_gather.specs.Joint.{JointOf}
use Rattle.join_gather.specs.declared.Joint.{Joint}
use Rattle.join_gather.proofs.Each.{PartOf, parts-count, part_of}
use Rattle.join_emit.specs.Code.{joined_code, ReadsFit}
use Rattle.join_emit.specs.Parts.{
  declared_as,
  code_as,
  part_codes,
  codes_of,
  record_as,
  part_records,
  records_of,
  PartsDeclared,
}
use Rattle.join_emit.specs.Sources.{source_of, SourcesBy}
use Rattle.join_emit.proofs.Owned.{declared-at, spelled_at, reads_fit}
use Rattle.join_emit.proofs.Stretched.{all-stretches}

-- The code of a signal that may be linked.
wired-code : (ls : List Wire) (start x : ℕ) (b : Body) → All (λ (l : Wire). l.signal < 64) ls →
    joined_code start (source_of ls x) x b ≡ signal_code x (wired_body ls x (renumber_body (λ y. start + y) b))
unfolding source_of wired_body expr_code
wired-code [] start x b h = refl
wired-code (l ∷ ls) start x b h = go (eqb l.input x) (wired-code ls start x b h.1)
  where
    go : (t : Bool) →
        joined_code start (source_of ls x) x b ≡ signal_code x (wired_body ls x (renumber_body (λ y. start + y) b)) →
        joined_code start (cond t (Some l.signal) (source_of ls x)) x b ≡
        signal_code x (cond t (equation 0 (read (wire_read l))) (wired_body ls x (renumber_body (λ y. start + y) b)))
    go true ih = refl
    go false ih = ih

-- Code by number.
codes-from : (i : ℕ) (σs : List Signal) (f : ℕ → List ℕ) →
    ((j : ℕ) → j < length σs → f (i + j) ≡ signal_code (i + j) (get_or σs j no_signal).body) →
    join_from i (λ x σ. signal_code x σ.body ∷ []) σs ≡ table_from i (length σs) f
unfolding join_from table_from
codes-from i [] f h = refl
codes-from i (σ ∷ σs) f h =
    let z : i + 0 ≡ i = omega arith in
    ap₂ ◌∷◌ (sym (rw z at (h 0 (omega arith))))
    (codes-from (suc i) σs f (λ j lt.
    let s : i + suc j ≡ suc i + j = omega arith in
    rw s at (h (suc j) (omega arith))))

codes-table : (p : Program) → codes p ≡ table (count p) (λ x. signal_code x (signal_at p x).body)
unfolding codes table
codes-table p =
    codes-from 0 p.signals (λ x. signal_code x (signal_at p x).body)
    (λ j lt. ap (λ (y : ℕ). signal_code (0 + j) (get_or p.signals y no_signal).body) (omega arith))

-- A linked IN has as much code as before.
code-kept : (ls : List Wire) (x : ℕ) (b : Body) → All (λ (l : Wire). l.input ≡ x → is_input b ≡ true) ls →
    length (signal_code x (wired_body ls x b)) ≡ length (signal_code x b)
unfolding wired_body expr_code
code-kept [] x b h = refl
code-kept (l ∷ ls) x b h = go (eqb l.input x) refl (code-kept ls x b h.1)
  where
    four : (c : Body) → is_input c ≡ true → 4 ≡ length (signal_code x c)
    four input q = refl
    four (equation weight z) q = absurd (false≢true q)

    go : (t : Bool) → eqb l.input x ≡ t → length (signal_code x (wired_body ls x b)) ≡ length (signal_code x b) →
        length (signal_code x (cond t (equation 0 (read (wire_read l))) (wired_body ls x b))) ≡ length (signal_code x b)
    go true q ih = four b (h.0 (eqb-true l.input x q))
    go false q ih = ih

-- Records by number.
records-from : (i : ℕ) (σs : List Signal) (os : List ℕ) (f : ℕ → List ℕ) → length σs ≤ length os →
    ((j : ℕ) → j < length σs → f (i + j) ≡ word_bytes (get_or σs j no_signal).initial ++ two_bytes (get_or os j 0)) →
    records σs os ≡ joined (table_from i (length σs) f)
unfolding records table_from join_from
records-from i [] os f le h = refl
records-from i (σ ∷ σs) [] f le h = absurd (omega arith)
records-from i (σ ∷ σs) (o ∷ os) f le h =
    let z : i + 0 ≡ i = omega arith in
    sym
    (joined-cons (f i) (table_from (suc i) (length σs) f) ∙
    ap₂ ◌++◌ (rw z at (h 0 (omega arith)))
    (sym
    (records-from (suc i) σs os f (omega arith) (λ j lt.
    let s : i + suc j ≡ suc i + j = omega arith in
    rw s at (h (suc j) (omega arith))))) ∙
    append_assoc (word_bytes σ.initial) (two_bytes o) (records σs os))

codes_same : (p : Program) → codes_from 0 p.signals ≡ codes p
unfolding codes codes_from
codes_same p = refl

records-table : (p : Program) (codes₀ : List ℕ) (start : ℕ) → Sums code_in p codes₀ →
    records p.signals (offsets start (codes p)) ≡
    joined (table (count p) (λ x. word_bytes (signal_at p x).initial ++ two_bytes (start + get_or codes₀ x 0)))
unfolding table
records-table p codes₀ start sums =
    let os = offsets start (codes p) in
    let many : length os ≡ suc (count p) =
    ap (λ l. length (offsets start l)) (sym (codes_same p)) ∙ starts-many 0 start p.signals in
    records-from 0 p.signals os (λ x. word_bytes (signal_at p x).initial ++ two_bytes (start + get_or codes₀ x 0))
    (omega (arith, many))
    (λ j lt.
    let z : 0 + j ≡ j = omega arith in
    rw z
    (ap (λ (o : ℕ). word_bytes (signal_at p j).initial ++ two_bytes o)
    (codes-by p codes₀ sums start j (omega arith) ∙ ap (λ l. get_or (offsets start l) j 0) (codes_same p))))

-- The last offset is the length of all code.
pub code-size : (p : Program) (codes₀ : List ℕ) → Sums code_in p codes₀ → get_or codes₀ (count p) 0 ≡ length (joined (codes p))
code-size p codes₀ sums =
    omega (
      arith,
      code_sum p codes₀ sums (count p) (omega arith),
      ap length (codes-end p.signals (count p) (omega arith)),
      ap (λ l. length (joined l)) (codes_same p),
    )

module _ (texts numbers : List ℕ) {parts : List Part} {size : ℕ} {t : Joint} (lents : lent texts numbers ≡ accepted tt)
    (e : parts_from texts numbers 0 (parts_in numbers) ≡ accepted parts) (j : JointOf parts size t) (small : t.signals ≤ 64) where
  abbrev text : ℕ → List ℕ
  text k = program_text texts (texts_at numbers k)

  abbrev whole : Program
  whole = (joined_parts parts).program

  module _ (k x : ℕ) (lt : k < length parts) (lo : base parts k ≤ x) (hi : x < base parts (k + 1)) where
    abbrev y : ℕ
    y = x - base parts k

    own : PartOf texts numbers parts k
    own = part_of texts numbers parts e k lt

    y-below : y < count (part_at parts k).program
    y-below = omega (arith, base-next parts k lt)

    x_below : x < count whole
    x_below = omega (arith, base-below parts (k + 1) (omega arith))

    as_at : signal_at whole x ≡ renumber_signal (λ z. base parts k + z) (declared_as (text k) (base parts k) x)
    as_at =
        let s : base parts k + y ≡ x = omega arith in
        ap (signal_at whole) (sym s) ∙ number-signal parts k y lt y-below ∙
        ap (renumber_signal (λ z. base parts k + z)) (sym (declared-at own y))

  pub parts-declared : PartsDeclared texts numbers t.bases t.places t.parts
  parts-declared =
      record {
        are-lent = lents;
        counted = omega (arith, j.counted, parts-count texts numbers (parts_in numbers) 0 parts e);
        declared = λ k l.
            let lt : k < length parts = omega (arith, j.counted) in
            rw (j.bases k (omega arith), j.bases (k + 1) (omega arith))
            (record {
              few = omega (arith, base-below parts (k + 1) (omega arith), j.signals, small);
              stands = λ x lo hi.
                  sym (ap (λ (σ : Signal). σ.place) (as_at k x lt lo hi)) ∙
                  sym ((j.tables small).places x (x_below k x lt lo hi));
              spelled = λ x lo hi.
                  subst (SpellsSignal (text k)) (sym (declared-at (own k x lt lo hi) (x - base parts k)))
                  (spelled_at (own k x lt lo hi) (x - base parts k) (y-below k x lt lo hi));
              reads = λ x lo hi.
                  subst (λ (σ : Signal). ReadsFit (base parts k) σ.body)
                  (sym (declared-at (own k x lt lo hi) (x - base parts k)))
                  (reads_fit (own k x lt lo hi) (x - base parts k) (base parts k) (y-below k x lt lo hi)
                  (omega (arith, x_below k x lt lo hi, j.signals, small)));
            });
      }

  -- The table of code offsets is that of the joined program: a linked IN has as much code as before.
  pub sums_kept : (ls : List Wire) →
      ((x : ℕ) → x < count whole → All (λ (l : Wire). l.input ≡ x → is_input (signal_at whole x).body ≡ true) ls) →
      Sums code_in (wired_with ls whole) t.codes
  sums_kept ls inputs =
      let s = (j.tables small).codes in
      record {
        from_zero = s.from_zero;
        rises = λ x lt.
            let l : x < count whole = omega (arith, wired-count ls whole) in
            s.rises x l ∙
            ap (λ (n : ℕ). get_or t.codes x 0 + n)
            (sym
            (ap (λ (τ : Signal). length (signal_code x τ.body)) (wired-signal ls whole x l) ∙
            code-kept ls x (signal_at whole x).body (inputs x l)));
      }

  -- With links the code is that of the joined program.
  module _ (ls : List Wire) (near : All (λ (l : Wire). l.signal < 64) ls) (sources : List (Option ℕ))
      (by : SourcesBy ls sources) where
    abbrev p : Program
    p = wired_with ls whole

    code-as : (k x : ℕ) → k < length parts → base parts k ≤ x → x < base parts (k + 1) →
        code_as (text k) (base parts k) sources x ≡ signal_code x (signal_at p x).body
    unfolding code_as
    code-as k x lt lo hi =
        let σ = declared_as (text k) (base parts k) x in
        let l = x_below k x lt lo hi in
        ap (λ (n : Option ℕ). joined_code (base parts k) n x σ.body) (by x (omega (arith, l, j.signals, small))) ∙
        wired-code ls (base parts k) x σ.body near ∙
        ap (λ (τ : Signal). signal_code x (wired_body ls x τ.body)) (sym (as_at k x lt lo hi)) ∙
        ap (λ (τ : Signal). signal_code x τ.body) (sym (wired-signal ls whole x l))

    pub codes-are : joined (table t.parts (codes_of texts numbers t.bases sources)) ≡ joined (codes p)
    unfolding codes_of part_codes
    codes-are =
        all-stretches t.parts (λ k. get_or t.bases k 0)
        (λ k l.
        let lt : k < length parts = omega (arith, j.counted) in
        omega (arith, j.bases k (omega arith), j.bases (k + 1) (omega arith), base-next parts k lt))
        (λ k. code_as (text k) (get_or t.bases k 0) sources) (λ x. signal_code x (signal_at p x).body)
        (λ k x l lo hi.
        let lt : k < length parts = omega (arith, j.counted) in
        ap (λ (b : ℕ). code_as (text k) b sources x) (j.bases k (omega arith)) ∙
        code-as k x lt (omega (arith, j.bases k (omega arith))) (omega (arith, j.bases (k + 1) (omega arith))))
        (j.bases 0 (omega arith) ∙ base-zero parts) ∙
        ap (λ (n : ℕ). joined (table n (λ x. signal_code x (signal_at p x).body)))
        (ap (λ (k : ℕ). get_or t.bases k 0) j.counted ∙ j.bases (length parts) (omega arith) ∙ base-all parts ∙
        sym (wired-count ls whole)) ∙
        ap joined (sym (codes-table p))

    record-as : (codes : List ℕ) (start k x : ℕ) → k < length parts → base parts k ≤ x → x < base parts (k + 1) →
        record_as (text k) (base parts k) codes start x ≡
        word_bytes (signal_at p x).initial ++ two_bytes (start + get_or codes x 0)
    unfolding record_as
    record-as codes start k x lt lo hi =
        let l = x_below k x lt lo hi in
        ap (λ (w : ℤ). word_bytes w ++ two_bytes (start + get_or codes x 0))
        (ap (λ (τ : Signal). τ.initial) (sym (as_at k x lt lo hi)) ∙
        ap (λ (τ : Signal). τ.initial) (sym (wired-signal ls whole x l)))

    pub records-are : (start : ℕ) → Sums code_in p t.codes →
        joined (table t.parts (records_of texts numbers t.bases t.codes start)) ≡
        records p.signals (offsets start (codes p))
    unfolding records_of part_records
    records-are start sums =
        all-stretches t.parts (λ k. get_or t.bases k 0)
        (λ k l.
        let lt : k < length parts = omega (arith, j.counted) in
        omega (arith, j.bases k (omega arith), j.bases (k + 1) (omega arith), base-next parts k lt))
        (λ k. record_as (text k) (get_or t.bases k 0) t.codes start)
        (λ x. word_bytes (signal_at p x).initial ++ two_bytes (start + get_or t.codes x 0))
        (λ k x l lo hi.
        let lt : k < length parts = omega (arith, j.counted) in
        ap (λ (b : ℕ). record_as (text k) b t.codes start x) (j.bases k (omega arith)) ∙
        record-as t.codes start k x lt (omega (arith, j.bases k (omega arith)))
        (omega (arith, j.bases (k + 1) (omega arith))))
        (j.bases 0 (omega arith) ∙ base-zero parts) ∙
        ap (λ (n : ℕ). joined (table n (λ x. word_bytes (signal_at p x).initial ++ two_bytes (start + get_or t.codes x 0))))
        (ap (λ (k : ℕ). get_or t.bases k 0) j.counted ∙ j.bases (length parts) (omega arith) ∙ base-all parts ∙
        sym (wired-count ls whole)) ∙
        sym (records-table p t.codes start sums)
