-- The tests decide the statements: line, period rule, shared cycles and order of a read, and the searches. Assumes nothing.
use Rattle.std.specs.Prelude.{Option, Some, None}
use Prim.Native.Nat.{ℕ, zero, suc, ◌+◌, ◌*◌, ◌/◌, ◌%◌, ◌≤◌, ◌<◌, min}
use mathlib.Core.Bool.{Bool, true, false, cond, not, ◌&&◌, ◌||◌, beq, true≢false, false≢true, and-eq-true_iff}
use mathlib.Core.List.{List, [], ◌∷◌}
use mathlib.Core.Logic.{◌↔◌, ◌⊎◌, inl, inr}
use mathlib.Core.Path.{◌≡◌, refl, sym, ap, ◌∙◌}
use native.Mathlib.Decide.{dec_le, dec_lt}
use native.Mathlib.Nat.{
  div-add-mod',
  mul_assoc,
  mul-le-mul_right,
  mul-add-mod_self_right,
  mod-eq_of_lt,
  min-eq_left,
  min-eq_right,
}
use native.Mathlib.Numerals.{add-one}
use native.Mathlib.Omega.{arith}
use borrow.Author.Tests.{leb-true, ltb-true, ltb-false, eqb-true, eq-eqb, le-leb, lt-ltb, le-ltb}
use lib.Dec.{leb, ltb, eqb}
use lib.ListN.{length, get_or}
use Rattle.model.specs.Says.Feasible.{PeriodRule, Between, Line, LineHolds, SettlesAt, PutFor, Met}
use Rattle.model.specs.Rules.Program.{Program, Read, count, signal_at}
use Rattle.model.specs.Rules.Rates.{period_rule}
use Rattle.model.specs.Rules.Reads.{
  Rate,
  rate_of,
  run_cycle,
  between,
  line,
  writer_first,
  share,
  ordered,
  rank,
  before,
  settle,
  line_holds,
  settled_index,
  settled,
  is_met,
}
use Rattle.model.specs.Rules.Schedule.{Schedule, phase_of}
use Rattle.model.specs.Rules.Search.{first_from, first_below, is_found, found_or, all_below}
use Rattle.model.specs.declared.Index.{Index}
use Rattle.model.specs.declared.Index.TheVariants.{Fixed, Open}
use Rattle.model.specs.declared.Kind.{Kind}
use Rattle.model.specs.declared.Kind.TheVariants.{Now, Last, When, LastWhen, Current}
use Rattle.model.proofs.Pairs.Lines.{First, Indexed, index-once}

-- The line.
pub between-true : (a x b : ℕ) → between a x b ≡ true → Between a x b
unfolding between
between-true a x b e = let f = (and-eq-true_iff (leb a x) (ltb x b)).0 e in (leb-true a x f.0, ltb-true x b f.1)

pub true-between : (a x b : ℕ) → Between a x b → between a x b ≡ true
unfolding between
true-between a x b h = (and-eq-true_iff (leb a x) (ltb x b)).1 (le-leb a x h.0, lt-ltb x b h.1)

pub line-true : (kind : Kind) (w r : Rate) (i : ℕ) → line kind w r i ≡ true → Line kind w r i
line-true Now w r i e = leb-true _ _ e
line-true Last w r i e = leb-true _ _ e
line-true When w r i e = between-true _ _ _ e
line-true LastWhen w r i e = between-true _ _ _ e
line-true Current w r i e = between-true _ _ _ e

pub true-line : (kind : Kind) (w r : Rate) (i : ℕ) → Line kind w r i → line kind w r i ≡ true
true-line Now w r i h = le-leb _ _ h
true-line Last w r i h = le-leb _ _ h
true-line When w r i h = true-between _ _ _ h
true-line LastWhen w r i h = true-between _ _ _ h
true-line Current w r i h = true-between _ _ _ h

-- The period rule.
pub periods-true : (kind : Kind) (w r n : ℕ) → period_rule kind w r n ≡ true → PeriodRule kind w r n
periods-true Now w r n e = eqb-true _ _ e
periods-true Last w r n e = eqb-true _ _ e
periods-true When w r n e = eqb-true _ _ e
periods-true LastWhen w r n e = eqb-true _ _ e
periods-true Current w r n e = eqb-true _ _ e

pub true-periods : (kind : Kind) (w r n : ℕ) → PeriodRule kind w r n → period_rule kind w r n ≡ true
true-periods Now w r n e = eq-eqb _ _ e
true-periods Last w r n e = eq-eqb _ _ e
true-periods When w r n e = eq-eqb _ _ e
true-periods LastWhen w r n e = eq-eqb _ _ e
true-periods Current w r n e = eq-eqb _ _ e

-- Both periods are multiples of the lower one.
multiple : (n b : ℕ) → zero < n → b ≤ n * b
multiple n b pos = let h : 1 * b ≤ n * b = mul-le-mul_right b pos in omega arith

abbrev Multiples : ℕ → ℕ → ℕ → Type 0
Multiples w r b = (k m : ℕ) × (w ≡ k * b) × (r ≡ m * b)

multiples : (kind : Kind) (w r n : ℕ) → zero < n → PeriodRule kind w r n → Multiples w r (min w r)
multiples Now w r n pos p = (1, 1, omega arith, omega arith)
multiples Last w r n pos p = (1, 1, omega arith, omega arith)
multiples When w r n pos p = rw (p, min-eq_left (multiple n w pos)) (1, n, omega arith, refl)
multiples LastWhen w r n pos p = rw (p, min-eq_left (multiple n w pos)) (1, n, omega arith, refl)
multiples Current w r n pos p = rw (p, min-eq_right (multiple n r pos)) (n, 1, refl, omega arith)

mod-run : (a : Rate) (b n j : ℕ) → a.period ≡ n * b → run_cycle a j % b ≡ a.phase % b
mod-run a b n j e = rw (e, ← mul_assoc) (mul-add-mod_self_right (j * n) b a.phase)

-- Two rates share a cycle.
pub share-runs : (kind : Kind) (w r : Rate) (n j k : ℕ) → zero < n → PeriodRule kind w.period r.period n →
    run_cycle w j ≡ run_cycle r k → share w r ≡ true
unfolding share
share-runs kind w r n j k pos p e =
    let b = min w.period r.period in
    let q = multiples kind w.period r.period n pos p in
    eq-eqb _ _ (sym (mod-run w b q.0 j q.2) ∙ ap (◌% b) e ∙ mod-run r b q.1 k q.3)

meet : (a b : Rate) → a.phase < a.period → a.phase % a.period ≡ b.phase % a.period →
    run_cycle a (b.phase / a.period) ≡ run_cycle b 0
meet a b v e = omega (arith, div-add-mod' b.phase a.period, mod-eq_of_lt v)

pub runs-share : (w r : Rate) → w.phase < w.period → r.phase < r.period → share w r ≡ true →
    (j k : ℕ) × (run_cycle w j ≡ run_cycle r k)
unfolding share
runs-share w r vw vr e = go (dec_le w.period r.period) (eqb-true _ _ e)
  where
    go : Dec (w.period ≤ r.period) →
        w.phase % min w.period r.period ≡ r.phase % min w.period r.period →
        (j k : ℕ) × (run_cycle w j ≡ run_cycle r k)
    go (yes h) f = (_, _, meet w r vw (rw (min-eq_left h) at f))
    go (no h) f =
        let g : r.period ≤ w.period = omega arith in
        (_, _, sym (meet r w vr (sym (rw (min-eq_right g) at f))))

-- The order.
pub beq-true : (b c : Bool) → beq b c ≡ true → b ≡ c
beq-true true true e = refl
beq-true true false e = sym e
beq-true false true e = e
beq-true false false e = refl

true-beq : (b : Bool) → beq b b ≡ true
true-beq true = refl
true-beq false = refl

pub ordered-true : (kind : Kind) (w r : Rate) (n : ℕ) (before : Bool) → zero < n →
    PeriodRule kind w.period r.period n → ordered kind w r before ≡ true → First kind w r before
unfolding ordered
ordered-true kind w r n before pos p o j k e =
    beq-true before (writer_first kind) (rw (share-runs kind w r n j k pos p e) at o)

pub true-ordered : (kind : Kind) (w r : Rate) (before : Bool) → w.phase < w.period → r.phase < r.period →
    First kind w r before → ordered kind w r before ≡ true
unfolding ordered
true-ordered kind w r before vw vr h = go (share w r) refl
  where
    go : (b : Bool) → share w r ≡ b → not b || beq before (writer_first kind) ≡ true
    go true e = let q = runs-share w r vw vr e in rw (h q.0 q.1 q.2) (true-beq (writer_first kind))
    go false e = refl

-- The order by places. w and r are put.
-- The signal at a place of the order.
pub rank-at : (xs : List ℕ) (x : ℕ) → rank xs x < length xs → get_or xs (rank xs x) 0 ≡ x
unfolding rank
rank-at [] x h = absurd (omega arith)
rank-at (y ∷ ys) x h = go (eqb y x) refl h (rank-at ys x)
  where
    go : (b : Bool) → eqb y x ≡ b → cond b 0 (suc (rank ys x)) < suc (length ys) →
        (rank ys x < length ys → get_or ys (rank ys x) 0 ≡ x) → get_or (y ∷ ys) (cond b 0 (suc (rank ys x))) 0 ≡ x
    go true e h ih = eqb-true y x e
    go false e h ih = ih (omega arith)

-- r before w, or w itself.
reader-first : (s : Schedule) (w r : ℕ) → rank s.order w < length s.order → rank s.order r < length s.order →
    before s w r ≡ false → (rank s.order r < rank s.order w) ⊎ (r ≡ w)
reader-first s w r pw pr e = go (dec_lt (rank s.order r) (rank s.order w))
  where
    go : Dec (rank s.order r < rank s.order w) → (rank s.order r < rank s.order w) ⊎ (r ≡ w)
    go (yes h) = inl h
    go (no h) =
        let q : rank s.order r ≡ rank s.order w = omega (arith, ltb-false (rank s.order w) (rank s.order r) e) in
        inr (sym (rank-at s.order r pr) ∙ ap (λ j. get_or s.order j 0) q ∙ rank-at s.order w pw)

not-before : (s : Schedule) (w r : ℕ) → (rank s.order r < rank s.order w) ⊎ (r ≡ w) → before s w r ≡ false
not-before s w r (inl h) = le-ltb (rank s.order w) (rank s.order r) (omega arith)
not-before s w r (inr e) = rw e (le-ltb (rank s.order w) (rank s.order w) (omega arith))

put-for : (kind : Kind) (s : Schedule) (w r : ℕ) → rank s.order w < length s.order →
    rank s.order r < length s.order → before s w r ≡ writer_first kind → PutFor kind s w r
put-for Now s w r pw pr e = ltb-true _ _ e
put-for Last s w r pw pr e = reader-first s w r pw pr e
put-for When s w r pw pr e = ltb-true _ _ e
put-for LastWhen s w r pw pr e = reader-first s w r pw pr e
put-for Current s w r pw pr e = ltb-true _ _ e

pub for-put : (kind : Kind) (s : Schedule) (w r : ℕ) → PutFor kind s w r → before s w r ≡ writer_first kind
for-put Now s w r h = lt-ltb _ _ h
for-put Last s w r h = not-before s w r h
for-put When s w r h = lt-ltb _ _ h
for-put LastWhen s w r h = not-before s w r h
for-put Current s w r h = lt-ltb _ _ h

-- What a search through the n numbers from i on has found: the least that passes, or nothing as none passes.
abbrev pub IsFirst : ℕ → ℕ → (ℕ → Bool) → Option ℕ → Type 0
IsFirst i n test (Some j) = (i ≤ j) × (j < i + n) × (test j ≡ true) × ((m : ℕ) → i ≤ m → m < j → test m ≡ false)
IsFirst i n test None = (m : ℕ) → i ≤ m → m < i + n → test m ≡ false

pub from_first : (i n : ℕ) (test : ℕ → Bool) → IsFirst i n test (first_from i n test)
unfolding first_from
from_first i zero test = λ m low high. absurd (omega arith)
from_first i (suc n) test = go (test i) refl (first_from (suc i) n test) (from_first (suc i) n test)
  where
    wider : test i ≡ false → (j : ℕ) → ((m : ℕ) → suc i ≤ m → m < j → test m ≡ false) → (m : ℕ) → i ≤ m → m < j →
        test m ≡ false
    wider e j h m low high = split (dec_lt i m)
      where
        split : Dec (i < m) → test m ≡ false
        split (yes g) = h m g high
        split (no g) = let q : m ≡ i = omega arith in rw q e

    shift : test i ≡ false → (f : Option ℕ) → IsFirst (suc i) n test f → IsFirst i (suc n) test f
    shift e (Some j) h = (omega arith, omega arith, h.2, wider e j h.3)
    shift e None h = wider e (i + suc n) (λ m low high. h m low (omega arith))

    go : (b : Bool) → test i ≡ b → (f : Option ℕ) → IsFirst (suc i) n test f →
        IsFirst i (suc n) test (elim b [ true ↦ Some i | false ↦ f ])
    go true e f h = (omega arith, omega arith, e, λ m low high. absurd (omega arith))
    go false e f h = shift e f h

-- There is one first.
pub first-is : (i n : ℕ) (test : ℕ → Bool) (f : Option ℕ) → IsFirst i n test f → f ≡ first_from i n test
first-is i n test f h = same f (first_from i n test) h (from_first i n test)
  where
    least : (j k : ℕ) → IsFirst i n test (Some j) → IsFirst i n test (Some k) → Dec (j < k) → Dec (k < j) → j ≡ k
    least j k a b (yes l) r = absurd (true≢false (sym a.2 ∙ b.3 j a.0 l))
    least j k a b (no g) (yes l) = absurd (true≢false (sym b.2 ∙ a.3 k b.0 l))
    least j k a b (no g) (no u) = omega arith

    same : (f g : Option ℕ) → IsFirst i n test f → IsFirst i n test g → f ≡ g
    same (Some j) (Some k) a b = ap Some (least j k a b (dec_lt j k) (dec_lt k j))
    same (Some j) None a b = absurd (true≢false (sym a.2 ∙ b j a.0 a.1))
    same None (Some k) a b = absurd (true≢false (sym b.2 ∙ a k b.0 b.1))
    same None None a b = refl

module _ (n : ℕ) (test : ℕ → Bool) where
  pub first-below : (f : Option ℕ) → IsFirst 0 n test f → first_below n test ≡ f
  unfolding first_below
  first-below f h = sym (first-is 0 n test f h)

  pub is-first : (f : Option ℕ) → first_below n test ≡ f → IsFirst 0 n test f
  unfolding first_below
  is-first f e = rw e at (from_first 0 n test)

  -- The search finds something if and only if something below n passes.
  pub is_found-true : is_found (first_below n test) ≡ true → (j : ℕ) × (j < n) × (test j ≡ true)
  is_found-true e = go (first_below n test) refl e
    where
      go : (f : Option ℕ) → first_below n test ≡ f → is_found f ≡ true → (j : ℕ) × (j < n) × (test j ≡ true)
      go (Some j) q t = let h = is-first (Some j) q in (j, omega arith, h.2)
      go None q t = absurd (false≢true t)

  pub true-is_found : (j : ℕ) → j < n → test j ≡ true → is_found (first_below n test) ≡ true
  true-is_found j lt e = go (first_below n test) refl
    where
      go : (f : Option ℕ) → first_below n test ≡ f → is_found f ≡ true
      go (Some k) q = refl
      go None q = absurd (false≢true (sym (is-first None q j (omega arith) (omega arith)) ∙ e))

-- Every number below n passes.
pub all_true : (n : ℕ) (test : ℕ → Bool) → all_below n test ≡ true → (i : ℕ) → i < n → test i ≡ true
unfolding all_below
all_true zero test e i lt = absurd (omega arith)
all_true (suc n) test e i lt = go (dec_lt i n) (λ h. all_true n test f.0 i h)
  where
    f : (all_below n test ≡ true) × (test n ≡ true)
    f = (and-eq-true_iff (all_below n test) (test n)).0 e

    go : Dec (i < n) → (i < n → test i ≡ true) → test i ≡ true
    go (yes h) ih = ih h
    go (no h) ih = let q : i ≡ n = omega arith in rw q f.1

pub true-all : (n : ℕ) (test : ℕ → Bool) → ((i : ℕ) → i < n → test i ≡ true) → all_below n test ≡ true
unfolding all_below
true-all zero test h = refl
true-all (suc n) test h =
    (and-eq-true_iff (all_below n test) (test n)).1 (true-all n test (λ i lt. h i (omega arith)), h n (omega arith))

-- As a loop decides it: none yet, one more, one that fails.
pub all_none : (test : ℕ → Bool) → all_below 0 test ≡ true
unfolding all_below
all_none test = refl

pub all_one : (n : ℕ) (test : ℕ → Bool) → all_below (n + 1) test ≡ (all_below n test && test n)
unfolding all_below
all_one n test = rw (add-one n)

pub all_more : (n : ℕ) (test : ℕ → Bool) → all_below n test ≡ true → test n ≡ true → all_below (n + 1) test ≡ true
all_more n test h k = all_one n test ∙ rw (h, k)

pub all-fails : (n : ℕ) (test : ℕ → Bool) (i : ℕ) → i < n → test i ≡ false → all_below n test ≡ false
all-fails n test i lt h = go (all_below n test) refl
  where
    go : (t : Bool) → all_below n test ≡ t → t ≡ false
    go true e = absurd (true≢false (sym (all_true n test e i lt) ∙ h))
    go false e = refl

-- The search for an index settles the one that meets the line.
pub settle-line : (kind : Kind) (w r : Rate) (n i : ℕ) → settle kind w r n ≡ Some i → (i < n) × Line kind w r i
unfolding settle
settle-line kind w r n i e =
    let h = is-first n (line kind w r) (Some i) e in (omega arith, line-true kind w r i h.2)

-- A read is met.
abbrev pub InRange : ℕ → Index → Type 0
InRange n (Fixed i) = i < n
InRange n Open = Unit {0}

pub holds-line : (kind : Kind) (w r : Rate) (n : ℕ) (index : Index) → InRange n index → line_holds kind w r n index ≡ true →
    (settled_index kind w r n index < n) × Line kind w r (settled_index kind w r n index)
holds-line kind w r n (Fixed i) lt e = (lt, line-true kind w r i e)
holds-line kind w r n Open u e = go (settle kind w r n) refl e
  where
    go : (f : Option ℕ) → settle kind w r n ≡ f → is_found f ≡ true → (found_or 0 f < n) × Line kind w r (found_or 0 f)
    go (Some i) q t = settle-line kind w r n i q
    go None q t = absurd (false≢true t)

-- What the line of a read says, it says of the index that the search settles.
pub line-settled : (kind : Kind) (w r : Rate) (n : ℕ) (index : Index) → LineHolds kind w r n index →
    (settled_index kind w r n index < n) × Line kind w r (settled_index kind w r n index)
unfolding settle
line-settled kind w r n (Fixed i) h = h
line-settled kind w r n Open h =
    holds-line kind w r n Open tt (true-is_found n (line kind w r) h.0 h.1 (true-line kind w r h.0 h.2))

pub settled-line : (kind : Kind) (w r : Rate) (n : ℕ) (index : Index) → settled_index kind w r n index < n →
    Line kind w r (settled_index kind w r n index) → LineHolds kind w r n index
settled-line kind w r n (Fixed i) lt l = (lt, l)
settled-line kind w r n Open lt l = (settled_index kind w r n Open, lt, l)

-- No other index is settled.
pub settles-once : (kind : Kind) (w r : Rate) (n : ℕ) (index : Index) → (index ≡ Open → Indexed kind) →
    PeriodRule kind w.period r.period n → LineHolds kind w r n index → (i : ℕ) →
    SettlesAt kind w r n index i ↔ (i ≡ settled_index kind w r n index)
settles-once kind w r n (Fixed j) named rule h i = (λ e. e, λ e. e)
settles-once kind w r n Open named rule h i =
    let q = line-settled kind w r n Open h in (
      λ g. index-once kind w r n i (settled_index kind w r n Open) (named refl) g.0 q.0 rule g.1 q.1,
      λ e. (rw e q.0, rw e q.1),
    )

pub line-holds : (kind : Kind) (w r : Rate) (n : ℕ) (index : Index) → settled_index kind w r n index < n →
    Line kind w r (settled_index kind w r n index) → line_holds kind w r n index ≡ true
unfolding settle
line-holds kind w r n (Fixed i) lt l = true-line kind w r i l
line-holds kind w r n Open lt l = true-is_found n (line kind w r) _ lt (true-line kind w r _ l)

module _ (p : Program) (s : Schedule) (r : ℕ) (ρ : Read) where
  -- The index of a read that is met is below its factor, and its line holds there.
  pub met-settled : Met p s r ρ →
      (settled p s r ρ < ρ.operands.factor) ×
      Line ρ.kind (rate_of p s ρ.operands.signal) (rate_of p s r) (settled p s r ρ)
  unfolding settled
  met-settled m =
      line-settled ρ.kind (rate_of p s ρ.operands.signal) (rate_of p s r) ρ.operands.factor ρ.operands.index
      m.line

  pub met-true : ρ.operands.signal < count p → rank s.order ρ.operands.signal < length s.order →
      rank s.order r < length s.order → InRange ρ.operands.factor ρ.operands.index →
      PeriodRule ρ.kind (signal_at p ρ.operands.signal).period (signal_at p r).period ρ.operands.factor →
      is_met p s r ρ ≡ true → Met p s r ρ
  unfolding settled is_met
  met-true lt pw pr range rule e =
      let w = ρ.operands.signal in
      let f = (and-eq-true_iff _ _).0 e in
      let h = holds-line ρ.kind (rate_of p s w) (rate_of p s r) ρ.operands.factor ρ.operands.index range f.0 in
      record {
        declared = lt;
        periods = rule;
        line =
            settled-line ρ.kind (rate_of p s w) (rate_of p s r) ρ.operands.factor ρ.operands.index h.0 h.1;
        order = λ j k same.
            put-for ρ.kind s w r pw pr
            (ordered-true ρ.kind (rate_of p s w) (rate_of p s r) ρ.operands.factor (before s w r) (omega (arith, h.0)) rule
            f.1 j k same);
      }

  pub true-met : phase_of s ρ.operands.signal < (signal_at p ρ.operands.signal).period →
      phase_of s r < (signal_at p r).period → Met p s r ρ → is_met p s r ρ ≡ true
  unfolding settled is_met
  true-met vw vr m =
      let w = ρ.operands.signal in
      let q = met-settled m in
      (and-eq-true_iff _ _).1 (
        line-holds ρ.kind (rate_of p s w) (rate_of p s r) ρ.operands.factor ρ.operands.index q.0 q.1,
        true-ordered ρ.kind (rate_of p s w) (rate_of p s r) (before s w r) vw vr
            (λ j k same. for-put ρ.kind s w r (m.order j k same)),
      )
