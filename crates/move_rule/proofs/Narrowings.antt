-- Ranges narrowed one after another, and what one read leaves. Assumes nothing.
use Prim.Native.Nat.{ℕ, suc, ◌+◌, ◌*◌, ◌-◌, ◌≤◌, ◌<◌}
use mathlib.Core.Bool.{Bool, true, false, cond, not, ◌||◌, false≢true, and-eq-true_iff}
use mathlib.Core.List.{List}
use mathlib.Core.Logic.{◌↔◌}
use mathlib.Core.Path.{◌≡◌, refl, sym, ap, subst, ◌∙◌}
use native.Mathlib.Decide.{dec_lt}
use native.Mathlib.Nat.{mul-le-mul_right}
use native.Mathlib.Omega.{arith}
use borrow.Author.Tests.{eqb-true, eqb-false, le-leb, le-ltb}
use lib.Dec.{eqb, ltb}
use lib.ListN.{get_or, set, length-set}
use lib.Seq.{get_or-set_same, get_or-set_other}
use Rattle.model.specs.Rules.Program.{Program, Read, count, signal_at}
use Rattle.model.specs.Rules.Reads.{Rate, rate_of, run_cycle, rank, before, settled, share, ordered, writer_first}
use Rattle.model.specs.Rules.Schedule.{Schedule, phase_of}
use Rattle.model.specs.Says.Feasible.{Between, PeriodRule, Met}
use Rattle.model.specs.declared.Kind.{Kind}
use Rattle.model.specs.declared.Kind.TheVariants.{Now, Last, When, LastWhen, Current}
use Rattle.model.proofs.Pairs.Decide.{met-settled, true-line, true-between, true-ordered, for-put}
use Rattle.read_rule.specs.Reads.{met_at, MetIn}
use Rattle.read_rule.specs.declared.Phases.{Phases}
use Rattle.move_rule.specs.Ranges.{phase_after, rate_after, ReadStays}
use Rattle.move_rule.specs.Narrowing.{IsLeft, Long, NarrowedAt, Narrowed, MetTables}

module _ {p : Program} {lows highs : List ℕ} where
  -- Nothing is taken away where all phases hold.
  pub unnarrowed : {C : ℕ → ℕ → Type 0} → Long lows highs →
      ((x f : ℕ) → x < count p → f < (signal_at p x).period → C x f) → Narrowed p C lows highs lows highs
  unnarrowed long h = record { long = long; inside = λ x f w. w; left = λ x f lt below. (λ w. (w, h x f lt below), λ w. w.0) }

  pub narrowed-both : {C D E : ℕ → ℕ → Type 0} {l₁ h₁ l₂ h₂ : List ℕ} → Narrowed p C lows highs l₁ h₁ → Narrowed p D l₁ h₁ l₂ h₂ →
      ((x f : ℕ) → x < count p → f < (signal_at p x).period → (C x f × D x f) ↔ E x f) → Narrowed p E lows highs l₂ h₂
  narrowed-both a b e =
      record {
        long = b.long;
        inside = λ x f w. a.inside x f (b.inside x f w);
        left = λ x f lt below.
            let u = a.left x f lt below in
            let v = b.left x f lt below in
            let w = e x f lt below in (
              λ t. let y = v.0 t in let z = u.0 y.0 in (z.0, w.0 (z.1, y.1)),
              λ t. let y = w.1 t.1 in v.1 (u.1 (t.0, y.0), y.1),
            );
      }

  pub narrowed-as : {C D : ℕ → ℕ → Type 0} {l₁ h₁ : List ℕ} → Narrowed p C lows highs l₁ h₁ →
      ((x f : ℕ) → x < count p → f < (signal_at p x).period → C x f ↔ D x f) → Narrowed p D lows highs l₁ h₁
  narrowed-as a e =
      record {
        long = a.long;
        inside = a.inside;
        left = λ x f lt below.
            let u = a.left x f lt below in
            let w = e x f lt below in
            (λ t. let y = u.0 t in (y.0, w.0 y.1), λ t. u.1 (t.0, w.1 t.1));
      }

  -- One signal's range.
  pub narrowed_at : {x : ℕ} {o : Phases} {l₁ h₁ : List ℕ} → NarrowedAt x o lows highs l₁ h₁ →
      Narrowed p (λ y f. y ≡ x → Between o.low f o.high) lows highs l₁ h₁
  narrowed_at a = record { long = a.long; inside = λ x f w. ((a.left x f).0 w).0; left = λ y f lt below. a.left y f }

or-true : (t : Bool) → (t || true) ≡ true
or-true true = refl
or-true false = refl

-- A read of oneself that wants the reader first is met at its only index.
self-met : (kind : Kind) (a : Rate) (n i : ℕ) → a.phase < a.period → PeriodRule kind a.period a.period n → i < n →
    writer_first kind ≡ false → met_at kind a a i false ≡ true
unfolding ordered
self-met Now a n i below rule lt e = absurd (false≢true (sym e))
self-met Last a n i below rule lt e = (and-eq-true_iff _ _).1 (
  le-leb a.phase a.phase (omega arith),
  or-true (not (share a
      a)),
)
self-met When a n i below rule lt e = absurd (false≢true (sym e))
self-met LastWhen a n i below rule lt e =
    (and-eq-true_iff _ _).1 (
      true-between a.phase (i * a.period + a.phase) (a.phase + a.period) (go (dec_lt 1 n)),
      or-true (not (share a a)),
    )
  where
    go : Dec (1 < n) → Between a.phase (i * a.period + a.phase) (a.phase + a.period)
    go (yes h) = let g : 2 * a.period ≤ n * a.period = mul-le-mul_right a.period h in absurd (omega (arith, rule))
    go (no h) = let z : i ≡ 0 = omega arith in (omega (arith, ap (◌* a.period) z), omega (arith, ap (◌* a.period) z))
self-met Current a n i below rule lt e = absurd (false≢true (sym e))

-- One read in the equation of r, which is met before the move.
module _ (p : Program) (s : Schedule) (r : ℕ) (ρ : Read) (m : Met p s r ρ) where
  abbrev w : ℕ
  w = ρ.operands.signal

  abbrev i : ℕ
  i = settled p s r ρ

  after-below : (x f : ℕ) → f < (signal_at p x).period → phase_of s r < (signal_at p r).period →
      phase_after s x f r < (signal_at p r).period
  after-below x f lt below = go (eqb r x) refl
    where
      go : (b : Bool) → eqb r x ≡ b → cond b f (phase_of s r) < (signal_at p r).period
      go true e = rw (eqb-true r x e) lt
      go false e = below

  -- A read of oneself is met at every phase.
  pub self-stays : w ≡ r → phase_of s r < (signal_at p r).period → (x f : ℕ) → f < (signal_at p x).period → ReadStays p s x f r ρ
  self-stays e below x f lt =
      subst (λ y. met_at ρ.kind (rate_after p s x f y) (rate_after p s x f r) i (before s y r) ≡ true) (sym e)
      (ap (met_at ρ.kind (rate_after p s x f r) (rate_after p s x f r) i) not-before ∙
      self-met ρ.kind (rate_after p s x f r) ρ.operands.factor i (after-below x f lt below)
      (subst (λ y. PeriodRule ρ.kind (signal_at p y).period (signal_at p r).period ρ.operands.factor) e m.periods)
      (met-settled p s r ρ m).0 wants)
    where
      not-before : before s r r ≡ false
      not-before = le-ltb (rank s.order r) (rank s.order r) (omega arith)

      wants : writer_first ρ.kind ≡ false
      wants =
          sym (for-put ρ.kind s w r (m.order 0 0 (ap (λ y. run_cycle (rate_of p s y) 0) e))) ∙
          ap (λ y. before s y r) e ∙ not-before

  module _ (vw : phase_of s w < (signal_at p w).period) (vr : phase_of s r < (signal_at p r).period) where
    now-met : met_at ρ.kind (rate_of p s w) (rate_of p s r) i (before s w r) ≡ true
    now-met =
        (and-eq-true_iff _ _).1 (
          true-line ρ.kind (rate_of p s w) (rate_of p s r) i (met-settled p s r ρ m).1,
          true-ordered ρ.kind (rate_of p s w) (rate_of p s r) (before s w r) vw vr
              (λ j k same. for-put ρ.kind s w r (m.order j k same)),
        )

    -- A read of another signal stays at the phases of either range.
    pub other-stays : (o₁ o₂ : Phases) → MetIn false ρ.kind (rate_of p s w) (rate_of p s r) i (before s w r) o₁ →
        MetIn true ρ.kind (rate_of p s w) (rate_of p s r) i (before s w r) o₂ → ¬ (w ≡ r) → (y f : ℕ) →
        f < (signal_at p y).period → f < 256 →
        ((y ≡ w → Between o₁.low f o₁.high) × (y ≡ r → Between o₂.low f o₂.high)) ↔ ReadStays p s y f r ρ
    other-stays o₁ o₂ m₁ m₂ apart y f lt byte = go (eqb w y) refl (eqb r y) refl
      where
        pos : 0 < ρ.operands.factor
        pos = omega (arith, (met-settled p s r ρ m).0)

        go : (b : Bool) → eqb w y ≡ b → (c : Bool) → eqb r y ≡ c →
            ((y ≡ w → Between o₁.low f o₁.high) × (y ≡ r → Between o₂.low f o₂.high)) ↔
            (met_at ρ.kind (record { period = (signal_at p w).period; phase = cond b f (phase_of s w) })
            (record { period = (signal_at p r).period; phase = cond c f (phase_of s r) }) i (before s w r) ≡ true)
        go true e true g = absurd (apart (eqb-true w y e ∙ sym (eqb-true r y g)))
        go true e false g =
            let q = eqb-true w y e in
            let d = eqb-false r y g in
            let k = m₁ ρ.operands.factor f pos m.periods vw vr (rw q lt) byte in
            (λ h. k.0 (h.0 (sym q)), λ t. (λ z. k.1 t, λ z. absurd (d (sym z))))
        go false e true g =
            let q = eqb-true r y g in
            let d = eqb-false w y e in
            let k = m₂ ρ.operands.factor f pos m.periods vw vr (rw q lt) byte in
            (λ h. k.0 (h.1 (sym q)), λ t. (λ z. absurd (d (sym z)), λ z. k.1 t))
        go false e false g =
            let d = eqb-false w y e in
            let d' = eqb-false r y g in
            (λ h. now-met, λ t. (λ z. absurd (d (sym z)), λ z. absurd (d' (sym z))))

-- One range in the tables.
pub narrowed-set : (lows highs : List ℕ) (x g l : ℕ) (o : Phases) → x < 64 → Long lows highs →
    ((f : ℕ) → (g ≤ f) ↔ ((get_or lows x 0 ≤ f) × (o.low ≤ f))) →
    ((f : ℕ) → (f < l) ↔ ((f < get_or highs x 0) × (f < o.high))) →
    NarrowedAt x o lows highs (set lows x g) (set highs x l)
narrowed-set lows highs x g l o lt long low high =
    record {
      long = (length-set lows x g ∙ long.0, length-set highs x l ∙ long.1);
      left = λ y f. go y f (eqb y x) refl;
    }
  where
    go : (y f : ℕ) (b : Bool) → eqb y x ≡ b →
        IsLeft (set lows x g) (set highs x l) y f ↔ (IsLeft lows highs y f × (y ≡ x → Between o.low f o.high))
    go y f true e =
        let q = eqb-true y x e in
        let at_low : get_or (set lows x g) y 0 ≡ g = ap (λ k. get_or (set lows x g) k 0) q ∙ get_or-set_same lows x g 0 (omega (
          arith,
          long.0,
        )) in
        let at_high : get_or (set highs x l) y 0 ≡ l = ap (λ k. get_or (set highs x l) k 0) q ∙ get_or-set_same highs x l 0 (omega
        (arith, long.1)) in
        let old-low = ap (λ k. get_or lows k 0) q in
        let old-high = ap (λ k. get_or highs k 0) q in (
          λ w.
              let u = (low f).0 (omega (arith, at_low, w.0)) in
              let v = (high f).0 (omega (arith, at_high, w.1)) in
              ((omega (arith, old-low, u.0), omega (arith, old-high, v.0)), λ z. (u.1, v.1)),
          λ w.
              let z = w.1 q in
              let u = (low f).1 (omega (arith, old-low, w.0.0), z.0) in
              let v = (high f).1 (omega (arith, old-high, w.0.1), z.1) in
              (omega (arith, at_low, u), omega (arith, at_high, v)),
        )
    go y f false e =
        let d = eqb-false y x e in
        let a = get_or-set_other lows x y g 0 d in
        let b = get_or-set_other highs x y l 0 d in (
          λ w. ((omega (arith, a, w.0), omega (arith, b, w.1)), λ z. absurd (d z)),
          λ w. (omega (arith, a, w.0.0), omega (arith, b, w.0.1)),
        )

module _ {periods phases ranks : List ℕ} {p : Program} {s : Schedule} (t : MetTables periods phases ranks p s) where
  pub before-is : (w r : ℕ) → w < count p → r < count p → ltb (get_or ranks w 0) (get_or ranks r 0) ≡ before s w r
  before-is w r lw lr = λ i. ltb (t.slots-are.ranks-are w lw i) (t.slots-are.ranks-are r lr i)

-- One condition after another.
module _ {p : Program} {lows highs : List ℕ} (C : ℕ → ℕ → ℕ → Type 0) where
  pub narrowed_none : Long lows highs → Narrowed p (λ x f. (j : ℕ) → j < 0 → C j x f) lows highs lows highs
  narrowed_none long = unnarrowed long (λ x f lt below j l. absurd (omega arith))

  pub narrowed-next : {l₁ h₁ l₂ h₂ : List ℕ} (n n' : ℕ) → n' ≡ suc n →
      Narrowed p (λ x f. (j : ℕ) → j < n → C j x f) lows highs l₁ h₁ → Narrowed p (C n) l₁ h₁ l₂ h₂ →
      Narrowed p (λ x f. (j : ℕ) → j < n' → C j x f) lows highs l₂ h₂
  narrowed-next n n' e a b =
      narrowed-both a b (λ x f lt below. (
        λ h j l. go x f h j l (eqb j n) refl,
        λ h. (λ j l. h j (omega arith), h n (omega arith)),
      ))
    where
      go : (x f : ℕ) → ((j : ℕ) → j < n → C j x f) × C n x f → (j : ℕ) → j < n' → (t : Bool) → eqb j n ≡ t → C j x f
      go x f h j l true q = subst (λ k. C k x f) (sym (eqb-true j n q)) h.1
      go x f h j l false q = let d = eqb-false j n q in h.0 j (omega arith)
