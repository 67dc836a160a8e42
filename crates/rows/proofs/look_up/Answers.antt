-- `rows::look_up` meets its contract. Assumes nothing.
use mathlib.Core.Path.{◌≡◌, refl, sym, ap₂, subst, ◌∙◌}
use mathlib.Core.Bool.{Bool, true, false, cond, ◌&&◌, true≢false}
use mathlib.Core.List.{List}
use mathlib.Core.Logic.{◌⊎◌, ⊎_elim}
use Prim.Native.Nat.{ℕ, ◌+◌, ◌-◌, ◌*◌, ◌≤◌, ◌<◌}
use native.Mathlib.Nat.{eq-or-lt_of_le}
use native.Mathlib.Omega.{arith}
use borrow.Author.Count.{below_more}
use borrow.Author.Rules.{rules}
use lib.IntN.{ℤ}
use lib.ListN.{length}
use lib.Signed.{le_z, lt_z}
use mir.Facts.{to_z-of_z}
use mir.Syntax.{w32}
use mir.Val.{to_z, of_z, SFits}
use Rattle.model.specs.Rules.Word.{byte_at}
use Rattle.model.specs.Rules.Table.{contains, table_word, area_rows}
use Rattle.model.proofs.Basics.Order.{below-not, below_fails}
use Rattle.model.proofs.Basics.Tests.{by}
use Rattle.model.proofs.Rows.Area.{area-true}
use Rattle.word.proofs.Locals.{kept}
use Rattle.rows.proofs.Scan.{row, at_row, all-rows, hit, miss, later-high}
use Rattle.model.proofs.Rows.Sorted.{InOrder, first-high}
use Rattle.rows.proofs.look_up.Invariants.{Passed}
use Rattle.rows.proofs.look_up.Goals as goal
use Rattle.rows.proofs.look_up.Goals.{After-count_below-below, After-loop-i, At-loop-i, Start}

above : (a b : Bool) → b ≡ false → a && b ≡ false
above true b e = e
above false b e = refl

-- a row whose high is below the word does not contain it
past : (area : List ℕ) (w : ℤ) (i : ℕ) → ((k : ℕ) → k < i → le_z w (row area k).high ≡ false) → (k : ℕ) → k < i → contains
    (row area k) w ≡ false
unfolding contains
past area w i h k l = above (le_z (row area k).low w) (le_z w (row area k).high) (h k l)

found : (area : List ℕ) (w : ℤ) → SFits w32 w → (byte_at area 0 ≡ 0) ⊎ InOrder (area_rows area 0) → (i : ℕ) → i < byte_at area 0 →
    ((k : ℕ) → k < i → le_z w (row area k).high ≡ false) → le_z w (row area i).high ≡ true → table_word (area_rows area 0) w ≡ (row
    area i).result
found area w f o i l h e =
    hit area w i l (past area w i h)
    (⊎_elim (λ z. absurd (omega arith))
    (λ z. rw (← at_row area i l)
    (first-high (area_rows area 0) z w f i (rw (all-rows area) l) (λ k b. rw (at_row area k (omega arith)) (h k b))
    (rw (at_row area i l) e))) o)

more : (area : List ℕ) (w : ℤ) → SFits w32 w → InOrder (area_rows area 0) → (below i : ℕ) → i < byte_at area 0 →
    Passed area w below i → Passed area w (below + cond (lt_z (row area i).high w) 1 0) (i + 1)
more area w f o below i l p = by (lt_z (row area i).high w)
    (λ t. rw t (⊎_elim
    (λ (e : below ≡ i). record {
      few = omega arith;
      lower = below_more _ below p.lower (rw e (below-not (row area i).high w t));
      next = λ b. absurd (omega arith);
    })
    (λ (b : below < i). absurd (true≢false (
    sym (rw (at_row area i l) at
    (later-high (area_rows area 0) o w f below i p.few (rw (all-rows area) l)
    (rw (at_row area below (omega arith)) (p.next b)))) ∙
    below-not (row area i).high w t
    )))
    (eq-or-lt_of_le p.few)))
    (λ t. rw t (record {
      few = omega (arith, p.few);
      lower = λ k b. p.lower k (omega arith);
      next = λ b. rw none (⊎_elim
          (λ (e : below ≡ i). rw e (below_fails (row area i).high w t))
          (λ (c : below < i). p.next c)
          (eq-or-lt_of_le p.few));
    }))
  where
    none : below + 0 ≡ below
    none = omega arith

abbrev area : Start → List ℕ
area s = s.args.area.now

abbrev word : Start → ℤ
word s = s.args.w

ordered : (s : Start) → (byte_at (area s) 0 ≤ 32) × (0 + 1 + 12 * byte_at (area s) 0 ≤ length (area s)) ×
    ((byte_at (area s) 0 ≡ 0) ⊎ InOrder (area_rows (area s) 0))
ordered s = area-true (area s) 0 s.requires

pub bounds-area-0 : goal.bounds-area-0
bounds-area-0 c = omega (arith, (area-true c.args.area.now 0 c.requires).1)

pub loop-i-init : goal.loop-i-init
loop-i-init c = (omega arith, record { few = omega arith; lower = λ k l. absurd (omega arith); next = λ l. absurd (omega arith) })

pub word_at-high-requires : goal.word_at-high-requires
word_at-high-requires c =
    omega (arith, c.from_byte-count.ensures, c.loop-i-test.true, (ordered (goal.at.word_at-high-requires c).Start).1)

-- the invariant, of the word itself
so-far : (l : At-loop-i) → Passed l.args.area.now l.args.w l.loop-i.below l.loop-i.i
so-far l =
    subst (λ (z : ℤ). Passed l.args.area.now z l.loop-i.below l.loop-i.i) (to_z-of_z l.ranges.w) l.loop-i.invariant.1

-- the high of the turn's row is below the word, or not
counted : (c : After-count_below-below) →
    c.count_below-below.result ≡ cond (lt_z (row c.args.area.now c.loop-i.i).high c.args.w) 1 0
counted c =
    c.count_below-below.ensures ∙
    ap₂ (λ (u v : ℤ). cond (lt_z u v) 1 0) (kept c.word_at-high.result c.word_at-high.type_inv ∙ c.word_at-high.ensures)
    (to_z-of_z c.ranges.w)

one-most : (t : Bool) → cond t 1 0 ≤ 1
one-most true = omega arith
one-most false = omega arith

pub overflow_add-below : goal.overflow_add-below
overflow_add-below c =
    omega (
      arith,
      counted (goal.at.overflow_add-below c).After-count_below-below,
      one-most (lt_z (row c.args.area.now c.loop-i.i).high c.args.w),
      c.loop-i.invariant.1.few,
      c.loop-i-test.true,
    )

pub loop-i-preserved : goal.loop-i-preserved
loop-i-preserved c =
    let p = goal.at.loop-i-preserved c in
    let area = c.args.area.now in
    let t = c.loop-i-test.true in
    let inside : c.loop-i.i < byte_at area 0 = omega (arith, t, c.from_byte-count.ensures) in (
      omega (arith, t),
      subst (λ (z : ℤ). Passed area z (c.loop-i.below + c.count_below-below.result) (c.loop-i.i + 1)) (sym (to_z-of_z c.ranges.w))
          (subst (λ (d : ℕ). Passed area c.args.w (c.loop-i.below + d) (c.loop-i.i + 1)) (sym (counted p.After-count_below-below))
          (⊎_elim (λ z. absurd (omega (arith, z, inside)))
          (λ o. more area c.args.w c.ranges.w o c.loop-i.below c.loop-i.i inside (so-far p.At-loop-i))
          (ordered p.Start).2)),
    )

-- all highs are compared
passed : (e : After-loop-i) → Passed e.args.area.now e.args.w e.loop-i.below (byte_at e.args.area.now 0)
passed e =
    let whole : e.loop-i.i ≡ byte_at e.args.area.now 0 =
    omega (arith, e.loop-i.invariant.0, e.loop-i-test.false, e.from_byte-count.ensures) in
    subst (Passed e.args.area.now e.args.w e.loop-i.below) whole (so-far (goal.at.After-loop-i e).At-loop-i)

pub word_at-requires : goal.word_at-requires
word_at-requires c =
    omega (arith, c.from_byte-count.ensures, c.if-below-count.true, (ordered (goal.at.word_at-requires c).Start).1)

pub returns-then-below-count : goal.returns-then-below-count
returns-then-below-count c =
    let p = goal.at.returns-then-below-count c in
    let area = c.args.area.now in
    let all = passed p.After-loop-i in
    let inside : c.loop-i.below < byte_at area 0 = omega (arith, c.from_byte-count.ensures, c.if-below-count.true) in
    kept _ c.word_at.type_inv ∙ c.word_at.ensures ∙
    sym (found area c.args.w c.ranges.w (ordered p.Start).2 c.loop-i.below inside all.lower (all.next inside))

pub returns : goal.returns
returns c =
    sym (miss c.args.area.now c.args.w (λ k b. past c.args.area.now c.args.w c.loop-i.below
    (passed (goal.at.returns c).After-loop-i).lower k (omega (arith, b, c.from_byte-count.ensures, c.if-below-count.false))))
