-- `image_valid::codes_ok` meets its contract. Assumes nothing.
use mathlib.Core.Path.{◌≡◌, refl, sym, ap, subst, ◌∙◌}
use mathlib.Core.Bool.{Bool, false}
use mathlib.Core.List.{List}
use mathlib.Core.Logic.{inr}
use Prim.Native.Nat.{ℕ, zero, suc, ◌+◌, ◌/◌, ◌≤◌, ◌<◌}
use native.Mathlib.Omega.{arith}
use borrow.Author.Tests.{eqb-true, eqb-false}
use lib.Dec.{eqb}
use lib.ListN.{length}
use Rattle.model.specs.Rules.Machine.{count_of, code_offset, codes_ok}
use Rattle.model.specs.Rules.Search.{all_below}
use Rattle.model.proofs.Basics.Tests.{by}
use Rattle.model.proofs.Pairs.Decide.{all_none}
use Rattle.image_valid_code.specs.Shape.{Shapes}
use Rattle.image_valid.specs.Walk.{WithTables, CursorOk, good, PassedFrom}
use Rattle.image_valid.specs.declared.Cursor.{Cursor}
use Rattle.image_valid.proofs.Parts.{head}
use Rattle.image_valid.proofs.Walking.{begun, stuck, all-good, offset-end}
use Rattle.image_valid.proofs.codes_ok.Goals as goal
use Rattle.image_valid.proofs.codes_ok.Goals.{After-advance_to-first, After-advance_to-second, After-code_offset-middle, At-loop-first, Start}

-- a check that starts with code x
starts : (image : List ℕ) (x at : ℕ) → at ≡ code_offset image x → PassedFrom image x (record { at = at; height = 0; own = x })
starts image x at e = record { passed = λ y a b. absurd (omega arith); tells = inr (begun image x at e) }

starts-within : (image : List ℕ) (x at : ℕ) → x < count_of image → CursorOk image (record { at = at; height = 0; own = x })
starts-within image x at l = record { most = omega arith; named = omega arith; inside = λ _. l }

some : (n : ℕ) → (n ≡ 0 → ⊥) → 0 < n
some zero h = absurd (h refl)
some (suc n) h = omega arith

module _ (o : After-code_offset-middle) where
  abbrev start : Start
  start = (goal.at.After-code_offset-middle o).Start

  abbrev image : List ℕ
  image = start.args.image.now

  abbrev n : ℕ
  n = start.args.n

  abbrev half : ℕ
  half = n / 2

  abbrev middle : ℕ
  middle = o.code_offset-middle.result

  signals : 0 < n
  signals = some n o.if-n-eq0.false

  halved : half < count_of image
  halved = omega (arith, signals, start.requires.1)

  four : 4 ≤ length image
  four = (head image start.requires.0).four

  starts-at : o.code_offset-start.result ≡ code_offset image 0
  starts-at = o.code_offset-start.ensures

  middle-at : middle ≡ code_offset image half
  middle-at = o.code_offset-middle.ensures ∙ ap (code_offset image) o.from_byte.ensures.0

  checks : WithTables image n o.shapes-shapes.result
      o.ceilings-ceilings.result
  checks = record {
    head = start.requires.0;
    count = start.requires.1;
    shaped = subst (λ (b : Bool). Shapes b o.shapes-shapes.result) start.requires.2
        o.shapes-shapes.ensures;
    topped = o.ceilings-ceilings.ensures;
  }

  -- a check that has come to the image's end short of the last code
  short-of : (s : ℕ) (c : Cursor) → PassedFrom image s c → c.own < count_of image → length image ≤ c.at + 1 →
      codes_ok image ≡ false
  short-of s c st l e =
      stuck image c st (count_of image) (omega arith) l
      (omega (arith, e, offset-end image (count_of image) (omega arith)))

pub returns-then-n-eq0 : goal.returns-then-n-eq0
unfolding codes_ok
returns-then-n-eq0 c =
    let s = c in
    let image = s.args.image.now in
    sym (ap (λ (k : ℕ). all_below k (good image)) (sym s.requires.1 ∙ c.if-n-eq0.true) ∙ all_none (good image))

pub returns-then-end-middle : goal.returns-then-end-middle
returns-then-end-middle c =
    let o = (goal.at.returns-then-end-middle c).After-code_offset-middle in
    sym (short-of o (half o) _ (starts (image o) (half o) (middle o) (middle-at o)) (halved o)
    (omega (arith, four o, c.if-end-middle.true)))

pub loop-first-init : goal.loop-first-init
loop-first-init c =
    let o = (goal.at.loop-first-init c).After-code_offset-middle in (
      starts (image o) 0 _ (starts-at o),
      starts (image o) (half o) _ (middle-at o),
      starts-within (image o) 0 _ (omega (arith, halved o)),
      starts-within (image o) (half o) _ (halved o),
    )

abbrev offsets : At-loop-first → After-code_offset-middle
offsets l = (goal.at.At-loop-first l).After-code_offset-middle

pub advance-first-requires : goal.advance-first-requires
advance-first-requires c =
    let l = (goal.at.advance-first-requires c).At-loop-first in
    let o = (goal.at.advance-first-requires c).After-code_offset-middle in
    (checks o, l.loop-first.invariant.2, omega (arith, four o, l.if-end-middle.false, c.loop-first-test.true))

pub advance-second-requires : goal.advance-second-requires
advance-second-requires c =
    let t = c in
    let l = (goal.at.advance-second-requires c).At-loop-first in
    let o = (goal.at.advance-second-requires c).After-code_offset-middle in
    (checks o, l.loop-first.invariant.3, omega (arith, four o, t.if-second-end.true))

pub loop-first-smaller : goal.loop-first-smaller
loop-first-smaller c =
    let s = c in
    omega (arith, s.advance-first.ensures.1, s.loop-first-test.true)

pub loop-first-preserved : goal.loop-first-preserved
loop-first-preserved c =
    let s = c in
    let l = c in
    let first = s.advance-first.ensures.0 in
    let second = c.advance-second.ensures.0 in
    (first.stands 0 l.loop-first.invariant.0, second.stands _ l.loop-first.invariant.1, first.within, second.within)

pub advance_to-first-requires : goal.advance_to-first-requires
advance_to-first-requires c =
    let l = (goal.at.advance_to-first-requires c).At-loop-first in
    let o = (goal.at.advance_to-first-requires c).After-code_offset-middle in
    (checks o, l.loop-first.invariant.2, omega (arith, four o, l.if-end-middle.false))

pub advance_to-second-requires : goal.advance_to-second-requires
advance_to-second-requires c =
    let l = (goal.at.advance_to-second-requires c).At-loop-first in
    let o = (goal.at.advance_to-second-requires c).After-code_offset-middle in
    (checks o, l.loop-first.invariant.3, omega (arith, four o))

-- the two checks at their ends
module _ (k : After-advance_to-second) where
  abbrev w : After-advance_to-first
  w = (goal.at.After-advance_to-second k).After-advance_to-first

  abbrev l : At-loop-first
  l = (goal.at.After-advance_to-second k).At-loop-first

  first-stands : PassedFrom (image (goal.at.At-loop-first l).After-code_offset-middle) 0 w.advance_to-first.result
  first-stands = w.advance_to-first.ensures.0.stands 0 l.loop-first.invariant.0

  second-stands : PassedFrom (image (goal.at.At-loop-first l).After-code_offset-middle) (half (goal.at.At-loop-first l).After-code_offset-middle) k.advance_to-second.result
  second-stands = k.advance_to-second.ensures.0.stands _ l.loop-first.invariant.1

pub returns-then-first-half : goal.returns-then-first-half
returns-then-first-half c =
    let k = (goal.at.returns-then-first-half c).After-advance_to-second in
    let o = (goal.at.returns-then-first-half c).After-code_offset-middle in
    sym (stuck (image o) (w k).advance_to-first.result (first-stands k) (half o) (omega (arith, halved o)) c.if-first-half.true
    (omega (arith, middle-at o, (w k).advance_to-first.ensures.1)))

pub returns : goal.returns
returns c =
    let k = (goal.at.returns c).After-advance_to-second in
    let o = (goal.at.returns c).After-code_offset-middle in
    let own = k.advance_to-second.result.own in
    by (eqb own (n o))
    (λ t. rw t (sym (all-good (image o) (half o) (first-stands k) (second-stands k) c.if-first-half.false
    (eqb-true own (n o) t ∙ (start o).requires.1))))
    (λ f. rw f (sym (short-of o (half o) k.advance_to-second.result (second-stands k)
    (omega (arith, eqb-false own (n o) f, (start o).requires.1, k.advance_to-second.ensures.0.within.named))
    (omega (arith, four o, k.advance_to-second.ensures.1)))))

pub overflow_sub-end : goal.overflow_sub-end
overflow_sub-end c = omega (arith, four c)
