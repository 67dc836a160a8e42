-- `image_write::put_entry` meets its contract. Assumes nothing.
use Prim.Native.Nat.{ℕ, ◌+◌}
use mathlib.Core.List.{List, [], ◌∷◌}
use mathlib.Core.Path.{◌≡◌, refl, ap}
use native.Mathlib.Numerals.{add-one}
use native.Mathlib.Omega.{arith}
use lib.ListN.{length, set, length-set}
use Rattle.model.specs.Rules.Word.{two_bytes}
use Rattle.model.specs.Rules.Writing.{Wrote}
use Rattle.model.proofs.Basics.Left.{after, wrote-size}
use Rattle.image_write.proofs.put_entry.Goals as goal
use Rattle.image_write.proofs.put_entry.Goals.{After-slice_known-2-1, Start}

-- two bytes, one after the other
put_both : (l : List ℕ) (at a b : ℕ) → Wrote l at (a ∷ b ∷ []) (set (set l at a) (at + 1) b) (at + 2)
put_both l at a b = record { holds = ap (λ (k : ℕ). set (set l at a) k b) (add-one at); ends = refl }

-- after the label
two-long : (n : ℕ) → length (two_bytes n) ≡ 2
unfolding two_bytes
two-long n = refl

module _ (c : After-slice_known-2-1) where
  abbrev start : Start
  start = (goal.at.After-slice_known-2-1 c).Start

  labelled : Wrote start.args.out.now start.args.to (two_bytes start.args.label)
      c.put_offset-at.new.out c.put_offset-at.result
  labelled = rw c.from_entry-number.ensures.0 at c.put_offset-at.ensures

  here : c.put_offset-at.result ≡ start.args.to + 2
  here = omega (arith, labelled.ends, two-long start.args.label)

pub bounds-out-at : goal.bounds-out-at
bounds-out-at c = omega (arith, here c, wrote-size (labelled c), (start c).requires)

pub overflow_add-out : goal.overflow_add-out
overflow_add-out c = omega (arith, here c, (start c).requires, (start c).well_formed)

pub bounds-out-at-2 : goal.bounds-out-at-2
bounds-out-at-2 c = simp length-set (omega (arith, here c, wrote-size (labelled c), (start c).requires))

pub overflow_add-result : goal.overflow_add-result
overflow_add-result c = omega (arith, here c, (start c).requires, (start c).well_formed)

pub shape_of-out : goal.shape_of-out
shape_of-out c = simp length-set (wrote-size (labelled c))

pub returns : goal.returns
returns c = after (labelled c) (put_both _ _ _ _)
