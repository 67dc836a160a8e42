-- `trial_script::mark_inputs` meets its contract. Assumes nothing.
use Prim.Native.Nat.{ℕ, ◌+◌, ◌<◌}
use mathlib.Core.List.{List}
use mathlib.Core.Path.{◌≡◌, sym, ap₂, subst}
use native.Mathlib.Omega.{arith}
use lib.ListN.{set}
use Rattle.image_valid.proofs.Parts.{head, formed}
use Rattle.model.specs.Rules.Machine.{count_of}
use Rattle.trial_script.proofs.Marks.{Marks, marks-none, marks-more, marks-all}
use Rattle.trial_script.proofs.mark_inputs.Goals as goal

pub bounds-image-1 : goal.bounds-image-1
bounds-image-1 c = omega (arith, (head _ (formed _ c.requires).good).four)

pub loop-x-preserved : goal.loop-x-preserved
loop-x-preserved c =
    let l = c in
    let image = l.args.image.now in
    let below : l.loop-x.x < 256 = omega arith in (
      subst (λ (t : List ℕ). Marks image (l.loop-x.x + 1) t)
          (sym (ap₂ (set l.loop-x.inputs) c.from_byte.ensures.0 c.mark_of-mark.ensures))
          (marks-more l.loop-x.invariant.0 below),
      omega arith,
    )

pub returns : goal.returns
returns c y =
    let l = c in
    let image = l.args.image.now in
    let all : l.loop-x.x ≡ count_of image = omega arith in
    marks-all (subst (λ (x : ℕ). Marks image x l.loop-x.inputs) all l.loop-x.invariant.0) y

pub loop-x-init : goal.loop-x-init
loop-x-init c = (marks-none _, omega arith)
