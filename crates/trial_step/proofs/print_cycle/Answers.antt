-- `trial_step::print_cycle` meets its contract. Assumes nothing.
use Rattle.decimal.proofs.Puts.{put_is}
use Rattle.machine.specs.Runnable.{Runnable}
use Rattle.machine.proofs.Runnable.{stays-runnable}
use Rattle.model.specs.Rules.Decimal.{line_of}
use Rattle.model.specs.Rules.Machine.{count_of}
use Rattle.image_valid.proofs.Parts.{head, formed}
use lib.ListN.{take, drop}
use lib.IntN.{ℤ}
use Prim.Native.Nat.{ℕ, ◌+◌, ◌-◌}
use mathlib.Core.List.{List}
use mathlib.Core.Path.{◌≡◌, sym, ap, subst}
use native.Mathlib.Omega.{arith}
use Rattle.trial_step.proofs.print_cycle.Goals as goal

pub bounds-image-1 : goal.bounds-image-1
bounds-image-1 c =
    omega (arith, (head _ (formed _ c.requires.0.formed).good).four)

pub put_line-requires : goal.put_line-requires
put_line-requires c = (
  omega (
    arith,
    c.put_line-arg-2-1.given.1,
    c.from_byte-n.ensures.0,
    (head _
        (formed _ c.requires.0.formed).good).signals,
  ),
  c.requires.1,
)

pub returns : goal.returns
returns c = let w = c in
    let r = c in
    let state = r.run_cycle.new.state in
    let count : w.from_byte-n.result + 1 - 1 ≡ count_of c.args.image.now = omega (arith, w.from_byte-n.ensures.0) in
    record {
      state-is = r.run_cycle.ensures.left;
      line-is =
          put_is (ap (λ (k : ℕ). line_of c.args.number (take k (drop 1 state))) count) c.put_line.ensures;
      runnable =
          subst (λ (l : List ℤ). Runnable c.args.image.now l c.args.samples.now) (sym r.run_cycle.ensures.left)
          (stays-runnable c.requires.0);
    }
