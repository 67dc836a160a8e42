-- `trial_step::store` meets its contract. Assumes nothing.
use Rattle.word.proofs.Locals.{kept}
use lib.Seq.{set_out}
use lib.ListN.{set}
use lib.IntN.{ℤ}
use Prim.Native.Nat.{ℕ}
use native.Mathlib.Omega.{arith}
use mathlib.Core.Path.{sym, ap₂}
use Rattle.trial_step.proofs.store.Goals as goal

pub returns-then-x-samples : goal.returns-then-x-samples
returns-then-x-samples c =
    ap₂ (λ (x : ℕ) (w : ℤ). set c.args.samples.now x w) c.from_byte-x.ensures.0
    (kept c.args.word c.ranges.word.sfits)

pub returns-else-x-samples : goal.returns-else-x-samples
returns-else-x-samples c =
    sym (set_out c.args.samples.now c.args.signal c.args.word
    (omega (arith, c.from_byte-x.ensures.0, c.if-x-samples.false)))
