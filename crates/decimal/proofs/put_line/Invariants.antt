-- `decimal::put_line` meets its contract. Assumes nothing.
use Prim.Native.Nat.{◌*◌}
use Rattle.model.specs.Rules.Decimal.{spaced}
use Rattle.decimal.specs.PutBytes.{PutBytes}
use lib.ListN.{length, take}
use Prim.Native.Nat.{◌+◌, ◌≤◌}
use Rattle.decimal.proofs.put_line.Given as goal

abbrev pub invariant-loop-w : goal.invariant-loop-w
invariant-loop-w l =
    PutBytes l.initial.out l.initial.at (spaced (take l.w-index l.words)) l.out l.at ×
    (l.w-index ≤ length l.words) × (l.at ≤ 10 + 12 * l.w-index)
