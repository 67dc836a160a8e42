-- `move_rule::narrow_by_reads` meets its contract. Assumes nothing.
use Prim.Native.Nat.{ℕ, ◌-◌, ◌≤◌, ◌<◌}
use mathlib.Core.Path.{◌≡◌}
use native.Mathlib.Omega.{arith}
use Rattle.model.specs.Rules.Program.{Program, count, signal_at, body_reads}
use Rattle.model.specs.Rules.Schedule.{Schedule}
use Rattle.model.specs.Says.Feasible.{All}
use Rattle.move_rule.specs.Ranges.{ReadStays}
use Rattle.move_rule.specs.Narrowing.{Long, Narrowed, Claim}
use Rattle.move_rule.proofs.Narrowings.{narrowed_none, narrowed-next, narrowed-as}
use Rattle.move_rule.proofs.narrow_by_reads.Invariants.{SignalStays}
use Rattle.move_rule.proofs.narrow_by_reads.Goals as goal

pub loop-reader-init : goal.loop-reader-init
loop-reader-init c =
    let a = c in
    (omega arith, a.requires.0, λ p s e n. narrowed_none (SignalStays p s) a.requires.0)

pub narrow_by_signal-requires : goal.narrow_by_signal-requires
narrow_by_signal-requires c =
    let b = c in
    let a = c in
    (b.loop-reader.invariant.1, (a.requires.1.0, omega (arith, b.loop-reader-test.true, a.requires.1.1)))

pub loop-reader-preserved : goal.loop-reader-preserved
loop-reader-preserved c =
    let b = c in
    let l = b.loop-reader in (
      omega (arith, b.loop-reader-test.true),
      c.narrow_by_signal.ensures.0,
      λ p s e n.
          narrowed-next (SignalStays p s) l.reader _ (omega arith) (l.invariant.2 p s e n)
          (c.narrow_by_signal.ensures.1 p s e (omega (arith, b.loop-reader-test.true, n))),
    )

pub returns : goal.returns
returns c =
    let l = c.loop-reader in (
      l.invariant.1,
      λ p s e m.
          let n : count p ≡ l.reader = omega (arith, m, l.invariant.0, c.loop-reader-test.false) in
          narrowed-as (l.invariant.2 p s e m)
          (λ x f lt below. (λ h r lr. h r (omega (arith, n)), λ h r lr. h r (omega (arith, n)))),
    )
