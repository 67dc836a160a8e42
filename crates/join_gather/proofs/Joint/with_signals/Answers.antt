-- `join_gather::Joint::with_signals` meets its contract. Assumes nothing.
use mathlib.Core.Path.{refl}
use native.Mathlib.Omega.{arith}
use Rattle.join_gather.proofs.Tabled.{space-kept}
use Rattle.join_gather.proofs.Joint.with_signals.Goals as goal

pub returns-then-self-pair-le64 : goal.returns-then-self-pair-le64
returns-then-self-pair-le64 c =
    let s = c in
    let a = c.add_signals.ensures in
    record {
      space = space-kept s.args.self.now c.add_signals.new.self s.args.pair.now.tables s.args.pair.now.slots s.requires.0 a;
      bases = a.bases;
      added = λ few. a;
    }

pub returns-else-self-pair-le64 : goal.returns-else-self-pair-le64
returns-else-self-pair-le64 c =
    let s = c in
    record { space = s.requires.0; bases = refl; added = λ few. absurd (omega (arith, c.if-self-pair-le64.false)) }

pub add_signals-requires : goal.add_signals-requires
add_signals-requires c = (c.requires.0, c.if-self-pair-le64.true)
