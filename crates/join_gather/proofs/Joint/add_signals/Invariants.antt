-- `join_gather::Joint::add_signals` meets its contract. Assumes nothing.
use Rattle.join_gather.specs.Joint.{JointSpace, AddsFirst, arrays_of}
use Rattle.join_gather.proofs.Joint.add_signals.Given as goal

abbrev pub invariant-loop-x : goal.invariant-loop-x
invariant-loop-x l =
    JointSpace l.initial.self × AddsFirst l.initial.self (arrays_of l.fn.pair.tables l.fn.pair.slots) l.code l.x l.self
