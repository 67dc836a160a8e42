-- `latency_rule::go_back` meets its contract. Assumes nothing.
use Prim.Native.Nat.{ℕ, ◌-◌, ◌≤◌, ◌<◌}
use mathlib.Core.List.{List}
use mathlib.Core.Path.{◌≡◌, refl, sym, ◌∙◌}
use native.Mathlib.Omega.{arith}
use Rattle.model.specs.Rules.Latency.{onward}
use Rattle.latency_rule.specs.Back.{back_by, Small}
use Rattle.latency_rule.specs.declared.Hop.{Hop}
use Rattle.latency_rule.proofs.Hops.{back_at, small_at, back_end, small-start, small-run, onward-at, small-onward}
use Rattle.latency_rule.proofs.go_back.Given as goal

abbrev pub invariant-loop-i : goal.invariant-loop-i
invariant-loop-i l =
    (l.i ≤ l.initial.i) × Small l.hops l.i l.element × (back_by l.hops l.initial.i l.k ≡ back_by l.hops l.i l.element)
