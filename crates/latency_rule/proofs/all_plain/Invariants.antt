-- `latency_rule::all_plain` meets its contract. Assumes nothing.
use Prim.Native.Nat.{ℕ, ◌-◌, ◌≤◌}
use mathlib.Core.Bool.{Bool, true}
use mathlib.Core.Path.{◌≡◌, refl, sym, subst, ◌∙◌}
use native.Mathlib.Omega.{arith}
use borrow.Author.Rules.{rules}
use borrow.Author.Tests.{not-true, not-false}
use lib.ListN.{get_or}
use Rattle.model.specs.Rules.Search.{all_below}
use Rattle.model.proofs.Pairs.Decide.{all_more, all-fails}
use Rattle.latency_rule.specs.Back.{no_hop, all_plain}
use Rattle.read_rule.specs.Lines.{is_plain}
use Rattle.latency_rule.proofs.all_plain.Given as goal

abbrev pub invariant-loop-i : goal.invariant-loop-i
invariant-loop-i l = (l.i ≤ l.fn.route.count) × (all_plain l.hops l.i ≡ true)
