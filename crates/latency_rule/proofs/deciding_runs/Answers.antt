-- `latency_rule::deciding_runs` meets its contract. Assumes nothing.
use Prim.Native.Nat.{◌*◌, ◌≤◌}
use mathlib.Core.Path.{refl, sym, ◌∙◌}
use native.Mathlib.Nat.{le_trans, mul-le-mul, mul-le-mul_left, div-le_self}
use native.Mathlib.Omega.{arith}
use borrow.Author.Rules.{rules}
use borrow.Author.Tests.{not-false}
use Rattle.latency_rule.specs.Back.{window_by, from_by, Decide}
use Rattle.latency_rule.proofs.Alike.{one-decides}
use Rattle.latency_rule.proofs.Hops.{fewer-runs}
use Rattle.latency_rule.proofs.deciding_runs.Goals as goal
use Rattle.latency_rule.proofs.deciding_runs.Goals.{Start}

module _ (s : Start) where
  -- The first run is small.
  small : from_by s.args.route s.args.h ≤ 15 * 240
  small = mul-le-mul s.requires.passable.few (le_trans (div-le_self s.args.h s.args.route.last.period) s.requires.hyper)

  all-decide : Decide s.args.route s.args.h
      (record { from = from_by s.args.route s.args.h; count = window_by s.args.route s.args.h })
  all-decide = record { passable = s.requires.passable; alike = λ mode bound. refl }

pub returns : goal.returns
returns c =
    let b = c in
    let t = c in
    let s = c in
    let a = s.args in
    let some : 1 ≤ window_by a.route a.h = omega (arith, t.if-window-lt2.false) in
    record {
      passable = fewer-runs s.requires.passable 1 some;
      alike = one-decides a.route (omega (arith, b.if-route.false))
          (sym b.all_plain.ensures ∙ c.if-not-all_plain.false)
          (from_by a.route a.h) _ (omega (arith, mul-le-mul_left a.route.count some)) some;
    }

pub nonzero_div-window : goal.nonzero_div-window
nonzero_div-window c = omega (arith, c.requires.positive)

pub overflow_mul-from : goal.overflow_mul-from
overflow_mul-from c = omega (arith, small (goal.at.overflow_mul-from c).Start)

pub returns-then-window-lt2 : goal.returns-then-window-lt2
returns-then-window-lt2 c = all-decide (goal.at.returns-then-window-lt2 c).Start

pub returns-then-route : goal.returns-then-route
returns-then-route c = all-decide (goal.at.returns-then-route c).Start

pub all_plain-requires : goal.all_plain-requires
all_plain-requires c = c.requires.passable.few

pub returns-then-not-all_plain : goal.returns-then-not-all_plain
returns-then-not-all_plain c = all-decide (goal.at.returns-then-not-all_plain c).Start
