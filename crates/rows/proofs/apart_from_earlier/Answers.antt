-- `rows::apart_from_earlier` meets its contract. Assumes nothing.
use mathlib.Core.Path.{◌≡◌, sym, ap, ◌∙◌}
use mathlib.Core.Bool.{Bool, true}
use mathlib.Core.List.{List}
use Prim.Native.Nat.{ℕ, ◌-◌, ◌≤◌}
use native.Mathlib.Omega.{arith}
use borrow.Author.Tests.{not-true, not-false}
use Rattle.model.specs.Rules.Search.{all_below}
use Rattle.model.specs.Rules.Cover.{apart}
use Rattle.rows.specs.Rows.{text_row}
use Rattle.model.proofs.Pairs.Decide.{all_none, all_more, all-fails}
use Rattle.rows.proofs.apart_from_earlier.Invariants.{test}
use Rattle.rows.proofs.apart_from_earlier.Goals as goal

pub loop-m-init : goal.loop-m-init
loop-m-init c = (omega arith, all_none _)

pub are_apart-requires : goal.are_apart-requires
are_apart-requires c = (c.requires, omega (arith, c.loop-m-test.true))

pub returns-then-not-are_apart : goal.returns-then-not-are_apart
returns-then-not-are_apart c =
    let l = c in
    let s = c in
    sym (all-fails s.args.n (test s.args.text.now s.args.offsets.now s.args.n) l.loop-m.m
    (omega (arith, c.loop-m-test.true)) (sym c.are_apart.ensures ∙ c.if-not-are_apart.true))

pub loop-m-preserved : goal.loop-m-preserved
loop-m-preserved c =
    let l = c in
    let s = c in (
      omega (arith, c.loop-m-test.true),
      all_more l.loop-m.m (test s.args.text.now s.args.offsets.now s.args.n) l.loop-m.invariant.1
          (sym c.are_apart.ensures ∙ c.if-not-are_apart.false),
    )

pub returns : goal.returns
returns c =
    let l = c in
    let s = c in
    let e : l.loop-m.m ≡ s.args.n = omega (arith, c.loop-m-test.false) in
    sym (ap (λ k. all_below k (test s.args.text.now s.args.offsets.now s.args.n)) (sym e) ∙ l.loop-m.invariant.1)
