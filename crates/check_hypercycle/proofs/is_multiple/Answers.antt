-- `check_hypercycle::is_multiple` meets its contract. Assumes nothing.
use Prim.Native.Nat.{◌+◌, ◌-◌, ◌%◌, ◌≤◌, ◌<◌}
use mathlib.Core.Bool.{◌&&◌}
use mathlib.Core.Path.{◌≡◌, refl, sym, ap, ◌∙◌}
use native.Mathlib.Omega.{arith}
use lib.Dec.{eqb}
use lib.ListN.{length, drop}
use borrow.Author.Rules.{rules}
use borrow.Author.Tests.{not-true, not-false}
use Rattle.model.specs.Rules.Program.{Program, signal_at}
use Rattle.model.specs.Rules.Rates.{is_multiple}
use Rattle.text_program.specs.Tables.{PeriodsOf}
use Rattle.check_hypercycle.proofs.Multiples.{multiple-here, multiple-over}
use Rattle.check_hypercycle.proofs.is_multiple.Goals as goal
use Rattle.check_hypercycle.proofs.is_multiple.Goals.{After-divides}

-- the period at hand, and those after it
here : (c : After-divides) (p : Program) →
    length p.signals ≡ c.args.count →
    PeriodsOf p c.args.periods.now →
    is_multiple p.signals c.args.h ≡
    c.divides.result && is_multiple (drop (c.loop-s.s + 1) p.signals)
    c.args.h
here c p n t =
    let c3 = c in
    let c4 = c in
    let l = c3.loop-s in
    let lt : l.s < length p.signals = omega (arith, c.loop-s-test.true) in
    let same : c.divides.result ≡ eqb (c4.args.h % (signal_at p l.s).period) 0 =
    c.divides.ensures ∙ ap (λ d. eqb (c4.args.h % d) 0) (t l.s lt) in
    l.invariant.1 p n t ∙ multiple-here p.signals l.s _ lt ∙
    ap (λ b. b && is_multiple (drop (l.s + 1) p.signals) c4.args.h) (sym same)

pub returns-then-not-divides : goal.returns-then-not-divides
returns-then-not-divides c = λ p n t. sym (here (goal.at.returns-then-not-divides c).After-divides p n t ∙ rw (c.if-not-divides.true))

pub loop-s-preserved : goal.loop-s-preserved
loop-s-preserved c = (omega arith, λ p n t. here (goal.at.loop-s-preserved c).After-divides p n t ∙ rw (c.if-not-divides.false))

pub returns : goal.returns
returns c = λ p n t. sym (c.loop-s.invariant.1 p n t ∙
    multiple-over p.signals c.loop-s.s _ (omega (arith, c.loop-s-test.false)))

pub loop-s-init : goal.loop-s-init
loop-s-init c = (omega arith, λ p n t. refl)
