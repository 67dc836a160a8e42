-- `text_keyword::is_spelled` meets its contract. Assumes nothing.
use mathlib.Core.Path.{◌≡◌, sym, ◌∙◌}
use native.Mathlib.Omega.{arith}
use lib.ListN.{length}
use Rattle.text_keyword.proofs.Finding.{compare-starts, compare-ends, compare-short, compare-other, compare-next}
use Rattle.text_keyword.proofs.is_spelled.Goals as goal
use Rattle.text_keyword.proofs.is_spelled.Goals.{then-c-eq0-via-then-c-eq0, then-c-eq0-via-else-c-eq0+then-c-token}

pub returns-then-c-eq0 : goal.returns-then-c-eq0
returns-then-c-eq0 c =
    let a = c.args in
    elim c.then-c-eq0.branch [
      | then-c-eq0-via-then-c-eq0 w ↦ compare-short a.letters.now a.token.now c.loop-i.i c.loop-i.invariant (omega arith)
          (sym c.cell-c.ensures ∙ w.if-c-eq0.true)
      | then-c-eq0-via-else-c-eq0+then-c-token w ↦ compare-other a.letters.now a.token.now c.loop-i.i c.loop-i.invariant
          (omega arith)
          (λ q. w.if-c-eq0.false (c.cell-c.ensures ∙ q)) (λ q. w.if-c-token.true (c.cell-c.ensures ∙ q))
    ]

pub loop-i-preserved : goal.loop-i-preserved
loop-i-preserved c =
    let a = c.args in
    compare-next a.letters.now a.token.now c.loop-i.i c.loop-i.invariant (omega arith)
    (λ q. c.if-c-eq0.false (c.cell-c.ensures ∙ q)) (sym c.cell-c.ensures ∙ c.if-c-token.false)

pub returns : goal.returns
returns c =
    let e : c.loop-i.i ≡ length c.args.token.now = omega arith in
    rw (c.cell.ensures, ← e) (compare-ends c.args.letters.now c.args.token.now c.loop-i.i c.loop-i.invariant (omega arith))

pub loop-i-init : goal.loop-i-init
loop-i-init c = compare-starts _ _
