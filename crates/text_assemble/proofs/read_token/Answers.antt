-- `text_assemble::read_token` meets its contract. Assumes nothing.
use Prim.Native.Nat.{◌+◌, ◌<◌}
use mathlib.Core.List.{◌∷◌}
use mathlib.Core.Path.{◌≡◌, sym, ap, ◌∙◌}
use native.Mathlib.Omega.{arith}
use Rattle.model.specs.Rules.Word.{byte_at}
use Rattle.text_keyword.specs.Cells.{all_cells, cells, operand_by, pending_at}
use Rattle.text_keyword.proofs.Rows.{pending-none, pending-more}
use Rattle.text_assemble.proofs.read_token.Goals as goal
use Rattle.text_assemble.proofs.read_token.Goals.{After-cell-number, Else-number-eq0}

-- the number of the next operand
number : (c : After-cell-number) → c.cell-number.result ≡ byte_at cells c.args.pending
number c = cc

more : (c : Else-number-eq0) →
    (c.args.pending < all_cells) ×
    (pending_at c.args.pending ≡ operand_by (byte_at cells c.args.pending) ∷ pending_at (c.args.pending + 1))
more c =
    pending-more c.args.pending (λ q. c.if-number-eq0.false (number (goal.at.Else-number-eq0 c).After-cell-number ∙ q))

pub returns-then-number-eq0 : goal.returns-then-number-eq0
returns-then-number-eq0 c =
    let e = (goal.at.returns-then-number-eq0 c).After-cell-number in
    rw (pending-none c.args.pending (sym (number e) ∙ c.if-number-eq0.true)) c.read_keyword.ensures

pub returns : goal.returns
returns c =
    let e = (goal.at.returns c).Else-number-eq0 in
    let operand : c.operand_by-operand.result ≡ operand_by (byte_at cells c.args.pending) =
    c.operand_by-operand.ensures ∙ ap operand_by (number (goal.at.Else-number-eq0 e).After-cell-number) in
    rw ((more e).1, ← operand) c.read_operand.ensures

pub overflow_add-pending : goal.overflow_add-pending
overflow_add-pending c = omega (arith, (more (goal.at.overflow_add-pending c).Else-number-eq0).0)
