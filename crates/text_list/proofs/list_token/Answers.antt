-- `text_list::list_token` meets its contract. Assumes nothing.
use Prim.Native.Nat.{◌+◌, ◌<◌}
use mathlib.Core.List.{[], ◌∷◌}
use mathlib.Core.Path.{◌≡◌, sym, ap, ◌∙◌}
use native.Mathlib.Omega.{arith}
use Rattle.model.specs.Rules.Word.{byte_at}
use Rattle.text_keyword.specs.Cells.{all_cells, cells, operand_by, pending_at}
use Rattle.text_keyword.proofs.Rows.{pending-none, pending-more}
use Rattle.text_list.proofs.list_token.Goals as goal
use Rattle.text_list.proofs.list_token.Goals.{After-cell-number, After-operand_by-operand, Else-number-eq0, Then-number-eq0}

-- the number of the next operand
number : (e : After-cell-number) → let s = e in e.cell-number.result ≡ byte_at cells s.args.pending
number e = cc

none : (t : Then-number-eq0) → let s = t in pending_at s.args.pending ≡ []
none t = let s = t in pending-none s.args.pending
    (sym (number (goal.at.Then-number-eq0 t).After-cell-number) ∙ t.if-number-eq0.true)

more : (e : Else-number-eq0) → let s = e in
    (s.args.pending < all_cells) ×
    (pending_at s.args.pending ≡ operand_by (byte_at cells s.args.pending) ∷ pending_at (s.args.pending + 1))
more e =
    let s = e in
    pending-more s.args.pending (λ q. e.if-number-eq0.false (number (goal.at.Else-number-eq0 e).After-cell-number ∙ q))

operand : (o : After-operand_by-operand) → let s = o in
    pending_at s.args.pending ≡ o.operand_by-operand.result ∷ pending_at (s.args.pending + 1)
operand o =
    let e = (goal.at.After-operand_by-operand o).Else-number-eq0 in
    let s = o in
    (more e).1 ∙
    ap (λ x. x ∷ pending_at (s.args.pending + 1))
    (sym (o.operand_by-operand.ensures ∙ ap operand_by (number (goal.at.Else-number-eq0 e).After-cell-number)))

pub list_keyword-requires : goal.list_keyword-requires
list_keyword-requires c =
    let t = (goal.at.list_keyword-requires c).Then-number-eq0 in
    (c.requires.0, rw (none t) at c.requires.1)

pub returns-then-number-eq0 : goal.returns-then-number-eq0
returns-then-number-eq0 c = rw (none (goal.at.returns-then-number-eq0 c).Then-number-eq0) c.list_keyword.ensures

pub list_operand-requires : goal.list_operand-requires
list_operand-requires c =
    let o = (goal.at.list_operand-requires c).After-operand_by-operand in
    (c.requires.0, rw (operand o) at c.requires.1)

pub returns : goal.returns
returns c = rw (operand (goal.at.returns c).After-operand_by-operand) c.list_operand.ensures

pub overflow_add-pending : goal.overflow_add-pending
overflow_add-pending c = omega (arith, (more (goal.at.overflow_add-pending c).Else-number-eq0).0)
