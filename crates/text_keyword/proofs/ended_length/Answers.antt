-- `text_keyword::ended_length` meets its contract. Assumes nothing.
use mathlib.Core.Path.{◌≡◌, refl}
use Rattle.model.specs.Rules.Word.{byte_at}
use Rattle.text_keyword.specs.Cells.{cells}
use Rattle.text_keyword.proofs.Rows.{pending-none, pending-more}
use Rattle.text_keyword.proofs.ended_length.Goals as goal

pub returns-then-cell-eq0 : goal.returns-then-cell-eq0
returns-then-cell-eq0 c = let e : byte_at cells c.args.pending ≡ 0 = cc in rw (pending-none c.args.pending e) refl

pub returns : goal.returns
returns c =
    let e : byte_at cells c.args.pending ≡ c.cell.result = cc in
    let m = pending-more c.args.pending (λ q. c.if-cell-eq0.false cc) in
    rw m.1 c.refuse_number.ensures
