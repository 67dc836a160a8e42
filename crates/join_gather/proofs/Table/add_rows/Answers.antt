-- `join_gather::Table::add_rows` meets its contract. Assumes nothing.
use native.Mathlib.Omega.{arith}
use Rattle.join_gather.proofs.Rows.{table_kept, table-next}
use Rattle.join_gather.proofs.Table.add_rows.Goals as goal

pub returns-then-tables-eq0 : goal.returns-then-tables-eq0
returns-then-tables-eq0 c =
    let s = c in
    λ parts a e of old. table_kept parts a s.args.tables.now s.args.self.now of c.if-tables-eq0.true old

pub returns : goal.returns
returns c =
    let s = c in
    λ parts a e of old.
    table-next parts a s.args.tables.now s.args.self.now of (omega (arith, c.if-tables-eq0.false)) old s.args.part e
