-- `text_assemble::operand_of` meets its contract. Assumes nothing.
use Prim.Native.Nat.{◌+◌, ◌≤◌}
use mathlib.Core.Path.{◌≡◌, sym, ap, ◌∙◌}
use native.Mathlib.Omega.{arith}
use lib.ListN.{length}
use Rattle.model.specs.Rules.Outcome.{accepted}
use Rattle.model.specs.Rules.TextForm.{names, spelled}
use Rattle.text_keyword.specs.Cells.{all_rows}
use Rattle.text_keyword.proofs.Rows.{cells-length, names-inside, name-row, name-search, name-byte, name-found}
use Rattle.text_assemble.proofs.Values.{operand-named, operand-number}
use Rattle.text_assemble.proofs.operand_of.Goals as goal
use Rattle.text_assemble.proofs.operand_of.Goals.{After-find_spelling, In-Some}

-- what the search found
found : (f : After-find_spelling) → f.find_spelling.result ≡ spelled f.args.spelling.now (names f.args.operand)
found f =
    f.find_spelling.ensures ∙
    name-search f.table-table.ensures f.args.operand f.names_from-from.ensures f.names_count-count.ensures f.args.spelling.now

pub find_spelling-requires : goal.find_spelling-requires
find_spelling-requires c =
    omega (
      arith,
      ap length c.table-table.ensures,
      cells-length,
      names-inside c.args.operand,
      c.names_count-count.ensures,
      c.names_from-from.ensures,
    )

pub returns-in-Some : goal.returns-in-Some
returns-in-Some c =
    let f = (goal.at.returns-in-Some c).After-find_spelling in
    let o = c.args.operand in
    let e = sym (found f) ∙ c.in-Some.is in
    let i = c.in-Some.i in
    let row = name-row o i (name-found o c.args.spelling.now i e) in
    ap accepted (c.byte_of.ensures.0 ∙ name-byte c.table-table.ensures o f.names_from-from.ensures i ∙ row.byte) ∙
    sym (operand-named o c.args.place c.args.spelling.now i e)

pub returns-in-None : goal.returns-in-None
returns-in-None c =
    let f = (goal.at.returns-in-None c).After-find_spelling in
    c.number_value.ensures ∙
    sym (operand-number c.args.operand c.args.place c.args.spelling.now (sym (found f) ∙ c.in-None.is))

-- the row is one of the table
inside : (c : In-Some) → c.names_from-from.result + c.in-Some.i ≤ all_rows
inside c =
    let f = (goal.at.In-Some c).After-find_spelling in
    let o = c.args.operand in
    let e = sym (found f) ∙ c.in-Some.is in
    omega (arith, name-found o c.args.spelling.now c.in-Some.i e, names-inside o, f.names_from-from.ensures)

pub overflow_add-from : goal.overflow_add-from
overflow_add-from c = omega (arith, inside (goal.at.overflow_add-from c).In-Some)

pub byte_of-requires : goal.byte_of-requires
byte_of-requires c = omega (arith, inside (goal.at.byte_of-requires c).In-Some)
