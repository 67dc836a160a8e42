-- `text_list::put_operand` meets its contract. Assumes nothing.
use Prim.Native.Nat.{ℕ, ◌+◌, ◌-◌, ◌*◌, ◌≤◌}
use mathlib.Core.List.{List}
use mathlib.Core.Path.{◌≡◌, sym, ap, ◌∙◌}
use native.Mathlib.Omega.{arith}
use lib.ListN.{length, take, drop}
use Rattle.model.specs.Rules.TextForm.{names, coded, operand_token}
use Rattle.text_keyword.specs.Cells.{all_rows, cells, letters_of}
use Rattle.text_keyword.proofs.Finding.{part-rest}
use Rattle.text_keyword.proofs.Rows.{cells-length, names-inside, name-row, name-code, name-coded}
use Rattle.text_list.proofs.Writes.{token-named, token-number}
use Rattle.text_list.proofs.put_operand.Goals as goal
use Rattle.text_list.proofs.put_operand.Goals.{After-find_value, In-Some, Start}

-- what the search found
found : (f : After-find_value) → let s = f in
    f.find_value.result ≡ coded s.args.value (names s.args.operand)
found f =
    let s = f in
    f.find_value.ensures ∙
    name-code f.table-table.ensures s.args.operand f.names_from-from.ensures f.names_count-count.ensures
    s.args.value

-- the row of a name, and its letters
module _ (k : In-Some) where
  abbrev f : After-find_value
  f = (goal.at.In-Some k).After-find_value

  abbrev s : Start
  s = (goal.at.In-Some k).Start

  abbrev i : ℕ
  i = k.in-Some.i

  abbrev at : ℕ
  at = 15 * (f.names_from-from.result + i)

  inside : f.names_from-from.result + i ≤ all_rows
  inside =
      omega (
        arith,
        name-coded s.args.operand s.args.value i (sym (found f) ∙ k.in-Some.is),
        names-inside s.args.operand,
        f.names_from-from.ensures,
      )

  letters : letters_of (take (length f.table-table.result.now - at) (drop at f.table-table.result.now)) ≡
      operand_token s.args.operand s.args.value
  letters =
      let e = sym (found f) ∙ k.in-Some.is in
      let o = s.args.operand in
      ap letters_of (part-rest f.table-table.result.now at) ∙
      ap (λ (t : List ℕ). letters_of (drop at t)) f.table-table.ensures ∙
      ap (λ (n : ℕ). letters_of (drop (15 * (n + i)) cells)) f.names_from-from.ensures ∙
      (name-row o i (name-coded o s.args.value i e)).spelling ∙ sym (token-named o s.args.value i e)

pub find_value-requires : goal.find_value-requires
find_value-requires c =
    omega (
      arith,
      ap length c.table-table.ensures,
      cells-length,
      names-inside c.args.operand,
      c.names_count-count.ensures,
      c.names_from-from.ensures,
    )

start-inside : (c : In-Some) → at c ≤ length c.table-table.result.now
start-inside c = omega (arith, inside c, ap length c.table-table.ensures, cells-length)

pub slice_bounds-put_letters-count : goal.slice_bounds-put_letters-count
slice_bounds-put_letters-count c = start-inside (goal.at.slice_bounds-put_letters-count c).In-Some

pub slice_bounds-put_letters-start : goal.slice_bounds-put_letters-start
slice_bounds-put_letters-start c = start-inside (goal.at.slice_bounds-put_letters-start c).In-Some

pub put_letters-requires : goal.put_letters-requires
put_letters-requires c = let k = (goal.at.put_letters-requires c).In-Some in rw (letters k) (s k).requires

pub put_number-requires : goal.put_number-requires
put_number-requires c =
    let f = (goal.at.put_number-requires c).After-find_value in
    rw (← token-number c.args.operand c.args.value (sym (found f) ∙ c.in-None.is)) c.requires

pub returns-in-Some : goal.returns-in-Some
returns-in-Some c =
    let k = (goal.at.returns-in-Some c).In-Some in
    rw (← letters k) c.put_letters.ensures

pub returns-in-None : goal.returns-in-None
returns-in-None c =
    let f = (goal.at.returns-in-None c).After-find_value in
    rw (token-number c.args.operand c.args.value (sym (found f) ∙ c.in-None.is)) c.put_number.ensures

pub overflow_add-at : goal.overflow_add-at
overflow_add-at c = omega (arith, inside c)

pub overflow_mul-at : goal.overflow_mul-at
overflow_mul-at c = omega (arith, inside c)
