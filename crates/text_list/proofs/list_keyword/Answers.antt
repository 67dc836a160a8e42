-- `text_list::list_keyword` meets its contract. Assumes nothing.
use Prim.Native.Nat.{ℕ, ◌+◌, ◌-◌, ◌*◌, ◌≤◌, ◌<◌}
use mathlib.Core.List.{List, []}
use mathlib.Core.Path.{◌≡◌, refl, sym, ap, ◌∙◌}
use native.Mathlib.Omega.{arith}
use lib.ListN.{length, take, drop}
use Rattle.model.specs.Rules.Outcome.{accepted}
use Rattle.model.specs.Rules.TextForm.{keywords, keyword_at, coded, lead, listed_at}
use Rattle.model.specs.Rules.Word.{byte_at}
use Rattle.model.proofs.Basics.Left.{after}
use Rattle.text_keyword.specs.Cells.{command_rows, letters_of}
use Rattle.text_keyword.proofs.Finding.{part-rest}
use Rattle.text_keyword.proofs.Rows.{cells-length, row_of, KeywordRow, keyword-code, keyword-coded}
use Rattle.text_list.specs.Puts.{lead_by, put_of}
use Rattle.text_list.proofs.Writes.{
  lead-by,
  keyword_put,
  keyword-listed,
  keyword-unknown,
  room-is,
  puts-is,
  puts-refused,
  lead-room,
  token-room,
}
use Rattle.text_list.proofs.list_keyword.Goals as goal
use Rattle.text_list.proofs.list_keyword.Goals.{After-cell-opens, After-find_byte, In-Some, Start}

found : (f : After-find_byte) → let s = f in
    f.find_byte.result ≡ coded (byte_at s.args.bytes.now s.args.at) keywords
found f =
    let s = f in
    f.find_byte.ensures ∙ keyword-code f.table-table.ensures (byte_at s.args.bytes.now s.args.at)

-- the keyword, and its row
module _ (k : In-Some) where
  abbrev f : After-find_byte
  f = (goal.at.In-Some k).After-find_byte

  abbrev s : Start
  s = (goal.at.In-Some k).Start

  abbrev i : ℕ
  i = k.in-Some.i

  inside : i < command_rows
  inside = keyword-coded (byte_at s.args.bytes.now s.args.at) i (sym (found f) ∙ k.in-Some.is)

  row : KeywordRow i
  row = row_of i inside

  listed : listed_at s.args.bytes.now s.args.at [] ≡ accepted (keyword_put i)
  listed = keyword-listed s.args.bytes.now s.args.at i (sym (found f) ∙ k.in-Some.is)

  fits : s.args.to + length (put_of s.args.at (keyword_put i)) ≤ length s.args.out.now
  fits = room-is listed s.args.at s.args.to s.args.out.now s.requires.1

  letters : letters_of (take (length f.table-table.result.now - 15 * i) (drop (15 * i) f.table-table.result.now)) ≡
      (keyword_at keywords i).spelling
  letters =
      ap letters_of (part-rest f.table-table.result.now (15 * i)) ∙
      ap (λ (t : List ℕ). letters_of (drop (15 * i) t)) f.table-table.ensures ∙ row.spelling

separator : (e : After-cell-opens) → let k = (goal.at.After-cell-opens e).In-Some in
    lead_by (s k).args.at e.cell-opens.result ≡ lead (s k).args.at (keyword_at keywords (i k)).opens
separator e =
    let k = (goal.at.After-cell-opens e).In-Some in
    lead-by (s k).args.at e.cell-opens.result (keyword_at keywords (i k)).opens
    (e.cell-opens.ensures ∙ ap (λ (t : List ℕ). byte_at t (15 * i k + 9)) (f k).table-table.ensures ∙ (row k).opens)

pub returns-in_default : goal.returns-in_default
returns-in_default c =
    let f = (goal.at.returns-in_default c).After-find_byte in
    puts-refused (keyword-unknown c.args.bytes.now c.args.at (sym (found f) ∙ c.in_default.is)) c.args.at
    c.args.to c.args.out.now c.refuse.result c.refuse.ensures

pub put_lead-start-requires : goal.put_lead-start-requires
put_lead-start-requires c =
    let e = (goal.at.put_lead-start-requires c).After-cell-opens in
    let k = (goal.at.put_lead-start-requires c).In-Some in
    rw (separator e) (lead-room (lead (s k).args.at (keyword_at keywords (i k)).opens)
    (keyword_at keywords (i k)).spelling (s k).args.to
    (s k).args.out.now (fits k))

row_inside : (k : In-Some) → 15 * i k ≤ length (f k).table-table.result.now
row_inside k = omega (arith, inside k, ap length (f k).table-table.ensures, cells-length)

pub slice_bounds-put_letters-count : goal.slice_bounds-put_letters-count
slice_bounds-put_letters-count c = row_inside (goal.at.slice_bounds-put_letters-count c).In-Some

pub slice_bounds-put_letters-start : goal.slice_bounds-put_letters-start
slice_bounds-put_letters-start c = row_inside (goal.at.slice_bounds-put_letters-start c).In-Some

pub put_letters-end-requires : goal.put_letters-end-requires
put_letters-end-requires c =
    let e = (goal.at.put_letters-end-requires c).After-cell-opens in
    let k = (goal.at.put_letters-end-requires c).In-Some in
    rw (letters k) (token-room (lead (s k).args.at (keyword_at keywords (i k)).opens) (keyword_at keywords (i k)).spelling
    (s k).args.to (s k).args.out.now (fits k) (rw (separator e) at c.put_lead-start.ensures))

pub returns : goal.returns
returns c =
    let e = (goal.at.returns c).After-cell-opens in
    let k = (goal.at.returns c).In-Some in
    puts-is (listed k)
    (record {
      wrote = after (rw (separator e) at c.put_lead-start.ensures) (rw (letters k) at c.put_letters-end.ensures);
      width = refl;
      pending = (row k).operands;
    })

pub find_byte-requires : goal.find_byte-requires
find_byte-requires c = omega (arith, ap length c.table-table.ensures, cells-length)

pub overflow_mul-row : goal.overflow_mul-row
overflow_mul-row c = omega (arith, inside c)

pub overflow_add-row : goal.overflow_add-row
overflow_add-row c = omega (arith, inside (goal.at.overflow_add-row c).In-Some)

pub overflow_add-next : goal.overflow_add-next
overflow_add-next c = let k = (goal.at.overflow_add-next c).In-Some in omega (arith, inside k)
