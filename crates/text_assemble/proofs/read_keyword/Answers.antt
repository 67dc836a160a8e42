-- `text_assemble::read_keyword` meets its contract. Assumes nothing.
use Prim.Native.Nat.{ℕ, ◌+◌, ◌*◌, ◌<◌}
use mathlib.Core.List.{List, [], ◌∷◌}
use mathlib.Core.Path.{◌≡◌, sym, ap, ◌∙◌}
use native.Mathlib.Omega.{arith}
use lib.ListN.{length}
use Rattle.model.specs.Rules.Outcome.{accepted}
use Rattle.model.specs.Rules.TextForm.{keywords, keyword_at, spelled}
use Rattle.text_keyword.specs.Cells.{command_rows, cells, byte_of, pending_at}
use Rattle.text_keyword.proofs.Rows.{cells-length, keyword-row, keyword-search, keyword-found}
use Rattle.text_assemble.specs.Assembled.{read_of}
use Rattle.text_assemble.proofs.Walk.{keyword-read, keyword-refused, one_byte}
use Rattle.text_assemble.proofs.read_keyword.Goals as goal
use Rattle.text_assemble.proofs.read_keyword.Goals.{After-find_spelling, In-Some}

found : (f : After-find_spelling) → f.find_spelling.result ≡ spelled f.args.spelling.now keywords
found f = f.find_spelling.ensures ∙ keyword-search f.table-table.ensures f.args.spelling.now

inside : (c : In-Some) → c.in-Some.row < command_rows
inside c =
    let f = (goal.at.In-Some c).After-find_spelling in
    keyword-found c.args.spelling.now _ (sym (found f) ∙ c.in-Some.is)

pub returns : goal.returns
returns c =
    let k = (goal.at.returns c).In-Some in
    let f = (goal.at.returns c).After-find_spelling in
    let i = k.in-Some.row in
    let row = keyword-row i (inside k) in
    let z : 0 + i ≡ i = omega arith in
    let byte : c.byte_of-value.result ≡ (keyword_at keywords i).byte =
    c.byte_of-value.ensures.0 ∙ ap (λ (t : List ℕ). byte_of t i) c.table-table.ensures ∙ ap (byte_of cells) (sym z) ∙ row.byte in
    record {
      answer =
          ap (λ (l : List ℕ). accepted (record { bytes = l; pending = pending_at (15 * i + 11) }))
          (one_byte c.byte_of-value.result c.byte_of-value.ensures.1 ∙ ap (λ (b : ℕ). b ∷ []) byte) ∙
          ap (λ os. accepted (record { bytes = (keyword_at keywords i).byte ∷ []; pending = os }))
          (ap (λ (n : ℕ). pending_at (15 * n + 11)) (sym z) ∙ row.operands) ∙
          sym (keyword-read c.args.place c.args.spelling.now i (sym (found f) ∙ k.in-Some.is));
      small = omega arith;
    }

pub returns-in_default : goal.returns-in_default
returns-in_default c =
    let f = (goal.at.returns-in_default c).After-find_spelling in
    let e = c.refuse.ensures in
    record {
      answer = ap read_of e ∙ sym (keyword-refused c.args.place c.args.spelling.now (sym (found f) ∙ c.in_default.is));
      small = rw e (omega arith);
    }

pub find_spelling-requires : goal.find_spelling-requires
find_spelling-requires c = omega (arith, ap length c.table-table.ensures, cells-length)

pub byte_of-value-requires : goal.byte_of-value-requires
byte_of-value-requires c = omega (arith, inside (goal.at.byte_of-value-requires c).In-Some)

pub overflow_mul-next : goal.overflow_mul-next
overflow_mul-next c = omega (arith, inside (goal.at.overflow_mul-next c).In-Some)

pub overflow_add-next : goal.overflow_add-next
overflow_add-next c = omega (arith, inside (goal.at.overflow_add-next c).In-Some)
