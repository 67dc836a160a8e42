-- `text_keyword::find_byte` meets its contract. Assumes nothing.
use Rattle.std.proofs.Common.{ℕ, ◌+◌, true, false, eqb, ◌≡◌, rules, tests}
use Rattle.std.proofs.lemmas.Iterator.{first_from_Range}
use Rattle.text_keyword.specs.Cells.{byte_of}
use Rattle.text_keyword.proofs.Finding.{first-found}
use Rattle.text_keyword.proofs.find_byte.Goals as goal

pub returns : goal.returns
returns c =
    let test = λ (i : ℕ). eqb (byte_of c.args.table.now (c.args.from + i)) c.args.byte in
    first-found c.args.count test c.find.result
    (first_from_Range (record { start = 0; end = c.args.count }) _ _ c.find.result (λ i. test i ≡ true) (λ i. test i ≡ false)
    c.find.ensures.ran (λ i q k. search (rules, tests)) (λ i q k. search (rules, tests)))
