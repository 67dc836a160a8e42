-- `text_keyword::find_spelling` meets its contract. Assumes nothing.
use Rattle.std.proofs.Common.{ℕ, ◌+◌, true, false, ◌≡◌, rules, tests}
use Rattle.std.proofs.lemmas.Iterator.{first_from_Range}
use Rattle.model.specs.Rules.TextForm.{same_bytes}
use Rattle.text_keyword.specs.Cells.{spelling_at}
use Rattle.text_keyword.proofs.Finding.{first-found}
use Rattle.text_keyword.proofs.find_spelling.Goals as goal

pub returns : goal.returns
returns c =
    let test = λ (i : ℕ). same_bytes (spelling_at c.args.table.now (c.args.from + i)) c.args.token.now in
    first-found c.args.count test c.find.result
    (first_from_Range (record { start = 0; end = c.args.count }) _ _ c.find.result (λ i. test i ≡ true) (λ i. test i ≡ false)
    c.find.ensures.ran (λ i q k. search (rules, tests)) (λ i q k. search (rules, tests)))
