-- `text_assemble::signed_of` meets its contract. Assumes nothing.
use Prim.Native.Nat.{ℕ, ◌+◌, ◌^◌, ◌≤◌}
use mathlib.Core.List.{List}
use mathlib.Core.Path.{◌≡◌, sym, ap, ◌∙◌}
use lib.ListN.{length, drop}
use native.Mathlib.Omega.{arith}
use Rattle.std.proofs.lemmas.Result.{err_from_is_err_and}
use Rattle.model.specs.Rules.TextForm.{ranged, number_of}
use Rattle.model.proofs.Basics.Outcomes.{accepted-then, refused-then}
use Rattle.text_keyword.proofs.Finding.{part-rest}
use Rattle.text_token.specs.Scanning.{held_number}
use Rattle.text_assemble.proofs.Values.{ranged-held, ranged-below, signed-minus, signed-plus, some_byte}
use Rattle.text_assemble.proofs.signed_of.Goals as goal
use Rattle.text_assemble.proofs.signed_of.Goals.{Then-cell-eq45, After-number_of-number}

some : (c : Then-cell-eq45) → 1 ≤ length c.args.spelling.now
some c = some_byte c.args.spelling.now (sym c.cell.ensures ∙ c.if-cell-eq45.true)

-- what follows the sign
size : (c : After-number_of-number) → ranged c.args.place 1 (2 ^ 31 + 1) c.number_of-number.result ≡
    ranged c.args.place 1 (2 ^ 31 + 1) (number_of (drop 1 c.args.spelling.now))
size c =
    ap (ranged c.args.place 1 (2 ^ 31 + 1))
    (c.number_of-number.ensures ∙ ap (λ (l : List ℕ). held_number (number_of l)) (part-rest c.args.spelling.now 1)) ∙
    ranged-held c.args.place 1 (2 ^ 31 + 1) _ (omega arith)

pub overflow_sub-result : goal.overflow_sub-result
overflow_sub-result c = omega (arith, ranged-below _ _ _ _ _ c.in_ok-size.ensures)

pub returns-then-cell-eq45 : goal.returns-then-cell-eq45
returns-then-cell-eq45 c =
    let n = (goal.at.returns-then-cell-eq45 c).After-number_of-number in
    sym (signed-minus c.args.place c.args.spelling.now (sym c.cell.ensures ∙ c.if-cell-eq45.true) ∙
    accepted-then _ _ c.in_ok-size.size (sym (c.in_ok-size.ensures ∙ size n)))

pub returns-in_err-size : goal.returns-in_err-size
returns-in_err-size c =
    let n = (goal.at.returns-in_err-size c).After-number_of-number in
    let p = err_from_is_err_and c.from_residual.result c.from_residual.ensures.1 in
    rw (p.1, p.2)
    (sym (signed-minus c.args.place c.args.spelling.now (sym c.cell.ensures ∙ c.if-cell-eq45.true) ∙
    refused-then _ _ _ (sym (c.in_err-size.ensures ∙ size n))))

pub returns : goal.returns
returns c =
    let s = c.args in
    c.ranged-2.ensures ∙ ap (ranged s.place 0 (2 ^ 31)) c.number_of-number-2.ensures ∙
    ranged-held s.place 0 (2 ^ 31) _ (omega arith) ∙
    sym (signed-plus s.place s.spelling.now (λ q. c.if-cell-eq45.false (c.cell.ensures ∙ q)))

pub slice_bounds-number_of-count : goal.slice_bounds-number_of-count
slice_bounds-number_of-count c = some c

pub slice_bounds-number_of-start : goal.slice_bounds-number_of-start
slice_bounds-number_of-start c = some c
