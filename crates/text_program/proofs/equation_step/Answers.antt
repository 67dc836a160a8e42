-- `text_program::equation_step` meets its contract. Assumes nothing.
use Rattle.std.specs.Prelude.{Result}
use Prim.Native.Nat.{ℕ, ◌+◌}
use mathlib.Core.List.{List}
use mathlib.Core.Path.{◌≡◌, sym, ap}
use native.Mathlib.Omega.{arith}
use Rattle.model.specs.Rules.Program.{parse_expr}
use Rattle.text_program.specs.declared.Walk.{Walk}
use Rattle.text_program.specs.Walks.{outline_of, outlines, Walks}
use Rattle.model.specs.declared.Fault.{Fault}
use Rattle.text_program.proofs.Walks.{one-outline, ahead, room_after, equation_step, equation-walks}
use Rattle.std.proofs.lemmas.Result.{err_from_is_err_and}
use Rattle.text_program.proofs.equation_step.Goals as goal

-- one expression behind the operands of EQ
one-walk : (least : ℕ) (text : List ℕ) (at k : ℕ) {l l' : List ℕ} {count to looks : ℕ} {r : Result Walk Fault} → k ≡ 8 →
    Walks (outlines (parse_expr least 16 text) 1 (at + k)) l count to looks l' r →
    Walks (outline_of (parse_expr least 16 text (at + 8))) l count to looks l' r
one-walk least text at k e w = rw (sym (one-outline (parse_expr least 16 text) (at + 8)), sym e) w

pub returns-in_err-end : goal.returns-in_err-end
returns-in_err-end c =
    let p = err_from_is_err_and c.from_residual.result c.from_residual.ensures.1 in
    equation-walks _ (one-walk _ _ _ _ c.in_program.ensures c.read_expressions.ensures) _
    (rw (p.1, p.2) (ap (equation_step _) (sym c.in_err-end.was)))

pub overflow_add-code : goal.overflow_add-code
overflow_add-code c =
    let h = ahead _ _ 16 (room_after 8 c.requires.1)
    (one-walk _ _ _ _ c.in_program.ensures c.read_expressions.ensures) c.in_ok-end.was in
    omega (arith, h.left.short, h.left.small, h.inside)

pub returns : goal.returns
returns c =
    rw c.in_code.ensures
    (equation-walks _ (one-walk _ _ _ _ c.in_program.ensures c.read_expressions.ensures) _
    (ap (equation_step _) (sym c.in_ok-end.was)))
