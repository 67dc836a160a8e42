-- `text_assemble::read_operand` meets its contract. Assumes nothing.
use Prim.Native.Nat.{ℕ}
use mathlib.Core.Path.{sym, ap, ◌∙◌}
use native.Mathlib.Omega.{arith}
use Rattle.std.proofs.lemmas.Result.{err_from_is_err_and}
use Rattle.model.specs.Rules.Outcome.{accepted}
use Rattle.model.specs.Rules.TextForm.{token, low_bytes}
use Rattle.text_keyword.specs.Cells.{pending_at}
use Rattle.text_assemble.proofs.Walk.{operand_read, operand-refused, size_small}
use Rattle.text_assemble.proofs.read_operand.Goals as goal

pub returns : goal.returns
returns c =
    let s = c.args in
    let v = c.in_ok-value.value in
    record {
      answer =
          ap (λ (n : ℕ). accepted (record { bytes = low_bytes n v; pending = pending_at s.next })) c.size-size.ensures ∙
          sym (operand_read s.operand (pending_at s.next) (token s.place s.spelling.now) v (sym c.in_ok-value.ensures));
      small = omega (arith, c.size-size.ensures, size_small s.operand);
    }

pub returns-in_err-value : goal.returns-in_err-value
returns-in_err-value c =
    let s = c.args in
    let p = err_from_is_err_and c.from_residual.result c.from_residual.ensures.1 in
    let e = operand-refused s.operand (pending_at s.next) (token s.place s.spelling.now) _ (sym c.in_err-value.ensures) in
    rw (p.1, p.2) (record { answer = sym e; small = omega arith })
