-- `text_assemble::number_value` meets its contract. Assumes nothing.
use Prim.Native.Nat.{ℕ}
use mathlib.Core.Path.{sym, ap, ◌∙◌}
use Rattle.model.specs.Rules.TextForm.{ranged}
use Rattle.text_assemble.proofs.Values.{ranged-held, limit-small}
use Rattle.text_assemble.proofs.number_value.Goals as goal

pub returns-then-is_signed : goal.returns-then-is_signed
returns-then-is_signed c = rw (sym c.is_signed.ensures ∙ c.if-is_signed.true) c.signed_of.ensures

pub returns : goal.returns
returns c =
    let s = c.args in
    rw (sym c.is_signed.ensures ∙ c.if-is_signed.false)
    (c.ranged.ensures ∙ ap (λ (k : ℕ). ranged s.place 0 k c.number_of-number.result) c.limit-most.ensures ∙
    ap (ranged s.place 0 _) c.number_of-number.ensures ∙ ranged-held s.place 0 _ _ (limit-small s.operand))
