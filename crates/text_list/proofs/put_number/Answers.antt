-- `text_list::put_number` meets its contract. Assumes nothing.
use mathlib.Core.Path.{sym, ◌∙◌}
use Rattle.word.proofs.Locals.{kept}
use Rattle.text_list.proofs.Writes.{wrote-put}
use Rattle.text_list.proofs.put_number.Goals as goal

pub put_decimal-requires : goal.put_decimal-requires
put_decimal-requires c =
    let signed = sym c.is_signed.ensures ∙ c.if-is_signed.true in
    let fits = rw signed at c.requires in
    rw (kept _ c.from_bits-word.type_inv ∙ c.from_bits-word.ensures) fits

pub returns-then-is_signed : goal.returns-then-is_signed
returns-then-is_signed c =
    let signed = sym c.is_signed.ensures ∙ c.if-is_signed.true in
    rw (signed, ← (kept _ c.from_bits-word.type_inv ∙ c.from_bits-word.ensures)) (wrote-put c.put_decimal.ensures)

pub put_natural-requires : goal.put_natural-requires
put_natural-requires c =
    rw (sym c.is_signed.ensures ∙ c.if-is_signed.false) at c.requires

pub returns : goal.returns
returns c =
    rw (sym c.is_signed.ensures ∙ c.if-is_signed.false) (wrote-put c.put_natural.ensures)
