-- `text_token::number_of` meets its contract. Assumes nothing.
use mathlib.Core.Path.{sym, ap, ◌∙◌}
use Rattle.text_token.specs.Scanning.{held_number}
use Rattle.text_token.proofs.Scans.{number-none, number-zero, number_digits}
use Rattle.text_token.proofs.number_of.Goals as goal

pub returns-then-token-eq0 : goal.returns-then-token-eq0
returns-then-token-eq0 c = sym (number-none c.args.token.now c.if-token-eq0.true)

pub returns-then-has_zero : goal.returns-then-has_zero
returns-then-has_zero c =
    let s = c in
    sym (number-zero s.args.token.now (sym c.has_zero.ensures ∙ c.if-has_zero.true))

pub returns : goal.returns
returns c =
    let e = c in
    let f = e in
    let s = f in
    c.digits_value.ensures ∙
    ap held_number (sym (number_digits s.args.token.now f.if-token-eq0.false (sym e.has_zero.ensures ∙ e.if-has_zero.false)))
