-- `rows::continued` meets its contract. Assumes nothing.
use mathlib.Core.Path.{sym, ap, ◌∙◌}
use native.Mathlib.Omega.{arith}
use borrow.Author.Rules.{rules, sfits_of}
use lib.IntN.{ℤ, suc_ℤ}
use mir.Facts.{to_z-of_z}
use mir.Syntax.{w32, w64}
use mir.Val.{of_z}
use Rattle.model.specs.Rules.Search.{is_found}
use Rattle.model.specs.Rules.Cover.{starting_at, continues, greatest_word}
use Rattle.rows.specs.Rows.{text_row, text_rows}
use Rattle.word.proofs.Locals.{kept, eq_z-other}
use Rattle.model.proofs.Rows.Levels.{true-eq_z, greatest-word}
use Rattle.word.proofs.Locals.{same_bits}
use Rattle.rows.proofs.continued.Goals as goal

pub high_of-high-requires : goal.high_of-high-requires
high_of-high-requires c =
    let s = c in (omega (arith, s.requires.0.0, s.requires.1), s.requires.0.1 s.args.n s.requires.1)

pub returns-then-high-eq2147483647 : goal.returns-then-high-eq2147483647
unfolding continues
returns-then-high-eq2147483647 c =
    let h = c in
    rw (true-eq_z _ greatest_word (sym h.high_of-high.ensures ∙ same_bits (sfits_of {w = w32} h.high_of-high.type_inv) greatest-word
    c.if-high-eq2147483647.true))

pub after-requires : goal.after-requires
after-requires c = search rules

pub starts-requires : goal.starts-requires
starts-requires c = search rules

pub returns : goal.returns
unfolding continues
returns c =
    let a = c in
    let e = c in
    let h = c in
    let s = c in
    let rows = text_rows s.args.text.now s.args.offsets.now s.args.count in
    rw (eq_z-other (text_row s.args.text.now s.args.offsets.now s.args.n).high greatest_word
    (λ q. e.if-high-eq2147483647.false (ap (of_z w32) (h.high_of-high.ensures ∙ q))))
    (c.starts.ensures ∙ ap (λ (z : ℤ). is_found (starting_at rows z))
    (to_z-of_z (sfits_of {w = w64} a.after.type_inv) ∙ a.after.ensures ∙ ap suc_ℤ (kept _ h.high_of-high.type_inv ∙ h.high_of-high.ensures)))
