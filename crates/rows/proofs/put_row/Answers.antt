-- `rows::put_row` meets its contract. Assumes nothing.
use mathlib.Core.Path.{ap, ◌∙◌}
use Prim.Native.Nat.{◌+◌}
use lib.IntN.{ℤ}
use lib.Seq.{sets}
use Rattle.model.specs.Rules.Word.{word_bytes}
use Rattle.model.specs.Rules.Table.{row_bytes}
use Rattle.rows.proofs.Edges.{three-words}
use Rattle.word.proofs.Locals.{kept}
use Rattle.rows.proofs.put_row.Goals as goal

pub returns : goal.returns
unfolding row_bytes
returns c =
    let p₃ = c in
    let w₃ = c in
    let p₂ = c in
    let w₂ = c in
    let p₁ = c in
    let w₁ = c in
    let s = c in
    let to = s.args.to in
    three-words s.args.out.now p₁.put_word.new.out p₂.put_word-2.new.out p₃.put_word-3.new.out to _ _ _
    (p₁.put_word.ensures ∙ ap (λ (z : ℤ). sets s.args.out.now to (word_bytes z))
    (kept _ w₁.word_at.type_inv ∙ w₁.word_at.ensures))
    (p₂.put_word-2.ensures ∙ ap (λ (z : ℤ). sets p₁.put_word.new.out (to + 4) (word_bytes z))
    (kept _ w₂.word_at-2.type_inv ∙ w₂.word_at-2.ensures))
    (p₃.put_word-3.ensures ∙ ap (λ (z : ℤ). sets p₂.put_word-2.new.out (to + 8) (word_bytes z))
    (kept _ w₃.word_at-3.type_inv ∙ w₃.word_at-3.ensures))
