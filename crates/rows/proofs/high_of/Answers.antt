-- `rows::high_of` meets its contract. Assumes nothing.
use mathlib.Core.Path.{ap, ◌∙◌}
use Prim.Native.Nat.{ℕ, ◌+◌}
use borrow.Author.Rules.{rules}
use Rattle.model.specs.Rules.Word.{word_at}
use Rattle.word.proofs.Locals.{kept}
use Rattle.rows.proofs.high_of.Goals as goal

pub offset_of-from-requires : goal.offset_of-from-requires
offset_of-from-requires c = search rules

pub overflow_add-from : goal.overflow_add-from
overflow_add-from c = search rules

pub overflow_add-from-2 : goal.overflow_add-from-2
overflow_add-from-2 c = search rules

pub word_at-requires : goal.word_at-requires
word_at-requires c = search rules

pub returns : goal.returns
returns c =
    kept _ c.word_at.type_inv ∙ c.word_at.ensures
    ∙ ap (λ (o : ℕ). word_at c.args.text.now (o + 1 + 4)) c.offset_of-from.ensures
