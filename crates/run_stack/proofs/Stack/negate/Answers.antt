-- `run_stack::Stack::negate` meets its contract. Assumes nothing.
use mathlib.Core.Path.{◌≡◌, refl, ap, ◌∙◌}
use mathlib.Core.List.{◌++◌}
use mir.Syntax.{w32}
use mir.Val.{to_z, of_z}
use Rattle.model.specs.Rules.Word.{neg_word}
use Rattle.word.proofs.Locals.{kept}
use Rattle.run_stack.proofs.Words.{view-one}
use borrow.Author.Rules.{rules}
use Rattle.run_stack.proofs.Stack.negate.Goals as goal

pub returns : goal.returns
returns c =
    let a = c.args in
    let w : to_z w32 (of_z w32 c.neg-top.result) ≡ neg_word a.self.top =
    kept c.neg-top.result c.neg-top.type_inv ∙ c.neg-top.ensures ∙
    ap neg_word (kept a.self.top c.struct_told-1.given.0.1) in
    (rw w (view-one neg_word a.self.top (a.self.near ++ a.self.far) a.self.height (search rules)), refl)
