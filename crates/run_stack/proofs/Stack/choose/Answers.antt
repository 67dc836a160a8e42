-- `run_stack::Stack::choose` meets its contract. Assumes nothing.
use mathlib.Core.Path.{◌≡◌, ◌∙◌}
use mathlib.Core.List.{◌++◌}
use Prim.Native.Nat.{◌+◌, ◌-◌}
use lib.IntN.{pos}
use lib.ListN.{get_or}
use mir.Syntax.{w32}
use mir.Val.{to_z, of_z}
use Rattle.model.specs.Rules.Word.{if_word}
use Rattle.word.proofs.Locals.{kept}
use Rattle.run_stack.proofs.Words.{view-three}
use borrow.Author.Rules.{rules}
use Rattle.run_stack.proofs.Stack.choose.Goals as goal

pub returns : goal.returns
returns c =
    let g = c in
    let f = c in
    let a = f.args in
    let words = a.self.near ++ a.self.far in
    let condition = get_or words (a.self.height - 2) (pos 0) in
    let then = get_or words (a.self.height - 2 + 1) (pos 0) in
    let w : to_z w32 (of_z w32 c.choose-top.result) ≡ if_word condition then a.self.top =
    kept c.choose-top.result c.choose-top.type_inv ∙ c.choose-top.ensures ∙ rw (
      kept f.word_below-condition.result f.word_below-condition.type_inv ∙ f.word_below-condition.ensures,
      kept g.word_below-then.result g.word_below-then.type_inv ∙ g.word_below-then.ensures,
      kept a.self.top c.struct_told-1.given.0.1,
    ) in
    (rw w (view-three if_word a.self.top words a.self.height (search rules)), search rules)
