-- `run_stack::Stack::binary` meets its contract. Assumes nothing.
use mathlib.Core.Path.{◌≡◌, ap₂, ◌∙◌}
use mathlib.Core.List.{◌++◌}
use Prim.Native.Nat.{◌+◌, ◌-◌}
use lib.IntN.{pos}
use lib.ListN.{get_or}
use mir.Syntax.{w32}
use mir.Val.{to_z, of_z}
use Rattle.model.specs.Rules.Word.{binary_word}
use Rattle.word.proofs.Locals.{kept}
use Rattle.run_stack.proofs.Words.{view-two}
use borrow.Author.Rules.{rules}
use Rattle.run_stack.proofs.Stack.binary.Goals as goal

pub returns : goal.returns
returns c =
    let b = c in
    let a = b.args in
    let words = a.self.near ++ a.self.far in
    let first = get_or words (a.self.height - 1) (pos 0) in
    let w : to_z w32 (of_z w32 c.binary-top.result) ≡ binary_word a.operator first a.self.top =
    kept c.binary-top.result c.binary-top.type_inv ∙ c.binary-top.ensures ∙
    ap₂ (binary_word a.operator) (kept b.word_below-first.result b.word_below-first.type_inv ∙ b.word_below-first.ensures)
    (kept a.self.top c.struct_told-1.given.0.1) in
    (rw w (view-two (binary_word a.operator) a.self.top words a.self.height (search rules)), search rules)
