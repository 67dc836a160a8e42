-- `run_stack::Stack::pop` meets its contract. Assumes nothing.
use mathlib.Core.Path.{◌≡◌, ◌∙◌}
use mathlib.Core.List.{◌++◌}
use Prim.Native.Nat.{◌+◌, ◌-◌}
use lib.IntN.{pos}
use lib.ListN.{get_or}
use mir.Syntax.{w32}
use mir.Val.{to_z, of_z}
use Rattle.word.proofs.Locals.{kept}
use Rattle.run_stack.proofs.Words.{view-pop}
use borrow.Author.Rules.{rules}
use Rattle.run_stack.proofs.Stack.pop.Goals as goal

pub returns : goal.returns
returns c =
    let b = c in
    let a = b.args in
    let words = a.self.near ++ a.self.far in
    let t : to_z w32 (of_z w32 a.self.top) ≡ a.self.top = kept a.self.top c.struct_told-1.given.0.1 in
    let u : to_z w32 (of_z w32 b.word_below-top.result) ≡ get_or words (a.self.height - 1) (pos 0) =
    kept b.word_below-top.result b.word_below-top.type_inv ∙ b.word_below-top.ensures in
    (rw (t, u) (view-pop a.self.top words a.self.height (search rules)), search rules)
