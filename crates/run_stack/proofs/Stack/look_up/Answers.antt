-- `run_stack::Stack::look_up` meets its contract. Assumes nothing.
use mathlib.Core.Path.{◌≡◌, refl, ap, ◌∙◌}
use mathlib.Core.List.{◌++◌}
use mir.Syntax.{w32}
use mir.Val.{to_z, of_z}
use Rattle.model.specs.Rules.Table.{table_word, area_rows}
use Rattle.word.proofs.Locals.{kept}
use Rattle.run_stack.proofs.Words.{view-one}
use borrow.Author.Rules.{rules}
use Rattle.run_stack.proofs.Stack.look_up.Goals as goal

pub returns : goal.returns
returns c =
    let a = c.args in
    let looked = table_word (area_rows a.table.now 0) in
    let w : to_z w32 (of_z w32 c.look_up-top.result) ≡ looked a.self.top =
    kept c.look_up-top.result c.look_up-top.type_inv ∙ c.look_up-top.ensures ∙
    ap looked (kept a.self.top c.struct_told-1.given.0.1) in
    (rw w (view-one looked a.self.top (a.self.near ++ a.self.far) a.self.height (search rules)), refl)
