-- `run_stack::Stack::binary_with` meets its contract. Assumes nothing.
use mathlib.Core.Path.{◌≡◌, refl, ap₂, ◌∙◌}
use mathlib.Core.List.{◌++◌}
use Prim.Native.Nat.{◌+◌}
use mir.Syntax.{w32}
use mir.Val.{to_z, of_z}
use mir.Facts.{to_z-of_z}
use Rattle.model.specs.Rules.Word.{binary_word}
use Rattle.word.proofs.Locals.{kept}
use Rattle.run_stack.proofs.Words.{view-with}
use borrow.Author.Rules.{rules}
use Rattle.run_stack.proofs.Stack.binary_with.Goals as goal

pub returns : goal.returns
returns c =
    let s = c in
    let a = s.args in
    let w : to_z w32 (of_z w32 c.binary-top.result) ≡ binary_word a.operator a.self.top a.w =
    kept c.binary-top.result c.binary-top.type_inv ∙ c.binary-top.ensures ∙
    ap₂ (binary_word a.operator) (kept a.self.top c.struct_told-1.given.0.1) (to_z-of_z s.ranges.w) in (
      rw w (view-with (binary_word a.operator) a.self.top a.w (a.self.near ++ a.self.far) a.self.height
          (search rules)),
      refl,
    )
