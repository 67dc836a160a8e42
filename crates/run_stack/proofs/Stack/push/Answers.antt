-- `run_stack::Stack::push` meets its contract. Assumes nothing.
use mathlib.Core.Path.{◌≡◌, refl}
use mir.Syntax.{w32}
use mir.Val.{to_z, of_z}
use mir.Facts.{to_z-of_z}
use Rattle.word.proofs.Locals.{kept}
use Rattle.run_stack.proofs.Words.{view-near}
use borrow.Author.Rules.{rules}
use Rattle.run_stack.proofs.Stack.push.Goals as goal

pub returns : goal.returns
returns c =
    let a = c.args in
    let w : to_z w32 (of_z w32 a.w) ≡ a.w = to_z-of_z c.ranges.w in
    let t : to_z w32 (of_z w32 a.self.top) ≡ a.self.top = kept a.self.top c.struct_told-1.given.0.1 in
    (rw (w, t) (view-near a.self.top a.self.near a.self.far a.self.height a.w (search rules)), refl)
