-- `run_stack::Stack::push_far` meets its contract. Assumes nothing.
use mathlib.Core.Path.{◌≡◌, refl}
use native.Mathlib.Omega.{arith}
use lib.ListN.{length}
use mir.Syntax.{w32}
use mir.Val.{to_z, of_z}
use mir.Facts.{to_z-of_z}
use Rattle.word.proofs.Locals.{kept}
use Rattle.run_stack.proofs.Words.{view-far}
use borrow.Author.Rules.{rules}
use Rattle.run_stack.proofs.Stack.push_far.Goals as goal

pub returns : goal.returns
returns c =
    let a = c.args in
    let w : to_z w32 (of_z w32 a.w) ≡ a.w = to_z-of_z c.ranges.w in
    let t : to_z w32 (of_z w32 a.self.top) ≡ a.self.top = kept a.self.top c.struct_told-1.given.0.1 in
    let f : length a.self.far ≡ 24 = search rules in (
      rw (w, t) (view-far a.self.top a.self.near a.self.far 8 a.self.height a.w (search rules) (search rules)
          (omega (arith, f, c.requires.1))),
      refl,
    )
