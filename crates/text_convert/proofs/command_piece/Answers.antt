-- `text_convert::command_piece` meets its contract. Assumes nothing.
use Prim.Native.Nat.{ℕ}
use mathlib.Core.Path.{sym, ◌∙◌}
use borrow.Author.Tests.{le-ltb}
use lib.ListN.{get_or-eq_default}
use Rattle.model.specs.Rules.Command.{declaration_at}
use Rattle.model.specs.Rules.Rewrite.{command_at}
use Rattle.text_command.proofs.Least.{from_one}
use Rattle.text_convert.proofs.command_piece.Goals as goal

pub returns-then-text-at : goal.returns-then-text-at
unfolding command_at declaration_at
returns-then-text-at c = rw (get_or-eq_default {A = ℕ} _ 0 c.if-text-at.true, le-ltb _ _ c.if-text-at.true)

pub returns-in-Some : goal.returns-in-Some
unfolding command_at
returns-in-Some c =
    let w = sym c.expression-width.ensures ∙ c.in-Some.is in
    rw (w, ← (c.operator_from.ensures ∙ from_one _ _)) c.operator_piece.ensures

pub returns-in-None : goal.returns-in-None
unfolding command_at
returns-in-None c =
    let w = sym c.expression-width.ensures ∙ c.in-None.is in
    rw (w, ← c.declaration_at-declaration.ensures, c.declaration_width.ensures)
