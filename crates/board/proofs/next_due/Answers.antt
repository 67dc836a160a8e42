-- `board::next_due` meets its contract. Assumes nothing.
use Rattle.std.specs.Prelude.{ℕ, Option, Some, None}
use Prim.Native.Nat.{◌+◌, ◌%◌}
use mathlib.Core.Path.{◌≡◌, sym, ◌∙◌}
use Rattle.board.specs.Board.{next_due}
use Rattle.board.specs.Board.{Board}
use Rattle.board.specs.Record.{board_of, first_due}
use Rattle.board.proofs.Next.{next-after, next-again, next-nowhere}
use Rattle.board.proofs.next_due.Goals as goal

pub returns-in-Some : goal.returns-in-Some
unfolding board_of
returns-in-Some c = sym (next-after _ _ (sym c.first_due.ensures ∙ c.in-Some.is))

pub returns-in-None : goal.returns-in-None
unfolding board_of
returns-in-None c =
    let b = board_of c.args.words.now in
    again b (sym c.first_due.ensures ∙ c.in-None.is) _ c.first_due-in-None.ensures
  where
    again : (b : Board) → first_due b (b.last % 4 + 1) ≡ None → (f : Option ℕ) → f ≡ first_due b 0 → f ≡ next_due b
    again b none (Some k) e = sym (next-again b k none (sym e))
    again b none None e = sym (next-nowhere b (sym e))
