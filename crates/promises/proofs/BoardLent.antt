-- A load and a turn of a board that are lent any words: refused, they leave them. Assumes nothing.
use Prim.Native.Nat.{ℕ}
use mathlib.Core.List.{List}
use mathlib.Core.Path.{◌≡◌, sym, ap, ◌∙◌}
use lib.IntN.{ℤ}
use Rattle.board.specs.Board.{BoardEffect, load_of, Yield, turn_of}
use Rattle.board.specs.Events.{Scene}
use Rattle.board.specs.Record.{board_of, turn_done}
use Rattle.model.specs.Rules.Outcome.{refused}
use Rattle.model.specs.declared.Fault.{Fault}
use Rattle.board.proofs.Cases.{
  call_answer,
  LoadCase,
  load-stays,
  load_does,
  TurnCase,
  turn-stays,
  turn-idles,
  turn-takes,
  load-case,
  turn-case,
}
use Rattle.board.proofs.Stretch.{never}

module _ (numbers images : List ℕ) where
  abbrev on : List ℤ → Scene
  on words = record { board = board_of numbers; images = images; state = words }

  pub load-leaves : (k start size : ℕ) (words : List ℤ) (f : Fault) →
      (load_of (board_of numbers) images words k start size).answer ≡ refused f →
      (load_of (board_of numbers) images words k start size).left ≡ words
  load-leaves k start size words f h = kept (load-case (on words) k start size)
    where
      kept : LoadCase (on words) k start size → (load_of (board_of numbers) images words k start size).left ≡ words
      kept (load-stays g e) = ap (λ (c : BoardEffect ℕ). c.left) e
      kept (load_does lt w n r e) = absurd (never n f (sym (ap call_answer e) ∙ h))

  pub turn-leaves : (samples words : List ℤ) (f : Fault) →
      turn_done (turn_of (board_of numbers) images words samples).answer ≡ refused f →
      (turn_of (board_of numbers) images words samples).left ≡ words
  turn-leaves samples words f h = kept (turn-case (on words) samples)
    where
      kept : TurnCase (on words) samples → (turn_of (board_of numbers) images words samples).left ≡ words
      kept (turn-stays g e) = ap (λ (c : BoardEffect Yield). c.left) e
      kept (turn-idles n e) = ap (λ (c : BoardEffect Yield). c.left) e
      kept (turn-takes k n w v e) =
          absurd (never 0 f (sym (ap (λ (c : BoardEffect Yield). turn_done c.answer) e) ∙ h))
