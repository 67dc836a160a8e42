-- `text_list::put_letters` meets its contract. Assumes nothing.
use Prim.Native.Nat.{ℕ, ◌+◌, ◌≤◌}
use mathlib.Core.List.{◌∷◌, []}
use mathlib.Core.Path.{refl}
use native.Mathlib.Omega.{arith}
use lib.ListN.{length, drop, get_or-eq_default}
use Rattle.model.specs.Rules.Word.{byte_at}
use Rattle.model.proofs.Basics.Left.{Parts, starts, room, turn, done}
use Rattle.text_keyword.specs.Cells.{letters_of}
use Rattle.text_keyword.proofs.Finding.{letters-end}
use Rattle.text_list.proofs.Writes.{letters-parts}
use Rattle.text_list.proofs.put_letters.Goals as goal
use Rattle.text_list.proofs.put_letters.Goals.{Else-letter-eq0}

parts : (c : Else-letter-eq0) → let i = c.loop-letter.letter-index in
    let letters = c.args.letters.now in
    Parts (letters_of (drop i letters)) (byte_at letters i ∷ []) (letters_of (drop (i + 1) letters))
parts c = letters-parts c.args.letters.now c.loop-letter.letter-index c.if-letter-eq0.false

space : (c : Else-letter-eq0) → c.loop-letter.end + 1 ≤ length c.loop-letter.out
space c = room (parts c) c.loop-letter.invariant c.requires

pub loop-letter-preserved : goal.loop-letter-preserved
loop-letter-preserved c =
    turn (parts (goal.at.loop-letter-preserved c).Else-letter-eq0) c.loop-letter.invariant (record { holds = refl; ends = refl })

pub returns-then-letter-eq0 : goal.returns-then-letter-eq0
returns-then-letter-eq0 c =
    done (letters-end c.args.letters.now c.loop-letter.letter-index c.if-letter-eq0.true) c.loop-letter.invariant

pub returns : goal.returns
returns c =
    done (letters-end c.args.letters.now c.loop-letter.letter-index
    (get_or-eq_default {A = ℕ} c.args.letters.now 0 (omega arith))) c.loop-letter.invariant

pub loop-letter-init : goal.loop-letter-init
loop-letter-init c = starts

pub bounds-out-end : goal.bounds-out-end
bounds-out-end c = omega (arith, space (goal.at.bounds-out-end c).Else-letter-eq0)

pub overflow_add-end : goal.overflow_add-end
overflow_add-end c = omega (arith, space (goal.at.overflow_add-end c).Else-letter-eq0, c.loop-letter.invariant.size)
