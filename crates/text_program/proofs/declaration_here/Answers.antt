-- `text_program::declaration_here` meets its contract. Assumes nothing.
use Prim.Native.Nat.{ℕ, ◌<◌}
use borrow.Author.Tests.{lt-ltb, le-ltb, ne_eqb}
use lib.ListN.{length}
use mathlib.Core.Bool.{Bool, true, false, not}
use mathlib.Core.List.{List}
use mathlib.Core.Path.{◌≡◌, sym, ap, ◌∙◌}
use Rattle.model.specs.Rules.Outcome.{◌▷◌, provided}
use Rattle.model.specs.Rules.Program.{Program, room_for, declaration_here}
use Rattle.model.specs.Rules.Word.{byte_at}
use Rattle.basics.specs.Judgement.{judgement_of}
use Rattle.text_program.proofs.declaration_here.Goals as goal
use Rattle.text_program.proofs.declaration_here.Goals.{Else-text-at}

not-not : {a b : Bool} → a ≡ not b → b ≡ not a
not-not {b = true} e = rw e
not-not {b = false} e = rw e

of-byte : (text : List ℕ) (at : ℕ) (p : Program) → at < length text → declaration_here text at p ≡ room_for at p (byte_at text at)
unfolding declaration_here provided ◌▷◌
of-byte text at p lt = rw (lt-ltb at (length text) lt)

-- the text at hand, after the test of its length
module _ (c : Else-text-at) where
  abbrev text : List ℕ
  text = c.args.text.now

  abbrev at : ℕ
  at = c.args.at

  inside : (p : Program) → judgement_of (declaration_here text at p) ≡ judgement_of (room_for at p (byte_at text at))
  inside p = ap judgement_of (of-byte text at p c.if-text-at.false)

pub returns-then-text-at : goal.returns-then-text-at
unfolding judgement_of declaration_here provided ◌▷◌
returns-then-text-at c = λ p k. rw (le-ltb _ _ c.if-text-at.true) c.refuse.ensures

pub returns-in-0 : goal.returns-in-0
unfolding judgement_of room_for
returns-in-0 c = λ p k. sym (inside (goal.at.returns-in-0 c).Else-text-at p ∙ rw c.in-0.is)

pub returns-in-16 : goal.returns-in-16
unfolding room_for
returns-in-16 c = λ p k.
    (rw (← k.signals-are) at c.judge.ensures) ∙ sym (inside (goal.at.returns-in-16 c).Else-text-at p ∙ rw c.in-16.is)

pub returns-in-17 : goal.returns-in-17
unfolding room_for
returns-in-17 c = λ p k.
    (rw (← k.signals-are) at c.judge-in-17.ensures) ∙ sym (inside (goal.at.returns-in-17 c).Else-text-at p ∙ rw c.in-17.is)

pub returns-in-18 : goal.returns-in-18
unfolding room_for
returns-in-18 c = λ p k.
    (rw (← k.chains-are) at c.judge-in-18.ensures) ∙ sym (inside (goal.at.returns-in-18 c).Else-text-at p ∙ rw c.in-18.is)

pub returns-in-20 : goal.returns-in-20
unfolding room_for
returns-in-20 c = λ p k.
    (rw (not-not c.is_none.ensures, ← k.cap-is) at c.judge-in-20.ensures) ∙
    sym (inside (goal.at.returns-in-20 c).Else-text-at p ∙ rw c.in-20.is)

pub returns-in-21 : goal.returns-in-21
unfolding judgement_of room_for
returns-in-21 c = λ p k. sym (inside (goal.at.returns-in-21 c).Else-text-at p ∙ rw c.in-21.is)

pub returns-in-22 : goal.returns-in-22
unfolding room_for
returns-in-22 c = λ p k.
    (rw (← k.rows_are) at c.judge-in-22.ensures) ∙ sym (inside (goal.at.returns-in-22 c).Else-text-at p ∙ rw c.in-22.is)

pub returns-in_default : goal.returns-in_default
unfolding judgement_of room_for
returns-in_default c = λ p k.
    let b = byte_at (text (goal.at.returns-in_default c).Else-text-at) (at (goal.at.returns-in_default c).Else-text-at) in
    let no = c.in_default.in_default-own.rest in
    c.refuse-in_default.ensures ∙
    sym (inside (goal.at.returns-in_default c).Else-text-at p ∙
    simp (
      ne_eqb b 0x00 no.0.0.0.0.0.0.1,
      ne_eqb b 0x10 no.0.0.0.0.0.1,
      ne_eqb b 0x11 no.0.0.0.0.1,
      ne_eqb b 0x12 no.0.0.0.1,
      ne_eqb b 0x14 no.0.0.1,
      ne_eqb b 0x15 no.0.1,
      ne_eqb b 0x16 no.1,
    ))
