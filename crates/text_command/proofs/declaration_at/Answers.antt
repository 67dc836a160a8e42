-- `text_command::declaration_at` meets its contract. Assumes nothing.
use Prim.Native.Nat.{ℕ, ◌<◌}
use mathlib.Core.List.{List}
use mathlib.Core.Logic.{inl, inr}
use mathlib.Core.Path.{◌≡◌, refl, sym, ◌∙◌}
use native.Mathlib.Omega.{arith}
use borrow.Author.Tests.{lt-ltb, le-ltb, ne_eqb}
use lib.ListN.{length}
use Rattle.model.specs.Rules.Command.{declaration_of, declaration_at}
use Rattle.model.specs.Rules.Word.{byte_at}
use borrow.Author.Rules.{rules}
use Rattle.text_command.proofs.declaration_at.Goals as goal
use Rattle.text_command.proofs.declaration_at.Goals.{Else-text-at}

of-byte : (text : List ℕ) (at : ℕ) → at < length text → declaration_at text at ≡ declaration_of (byte_at text at) text at
unfolding declaration_at
of-byte text at lt = rw (lt-ltb at (length text) lt)

-- the text at hand, after the test of its length
abbrev text : Else-text-at → List ℕ
text c = c.args.text.now

inside : (c : Else-text-at) →
    declaration_at (text c) c.args.at ≡
    declaration_of (byte_at (text c) c.args.at) (text c) c.args.at
inside c = of-byte _ _ c.if-text-at.false

pub returns-then-text-at : goal.returns-then-text-at
unfolding declaration_at
returns-then-text-at c =
    let a = c.args in
    rw (le-ltb a.at (length a.text.now) (omega arith))

pub returns-in-0 : goal.returns-in-0
unfolding declaration_of
returns-in-0 c = sym (inside (goal.at.returns-in-0 c).Else-text-at ∙ rw c.in-0.is)

pub returns-in-16 : goal.returns-in-16
returns-in-16 c = c.signal_at.ensures ∙ sym (inside (goal.at.returns-in-16 c).Else-text-at ∙ rw c.in-16.is)

pub returns-in-17 : goal.returns-in-17
returns-in-17 c = c.signal_at-in-17.ensures ∙ sym (inside (goal.at.returns-in-17 c).Else-text-at ∙ rw c.in-17.is)

pub returns-in-18 : goal.returns-in-18
returns-in-18 c = c.latency_at.ensures ∙ sym (inside (goal.at.returns-in-18 c).Else-text-at ∙ rw c.in-18.is)

pub returns-in-19 : goal.returns-in-19
returns-in-19 c = c.link_at.ensures ∙ sym (inside (goal.at.returns-in-19 c).Else-text-at ∙ rw c.in-19.is)

pub returns-in-20 : goal.returns-in-20
returns-in-20 c = c.cap_at.ensures ∙ sym (inside (goal.at.returns-in-20 c).Else-text-at ∙ rw c.in-20.is)

pub returns-in-21 : goal.returns-in-21
returns-in-21 c = c.tag_at.ensures ∙ sym (inside (goal.at.returns-in-21 c).Else-text-at ∙ rw c.in-21.is)

pub returns-in-22 : goal.returns-in-22
returns-in-22 c = c.row_at.ensures ∙ sym (inside (goal.at.returns-in-22 c).Else-text-at ∙ rw c.in-22.is)

pub returns-in_default : goal.returns-in_default
unfolding declaration_of
returns-in_default c =
    let e = c in
    let b = byte_at (text (goal.at.returns-in_default e).Else-text-at) e.args.at in
    let no = c.in_default.in_default-own.rest in
    sym (inside (goal.at.returns-in_default e).Else-text-at ∙
    simp (
      ne_eqb b 0x00 no.0.0.0.0.0.0.0.1,
      ne_eqb b 0x10 no.0.0.0.0.0.0.1,
      ne_eqb b 0x11 no.0.0.0.0.0.1,
      ne_eqb b 0x12 no.0.0.0.0.1,
      ne_eqb b 0x13 no.0.0.0.1,
      ne_eqb b 0x14 no.0.0.1,
      ne_eqb b 0x15 no.0.1,
      ne_eqb b 0x16 no.1,
    ))

pub signal_at-requires : goal.signal_at-requires
signal_at-requires c = (search rules, inl refl)

pub signal_at-requires-in-17 : goal.signal_at-requires-in-17
signal_at-requires-in-17 c = (search rules, inr refl)
