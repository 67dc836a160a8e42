-- `text_command::operator_at` meets its contract. Assumes nothing.
use Prim.Native.Nat.{ℕ, ◌≤◌, ◌<◌}
use mathlib.Core.Logic.{◌⊎◌, inl, inr}
use mathlib.Core.Path.{◌≡◌, sym, ap, ◌∙◌}
use native.Mathlib.Omega.{arith}
use Rattle.model.specs.Rules.Command.{operator_of, operator_at}
use Rattle.model.specs.Rules.Word.{byte_at}
use Rattle.model.specs.declared.Operator.TheVariants as Operator
use Rattle.text_command.proofs.Operands.{at_byte, binary-is, if-or-table-is}
use Rattle.text_command.proofs.Standing.{stands-inside, stands_read, stands-binary}
use borrow.Author.Rules.{rules}
use Rattle.text_command.proofs.operator_at.Goals as goal
use Rattle.text_command.proofs.operator_at.Goals.{Start}

-- the operator of the byte, which is there
here : (s : Start) → let a = s.args in
    operator_of (byte_at a.text.now a.at) a.text.now a.at ≡ operator_at a.text.now a.at
here s = sym (at_byte _ _ (stands-inside s.requires))

-- what is left for a binary operator: below the reads, between them and IF, or above TABLE
abbrev Left : ℕ → Type 0
Left b = (0x21 ≤ b → b ≤ 0x25 → ⊥) × (b ≡ 0x3A → ⊥) × (b ≡ 0x3B → ⊥)

left : {A B C : Type 0} (b : ℕ) → A ⊎ (B ⊎ C) → (A → b < 0x21) → (B → (0x25 < b) × (b < 0x3A)) → (C → 0x3B < b) → Left b
left b (inl t) f g h = (λ l m. omega (arith, f t), λ e. omega (arith, f t), λ e. omega (arith, f t))
left b (inr (inl t)) f g h = (λ l m. omega (arith, (g t).0), λ e. omega (arith, (g t).1), λ e. omega (arith, (g t).1))
left b (inr (inr t)) f g h = (λ l m. omega (arith, h t), λ e. omega (arith, h t), λ e. omega (arith, h t))

pub standing_read-requires : goal.standing_read-requires
standing_read-requires c =
    let s = c in
    stands_read s.requires (omega (arith, c.in-33.if-byte-lt32-own.false)) (omega (arith, c.in-33.if-byte-lt38-own.true))

pub returns-in-32 : goal.returns-in-32
returns-in-32 c =
    let s = c in
    c.constant_at.ensures ∙ ap (λ b. operator_of b s.args.text.now s.args.at) (sym c.in-32.is) ∙ here (goal.at.returns-in-32 s).Start

pub returns-in-56 : goal.returns-in-56
unfolding operator_of
returns-in-56 c = let h = here (goal.at.returns-in-56 c).Start in (rw c.in-56.is at h)

pub returns-in-58 : goal.returns-in-58
returns-in-58 c =
    let s = c in
    c.if_or_table.ensures ∙
    sym (if-or-table-is _ _ _ (omega (arith, c.in-58.if-byte-lt58-own.false)) (omega (arith, c.in-58.if-byte-lt60-own.true))) ∙ here (goal.at.returns-in-58 s).Start

pub returns-in_default : goal.returns-in_default
returns-in_default c =
    let s = c in
    let no = c.in_default-1.rest in
    let byte = byte_at s.args.text.now s.args.at in
    let rest = left byte c.in_default.branch-raw (λ t. omega (arith, t.if-byte-lt32-1.true))
    (λ p. (omega (arith, p.if-byte-lt38-1.false), omega (arith, p.if-byte-lt58-1.true))) (λ p. omega (arith, p.if-byte-lt60-1.false)) in
    let r = stands-binary s.requires no.0.1 rest.0 no.1 rest.1 rest.2 in
    ap Operator.Binary c.binary_of.ensures ∙ sym (binary-is _ _ byte r.0 r.1) ∙ here (goal.at.returns-in_default s).Start

pub bounds-text-at : goal.bounds-text-at
bounds-text-at c = stands-inside c.requires

pub constant_at-requires : goal.constant_at-requires
constant_at-requires c = stands-inside c.requires

pub returns-in-33 : goal.returns-in-33
returns-in-33 c = c.standing_read.ensures
