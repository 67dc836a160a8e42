-- `text_command::operator_from` meets its contract. Assumes nothing.
use Prim.Native.Nat.{ℕ, ◌≤◌, ◌<◌}
use mathlib.Core.List.{List}
use mathlib.Core.Path.{◌≡◌, sym, ap, ◌∙◌}
use native.Mathlib.Omega.{arith}
use borrow.Author.Tests.{le-ltb}
use lib.ListN.{length}
use Rattle.model.specs.Rules.Command.{operator_of, operator_at}
use Rattle.model.specs.Rules.Word.{byte_at}
use Rattle.model.specs.declared.Operator.{Operator}
use Rattle.model.specs.declared.Operator.TheVariants as Operator
use Rattle.model.specs.declared.Unary.TheVariants.{Negate}
use Rattle.text_command.specs.Operator.{if_or_table, restricted, operator_from}
use Rattle.text_command.proofs.Least.{constant-kept, plain-kept, plain-allowed, sampled-bounded, if-or-table-kept}
use Rattle.text_command.proofs.Operands.{at_byte, plain-is, sampled-is, binary-is, if-or-table-is, unknown-is}
use borrow.Author.Rules.{rules}
use Rattle.text_command.proofs.operator_from.Goals as goal

-- The operator of a byte that is there, restricted.
here : (least : ℕ) (text : List ℕ) (at : ℕ) (o : Operator) → at < length text → o ≡ operator_of (byte_at text at) text at →
    restricted least o ≡ operator_from least text at
unfolding operator_from
here least text at o lt e = ap (restricted least) (e ∙ sym (at_byte text at lt))

-- After CONST come the reads.
past : {b : ℕ} → 0x20 ≤ b → (b ≡ 0x20 → ⊥) → 0x21 ≤ b
past l n = omega (arith, n)

pub returns-then-text-at : goal.returns-then-text-at
unfolding operator_from operator_at
returns-then-text-at c = rw (le-ltb _ _ c.if-text-at.true)

pub sampled_read-requires : goal.sampled_read-requires
sampled_read-requires c =
    let c3 = c in (
      c3.if-text-at.false,
      rw c.kind_of-in-35.ensures
          (sampled-bounded _ _ (omega (arith, c.in-35.if-byte-lt35-own.false)) (omega (arith, c.in-35.if-byte-lt38-own.true))),
    )

pub returns-in-32 : goal.returns-in-32
returns-in-32 c =
    let c3 = c in
    let a = c3.args in
    c.constant_at.ensures ∙ constant-kept a.least _ _ ∙
    here _ _ _ (operator_of 0x20 a.text.now a.at) c3.if-text-at.false (rw c.in-32.is)

pub returns-in-56 : goal.returns-in-56
unfolding operator_of
returns-in-56 c = here _ _ _ (Operator.Unary Negate) c.if-text-at.false (rw c.in-56.is)

pub returns-in-33 : goal.returns-in-33
returns-in-33 c =
    let c3 = c in
    let c6 = c in
    let a = c6.args in
    let byte = byte_at a.text.now a.at in
    let low : 0x21 ≤ byte = past c3.in-33.if-byte-lt32-own.false c3.in-33.in_default-own.rest.0.1 in
    let high : byte ≤ 0x22 = omega (arith, c.in-33.if-byte-lt35-own.true) in
    (rw c.kind_of.ensures at c.plain_read.ensures) ∙
    plain-kept _ _ _ _ (plain-allowed _ _ low high _) ∙
    here _ _ _ _ c6.if-text-at.false (sym (plain-is _ _ _ low high))

pub returns-in-35 : goal.returns-in-35
returns-in-35 c =
    let c3 = c in
    let c7 = c in
    (rw c.kind_of-in-35.ensures at c.sampled_read.ensures) ∙
    here _ _ _ _ c7.if-text-at.false
    (sym (sampled-is _ _ _ (omega (arith, c3.in-35.if-byte-lt35-own.false)) (omega (arith, c.in-35.if-byte-lt38-own.true))))

pub returns-in-48 : goal.returns-in-48
returns-in-48 c =
    let c8 = c in
    here _ _ _ (Operator.Binary c.binary_of.result) c8.if-text-at.false
    (ap Operator.Binary c.binary_of.ensures ∙
    sym (binary-is _ _ _ (omega (arith, c.in-48.if-byte-lt48-own.false)) (omega (arith, c.in-48.if-byte-lt55-own.true))))

pub returns-in-58 : goal.returns-in-58
returns-in-58 c =
    let c4 = c in
    let c8 = c in
    let c10 = c in
    let byte = byte_at c10.args.text.now c10.args.at in
    c.if_or_table.ensures ∙ if-or-table-kept _ byte ∙
    here _ _ _ (if_or_table byte) c10.if-text-at.false
    (sym (if-or-table-is _ _ byte (omega (arith, c.in-58.if-byte-lt58-own.false)) (omega (arith, c.in-58.if-byte-lt60-own.true))))

pub returns-in_default : goal.returns-in_default
returns-in_default c =
    let c3 = c in
    let no = c.in_default.in_default-own.rest in
    here _ _ _ Operator.Unknown c3.if-text-at.false
    (sym (unknown-is _ _ _ (λ l h. no.0.1 (omega arith)) (λ l h. omega arith) no.1 (λ e. omega arith) (λ e. omega arith)))

pub returns-in_default-2 : goal.returns-in_default-2
returns-in_default-2 c =
    let c4 = c in
    here _ _ _ Operator.Unknown c4.if-text-at.false
    (sym (unknown-is _ _ _ (λ l h. omega arith) (λ l h. omega arith) c4.in_default.in_default-own.rest.1 (λ e. omega arith) (λ e. omega arith)))

pub returns-in_default-3 : goal.returns-in_default-3
returns-in_default-3 c =
    let c6 = c in
    let above = c.in_default.if-byte-lt55-own.false in
    let below = c.in_default.if-byte-lt58-own.true in
    here _ _ _ Operator.Unknown c6.if-text-at.false
    (sym (unknown-is _ _ _ (λ l h. omega (arith, above)) (λ l h. omega (arith, above)) c6.in_default.in_default-own.rest.1
    (λ e. omega (arith, below)) (λ e. omega (arith, below))))

pub returns-in_default-4 : goal.returns-in_default-4
returns-in_default-4 c =
    let c3 = c in
    let c7 = c in
    let above = c.in_default.if-byte-lt60-own.false in
    here _ _ _ Operator.Unknown c7.if-text-at.false
    (sym (unknown-is _ _ _ (λ l h. omega (arith, above)) (λ l h. omega (arith, above)) c7.in_default.in_default-own.rest.1
    (λ e. omega (arith, above)) (λ e. omega (arith, above))))
