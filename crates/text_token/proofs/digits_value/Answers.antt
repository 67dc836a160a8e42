-- `text_token::digits_value` meets its contract. Assumes nothing.
use Prim.Native.Nat.{ℕ, ◌+◌, ◌*◌, ◌-◌, ◌^◌, min}
use mathlib.Core.Path.{◌≡◌, sym, ap, ◌∙◌}
use native.Mathlib.Omega.{arith}
use lib.ListN.{drop}
use Rattle.model.specs.Rules.TextForm.{number_from}
use Rattle.model.specs.Rules.Word.{byte_at}
use Rattle.text_token.specs.Scanning.{held_number}
use Rattle.text_token.proofs.Scans.{digits-next, digits_low, digits-high, digits-end}
use Rattle.text_token.proofs.digits_value.Goals as goal

pub returns-then-d-lt48 : goal.returns-then-d-lt48
returns-then-d-lt48 c =
    sym (c.loop-byte.invariant.1 ∙ digits_low c.args.token.now c.loop-byte.v c.loop-byte.byte-index (omega arith)
    (omega (arith, c.from_byte-d.ensures.0)))

pub returns-then-d-gt57 : goal.returns-then-d-gt57
returns-then-d-gt57 c =
    sym (c.loop-byte.invariant.1 ∙ digits-high c.args.token.now c.loop-byte.v c.loop-byte.byte-index (omega arith)
    (omega (arith, c.from_byte-d.ensures.0)))

pub loop-byte-preserved : goal.loop-byte-preserved
loop-byte-preserved c =
    let token = c.args.token.now in
    let i = c.loop-byte.byte-index in
    let same : min (10 * c.loop-byte.v + (byte_at token i - 48)) (2 ^ 32) ≡ c.min-v.result = rw
    (sym c.from_byte-d.ensures.0) (sym c.min-v.ensures) in (
      omega arith,
      c.loop-byte.invariant.1 ∙
          digits-next token c.loop-byte.v i (omega arith) (omega (arith, c.from_byte-d.ensures.0))
          (omega (arith, c.from_byte-d.ensures.0)) ∙
          ap (λ (n : ℕ). held_number (number_from n (drop (i + 1) token))) same,
    )

pub returns : goal.returns
returns c =
    sym (c.loop-byte.invariant.1 ∙ digits-end c.args.token.now c.loop-byte.v c.loop-byte.byte-index (omega arith)
    c.loop-byte.invariant.0)
