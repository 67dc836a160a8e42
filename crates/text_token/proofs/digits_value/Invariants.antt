-- `text_token::digits_value` meets its contract. Assumes nothing.
use Prim.Native.Nat.{◌^◌, ◌≤◌}
use mathlib.Core.Path.{◌≡◌}
use lib.ListN.{drop}
use Rattle.model.specs.Rules.TextForm.{number_from}
use Rattle.text_token.specs.Scanning.{held_number}
use Rattle.text_token.proofs.digits_value.Given as goal

abbrev pub invariant-loop-byte : goal.invariant-loop-byte
invariant-loop-byte l =
    (l.v ≤ 2 ^ 32) × (held_number (number_from 0 l.token) ≡ held_number (number_from l.v (drop l.byte-index l.token)))
