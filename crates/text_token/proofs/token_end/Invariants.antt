-- `text_token::token_end` meets its contract. Assumes nothing.
use Prim.Native.Nat.{◌-◌}
use mathlib.Core.Path.{◌≡◌}
use lib.ListN.{take, drop}
use Rattle.model.specs.Rules.TextForm.{between, inside}
use Rattle.text_token.specs.Scanning.{tokens_at}
use Rattle.text_token.proofs.token_end.Given as goal

abbrev pub invariant-loop-i : goal.invariant-loop-i
invariant-loop-i l =
    tokens_at l.text l.start between ≡ tokens_at l.text l.i (inside l.start (take (l.i - l.start) (drop l.start l.text)))
