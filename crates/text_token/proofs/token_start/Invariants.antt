-- `text_token::token_start` meets its contract. Assumes nothing.
use mathlib.Core.Path.{◌≡◌}
use Rattle.model.specs.Rules.TextForm.{between}
use Rattle.text_token.specs.Scanning.{scan_at, tokens_at}
use Rattle.text_token.proofs.token_start.Given as goal

abbrev pub invariant-loop-i : goal.invariant-loop-i
invariant-loop-i l = tokens_at l.text l.at between ≡ tokens_at l.text l.i (scan_at l.comment)
