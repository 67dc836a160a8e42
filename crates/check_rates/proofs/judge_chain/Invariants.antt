-- `check_rates::judge_chain` meets its contract. Assumes nothing.
use Prim.Native.Nat.{ℕ, ◌+◌, ◌*◌, ◌-◌, ◌≤◌, ◌<◌}
use mathlib.Core.List.{List, [], ◌∷◌}
use mathlib.Core.Path.{◌≡◌, refl, ap, subst}
use native.Mathlib.Omega.{arith}
use lib.ListN.{length, get_or}
use borrow.Author.Rules.{rules}
use Rattle.model.specs.Rules.Outcome.{lowest}
use Rattle.model.specs.Rules.Program.{Program, Link}
use Rattle.model.specs.Rules.Rates.{link_faults}
use Rattle.text_program.specs.Tables.{chain_at, Stands}
use Rattle.text_program.specs.declared.Tables.{Tables}
use Rattle.text_program.proofs.ByIndex.{no_link, few-chains, chain-inside}
use Rattle.text_program.proofs.InTurn.{Left, check-starts, check-passes, check-refuses, check-ends, links-in-turn}
use Rattle.check_rates.specs.Rates.{chain_rates}
use Rattle.check_rates.proofs.Judging.{link-at-place, chains-are, length-is, link-seen, link-inside, one_link}
use Rattle.check_rates.proofs.judge_chain.Given as goal

-- What is left of the LINKs of chain x from LINK j on.
abbrev pub Rest : Program → ℕ → ℕ → Type 0
Rest p x j =
    Left (λ (l : Link). l.place ∷ []) (λ i l. link_faults p l) (lowest (chain_rates p (chain_at p x))) (chain_at p x).links j

abbrev pub invariant-loop-i : goal.invariant-loop-i
invariant-loop-i l =
    (l.i ≤ l.links) × ((p : Program) (reads : List ℕ) → Stands l.text reads l.tables p → Rest p l.chain l.i)
