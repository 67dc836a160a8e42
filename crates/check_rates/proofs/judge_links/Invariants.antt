-- `check_rates::judge_links` meets its contract. Assumes nothing.
use Prim.Native.Nat.{ℕ, ◌-◌, ◌≤◌}
use mathlib.Core.List.{List}
use mathlib.Core.Path.{refl, subst}
use native.Mathlib.Omega.{arith}
use borrow.Author.Rules.{rules}
use Rattle.model.specs.Rules.Outcome.{lowest}
use Rattle.model.specs.Rules.Program.{Program}
use Rattle.text_program.specs.Tables.{no_chain, Stands}
use Rattle.text_program.proofs.ByIndex.{few-chains}
use Rattle.text_program.proofs.InTurn.{Left, check-starts, check-passes, check-refuses, check-ends}
use Rattle.text_program.proofs.Rising.{chain_places, rising-program}
use Rattle.check_rates.specs.Rates.{chain_rates, link_rates}
use Rattle.check_rates.proofs.Judging.{chain-at, chains-are}
use Rattle.check_rates.proofs.judge_links.Given as goal

-- What is left of the chains from x on.
abbrev pub Rest : Program → ℕ → Type 0
Rest p x = Left chain_places (λ j c. chain_rates p c) (lowest (link_rates p)) p.chains x

abbrev pub invariant-loop-chain : goal.invariant-loop-chain
invariant-loop-chain l =
    (l.chain ≤ l.tables.chains) × ((p : Program) (reads : List ℕ) → Stands l.text reads l.tables p → Rest p l.chain)
