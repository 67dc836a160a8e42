-- `check_latency::judge_chains` meets its contract. Assumes nothing.
use Prim.Native.Nat.{ℕ, ◌-◌, ◌<◌}
use mathlib.Core.Bool.{cond}
use mathlib.Core.List.{List, [], ◌∷◌}
use mathlib.Core.Path.{refl, sym, ap, subst, ◌∙◌}
use native.Mathlib.Omega.{arith}
use lib.ListN.{length}
use borrow.Author.Rules.{rules}
use borrow.Author.Tests.{not-true, not-false}
use Rattle.model.specs.Rules.Latency.{keeps, timely}
use Rattle.model.specs.Rules.Outcome.{fault}
use Rattle.model.specs.Rules.Program.{Program, Chain}
use Rattle.model.specs.Rules.Schedule.{Schedule}
use Rattle.model.specs.declared.Fault.{Fault}
use Rattle.text_program.specs.Tables.{no_chain, chain_at}
use Rattle.text_program.proofs.ByIndex.{few-chains}
use Rattle.text_program.proofs.InTurn.{Left, check-starts, check-passes, check-refuses, check-ends}
use Rattle.text_program.proofs.Rising.{chain_places, rising-program}
use Rattle.check_links.proofs.Linking.{lat-at, lat-judged}
use Rattle.check_latency.specs.Timely.{Timed}
use Rattle.check_latency.proofs.judge_chains.Given as goal

-- The fault of a chain, if it has one.
abbrev pub untimely : Program → Schedule → ℕ → ℕ → Chain → List Fault
untimely p s h j c = cond (keeps p s h c) [] (fault 16 c.place ∷ [])

-- What is left of the chains from x on.
abbrev pub Rest : Program → Schedule → ℕ → ℕ → Type 0
Rest p s h x = Left chain_places (untimely p s h) (timely p s h) p.chains x

abbrev pub invariant-loop-chain : goal.invariant-loop-chain
invariant-loop-chain l =
    (p : Program) (s : Schedule) → Timed l.text l.reads l.tables l.periods l.phases l.h p s → Rest p s l.h l.chain
