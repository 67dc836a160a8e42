-- `check_links::check_links` meets its contract. Assumes nothing.
use Rattle.std.specs.Prelude.{Result}
use Prim.Native.Nat.{ℕ, ◌-◌, ◌<◌}
use mathlib.Core.Bool.{cond}
use mathlib.Core.List.{List, [], ◌∷◌}
use mathlib.Core.Path.{◌≡◌, refl, sym, ap, subst, ◌∙◌}
use native.Mathlib.Omega.{arith}
use lib.ListN.{length}
use borrow.Author.Rules.{rules}
use borrow.Author.Tests.{not-true, not-false}
use Rattle.model.specs.Rules.Outcome.{fault, lowest}
use Rattle.model.specs.Rules.Program.{Program, Chain}
use Rattle.model.specs.Rules.Rates.{is_linked, linked}
use Rattle.model.specs.Rules.Search.{join_from}
use Rattle.model.specs.declared.Fault.{Fault}
use Rattle.basics.specs.Judgement.{judgement_of}
use Rattle.text_program.specs.Tables.{no_chain, chain_at, Stands}
use Rattle.text_program.proofs.ByIndex.{few-chains}
use Rattle.text_program.proofs.InTurn.{Left, check-starts, check-passes, check-refuses, check-ends}
use Rattle.text_program.proofs.Rising.{chain_places, rising-program}
use Rattle.check_links.proofs.Linking.{lat-at, lat-judged}
use Rattle.check_links.proofs.check_links.Given as goal

-- The fault of a chain, if it has one.
abbrev pub unlinked : Program → ℕ → Chain → List Fault
unlinked p j c = cond (is_linked p c.links) [] (fault 10 c.place ∷ [])

-- What is left of the chains from x on.
abbrev pub Rest : Program → ℕ → Type 0
Rest p x = Left chain_places (unlinked p) (linked p) p.chains x

abbrev pub invariant-loop-chain : goal.invariant-loop-chain
invariant-loop-chain l =
    (p : Program) → Stands l.text l.reads l.tables p → Rest p l.chain
