-- `check_rates::judge_links` meets its contract. Assumes nothing.
use Prim.Native.Nat.{ℕ, ◌-◌, ◌≤◌}
use mathlib.Core.List.{List}
use mathlib.Core.Path.{refl, subst, sym, ◌∙◌}
use native.Mathlib.Omega.{arith}
use borrow.Author.Rules.{rules}
use Rattle.basics.proofs.Judgements.{handed-on}
use Rattle.model.specs.Rules.Outcome.{lowest}
use Rattle.model.specs.Rules.Program.{Program}
use Rattle.text_program.specs.Tables.{no_chain, Stands}
use Rattle.text_program.proofs.ByIndex.{few-chains}
use Rattle.text_program.proofs.InTurn.{Left, check-starts, check-passes, check-refuses, check-ends}
use Rattle.text_program.proofs.Rising.{chain_places, rising-program}
use Rattle.check_rates.specs.Rates.{chain_rates, link_rates}
use Rattle.check_rates.proofs.Judging.{chain-at, chains-are}
use Rattle.check_rates.proofs.judge_links.Invariants.{Rest}
use Rattle.check_rates.proofs.judge_links.Goals as goal

pub loop-chain-init : goal.loop-chain-init
loop-chain-init c = (
  omega arith,
  λ p reads e. let h = rising-program _ p e.declares in check-starts _ _ _ _ 0 h.0 h.1.chains refl,
)

pub judge_chain-requires : goal.judge_chain-requires
judge_chain-requires c = (c.requires, c.loop-chain-test.true)

pub returns-in_err-judge_chain : goal.returns-in_err-judge_chain
returns-in_err-judge_chain c =
    let s = c in
    let l = s.loop-chain in
    λ p reads e.
    handed-on _ c.from_residual.ensures.1 ∙ sym c.in_err-judge_chain.was ∙ check-refuses _ _ _ _ l.chain no_chain (omega (arith, s.loop-chain-test.true, chains-are e))
    (l.invariant.1 p reads e) _ (s.judge_chain.ensures p reads e) (chain-at p) _ c.in_err-judge_chain.was

pub loop-chain-preserved : goal.loop-chain-preserved
loop-chain-preserved c =
    let s = c in
    let l = s.loop-chain in (
      omega (arith, s.loop-chain-test.true),
      λ p reads e.
          subst (Rest p) (omega arith)
          (check-passes _ _ _ _ l.chain no_chain
          (omega (arith, s.loop-chain-test.true, chains-are e)) (l.invariant.1 p reads e) _
          (s.judge_chain.ensures p reads e) c.in_ok-judge_chain.was),
    )

pub returns : goal.returns
returns c =
    let l = c.loop-chain in
    λ p reads e.
    check-ends _ _ _ _ l.chain (omega (arith, chains-are e, c.loop-chain-test.false)) (l.invariant.1 p reads e)
