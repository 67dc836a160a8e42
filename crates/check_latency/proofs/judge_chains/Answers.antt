-- `check_latency::judge_chains` meets its contract. Assumes nothing.
use Rattle.std.specs.Prelude.{Ok, Err}
use Prim.Native.Nat.{ℕ, ◌-◌, ◌<◌}
use mathlib.Core.Bool.{cond}
use mathlib.Core.List.{List, [], ◌∷◌}
use mathlib.Core.Path.{refl, sym, ap, subst, ◌∙◌}
use native.Mathlib.Omega.{arith}
use lib.ListN.{length}
use borrow.Author.Rules.{rules}
use borrow.Author.Tests.{not-true, not-false}
use Rattle.model.specs.Rules.Latency.{keeps, timely}
use Rattle.model.specs.Rules.Outcome.{fault}
use Rattle.model.specs.Rules.Program.{Program, Chain}
use Rattle.model.specs.Rules.Schedule.{Schedule}
use Rattle.model.specs.declared.Fault.{Fault}
use Rattle.text_program.specs.Tables.{no_chain, chain_at}
use Rattle.text_program.proofs.ByIndex.{few-chains}
use Rattle.text_program.proofs.InTurn.{Left, check-starts, check-passes, check-refuses, check-ends}
use Rattle.text_program.proofs.Rising.{chain_places, rising-program}
use Rattle.check_links.proofs.Linking.{lat-at, lat-judged}
use Rattle.check_latency.specs.Timely.{Timed}
use Rattle.check_latency.proofs.judge_chains.Invariants.{untimely, Rest}
use Rattle.check_latency.proofs.judge_chains.Goals as goal
use Rattle.check_latency.proofs.judge_chains.Goals.{In-loop-chain}

few : (c : In-loop-chain) → c.loop-chain.chain < 16
few c =
    let k = c.requires.2.joined.known in
    omega (arith, c.loop-chain-test.true, few-chains k.stands)

pub loop-chain-init : goal.loop-chain-init
unfolding timely
loop-chain-init c =
    λ p s t. let h = rising-program _ p t.joined.known.stands.declares in check-starts _ _ _ _ 0 h.0 h.1.chains refl

pub keeps_time-requires : goal.keeps_time-requires
keeps_time-requires c =
    let a = c in
    (a.requires, c.loop-chain-test.true)

pub returns-then-not-keeps_time : goal.returns-then-not-keeps_time
returns-then-not-keeps_time c =
    let d = c in
    let b = c in
    let l = b.loop-chain in
    λ p s t.
    let k = t.joined.known in
    let lt : l.chain < length p.chains = omega (arith, b.loop-chain-test.true, k.stands.tables-are.counts.chains-are) in
    let r = c.refuse.ensures ∙ ap (λ n. Err (fault 16 n)) (c.from_entry.ensures.0 ∙ k.stands.tables-are.starts l.chain lt) in
    check-refuses _ _ _ _ l.chain no_chain lt (l.invariant p s t) _
    (r ∙ lat-judged (fault 16 (chain_at p l.chain).place) _ _
    (sym (d.keeps_time.ensures p s t) ∙ d.if-not-keeps_time.true))
    (lat-at 16 (keeps p s _)) _ r

pub loop-chain-preserved : goal.loop-chain-preserved
loop-chain-preserved c =
    let b = c in
    let l = b.loop-chain in
    λ p s t.
    let n = t.joined.known.stands.tables-are.counts.chains-are in
    let lt : l.chain < length p.chains = omega (arith, b.loop-chain-test.true, n) in
    subst (Rest p s _) (omega arith)
    (check-passes _ _ _ _ l.chain no_chain lt (l.invariant p s t) (Ok tt)
    (lat-judged (fault 16 (chain_at p l.chain).place) _ _
    (sym (c.keeps_time.ensures p s t) ∙ c.if-not-keeps_time.false)) refl)

pub returns : goal.returns
returns c =
    let l = c.loop-chain in
    λ p s t.
    check-ends _ _ _ _ l.chain
    (omega (arith, c.loop-chain-test.false, t.joined.known.stands.tables-are.counts.chains-are)) (l.invariant p s t)

pub offset_bounds-starts-chain : goal.offset_bounds-starts-chain
offset_bounds-starts-chain c = omega (arith, few (goal.at.offset_bounds-starts-chain c).In-loop-chain)

pub bounds-starts-chain : goal.bounds-starts-chain
bounds-starts-chain c = few (goal.at.bounds-starts-chain c).In-loop-chain
