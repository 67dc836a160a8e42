-- `check_links::check_links` meets its contract. Assumes nothing.
use Rattle.std.specs.Prelude.{Result, Ok, Err}
use Prim.Native.Nat.{ℕ, ◌-◌, ◌<◌}
use mathlib.Core.Bool.{cond}
use mathlib.Core.List.{List, [], ◌∷◌}
use mathlib.Core.Path.{◌≡◌, refl, sym, ap, subst, ◌∙◌}
use native.Mathlib.Omega.{arith}
use lib.ListN.{length}
use borrow.Author.Rules.{rules}
use borrow.Author.Tests.{not-true, not-false}
use Rattle.model.specs.Rules.Outcome.{fault, lowest}
use Rattle.model.specs.Rules.Program.{Program, Chain}
use Rattle.model.specs.Rules.Rates.{is_linked, linked}
use Rattle.model.specs.Rules.Search.{join_from}
use Rattle.model.specs.declared.Fault.{Fault}
use Rattle.basics.specs.Judgement.{judgement_of}
use Rattle.text_program.specs.Tables.{no_chain, chain_at, Stands}
use Rattle.text_program.proofs.ByIndex.{few-chains}
use Rattle.text_program.proofs.InTurn.{Left, check-starts, check-passes, check-refuses, check-ends}
use Rattle.text_program.proofs.Rising.{chain_places, rising-program}
use Rattle.check_links.proofs.Linking.{lat-at, lat-judged}
use Rattle.check_links.proofs.check_links.Invariants.{unlinked, Rest}
use Rattle.check_links.proofs.check_links.Goals as goal

-- A program without chains has none that is wrong.
unchained : (p : Program) (n : ℕ) → length p.chains ≡ n → n ≡ 0 → (Ok tt) ≡ judgement_of (linked p)
unfolding linked join_from lowest judgement_of
unchained p n e z = go p.chains refl
  where
    go : (cs : List Chain) → p.chains ≡ cs → (Ok tt) ≡ judgement_of (linked p)
    go [] q = rw q refl
    go (c ∷ cs) q = absurd (omega (arith, e, z, ap length q))

pub returns-then-tables-eq0 : goal.returns-then-tables-eq0
returns-then-tables-eq0 c p q = unchained p _ q.tables-are.counts.chains-are c.if-tables-eq0.true

pub loop-chain-init : goal.loop-chain-init
unfolding linked
loop-chain-init c = λ p q. let h = rising-program _ p q.declares in check-starts _ _ _ _ 0 h.0 h.1.chains refl

pub is_linked-requires : goal.is_linked-requires
is_linked-requires c =
    let c4 = c in
    (c4.requires, c.loop-chain-test.true)

pub returns-then-not-is_linked : goal.returns-then-not-is_linked
returns-then-not-is_linked c =
    let d = c in
    let b = c in
    let l = b.loop-chain in
    λ p q.
    let lt : l.chain < length p.chains = omega (arith, b.loop-chain-test.true, q.tables-are.counts.chains-are) in
    let r = c.refuse.ensures ∙
    ap (λ n. Err (fault 10 n)) (c.from_entry.ensures.0 ∙ q.tables-are.starts l.chain lt) in
    check-refuses _ _ _ _ l.chain no_chain lt (l.invariant p q) _
    (r ∙ lat-judged (fault 10 (chain_at p l.chain).place) _ _
    (sym (b.is_linked.ensures p q) ∙ d.if-not-is_linked.true))
    (lat-at 10 (λ k. is_linked p k.links)) _ r

pub loop-chain-preserved : goal.loop-chain-preserved
loop-chain-preserved c =
    let b = c in
    let l = b.loop-chain in
    λ p q.
    let lt : l.chain < length p.chains = omega (arith, b.loop-chain-test.true, q.tables-are.counts.chains-are) in
    subst (Rest p) (omega arith)
    (check-passes _ _ _ _ l.chain no_chain lt (l.invariant p q) (Ok tt)
    (lat-judged (fault 10 (chain_at p l.chain).place) _ _
    (sym (b.is_linked.ensures p q) ∙ c.if-not-is_linked.false)) refl)

pub returns : goal.returns
returns c =
    let l = c.loop-chain in
    λ p q. check-ends _ _ _ _ l.chain (omega (arith, c.loop-chain-test.false, q.tables-are.counts.chains-are)) (l.invariant p q)

pub offset_bounds-starts-chain : goal.offset_bounds-starts-chain
offset_bounds-starts-chain c = omega (arith, c.loop-chain-test.true, few-chains c.requires.1)

pub bounds-starts-chain : goal.bounds-starts-chain
bounds-starts-chain c = omega (arith, c.loop-chain-test.true, few-chains c.requires.1)
