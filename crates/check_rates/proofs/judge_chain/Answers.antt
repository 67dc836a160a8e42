-- `check_rates::judge_chain` meets its contract. Assumes nothing.
use Prim.Native.Nat.{ℕ, ◌+◌, ◌*◌, ◌-◌, ◌≤◌, ◌<◌}
use mathlib.Core.List.{List, [], ◌∷◌}
use mathlib.Core.Path.{◌≡◌, refl, ap, subst, sym, ◌∙◌}
use native.Mathlib.Omega.{arith}
use lib.ListN.{length, get_or}
use borrow.Author.Rules.{rules}
use Rattle.basics.proofs.Judgements.{handed-on}
use Rattle.model.specs.Rules.Outcome.{lowest}
use Rattle.model.specs.Rules.Program.{Program, Link}
use Rattle.model.specs.Rules.Rates.{link_faults}
use Rattle.text_program.specs.Tables.{chain_at, Stands}
use Rattle.text_program.specs.declared.Tables.{Tables}
use Rattle.text_program.proofs.ByIndex.{no_link, few-chains, chain-inside}
use Rattle.text_program.proofs.InTurn.{Left, check-starts, check-passes, check-refuses, check-ends, links-in-turn}
use Rattle.check_rates.specs.Rates.{chain_rates}
use Rattle.check_rates.proofs.Judging.{link-at-place, chains-are, length-is, link-seen, link-inside, one_link}
use Rattle.check_rates.proofs.judge_chain.Invariants.{Rest}
use Rattle.check_rates.proofs.judge_chain.Goals as goal
use Rattle.check_rates.proofs.judge_chain.Goals.{After-from_byte-links, After-in_program-in-loop-i, Start}

module _ (a : Start) where
  abbrev t : Tables
  t = a.args.tables

  abbrev x : ℕ
  x = a.args.chain

  abbrev known : Stands a.args.text.now a.requires.0.0 t a.requires.0.1.0
  known = a.requires.0.1.1

  below : x < 16
  below = omega (arith, a.requires.1, few-chains known)

  inside : get_or t.starts x 0 + 4 ≤ length a.args.text.now
  inside = chain-inside known x a.requires.1

-- where a LINK stands
module _ (c : After-in_program-in-loop-i) where
  abbrev counted : After-from_byte-links
  counted = (goal.at.After-in_program-in-loop-i c).After-from_byte-links

  abbrev start : Start
  start = (goal.at.After-in_program-in-loop-i c).Start

  abbrev i : ℕ
  i = c.loop-i.i

  abbrev place : ℕ
  place = get_or (t start).starts (x start) 0 + 4 + 2 * i

  -- after the LINKs before it
  passed : c.in_program-in-loop-i.result * i ≡ 2 * i
  passed = ap (λ (k : ℕ). k * i) c.in_program-in-loop-i.ensures

  stands :
      counted.from_entry.result + counted.in_program.result + c.in_program-in-loop-i.result * i ≡ place
  stands = omega (arith, passed, counted.from_entry.ensures.0, counted.in_program.ensures)

  within : i < get_or (t start).lengths (x start) 0
  within = omega (arith, c.loop-i-test.true, counted.from_byte-links.ensures.0)

  -- in the text
  ends : (place + 2 ≤ length start.args.text.now) × (length start.args.text.now ≤ 18446744073709551615)
  ends = (
    link-inside (known start) (x start) start.requires.1 i within,
    omega (arith, start.well_formed.0.1),
  )

pub overflow_add-first : goal.overflow_add-first
overflow_add-first c =
    let a = (goal.at.overflow_add-first c).Start in
    omega (arith, inside a, c.from_entry.ensures.0, c.in_program.ensures, a.well_formed.0.1)

pub loop-i-init : goal.loop-i-init
loop-i-init c =
    let a = (goal.at.loop-i-init c).Start in (
      omega arith,
      λ p reads e.
          let r = links-in-turn _ p e.declares (x a) (omega (arith, a.requires.1, chains-are e)) in
          check-starts _ _ _ _ r.0 r.1 r.2 refl,
    )

pub bounds-text-at : goal.bounds-text-at
bounds-text-at c =
    let s = (goal.at.bounds-text-at c).After-in_program-in-loop-i in
    omega (arith, stands s, ends s)

pub returns-in_err-judge_rate : goal.returns-in_err-judge_rate
returns-in_err-judge_rate c =
    let j = c in
    let s = (goal.at.returns-in_err-judge_rate c).After-in_program-in-loop-i in
    let a = (goal.at.returns-in_err-judge_rate c).Start in
    let lt = within s in
    λ p reads e.
    handed-on _ c.from_residual.ensures.1 ∙ sym c.in_err-judge_rate.was ∙ check-refuses _ _ _ _ (i s) no_link (link-seen e (x a) a.requires.1 (i s) lt)
    (s.loop-i.invariant.1 p reads e)
    _ (one_link e (x a) a.requires.1 (i s) lt _ _ _ (stands s) j.from_byte-signal.ensures.0
    j.judge_rate.ensures) (link-at-place p) _ c.in_err-judge_rate.was

pub loop-i-preserved : goal.loop-i-preserved
loop-i-preserved c =
    let j = c in
    let s = (goal.at.loop-i-preserved c).After-in_program-in-loop-i in
    let a = (goal.at.loop-i-preserved c).Start in
    let lt = within s in (
      omega (arith, s.loop-i-test.true),
      λ p reads e.
          subst (Rest p (x a)) (omega arith)
          (check-passes _ _ _ _ (i s) no_link (link-seen e (x a) a.requires.1 (i s) lt)
          (s.loop-i.invariant.1 p reads e) _ (one_link e (x a) a.requires.1 (i s) lt _ _ _ (stands s)
          j.from_byte-signal.ensures.0 j.judge_rate.ensures) c.in_ok-judge_rate.was),
    )

pub returns : goal.returns
returns c =
    let l = c.loop-i in
    let n = c in
    let a = (goal.at.returns c).Start in
    λ p reads e.
    check-ends _ _ _ _ l.i
    (omega (arith, length-is e (x a) a.requires.1, n.from_byte-links.ensures.0, c.loop-i-test.false))
    (l.invariant.1 p reads e)

pub offset_bounds-starts-chain : goal.offset_bounds-starts-chain
offset_bounds-starts-chain c = omega (arith, below (goal.at.offset_bounds-starts-chain c).Start)

pub bounds-starts-chain : goal.bounds-starts-chain
bounds-starts-chain c = below (goal.at.bounds-starts-chain c).Start

pub bounds-lengths-chain : goal.bounds-lengths-chain
bounds-lengths-chain c = below (goal.at.bounds-lengths-chain c).Start

pub overflow_mul-at : goal.overflow_mul-at
overflow_mul-at c = omega (arith, passed c, ends c)

pub overflow_add-at : goal.overflow_add-at
overflow_add-at c = omega (arith, passed c, stands c, ends c)

pub overflow_add-at-in-loop-i : goal.overflow_add-at-in-loop-i
overflow_add-at-in-loop-i c = omega (arith, passed c, stands c, ends c)
