-- `moves::list_moves` meets its contract. Assumes nothing.
use native.Mathlib.Omega.{arith}
use borrow.Author.Rules.{rules}
use lib.ListN.{get_or-replicate}
use Rattle.model.specs.Rules.Moves.{may_take}
use Rattle.text_schedule.proofs.Arranged.{short-hypercycle, phases-below}
use Rattle.moves.proofs.Entries.{wrote_as}
use Rattle.moves.proofs.Tables.{counted, tabled, tells, inside, entries-are}
use Rattle.moves.proofs.list_moves.Goals as goal
use Rattle.moves.proofs.list_moves.Goals.{After-all_phases-highs, After-loads_of-loads, After-narrow_all, Start}

abbrev after-phases : After-narrow_all → After-all_phases-highs
after-phases c = (goal.at.After-narrow_all c).After-all_phases-highs

abbrev start : After-narrow_all → Start
start c = (goal.at.After-narrow_all c).Start

pub loads_of-loads-requires : goal.loads_of-loads-requires
loads_of-loads-requires c =
    let k = (start (goal.at.loads_of-loads-requires c).After-narrow_all).requires.known in
    (omega (arith, counted k, (tabled k).few), short-hypercycle k.arranged, phases-below k.arranged)

abbrev narrowed : After-loads_of-loads → After-narrow_all
narrowed c = (goal.at.After-loads_of-loads c).After-narrow_all

pub list_signals-requires : goal.list_signals-requires
list_signals-requires c =
    let n = (goal.at.list_signals-requires c).After-narrow_all in
    let a = (start n).requires in
    let k = a.known in (
      omega (arith, counted k, (tabled k).few),
      short-hypercycle k.arranged,
      inside k _ _ _ _ (after-phases n).all_phases-highs.ensures.1 (n.narrow_all.ensures a.schedule a.pair k),
    )

pub returns : goal.returns
returns c =
    let v = c in
    let l = (goal.at.returns c).After-loads_of-loads in
    let n = (goal.at.returns c).After-narrow_all in
    λ schedule q k.
    wrote_as (entries-are k) (v.list_signals.ensures (may_take _ schedule q)
    (tells k _ _ _ _ l.loads_of-loads.result (λ x lt. get_or-replicate 64 x 0 0 lt) (after-phases n).all_phases-highs.ensures.1
    (n.narrow_all.ensures schedule q k) l.loads_of-loads.ensures))
