-- `join::write` meets its contract. Assumes nothing.
use mathlib.Core.Path.{ap, ◌∙◌}
use native.Mathlib.Omega.{arith}
use Rattle.model.specs.Rules.Outcome.{yielded_of}
use Rattle.image_write.specs.Layout.{LaidOut}
use Rattle.join_rows.proofs.Stand.{few-rows}
use Rattle.join.proofs.Joining.{join-short, join-answer}
use Rattle.join.proofs.Written.{joined_program, joined_schedule, times, rows-ready, laid_out}
use Rattle.join.proofs.write.Goals as goal
use Rattle.join.proofs.write.Goals.{After-lay_out-layout, Start}

pub lay_out-layout-requires : goal.lay_out-layout-requires
lay_out-layout-requires c =
    let s = c in
    (times s.requires, few-rows _ _ _ (rows-ready s.requires))

-- the layout is that of the joined pair
abbrev begun : After-lay_out-layout → Start
begun l = (goal.at.After-lay_out-layout l).Start

laid : (l : After-lay_out-layout) → let s = l in
    LaidOut (joined_program s.requires) (joined_schedule s.requires) s.args.verdict.now.hypercycle l.lay_out-layout.result
laid l = laid_out (begun l).requires l.lay_out-layout.ensures

pub returns-then-image-layout : goal.returns-then-image-layout
returns-then-image-layout c =
    let l = (goal.at.returns-then-image-layout c).After-lay_out-layout in
    let g = join-short _ _ _ _ (begun l).requires _ (laid l).tail-ends c.if-image-layout.true in
    record { answer = ap yielded_of c.refuse.ensures ∙ g.0; left = g.1 }

pub emit-requires : goal.emit-requires
emit-requires c =
    let l = (goal.at.emit-requires c).After-lay_out-layout in
    ((begun l).requires, l.lay_out-layout.ensures, omega (arith, c.if-image-layout.false))

pub returns : goal.returns
returns c =
    let l = (goal.at.returns c).After-lay_out-layout in
    record {
      answer = join-answer _ _ _ _ (begun l).requires _ (laid l).tail-ends c.if-image-layout.false;
      left = c.emit.ensures;
    }
