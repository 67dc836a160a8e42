-- `image_valid::advance_to` meets its contract. Assumes nothing.
use native.Mathlib.Omega.{arith}
use Rattle.image_valid.proofs.advance_to.Goals as goal
use Rattle.image_valid.proofs.advance_to.Goals.{At-loop-cursor, Start}

pub loop-cursor-init : goal.loop-cursor-init
loop-cursor-init c = record { within = c.requires.1; stands = λ s p. p }

abbrev start : At-loop-cursor → Start
start l = (goal.at.At-loop-cursor l).Start

pub advance-cursor-requires : goal.advance-cursor-requires
advance-cursor-requires c =
    let l = (goal.at.advance-cursor-requires c).At-loop-cursor in
    ((start l).requires.0, l.loop-cursor.invariant.within, omega (arith, c.loop-cursor-test.true, (start l).requires.2))

pub loop-cursor-smaller : goal.loop-cursor-smaller
loop-cursor-smaller c = omega (arith, c.loop-cursor-test.true, c.advance-cursor.ensures.1)

pub loop-cursor-preserved : goal.loop-cursor-preserved
loop-cursor-preserved c =
    let goes = c.advance-cursor.ensures.0 in
    let l = c in
    record { within = goes.within; stands = λ s p. goes.stands s (l.loop-cursor.invariant.stands s p) }

pub returns : goal.returns
returns c = (c.loop-cursor.invariant, c.loop-cursor-test.false)
