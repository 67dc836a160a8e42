-- `machine::reset` meets its contract. Assumes nothing.
use mathlib.Core.Path.{refl}
use native.Mathlib.Omega.{arith}
use borrow.Author.Tests.{lt-ltb}
use Rattle.image_valid.proofs.Parts.{head, formed}
use Rattle.machine.proofs.Machine.{gives-done, reset-done}
use Rattle.machine.proofs.reset.Goals as goal

pub bounds-image-1 : goal.bounds-image-1
bounds-image-1 c = omega (arith, (head _ (formed _ c.in_ok-image.ensures.ok.formed).good).four)

pub returns : goal.returns
returns c =
    let r = c.in_ok-image.ensures.ok in
    gives-done (reset-done r.lends _ r.formed (lt-ltb _ _ r.long)) refl c.initial_words.ensures
