-- `machine::is_positioned` meets its contract. Assumes nothing.
use mathlib.Core.Path.{sym}
use native.Mathlib.Omega.{arith}
use lib.IntN.{ℤ, pos}
use lib.ListN.{get_or}
use Rattle.model.specs.Rules.Machine.{hyper_of}
use Rattle.image_valid.proofs.Parts.{head, formed}
use Rattle.machine.proofs.Lists.{Position, position, no-position}
use Rattle.machine.proofs.is_positioned.Goals as goal
use Rattle.machine.proofs.is_positioned.Goals.{Else-position-lt0}

-- where word 0 is not negative
abbrev word : Else-position-lt0 → ℤ
word e = get_or e.args.state.now 0 (pos 0)

stood : (e : Else-position-lt0) → Position (word e)
stood e = position _ e.position-1.given e.if-position-lt0.false

pub bounds-image-0 : goal.bounds-image-0
bounds-image-0 c = omega (arith, (head _ (formed _ c.requires.0).good).four)

pub returns-then-position-lt0 : goal.returns-then-position-lt0
returns-then-position-lt0 c =
    let a = c.args in
    sym (no-position (get_or a.state.now 0 (pos 0)) (hyper_of a.image.now) c.position-1.given c.if-position-lt0.true)

pub overflow_cast-c : goal.overflow_cast-c
overflow_cast-c c = rw (stood c).back (tt, record { fits = omega (arith, (stood c).small) })

pub returns : goal.returns
returns c =
    let image = c.args.image.now in
    rw ((stood c).back, c.from_byte-h.ensures.0) (sym ((stood c).test (hyper_of image)))

pub bounds-state-0 : goal.bounds-state-0
bounds-state-0 c = c.requires.1
