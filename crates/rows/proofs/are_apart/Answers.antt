-- `rows::are_apart` meets its contract. Assumes nothing.
use mathlib.Core.Path.{◌≡◌}
use mathlib.Core.Bool.{true, false}
use native.Mathlib.Omega.{arith}
use lib.Signed.{lt_z}
use Rattle.model.specs.Rules.Cover.{apart}
use Rattle.word.proofs.Locals.{kept}
use Rattle.rows.proofs.are_apart.Goals as goal

pub high_of-a-requires : goal.high_of-a-requires
high_of-a-requires c = let s = c in (
  omega (arith, s.requires.0.0, s.requires.1),
  s.requires.0.1 s.args.m
      (omega (arith, s.requires.1)),
)

pub low_of-b-requires : goal.low_of-b-requires
low_of-b-requires c = let s = c in (omega (arith, s.requires.0.0), s.requires.0.1 s.args.n (omega arith))

pub returns-then-a-b : goal.returns-then-a-b
unfolding apart
returns-then-a-b c =
    let b = c in
    let a = c in
    let t : lt_z a.high_of-a.result b.low_of-b.result ≡ true =
    rw (kept a.high_of-a.result a.high_of-a.type_inv, kept b.low_of-b.result b.low_of-b.type_inv) at c.if-a-b.true in
    rw (← a.high_of-a.ensures, ← b.low_of-b.ensures, t)

pub high_of-c-requires : goal.high_of-c-requires
high_of-c-requires c =
    let s = c in (omega (arith, s.requires.0.0), s.requires.0.1 s.args.n (omega arith))

pub low_of-d-requires : goal.low_of-d-requires
low_of-d-requires c =
    let s = c in (
      omega (arith, s.requires.0.0, s.requires.1),
      s.requires.0.1 s.args.m
          (omega (arith, s.requires.1)),
    )

pub returns : goal.returns
unfolding apart
returns c =
    let h = c in
    let e = c in
    let b = c in
    let a = c in
    let t : lt_z a.high_of-a.result b.low_of-b.result ≡ false =
    rw (kept a.high_of-a.result a.high_of-a.type_inv, kept b.low_of-b.result b.low_of-b.type_inv) at e.if-a-b.false in
    rw (
      ← a.high_of-a.ensures,
      ← b.low_of-b.ensures,
      t,
      kept h.high_of-c.result h.high_of-c.type_inv,
      kept c.low_of-d.result
          c.low_of-d.type_inv,
      h.high_of-c.ensures,
      c.low_of-d.ensures,
    )
