-- `join_emit::sources_of` meets its contract. Assumes nothing.
use Prim.Native.Nat.{ℕ, ◌-◌, ◌*◌, ◌/◌}
use mathlib.Core.Path.{◌≡◌, refl, ◌∙◌}
use native.Mathlib.Nat.{add_assoc}
use native.Mathlib.Omega.{arith}
use lib.ListN.{length, length-set}
use Rattle.join_check.specs.Met.{LinkInside}
use Rattle.join_emit.specs.Sources.{wire_by}
use Rattle.join_emit.proofs.Sourced.{sources-start, sources_next, sources-all}
use Rattle.join_emit.proofs.sources_of.Goals as goal
use Rattle.join_emit.proofs.sources_of.Goals.{In-loop-i, Start}

-- link i - 1
module _ (t : In-loop-i) where
  abbrev s : Start
  s = (goal.at.In-loop-i t).Start

  abbrev i : ℕ
  i = t.loop-i.i - 1

  inside : LinkInside s.args.links.now (4 * i) s.args.bases.now
  inside = s.requires i (omega (arith, t.loop-i.auto.i, t.loop-i-test.true))

pub loop-i-init : goal.loop-i-init
loop-i-init c =
    let s = c in
    (refl, sources-start (wire_by s.args.links.now s.args.bases.now) (length s.args.links.now / 4))

pub overflow_mul-at : goal.overflow_mul-at
overflow_mul-at c = omega (arith, (inside c).whole, (s c).well_formed.0.1)

pub number_of-r-requires : goal.number_of-r-requires
number_of-r-requires c = (omega (arith, (inside c).whole), (inside c).part, (inside c).reader)

pub overflow_add-at : goal.overflow_add-at
overflow_add-at c = omega (arith, (inside (goal.at.overflow_add-at c).In-loop-i).whole, (s (goal.at.overflow_add-at c).In-loop-i).well_formed.0.1)

pub number_of-w-requires : goal.number_of-w-requires
number_of-w-requires c =
    let t = (goal.at.number_of-w-requires c).In-loop-i in
    (omega (arith, (inside t).whole), (inside t).other, rw (add_assoc (4 * i t) 2 1) (inside t).source)

pub to_byte-requires : goal.to_byte-requires
to_byte-requires c =
    let t = (goal.at.to_byte-requires c).In-loop-i in
    omega (arith, rw (add_assoc (4 * i t) 2 1) at c.number_of-w.ensures, (inside t).source)

pub bounds-sources-r : goal.bounds-sources-r
bounds-sources-r c =
    let t = (goal.at.bounds-sources-r c).In-loop-i in
    omega (arith, c.number_of-r.ensures, (inside t).reader, t.loop-i.invariant.0)

pub loop-i-preserved : goal.loop-i-preserved
loop-i-preserved c =
    let t = (goal.at.loop-i-preserved c).In-loop-i in
    let l = t.loop-i in
    let f = wire_by (s t).args.links.now (s t).args.bases.now in
    let w : c.to_byte.result ≡ (f (i t)).signal =
    c.to_byte.ensures ∙ (rw (add_assoc (4 * i t) 2 1) at c.number_of-w.ensures) in
    let r : c.number_of-r.result ≡ (f (i t)).input = c.number_of-r.ensures in (
      length-set l.sources _ _ ∙ l.invariant.0,
      rw (w, r)
          (sources_next f (length (s t).args.links.now / 4) l.i l.sources t.loop-i-test.true l.auto.i l.invariant.0
          (inside t).reader l.invariant.1),
    )

pub returns : goal.returns
returns c =
    let l = c.loop-i in
    let s = c in
    sources-all (wire_by s.args.links.now s.args.bases.now) (length s.args.links.now / 4) l.i l.sources
    (omega (arith, c.loop-i-test.false)) l.invariant.1
