-- `trial_prepare::prepare` meets its contract. Assumes nothing.
use mathlib.Core.Path.{sym, ap, ◌∙◌}
use native.Mathlib.Omega.{arith}
use lib.ListN.{length-take}
use Rattle.model.specs.Rules.Outcome.{yielded_of}
use Rattle.trial_prepare.specs.Prepares.{Prepares}
use Rattle.trial_prepare.proofs.Begins.{Written, Compiles, has-head, first-bytes, compiles, compile-refuses}
use Rattle.trial_prepare.proofs.Begins.{prepared, uncompiled}
use Rattle.trial_prepare.proofs.prepare.Goals as goal
use Rattle.trial_prepare.proofs.prepare.Goals.{After-image-2-1, After-stated_length-length, In-Ok, Start}

abbrev start : After-image-2-1 → Start
start k = (goal.at.After-image-2-1 k).Start

-- what is written, and the image in it
made : (k : In-Ok) → let i = (goal.at.In-Ok k).After-image-2-1 in
    Written (start i).args.program.now (start i).args.schedule.now i.compile-compiled.new.image
    k.in-Ok.n
made k =
    let i = k in
    let e = i.compile-compiled.ensures in
    compiles _ _ _ (λ j. (i.shared_slice_known-1.given j).fits)
    (omega (arith, i.image-2-1.given)) _ _
    (sym e.0 ∙ ap yielded_of k.in-Ok.is) e.1

imaged : (l : After-stated_length-length) → let i = (goal.at.After-stated_length-length l).After-image-2-1 in
    Compiles (start i).args.program.now (start i).args.schedule.now i.compile-compiled.new.image
    l.stated_length-length.result
imaged l = first-bytes _ _ _ _ (made (goal.at.After-stated_length-length l).In-Ok) _ l.stated_length-length.ensures

pub slice_bounds-stated_length-end : goal.slice_bounds-stated_length-end
slice_bounds-stated_length-end c =
    simp length-take (omega (arith, (made (goal.at.slice_bounds-stated_length-end c).In-Ok).inside))

pub slice_bounds-prepare_image-end : goal.slice_bounds-prepare_image-end
slice_bounds-prepare_image-end c =
    simp length-take (omega (arith, (imaged (goal.at.slice_bounds-prepare_image-end c).After-stated_length-length).inside))

pub prepare_image-ready-requires : goal.prepare_image-ready-requires
prepare_image-ready-requires c = let m = imaged (goal.at.prepare_image-ready-requires c).After-stated_length-length in
    rw m.here m.formed

pub returns-in-Ok : goal.returns-in-Ok
returns-in-Ok c =
    let l = (goal.at.returns-in-Ok c).After-stated_length-length in
    let e = c.compile-compiled.ensures in
    let answer = sym e.0 ∙ ap yielded_of c.in-Ok.is in record {
      starts = prepared _ _ _ _ (imaged l) _ c.prepare_image-ready.ensures;
      holds = record { image-is = e.1; length-is = l.stated_length-length.ensures ∙ rw (answer, e.1) };
    }

pub returns-in-Err : goal.returns-in-Err
unfolding Prepares
returns-in-Err c =
    let e = c.compile-compiled.ensures in
    let answer = sym e.0 ∙ ap yielded_of c.in-Err.is in
    record {
      starts =
          uncompiled _ _ _ _
          (compile-refuses _ _ _ (λ j. (c.shared_slice_known-1.given j).fits)
          (omega (arith, c.image-2-1.given)) _ answer);
      holds = record { image-is = e.1; length-is = rw answer };
    }

pub slice_bounds-image-end : goal.slice_bounds-image-end
slice_bounds-image-end c = (made c).inside

pub stated_length-length-requires : goal.stated_length-length-requires
stated_length-length-requires c = has-head _ _ _ _ (made (goal.at.stated_length-length-requires c).In-Ok)

pub slice_bounds-image-end-in-Ok : goal.slice_bounds-image-end-in-Ok
slice_bounds-image-end-in-Ok c = (imaged c).inside
