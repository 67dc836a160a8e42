-- `join::emit` meets its contract. Assumes nothing.
use mathlib.Core.List.{◌++◌}
use mathlib.Core.Path.{◌≡◌, ap, ◌∙◌}
use native.Mathlib.Omega.{arith}
use lib.ListN.{drop}
use lib.Seq.{sets}
use Rattle.model.specs.Rules.Image.{length_of, image_of}
use Rattle.image_write.specs.Layout.{LaidOut}
use Rattle.image_write.proofs.Written.{image-first, tail-room, all-written}
use Rattle.join.proofs.Joining.{join-left}
use Rattle.join.proofs.Wires.{wires-inside}
use Rattle.join.proofs.Written.{joined_program, joined_schedule, joining, few, tail-is, laid_out, image-is, fits}
use Rattle.join.proofs.emit.Goals as goal
use Rattle.join.proofs.emit.Goals.{After-emit_image, After-sources_of-sources, Start}

-- the layout is that of the joined pair
laid : (s : Start) →
    LaidOut (joined_program s.requires.0) (joined_schedule s.requires.0) s.args.verdict.now.hypercycle s.args.layout
laid s = laid_out s.requires.0 s.requires.1

pub sources_of-sources-requires : goal.sources_of-sources-requires
sources_of-sources-requires c =
    let c4 = c in
    let s = c in
    wires-inside (joining s.requires.0) (few s.requires.0)

-- the places: the start, where the sources are found, where the image is written
abbrev begun : After-sources_of-sources → Start
begun k = (goal.at.After-sources_of-sources k).Start

pub emit_image-requires : goal.emit_image-requires
emit_image-requires c =
    let k = (goal.at.emit_image-requires c).After-sources_of-sources in
    let s = c in
    fits s.requires.0 s.requires.1 k.sources_of-sources.result k.sources_of-sources.ensures s.requires.2

abbrev sourced : After-emit_image → After-sources_of-sources
sourced i = (goal.at.After-emit_image i).After-sources_of-sources

image-left : (i : After-emit_image) → let s = i in
    let p = joined_program s.requires.0 in
    let q = joined_schedule s.requires.0 in
    let h = s.args.verdict.now.hypercycle in
    i.emit_image.new.out ≡ image_of p q h ++ drop (length_of p q h) s.args.image.now
image-left i =
    let k = (goal.at.After-emit_image i).After-sources_of-sources in
    let s = (goal.at.After-emit_image i).Start in
    i.emit_image.ensures ∙
    ap (sets s.args.image.now 0) (image-is s.requires.0 s.requires.1 k.sources_of-sources.result k.sources_of-sources.ensures) ∙
    image-first _ _ _ s.args.image.now (omega (arith, s.requires.2, (laid s).ends, s.requires.1.tail-ends))

pub emit_tail-requires : goal.emit_tail-requires
emit_tail-requires c =
    let c4 = c in
    let i = (goal.at.emit_tail-requires c).After-emit_image in
    let s = (goal.at.emit_tail-requires c).Start in
    let r = s.requires.0 in (
      few r,
      tail-room (joined_program r) (joined_schedule r) _ _ s.args.image.now (laid s).tail-ends s.requires.2 (image-left i)
          (laid s).ends (tail-is r),
    )

pub returns : goal.returns
returns c =
    let t = c in
    let t5 = c in
    let i = (goal.at.returns c).After-emit_image in
    let s = (goal.at.returns c).Start in
    let r = s.requires.0 in
    join-left _ _ _ _ r _ (laid s).tail-ends s.requires.2
    (all-written (joined_program r) (joined_schedule r) _ _ s.args.image.now (laid s).tail-ends s.requires.2 (image-left i)
    (laid s).ends (tail-is r) t.emit_tail.ensures)
