-- `text_assemble::write_assembly` meets its contract. Assumes nothing.
use Rattle.std.specs.Prelude.{Ok}
use Prim.Native.Nat.{◌-◌}
use native.Mathlib.Omega.{arith}
use lib.ListN.{take, drop}
use Rattle.text_keyword.specs.Cells.{pending_at}
use Rattle.text_assemble.proofs.Walk.{writing-reads, writing-starts, writing-room, writing-next, writing-ends}
use Rattle.text_assemble.specs.Assembled.{ReadsAs}
use Rattle.text_assemble.proofs.write_assembly.Goals as goal
use Rattle.text_assemble.proofs.write_assembly.Goals.{After-unwrap-read}

reads : (c : After-unwrap-read) → ReadsAs (pending_at c.loop-start.pending) c.loop-start.start
    (take (c.token_end-end.result - c.loop-start.start) (drop c.loop-start.start c.args.text.now)) (Ok c.unwrap-read.result)
reads c = let e = c.read_token.ensures in rw c.unwrap-read.ensures at e

pub unwrap-read-requires : goal.unwrap-read-requires
unwrap-read-requires c =
    writing-reads c.args.text.now c.args.out.now c.loop-start.start c.loop-start.pending c.loop-start.out c.loop-start.to
    c.token_end-end.result c.read_token.result c.loop-start.invariant c.token_end-end.ensures c.read_token.ensures

pub loop-start-init : goal.loop-start-init
loop-start-init c =
    writing-starts c.args.text.now c.args.out.now c.token_start-start.result c.requires c.token_start-start.ensures

pub put_value-to-requires : goal.put_value-to-requires
put_value-to-requires c =
    writing-room c.args.text.now c.args.out.now c.loop-start.start c.loop-start.pending c.loop-start.out c.loop-start.to
    c.token_end-end.result c.unwrap-read.result c.loop-start.invariant c.token_end-end.ensures
    (reads (goal.at.put_value-to-requires c).After-unwrap-read) c.requires

pub loop-start-preserved : goal.loop-start-preserved
loop-start-preserved c =
    writing-next c.args.text.now c.args.out.now c.loop-start.start c.loop-start.pending c.loop-start.out c.loop-start.to
    c.token_end-end.result c.unwrap-read.result c.loop-start.invariant c.token_end-end.ensures
    (reads (goal.at.loop-start-preserved c).After-unwrap-read) _ _
    c.token_start-start-in-loop-start.result c.put_value-to.ensures c.token_start-start-in-loop-start.ensures

pub loop-start-smaller : goal.loop-start-smaller
loop-start-smaller c =
    omega (
      arith,
      c.token_end-end.ensures.after,
      c.token_end-end.ensures.inside,
      c.token_start-start-in-loop-start.ensures.after,
      c.token_start-start-in-loop-start.ensures.inside,
    )

pub token_start-start-requires-in-loop-start : goal.token_start-start-requires-in-loop-start
token_start-start-requires-in-loop-start c =
    omega (arith, c.token_end-end.ensures.inside)

pub returns : goal.returns
returns c =
    writing-ends c.args.text.now c.args.out.now c.loop-start.start c.loop-start.pending c.loop-start.out c.loop-start.to
    c.loop-start.invariant (omega arith)

pub token_end-end-requires : goal.token_end-end-requires
token_end-end-requires c = (omega arith, c.loop-start.invariant.begins (omega arith))
