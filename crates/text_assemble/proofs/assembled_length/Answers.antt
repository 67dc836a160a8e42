-- `text_assemble::assembled_length` meets its contract. Assumes nothing.
use mathlib.Core.Path.{sym, ap, ◌∙◌}
use native.Mathlib.Omega.{arith}
use Rattle.std.proofs.lemmas.Result.{err_from_is_err_and}
use Rattle.text_keyword.specs.Written.{length_answer}
use Rattle.text_assemble.proofs.Walk.{measured-starts, measured-next, measured-refused, measured-ends}
use Rattle.text_assemble.proofs.assembled_length.Goals as goal

pub returns-in_err-read : goal.returns-in_err-read
returns-in_err-read c =
    let p = err_from_is_err_and c.from_residual.result c.from_residual.ensures.1 in
    rw (p.1, p.2) (sym (ap length_answer
    (measured-refused c.args.text.now c.loop-start.start c.loop-start.pending c.loop-start.total c.token_end-end.result
    _ c.loop-start.invariant c.token_end-end.ensures c.in_err-read.ensures)))

pub loop-start-preserved : goal.loop-start-preserved
loop-start-preserved c =
    measured-next c.args.text.now c.loop-start.start c.loop-start.pending c.loop-start.total c.token_end-end.result
    c.token_start-start-in-loop-start.result c.in_ok-read.read c.loop-start.invariant c.token_end-end.ensures
    c.in_ok-read.ensures c.token_start-start-in-loop-start.ensures

pub returns : goal.returns
returns c =
    c.ended_length.ensures ∙
    sym (measured-ends c.args.text.now c.loop-start.start c.loop-start.pending c.loop-start.total c.loop-start.invariant
    (omega arith))

pub overflow_add-total : goal.overflow_add-total
overflow_add-total c =
    omega (arith, c.loop-start.invariant.low, c.loop-start.invariant.inside, c.requires, c.in_ok-read.ensures.small)

pub loop-start-smaller : goal.loop-start-smaller
loop-start-smaller c =
    omega (
      arith,
      c.token_end-end.ensures.after,
      c.token_end-end.ensures.inside,
      c.token_start-start-in-loop-start.ensures.after,
      c.token_start-start-in-loop-start.ensures.inside,
    )

pub loop-start-init : goal.loop-start-init
loop-start-init c = measured-starts c.args.text.now c.token_start-start.result c.token_start-start.ensures

pub token_end-end-requires : goal.token_end-end-requires
token_end-end-requires c = (omega arith, c.loop-start.invariant.begins (omega arith))
