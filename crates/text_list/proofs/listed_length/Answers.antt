-- `text_list::listed_length` meets its contract. Assumes nothing.
use mathlib.Core.Path.{refl, sym, ap, ◌∙◌}
use native.Mathlib.Omega.{arith}
use Rattle.std.proofs.lemmas.Result.{err_from_is_err_and}
use Rattle.model.specs.Rules.TextForm.{listed_at}
use Rattle.model.specs.Rules.Word.{AreBytes}
use Rattle.text_keyword.specs.Cells.{pending_at}
use Rattle.text_keyword.specs.Written.{length_answer}
use Rattle.text_list.proofs.Walk.{Short, is-short, room-short, Told, puts-fine, puts-fault}
use Rattle.text_list.proofs.Walk.{measured-starts, measured-next, measured-refused, measured-ends}
use Rattle.text_list.proofs.listed_length.Goals as goal
use Rattle.text_list.proofs.listed_length.Goals.{At-loop-at, In_ok-put, Start}

abbrev start : At-loop-at → Start
start l = (goal.at.At-loop-at l).Start

are : (l : At-loop-at) → AreBytes (start l).args.bytes.now
are l = λ i. omega (arith, l.type_inv.bytes i)

pub list_token-requires : goal.list_token-requires
list_token-requires c =
    let l = (goal.at.list_token-requires c).At-loop-at in (
      omega arith,
      room-short (start l).args.bytes.now (are l) l.loop-at.at (pending_at l.loop-at.pending)
          l.loop-at.token (omega (arith, l.loop-at.invariant.0)),
    )

pub returns-in_err-put : goal.returns-in_err-put
returns-in_err-put c =
    let p = err_from_is_err_and c.from_residual.result c.from_residual.ensures.1 in
    let l = (goal.at.returns-in_err-put c).At-loop-at in
    let bytes = (start l).args.bytes.now in
    rw (p.1, p.2) (sym (ap length_answer
    (measured-refused bytes l.loop-at.at l.loop-at.pending l.loop-at.total _ l.loop-at.invariant.1 (omega arith)
    (puts-fault (listed_at bytes l.loop-at.at (pending_at l.loop-at.pending)) l.loop-at.at 0 _ _ _ c.in_err-put.ensures))))

-- what was put
told : (t : In_ok-put) → let p = t in
    let l = (goal.at.In_ok-put t).At-loop-at in
    Told (listed_at (start l).args.bytes.now l.loop-at.at (pending_at l.loop-at.pending)) l.loop-at.at l.loop-at.token
    p.list_token.new.out p.in_ok-put.put
told t =
    let p = t in
    let l = (goal.at.In_ok-put t).At-loop-at in
    puts-fine (listed_at (start l).args.bytes.now l.loop-at.at (pending_at l.loop-at.pending)) l.loop-at.at l.loop-at.token
    p.list_token.new.out p.in_ok-put.put p.in_ok-put.ensures

short : (t : In_ok-put) → let l = t in
    Short l.loop-at.at (told t).x
short t =
    let l = (goal.at.In_ok-put t).At-loop-at in
    is-short (start l).args.bytes.now (are l) l.loop-at.at (pending_at l.loop-at.pending) (told t).x (told t).listed

pub loop-at-preserved : goal.loop-at-preserved
loop-at-preserved c =
    let t = (goal.at.loop-at-preserved c).In_ok-put in
    let l = (goal.at.loop-at-preserved c).At-loop-at in
    let r = c.in_ok-put.put in
    let h = told t in (
      h.same ∙ l.loop-at.invariant.0,
      measured-next (start l).args.bytes.now l.loop-at.at l.loop-at.pending l.loop-at.total r.next r.width
          r.end h.x
          (are l) l.loop-at.invariant.1 (omega arith) h.listed h.pending h.width h.end,
    )

pub overflow_add-total : goal.overflow_add-total
overflow_add-total c =
    let t = (goal.at.overflow_add-total c).In_ok-put in
    let l = (goal.at.overflow_add-total c).At-loop-at in
    omega (arith, l.loop-at.invariant.1.low, (start l).requires, (told t).end, (short t).short)

pub overflow_add-at : goal.overflow_add-at
overflow_add-at c = let t = (goal.at.overflow_add-at c).In_ok-put in omega (arith, (told t).width, (short t).narrow)

pub loop-at-smaller : goal.loop-at-smaller
loop-at-smaller c = let t = (goal.at.loop-at-smaller c).In_ok-put in omega (arith, (told t).width, (short t).some)

pub returns : goal.returns
returns c =
    let l = (goal.at.returns c).At-loop-at in
    c.ended_length.ensures ∙
    sym (measured-ends (start l).args.bytes.now l.loop-at.at l.loop-at.pending l.loop-at.total l.loop-at.invariant.1
    (omega arith))

pub loop-at-init : goal.loop-at-init
loop-at-init c = (refl, measured-starts c.args.bytes.now)

pub slice_bounds-list_token-end : goal.slice_bounds-list_token-end
slice_bounds-list_token-end c = sym c.loop-at.invariant.0
