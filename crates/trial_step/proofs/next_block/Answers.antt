-- `trial_step::next_block` meets its contract. Assumes nothing.
use Prim.Native.Nat.{ℕ, suc, ◌+◌, ◌-◌, ◌≤◌, ◌<◌}
use mathlib.Core.List.{List, [], ◌++◌, append-nil}
use mathlib.Core.Path.{◌≡◌, refl, sym, ap, subst, ◌∙◌}
use native.Mathlib.Omega.{arith}
use borrow.Rule.Slice.PartMut.{put_mid, post_of, same_len_mid, take_put}
use lib.ListN.{length, take, drop, length-take, length-drop, drop_of_length-le}
use lib.Seq.{take_all}
use Rattle.trial_step.specs.Underway.{Lined, step_of, Stepped, fill_from, block_of}
use Rattle.trial_step.proofs.Fills.{fill-line, fill-ended, fill-full}
use Rattle.trial_step.proofs.Left.{is-lined, is-ended}
use Rattle.trial_step.proofs.Filling.{filling-none, filling-all, filling-more}
use Rattle.trial_step.proofs.next_block.Goals as goal
use Rattle.trial_step.proofs.next_block.Goals.{After-block-1, After-next_line-next, At-loop-block, In-Some}

abbrev turn : After-next_line-next → At-loop-block
turn n = (goal.at.After-next_line-next n).At-loop-block

-- the block as the step has left it is as long as before
block_same : (b : After-block-1) → let n = (goal.at.After-block-1 b).After-next_line-next in
    length (put_mid (turn n).loop-block.size (length (turn n).loop-block.block - (turn n).loop-block.size)
    (turn n).loop-block.block
    n.next_line-next.new.line) ≡
    length (turn n).loop-block.block
block_same b =
    let n = (goal.at.After-block-1 b).After-next_line-next in
    let l = (turn n).loop-block in
    same_len_mid l.size (length l.block - l.size) l.block n.next_line-next.new.line
    n.next_line-next.auto.line

pub loop-block-init : goal.loop-block-init
unfolding block_of
loop-block-init c =
    let block = c.args.block.now in
    (filling-none _ c.requires.0, (suc (length block), omega arith, refl))

-- what the step is lent is the block from `size` on, and what is left is the block with it
lent : (block : List ℕ) (size : ℕ) → take (length block - size) (drop size block) ≡ drop size block
lent block size = take_all (length block - size) (drop size block) (omega (arith, length-drop size block))

left : (block line : List ℕ) (size : ℕ) → size ≤ length block →
    put_mid size (length block - size) block line ≡ take size block ++ line
left block line size le =
    let none : post_of size (length block - size) block ≡ [] =
    drop_of_length-le (drop size block) {i = length block - size} (omega (arith, length-drop size block)) in
    ap (λ r. take size block ++ (line ++ r)) none ∙ ap (take size block ++◌) (append-nil line)

-- the step of this turn
stepped : (n : After-next_line-next) →
    let l = n in
    let a = l.args in
    let line = n.next_line-next.new in
    Stepped (step_of a.image.now a.text.now l.loop-block.reached l.loop-block.samples l.loop-block.state
    (drop l.loop-block.size l.loop-block.block)) line.samples line.state line.line n.next_line-next.result
stepped n =
    let l = n in
    let a = l.args in
    let line = n.next_line-next.new in
    subst (λ b. Stepped (step_of a.image.now a.text.now l.loop-block.reached l.loop-block.samples l.loop-block.state b)
    line.samples line.state line.line n.next_line-next.result) (lent l.loop-block.block l.loop-block.size)
    n.next_line-next.ensures.is

pub next_line-next-requires : goal.next_line-next-requires
next_line-next-requires c =
    (c.loop-block.invariant.0.underway, simp (length-take, length-drop) (omega (arith, c.loop-block-test.true)))

pub shape_of-samples-in_default : goal.shape_of-samples-in_default
shape_of-samples-in_default c =
    c.next_line-next.auto.samples ∙ c.loop-block.invariant.0.samples-kept

pub shape_of-state-in_default : goal.shape_of-state-in_default
shape_of-state-in_default c =
    c.next_line-next.auto.state ∙ c.loop-block.invariant.0.state-kept

pub shape_of-block-in_default : goal.shape_of-block-in_default
shape_of-block-in_default c =
    block_same (goal.at.shape_of-block-in_default c).After-block-1 ∙ c.loop-block.invariant.0.block-kept

pub returns-in_default : goal.returns-in_default
returns-in_default c =
    let b = (goal.at.returns-in_default c).After-block-1 in
    let n = (goal.at.returns-in_default c).After-next_line-next in
    let f = c.loop-block.invariant.0 in
    let none = is-ended c.args.image.now c.args.text.now c.loop-block.reached c.loop-block.samples c.loop-block.state _ _ _
    c.in_default.is n.next_line-next.ensures.steps in
    let line = n.next_line-next.new in
    let room = n.loop-block-test.true in
    let e = c.loop-block.invariant.1 in
    let is = e.2 ∙
    fill-ended c.args.image.now c.args.text.now c.loop-block.reached c.loop-block.samples c.loop-block.state c.loop-block.block
    c.loop-block.size e.0 e.1 f.fits room
    (subst (Stepped _ line.samples line.state line.line) c.in_default.is (stepped n)) in record {
      fills = record {
        fits = omega (arith, f.fits, block_same b);
        more = λ e. let z : ◌≡◌ {A = ℕ} 0 1 = cc in absurd (omega arith);
        underway = λ e. let z : ◌≡◌ {A = ℕ} 0 1 = cc in absurd (omega arith);
        fewer = λ e. let z : ◌≡◌ {A = ℕ} 0 1 = cc in absurd (omega arith);
        last =
            λ e. filling-all f none ∙
            sym (take_put c.loop-block.size (length c.loop-block.block - c.loop-block.size) c.loop-block.block
            n.next_line-next.new.line f.fits);
      };
      is = record {
        answer-is = sym (ap (λ x. x.answer) is);
        samples-is = sym (ap (λ x. x.samples) is);
        state-is = sym (ap (λ x. x.state) is);
        block-is = left c.loop-block.block line.line c.loop-block.size f.fits ∙ sym (ap (λ x. x.block) is);
      };
    }

-- the line of this turn
abbrev at-step : In-Some → After-next_line-next
at-step c = (goal.at.In-Some c).After-next_line-next

this : (c : In-Some) →
    let n = (goal.at.In-Some c).After-next_line-next in
    let a = c.args in
    let line = n.next_line-next.new in
    Lined a.image.now a.text.now c.loop-block.reached c.loop-block.samples c.loop-block.state line.samples line.state
    line.line
    c.in-Some.length c.in-Some.after
this c =
    is-lined c.in-Some.length c.in-Some.after c.in-Some.is (at-step c).next_line-next.ensures.steps

pub overflow_add-size : goal.overflow_add-size
overflow_add-size c =
    omega (arith, c.loop-block.invariant.0.fits, (this c).fits, (at-step c).next_line-next.auto.line)

pub loop-block-preserved : goal.loop-block-preserved
loop-block-preserved c =
    let n = (goal.at.loop-block-preserved c).After-next_line-next in
    let line = n.next_line-next.new in
    let e = c.loop-block.invariant.1 in
    let more =
    fill-line c.args.image.now c.args.text.now c.loop-block.reached c.loop-block.samples c.loop-block.state c.loop-block.block
    c.loop-block.size e.0 e.1 c.loop-block.invariant.0.fits n.loop-block-test.true
    (subst (Stepped _ line.samples line.state line.line) c.in-Some.is (stepped n)) in
    let same = block_same (goal.at.loop-block-preserved c).After-block-1 in (
      filling-more (post_of c.loop-block.size (length c.loop-block.block - c.loop-block.size) c.loop-block.block)
          c.loop-block.invariant.0 (this c)
          n.next_line-next.auto.samples n.next_line-next.auto.state same,
      (
        more.0,
        omega (arith, more.1, same),
        e.2 ∙ more.2 ∙
            ap (λ b. fill_from more.0 c.args.image.now c.args.text.now c.in-Some.after line.samples line.state b
            (c.loop-block.size + c.in-Some.length))
            (sym (left c.loop-block.block line.line c.loop-block.size c.loop-block.invariant.0.fits)),
      ),
    )

pub returns : goal.returns
returns c =
    let l = c in
    let s = c in
    let f = l.loop-block.invariant.0 in
    let some : 0 < l.loop-block.size = omega (arith, c.loop-block-test.false, s.requires.1, f.block-kept) in
    let e = l.loop-block.invariant.1 in
    let is = e.2 ∙
    fill-full s.args.image.now s.args.text.now l.loop-block.reached l.loop-block.samples l.loop-block.state l.loop-block.block
    l.loop-block.size e.0 (omega (arith, c.loop-block-test.false)) in record {
      fills = record {
        fits = f.fits;
        more = λ e. f.bytes;
        underway = λ e. f.underway;
        fewer = λ e. f.fewer some;
        last = λ e. let z : ◌≡◌ {A = ℕ} 0 1 = cc in absurd (omega arith);
      };
      is = record {
        answer-is = sym (ap (λ x. x.answer) is);
        samples-is = sym (ap (λ x. x.samples) is);
        state-is = sym (ap (λ x. x.state) is);
        block-is = sym (ap (λ x. x.block) is);
      };
    }

pub overflow_sub-block : goal.overflow_sub-block
overflow_sub-block c = c.loop-block.invariant.0.fits

pub slice_bounds-next_line-count : goal.slice_bounds-next_line-count
slice_bounds-next_line-count c = c.loop-block.invariant.0.fits

pub loop-block-smaller : goal.loop-block-smaller
loop-block-smaller c = omega (arith, ap length (this c).next-line)

pub shape_of-samples : goal.shape_of-samples
shape_of-samples c = c.loop-block.invariant.0.samples-kept

pub shape_of-state : goal.shape_of-state
shape_of-state c = c.loop-block.invariant.0.state-kept

pub shape_of-block : goal.shape_of-block
shape_of-block c = c.loop-block.invariant.0.block-kept
