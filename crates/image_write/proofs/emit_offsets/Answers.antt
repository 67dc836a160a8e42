-- `image_write::emit_offsets` meets its contract. Assumes nothing.
use Prim.Native.Nat.{ℕ, ◌+◌, ◌≤◌, ◌<◌}
use mathlib.Core.List.{List}
use mathlib.Core.Path.{◌≡◌, refl, sym, ap, subst, ◌∙◌}
use native.Mathlib.Omega.{arith}
use lib.ListN.{length, length-set}
use lib.Seq.{get_or-set_same, get_or-set_other}
use Rattle.model.specs.Rules.Image.{joined}
use Rattle.model.specs.Rules.Word.{two_bytes}
use Rattle.image_write.specs.Cursors.{Stands}
use Rattle.image_write.specs.Lists.{list_by, lists_by}
use Rattle.model.proofs.Basics.Left.{parts-length, starts, room, turn, done, wrote-size}
use Rattle.image_write.proofs.Cursors.{prefix-start, prefix-stands, prefix-next, starts_more}
use Rattle.image_write.proofs.Joined.{joined_from, joined-starts, joined_step, joined-ends, pairs_start, pairs-step, pairs-last, lists-most}
use Rattle.image_write.proofs.emit_offsets.Goals as goal
use Rattle.image_write.proofs.emit_offsets.Goals.{After-from_count-runs, At-loop-c, Start}

-- the lists
module _ (s : Start) where
  abbrev f : ℕ → List ℕ
  f = list_by s.args.periods.now s.args.order.now s.args.phases.now s.args.n

  abbrev h : ℕ
  h = s.args.h

  abbrev total : ℕ
  total = length (joined (lists_by s.args.periods.now s.args.order.now s.args.phases.now s.args.n h))

  few : total ≤ 15360
  few =
      omega (
        arith,
        lists-most s.args.periods.now s.args.order.now s.args.phases.now s.args.n h s.requires.1.0.few,
        s.requires.1.2,
      )

-- where the loop stands
module _ (t : At-loop-c) where
  abbrev start_of : Start
  start_of = (goal.at.At-loop-c t).Start

  so_far : t.loop-c.before ≤ total start_of
  so_far = omega (arith, t.loop-c.invariant.2)

  small : t.loop-c.before < 65536
  small = omega (arith, so_far, few start_of)

-- where the length of a list is known
module _ (w : After-from_count-runs) where
  abbrev at : At-loop-c
  at = (goal.at.After-from_count-runs w).At-loop-c

  abbrev s : Start
  s = (goal.at.After-from_count-runs w).Start

  lt : at.loop-c.c < h s
  lt = w.loop-c-test.true

  runs-are : w.from_count-runs.result ≡ length (f s at.loop-c.c)
  runs-are = w.from_count-runs.ensures ∙ at.count_runs-counts.ensures.counted at.loop-c.c lt

  further : at.loop-c.before + w.from_count-runs.result + length (joined_from (f s) (h s) (at.loop-c.c + 1)) ≡ total s
  further = omega (arith, at.loop-c.invariant.2, parts-length (joined_step (f s) (h s) at.loop-c.c lt), runs-are)

pub loop-c-init : goal.loop-c-init
unfolding lists_by
loop-c-init c =
    let b = (goal.at.loop-c-init c).Start in
    let z : b.args.start + 0 ≡ b.args.start = omega arith in (
      omega arith,
      b.requires.0,
      omega (arith, ap length (joined-starts (f b) (h b))),
      rw (z, pairs_start (f b) (h b) b.args.start) starts,
      prefix-start (f b) (h b),
      λ d lt. absurd (omega arith),
    )

pub overflow_add-start : goal.overflow_add-start
overflow_add-start c = let t = (goal.at.overflow_add-start c).At-loop-c in omega (arith, so_far t, (start_of t).requires.2)

pub put_offset-end-requires : goal.put_offset-end-requires
unfolding two_bytes
put_offset-end-requires c =
    let t = (goal.at.put_offset-end-requires c).At-loop-c in
    let b = (goal.at.put_offset-end-requires c).Start in
    room (pairs-step (f b) (h b) (b.args.start + t.loop-c.before) t.loop-c.c c.loop-c-test.true)
    t.loop-c.invariant.3 b.requires.3

pub offset_bounds-counts-c : goal.offset_bounds-counts-c
offset_bounds-counts-c c =
    let t = c in
    omega (arith, t.loop-c-test.true, (start_of (goal.at.offset_bounds-counts-c t).At-loop-c).requires.1.2)

pub bounds-counts-c : goal.bounds-counts-c
bounds-counts-c c =
    let t = c in
    omega (arith, t.loop-c-test.true, (start_of (goal.at.bounds-counts-c t).At-loop-c).requires.1.2)

pub loop-c-preserved : goal.loop-c-preserved
loop-c-preserved c =
    let b = (goal.at.loop-c-preserved c).Start in
    let l = (at c).loop-c in
    let e : b.args.start + l.before + length (f b l.c) ≡ b.args.start + (l.before + c.from_count-runs.result) =
    omega (arith, runs-are c) in (
      omega (arith, lt c),
      length-set l.starts l.c _ ∙ l.invariant.1,
      further c,
      rw (← e)
          (turn (pairs-step (f b) (h b) (b.args.start + l.before) l.c (lt c)) l.invariant.3
          c.put_offset-end.ensures),
      prefix-next (f b) (h b) l.c l.before c.from_count-runs.result (lt c) (runs-are c) l.invariant.4,
      starts_more (f b) (h b) l.starts l.c l.before (omega (arith, lt c, l.invariant.1, b.requires.1.2))
          (prefix-stands (f b) (h b) l.c l.before (lt c) l.invariant.4) l.invariant.5,
    )

pub overflow_add-start-2 : goal.overflow_add-start-2
overflow_add-start-2 c = let t = (goal.at.overflow_add-start-2 c).At-loop-c in omega (arith, so_far t, (start_of t).requires.2)

pub put_offset-requires : goal.put_offset-requires
unfolding two_bytes
put_offset-requires c =
    let t = (goal.at.put_offset-requires c).At-loop-c in
    let b = (goal.at.put_offset-requires c).Start in
    room (pairs-last (f b) (h b) (b.args.start + t.loop-c.before) t.loop-c.c (omega (arith, c.loop-c-test.false)))
    t.loop-c.invariant.3 b.requires.3

pub shape_of-out : goal.shape_of-out
shape_of-out c =
    wrote-size c.put_offset.ensures ∙ c.loop-c.invariant.3.size

pub returns : goal.returns
unfolding lists_by
returns c =
    let c4 = c in
    let c5 = c in
    let t = (goal.at.returns c).At-loop-c in
    let b = (goal.at.returns c).Start in
    let l = t.loop-c in
    let le : h b ≤ l.c = omega (arith, c4.loop-c-test.false) in
    let room : h b < length l.starts = omega (arith, l.invariant.1, b.requires.1.2) in (
      record {
        stands = λ d lt.
            subst (Stands (f b) (h b) d) (sym (get_or-set_other l.starts (h b) d l.before 0 (λ z. omega arith)))
            (l.invariant.5 d (omega arith));
        last =
            get_or-set_same l.starts (h b) l.before 0 room ∙
            omega (arith, l.invariant.2, ap length (joined-ends (f b) (h b) l.c le));
        small = omega (arith, few b);
        long = length-set l.starts (h b) _ ∙ l.invariant.1;
      },
      done refl
          (turn (pairs-last (f b) (h b) (b.args.start + l.before) l.c le) l.invariant.3
          c.put_offset.ensures),
    )

pub count_runs-counts-requires : goal.count_runs-counts-requires
count_runs-counts-requires c = c.requires.1

pub overflow_cast-starts : goal.overflow_cast-starts
overflow_cast-starts c = omega (arith, small (goal.at.overflow_cast-starts c).At-loop-c)

pub offset_bounds-starts-c : goal.offset_bounds-starts-c
offset_bounds-starts-c c = omega (arith, (start_of (goal.at.offset_bounds-starts-c c).At-loop-c).requires.1.2)

pub bounds-starts-c : goal.bounds-starts-c
bounds-starts-c c = omega (arith, (start_of (goal.at.bounds-starts-c c).At-loop-c).requires.1.2)

pub overflow_add-before : goal.overflow_add-before
overflow_add-before c = omega (arith, further c, few (goal.at.overflow_add-before c).Start)

pub overflow_cast-starts-2 : goal.overflow_cast-starts-2
overflow_cast-starts-2 c = omega (arith, small (goal.at.overflow_cast-starts-2 c).At-loop-c)

pub offset_bounds-starts-h : goal.offset_bounds-starts-h
offset_bounds-starts-h c = omega (arith, (start_of (goal.at.offset_bounds-starts-h c).At-loop-c).requires.1.2)

pub bounds-starts-h : goal.bounds-starts-h
bounds-starts-h c = omega (arith, (start_of (goal.at.bounds-starts-h c).At-loop-c).requires.1.2)
