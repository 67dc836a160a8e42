-- `check_links::one_read` meets its contract. Assumes nothing.
use Rattle.std.specs.Prelude.{Some, None}
use Prim.Native.Nat.{ℕ, ◌+◌, ◌-◌, ◌≤◌, ◌<◌}
use mathlib.Core.List.{List}
use mathlib.Core.Path.{◌≡◌, subst}
use native.Mathlib.Omega.{arith}
use lib.ListN.{length, get_or}
use borrow.Author.Rules.{rules}
use Rattle.model.specs.Rules.Program.{Program, signal_at, body_reads}
use Rattle.text_command.specs.Operator.{ReadStands}
use Rattle.text_program.specs.Tables.{Indexes, Indexed}
use Rattle.text_program.proofs.ByIndex.{in_table, read-stands, rises-at}
use Rattle.check_links.specs.Links.{one_read}
use Rattle.check_links.proofs.Counting.{
  Searched,
  same-search,
  search-starts,
  one_hit,
  one-missed,
  one_found,
  none_found,
  over,
  none-far,
  stands-inside,
}
use Rattle.check_links.proofs.one_read.Goals as goal
use Rattle.check_links.proofs.one_read.Goals.{
  After-loop-i,
  Else-count-index,
  In-loop-i,
  Joined-text-at,
  then-text-at,
  else-text-at,
}

-- where the signal is declared
module _ (a : Else-count-index) where
  abbrev text : List ℕ
  text = a.args.text.now

  abbrev reads : List ℕ
  reads = a.args.reads.now

  abbrev firsts : List ℕ
  firsts = a.args.firsts.now

  abbrev n : ℕ
  n = a.args.count

  abbrev w : ℕ
  w = a.args.before

  abbrev x : ℕ
  x = a.from_byte-index.result

  ix : Indexed text reads firsts n
  ix = a.requires.1

  lt : x < n
  lt = omega (arith, a.if-count-index.false)

  below : x < 64
  below = omega (arith, lt, a.requires.0)

-- where a read is left
module _ (b : In-loop-i) where
  abbrev a : Else-count-index
  a = (goal.at.In-loop-i b).Else-count-index

  abbrev i : ℕ
  i = b.loop-i.i

  low : get_or (firsts a) (x a) 0 ≤ i
  low = omega (arith, b.loop-i.invariant.0, b.from_entry-first.ensures.0)

  high : i < get_or (firsts a) (x a + 1) 0
  high = omega (arith, b.loop-i-test.true, b.from_entry-end.ensures.0)

  here : i < length (reads a)
  here = in_table (ix a).1 (x a) i (lt a) low high

  stands : ReadStands (text a) (get_or (reads a) i 0)
  stands = read-stands (ix a).1 (x a) i (lt a) low high

-- where it was seen
module _ (c : Joined-text-at) where
  abbrev b : In-loop-i
  b = (goal.at.Joined-text-at c).In-loop-i

  go_on : (p : Program) → Indexes (text (a b)) (reads (a b)) (firsts (a b)) (n (a b)) p →
      Searched (w (a b)) (body_reads (signal_at p (x (a b))).body)
      (i b + 1 - b.from_entry-first.result)
      c.if-text-at.many c.if-text-at.found
  go_on p e =
      let f = b.from_entry-first.ensures.0 in
      let l = b.loop-i.invariant.0 in
      let z = c.from_entry-at.ensures.0 in
      let v = b.loop-i.invariant.3 p e in
      elim c.if-text-at.branch [
        | then-text-at h ↦
            same-search _ _ h.many-is h.found-is
            (one_hit e (w (a b)) (x (a b)) (i b) (lt (a b)) _ f l (high b) _ z v h.if-text-at.true)
        | else-text-at h ↦
            same-search _ _ h.many-is h.found-is
            (one-missed e (w (a b)) (x (a b)) (i b) (lt (a b)) _ f l (high b) _ z v h.if-text-at.false)
      ]

-- where all are seen
module _ (d : After-loop-i) where
  abbrev o : Else-count-index
  o = (goal.at.After-loop-i d).Else-count-index

  all_seen : (p : Program) → Indexes (text o) (reads o) (firsts o) (n o) p →
      d.loop-i.i - d.from_entry-first.result ≡ length (body_reads (signal_at p (x o)).body)
  all_seen p e =
      let v = d.loop-i.invariant in
      let h : get_or (firsts o) (x o + 1) 0 ≡ d.loop-i.i =
      omega (arith, v.1, d.loop-i-test.false, d.from_entry-end.ensures.0) in
      over e (w o) (x o) d.loop-i.i (lt o) _ d.from_entry-first.ensures.0 v.0 h

pub returns-then-count-index : goal.returns-then-count-index
returns-then-count-index c =
    let v = c.from_byte-index.ensures.0 in
    λ p e. none-far p _ _ (omega (arith, e.count-is, v, c.if-count-index.true))

pub loop-i-init : goal.loop-i-init
loop-i-init c =
    let a = (goal.at.loop-i-init c).Else-count-index in
    let f = c.from_entry-first in (
      omega arith,
      omega (arith, f.ensures.0, c.from_entry-end.ensures.0, rises-at (ix a).1 (x a) (lt a)),
      omega arith,
      λ p e. search-starts _ _ _ (omega arith),
    )

pub offset_bounds-reads-i : goal.offset_bounds-reads-i
offset_bounds-reads-i c = omega (arith, c.loop-i-test.true, c.from_entry-end.ensures.1)

pub overflow_add-at : goal.overflow_add-at
overflow_add-at c = omega (arith, stands-inside (stands (goal.at.overflow_add-at c).In-loop-i), c.from_entry-at.ensures)

pub bounds-text-at : goal.bounds-text-at
bounds-text-at c = omega (arith, stands-inside (stands (goal.at.bounds-text-at c).In-loop-i), c.from_entry-at.ensures)

pub overflow_add-many : goal.overflow_add-many
overflow_add-many c =
    let b = c in
    omega (arith, b.loop-i.invariant.2, b.loop-i-test.true, b.from_entry-end.ensures.1)

pub loop-i-preserved : goal.loop-i-preserved
loop-i-preserved c =
    let v = (b c).loop-i.invariant in (
      omega (arith, v.0),
      omega (arith, (b c).loop-i-test.true),
      elim c.if-text-at.branch [ then-text-at h ↦ omega (arith, v.2) | else-text-at h ↦ omega (arith, v.2) ],
      go_on c,
    )

pub returns-then-many-ne1 : goal.returns-then-many-ne1
returns-then-many-ne1 c =
    let d = (goal.at.returns-then-many-ne1 c).After-loop-i in
    λ p e.
    subst (λ (m : ℕ). None ≡ one_read (w (o d)) (body_reads (signal_at p m).body)) (o d).from_byte-index.ensures.0
    (none_found _ _ _ (all_seen d p e) (d.loop-i.invariant.3 p e) (λ z. c.if-many-ne1.true z))

pub returns : goal.returns
returns c =
    let d = (goal.at.returns c).After-loop-i in
    λ p e.
    subst (λ (m : ℕ). Some d.loop-i.found ≡ one_read (w (o d)) (body_reads (signal_at p m).body))
    (o d).from_byte-index.ensures.0
    (one_found _ _ _ (all_seen d p e) (d.loop-i.invariant.3 p e) (omega (arith, c.if-many-ne1.false)))

pub offset_bounds-firsts-index : goal.offset_bounds-firsts-index
offset_bounds-firsts-index c = omega (arith, below c)

pub bounds-firsts-index : goal.bounds-firsts-index
bounds-firsts-index c = omega (arith, below (goal.at.bounds-firsts-index c).Else-count-index)

pub overflow_add-index : goal.overflow_add-index
overflow_add-index c = omega (arith, below (goal.at.overflow_add-index c).Else-count-index)

pub offset_bounds-firsts-index-2 : goal.offset_bounds-firsts-index-2
offset_bounds-firsts-index-2 c = omega (arith, below (goal.at.offset_bounds-firsts-index-2 c).Else-count-index)

pub bounds-firsts-index-2 : goal.bounds-firsts-index-2
bounds-firsts-index-2 c = omega (arith, below (goal.at.bounds-firsts-index-2 c).Else-count-index)

pub bounds-reads-i : goal.bounds-reads-i
bounds-reads-i c = here (goal.at.bounds-reads-i c).In-loop-i
