-- `image_write::emit` meets its contract. Assumes nothing.
use Prim.Native.Nat.{ℕ, ◌+◌, ◌≤◌}
use mathlib.Core.List.{List, [], ◌++◌}
use mathlib.Core.Path.{◌≡◌, refl, ◌∙◌}
use native.Mathlib.Omega.{arith}
use lib.ListN.{length, drop}
use lib.Seq.{length-sets}
use Rattle.model.specs.Rules.Image.{joined, offsets, records, lists_at, length_of, image_of, written_length}
use Rattle.model.specs.Rules.Program.{Program}
use Rattle.model.specs.Rules.Schedule.{Schedule}
use Rattle.model.specs.Rules.Word.{two_bytes}
use Rattle.model.proofs.Basics.Left.{Left, starts, room, turn, done}
use Rattle.text_schedule.specs.Arranged.{Arranged}
use Rattle.text_schedule.proofs.Arranged.{short-hypercycle}
use Rattle.image_write.specs.Codes.{declared_by, codes_from}
use Rattle.image_write.specs.Lists.{lists_by, pairs}
use Rattle.image_write.specs.Rows.{table_by}
use Rattle.image_write.proofs.Timed.{codes_by, length_by, image_by, head_first, both, last}
use Rattle.image_write.proofs.Imaged.{
  count-is,
  declared,
  table-stands,
  timed,
  phased,
  tail-by,
  lists-by,
  codes-at,
  code_by,
  length-by,
  image-size,
  image-written,
}
use Rattle.image_write.proofs.Written.{tail-room, all-written}
use Rattle.image_write.proofs.emit.Goals as goal
use Rattle.image_write.proofs.emit.Goals.{After-emit_codes, After-emit_lists-table, After-emit_offsets-lists, After-emit_records-offsets, After-emit_table-codes, After-emit_tail, After-put_head-records, Start}

-- the parts of the image, by the tables
module _ (s : Start) where
  abbrev h : ℕ
  h = s.args.pair.now.hypercycle

  abbrev count : ℕ
  count = s.args.pair.now.tables.signals

  abbrev lists : List (List ℕ)
  lists = lists_by s.args.pair.now.tables.periods s.args.pair.now.slots.order s.args.pair.now.slots.phases count h

  abbrev codes : List (List ℕ)
  codes = codes_from 0 (declared_by s.args.text.now)

  abbrev rows : List ℕ
  rows = table_by s.args.text.now s.args.pair.now.tables.offsets s.args.pair.now.tables.rows

  abbrev recorded : List ℕ
  recorded = records (declared_by s.args.text.now) (offsets (codes_by h count lists rows) codes)

  abbrev paired : List ℕ
  paired = pairs (offsets (lists_at count h) lists)

  abbrev image : List ℕ
  image = image_by h count (declared_by s.args.text.now) lists rows codes

  -- what is left of it
  abbrev Rest : List ℕ → ℕ → List ℕ → Type 0
  Rest out to rest = Left s.args.out.now 0 image out to rest

  abbrev arranged :
      Arranged s.args.text.now s.requires.reads s.args.pair.now s.requires.arrangement.0 s.requires.arrangement.1
  arranged = s.requires.arrangement.2

  -- the layout, by the tables
  lists-is : s.args.layout.lists ≡ lists_at count h
  lists-is = s.requires.laid_out.lists-at ∙ lists-by arranged

  code_at : s.args.layout.code ≡ codes_by h count lists rows
  code_at = s.requires.laid_out.code_at ∙ code_by arranged

  ends : s.args.layout.end ≡ length_by h count lists rows codes
  ends = s.requires.laid_out.ends ∙ length-by arranged

  end-within : s.args.layout.end ≤ length s.args.out.now
  end-within = omega (arith, s.requires.laid_out.ends, s.requires.laid_out.tail-ends, s.requires.room)

  space : 0 + length image ≤ length s.args.out.now
  space = omega (arith, image-size arranged, s.requires.laid_out.ends, end-within)

  -- where image and tail end, of each pair of which the tables are
  both_end : {reads : List ℕ} (p : Program) (q : Schedule) → Arranged s.args.text.now reads s.args.pair.now p q →
      (s.args.layout.end ≡ length_of p q h) × (s.args.layout.written ≡ written_length p q h)
  both_end p q e = (
    omega (arith, ends, length-by e),
    omega (arith, s.requires.laid_out.tail-ends, length-by arranged, length-by e, count-is arranged, count-is e),
  )

-- the places: the start, and where each part is written
abbrev begun : After-put_head-records → Start
begun c = (goal.at.After-put_head-records c).Start

abbrev headed : After-emit_records-offsets → After-put_head-records
headed c = (goal.at.After-emit_records-offsets c).After-put_head-records

abbrev records-at : After-emit_offsets-lists → After-emit_records-offsets
records-at c = (goal.at.After-emit_offsets-lists c).After-emit_records-offsets

abbrev offsets-at : After-emit_lists-table → After-emit_offsets-lists
offsets-at c = (goal.at.After-emit_lists-table c).After-emit_offsets-lists

abbrev listed : After-emit_table-codes → After-emit_lists-table
listed c = (goal.at.After-emit_table-codes c).After-emit_lists-table

abbrev tabled : After-emit_codes → After-emit_table-codes
tabled c = (goal.at.After-emit_codes c).After-emit_table-codes

abbrev origin : After-emit_lists-table → Start
origin c = (goal.at.After-emit_lists-table c).Start

-- what is left after each part
after-head : (c : After-put_head-records) → let s = (goal.at.After-put_head-records c).Start in
    Rest s c.put_head-records.new.out c.put_head-records.result
    (recorded s ++ (paired s ++ (joined (lists s) ++ (rows s ++ joined (codes s)))))
after-head c =
    let s = (goal.at.After-put_head-records c).Start in
    turn (head_first (h s) (count s) _ (lists s) (rows s) (codes s)) starts (rw (ends s) at c.put_head-records.ensures)

after-records : (c : After-emit_records-offsets) → let s = (goal.at.After-emit_records-offsets c).Start in
    Rest s c.emit_records-offsets.new.out c.emit_records-offsets.result
    (paired s ++ (joined (lists s) ++ (rows s ++ joined (codes s))))
after-records c =
    let s = (goal.at.After-emit_records-offsets c).Start in
    turn (both (recorded s) _) (after-head (goal.at.After-emit_records-offsets c).After-put_head-records) (rw (code_at s) at c.emit_records-offsets.ensures)

after-offsets : (c : After-emit_offsets-lists) → let s = (goal.at.After-emit_offsets-lists c).Start in
    Rest s c.emit_offsets-lists.new.out c.emit_offsets-lists.result
    (joined (lists s) ++ (rows s ++ joined (codes s)))
after-offsets c =
    let s = (goal.at.After-emit_offsets-lists c).Start in
    turn (both (paired s) _) (after-records (goal.at.After-emit_offsets-lists c).After-emit_records-offsets) (rw (lists-is s) at c.emit_offsets-lists.ensures.1)

after-lists : (c : After-emit_lists-table) → let s = (goal.at.After-emit_lists-table c).Start in
    Rest s c.emit_lists-table.new.out c.emit_lists-table.result (rows s ++ joined (codes s))
after-lists c = turn (both (joined (lists (goal.at.After-emit_lists-table c).Start)) _) (after-offsets (goal.at.After-emit_lists-table c).After-emit_offsets-lists) c.emit_lists-table.ensures

after_table : (c : After-emit_table-codes) → let s = (goal.at.After-emit_table-codes c).Start in
    Rest s c.emit_table-codes.new.out c.emit_table-codes.result (joined (codes s))
after_table c = turn (both (rows (goal.at.After-emit_table-codes c).Start) _) (after-lists (goal.at.After-emit_table-codes c).After-emit_lists-table) c.emit_table-codes.ensures

pub put_head-records-requires : goal.put_head-records-requires
unfolding two_bytes
put_head-records-requires c =
    let s = (goal.at.put_head-records-requires c).Start in (
      omega (arith, short-hypercycle (arranged s)),
      omega (arith, (declared (arranged s)).few),
      room (head_first (h s) (count s) _ (lists s) (rows s) (codes s)) (starts {l = s.args.out.now} {to = 0}) (space s),
    )

pub emit_records-offsets-requires : goal.emit_records-offsets-requires
emit_records-offsets-requires c =
    let d = (goal.at.emit_records-offsets-requires c).After-put_head-records in
    let s = (goal.at.emit_records-offsets-requires c).Start in
    let l = after-head d in (
      declared (arranged s),
      codes-at (arranged s) s.args.layout.code,
      omega (arith, code_at s, ends s, end-within s, l.size),
      rw (code_at s) (room (both (recorded s) _) l (space s)),
    )

pub emit_offsets-lists-requires : goal.emit_offsets-lists-requires
emit_offsets-lists-requires c =
    let d = (goal.at.emit_offsets-lists-requires c).After-emit_records-offsets in
    let s = (goal.at.emit_offsets-lists-requires c).Start in
    let l = after-records d in (
      refl,
      (timed (arranged s), phased (arranged s), short-hypercycle (arranged s)),
      omega (arith, lists-is s, ends s, end-within s, l.size),
      rw (lists-is s) (room (both (paired s) _) l (space s)),
    )

pub emit_lists-table-requires : goal.emit_lists-table-requires
emit_lists-table-requires c =
    let d = (goal.at.emit_lists-table-requires c).After-emit_offsets-lists in
    let s = (goal.at.emit_lists-table-requires c).Start in (
      (timed (arranged s), phased (arranged s), short-hypercycle (arranged s)),
      d.emit_offsets-lists.ensures.0,
      room (both (joined (lists s)) _) (after-offsets d) (space s),
    )

pub emit_table-codes-requires : goal.emit_table-codes-requires
emit_table-codes-requires c =
    let d = (goal.at.emit_table-codes-requires c).After-emit_lists-table in
    let s = (goal.at.emit_table-codes-requires c).Start in
    let b = c in
    let k = c in (
      table-stands (arranged s) (λ i. (k.shared_slice_known-1.given i).fits),
      room (both (rows s) _) (after-lists d) (space s),
    )

pub emit_codes-requires : goal.emit_codes-requires
emit_codes-requires c =
    let d = (goal.at.emit_codes-requires c).After-emit_table-codes in
    let s = (goal.at.emit_codes-requires c).Start in
    (declared (arranged s), room (last (joined (codes s))) (after_table d) (space s))

-- the image is written
module _ (c : After-emit_codes) where
  abbrev start : Start
  start = (goal.at.After-emit_codes c).Start

  after-codes : Rest start c.emit_codes.new.out c.emit_codes.result []
  after-codes = turn (last (joined (codes start))) (after_table (goal.at.After-emit_codes c).After-emit_table-codes) c.emit_codes.ensures

  image-left : {reads : List ℕ} (p : Program) (q : Schedule) → Arranged start.args.text.now reads start.args.pair.now p q →
      c.emit_codes.new.out ≡ image_of p q (h start) ++ drop (length_of p q (h start)) start.args.out.now
  image-left p q e =
      image-written e (omega (arith, (both_end start p q e).0, end-within start)) (done refl after-codes)

pub emit_tail-requires : goal.emit_tail-requires
emit_tail-requires c =
    let d = (goal.at.emit_tail-requires c).After-emit_codes in
    let s = (goal.at.emit_tail-requires c).Start in
    let l = s.requires.laid_out in (
      (declared (arranged s)).few,
      tail-room _ _ (h s) _ _ l.tail-ends s.requires.room (image-left d _ _ (arranged s)) l.ends (tail-by (arranged s)),
    )

-- and its tail
abbrev coded : After-emit_tail → After-emit_codes
coded c = (goal.at.After-emit_tail c).After-emit_codes

pub shape_of-out : goal.shape_of-out
shape_of-out c =
    let t = (goal.at.shape_of-out c).After-emit_tail in
    rw t.emit_tail.ensures (simp length-sets (after-codes (goal.at.After-emit_tail t).After-emit_codes).size)

pub returns : goal.returns
returns c =
    let t = (goal.at.returns c).After-emit_tail in
    let s = (goal.at.returns c).Start in
    λ reads p q e.
    let b = both_end s p q e in
    all-written p q (h s) _ _ b.1 s.requires.room (image-left (goal.at.After-emit_tail t).After-emit_codes p q e) b.0 (tail-by e)
    t.emit_tail.ensures
