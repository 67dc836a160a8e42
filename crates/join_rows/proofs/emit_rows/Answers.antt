-- `join_rows::emit_rows` meets its contract. Assumes nothing.
use Prim.Native.Nat.{ℕ, ◌+◌, ◌*◌, ◌<◌}
use mathlib.Core.List.{List}
use mathlib.Core.Path.{◌≡◌, sym, ap, ◌∙◌}
use native.Mathlib.Omega.{arith}
use lib.ListN.{length}
use lib.Seq.{sets}
use Rattle.model.specs.Rules.Join.{PartTexts, parts_in, texts_at, program_text}
use Rattle.model.specs.Rules.Parts.{joined_parts}
use Rattle.join_rows.specs.Rows.{rows_by}
use Rattle.join_rows.proofs.Stand.{RowsStand, part-inside, part-stands, none-stand, bytes-are, bytes-long}
use Rattle.join_rows.proofs.emit_rows.Goals as goal
use Rattle.join_rows.proofs.emit_rows.Goals.{Else-table-eq0, Start}

-- what is lent, and where the part's text lies
module _ (s : Start) where
  abbrev texts : List ℕ
  texts = s.args.texts.now

  abbrev numbers : List ℕ
  numbers = s.args.numbers.now

  abbrev own : PartTexts
  own = texts_at numbers s.args.table.now.part

  abbrev RowsIn : List ℕ → ℕ → Type 0
  RowsIn text count = RowsStand text s.args.table.now.offsets count (joined_parts s.requires.0.parts).program.rows

  none : s.args.table.now.rows ≡ 0 → (text : List ℕ) → RowsIn text 0
  none = none-stand texts numbers s.args.table.now s.requires.0

  long : length (rows_by texts numbers s.args.table.now) ≡ 1 + 12 * s.args.table.now.rows
  long = bytes-long texts numbers s.args.table.now s.requires.0

  module _ (some : 0 < s.args.table.now.rows) where
    inside : s.args.table.now.part < parts_in numbers
    inside = part-inside texts numbers s.args.table.now s.requires.0 some

    stands : RowsIn (program_text texts own) s.args.table.now.rows
    stands = part-stands texts numbers s.args.table.now s.requires.0 some

pub emit_rows-requires : goal.emit_rows-requires
emit_rows-requires c =
    let i = c in
    let s = (goal.at.emit_rows-requires c).Start in
    let r = none s i.if-table-eq0.true _ in
    (r.placed, r.upright, r.covers, omega (arith, s.requires.1))

pub returns-then-table-eq0 : goal.returns-then-table-eq0
returns-then-table-eq0 c =
    let r = c in
    let i = c in
    let s = (goal.at.returns-then-table-eq0 c).Start in
    record {
      holds =
          r.emit_rows.ensures ∙
          ap (sets s.args.out.now s.args.to)
          (bytes-are (texts s) (numbers s) s.args.table.now s.requires.0 _ 0 (none s i.if-table-eq0.true _));
      ends = omega (arith, long s, i.if-table-eq0.true);
    }

-- there are rows
abbrev begun : Else-table-eq0 → Start
begun e = (goal.at.Else-table-eq0 e).Start

some : (e : Else-table-eq0) → 0 < (begun e).args.table.now.rows
some e = omega (arith, e.if-table-eq0.false)

pub program_of-program-requires : goal.program_of-program-requires
program_of-program-requires c =
    let e = (goal.at.program_of-program-requires c).Else-table-eq0 in
    (inside (begun e) (some e), c.requires.0.lent-texts)

pub emit_rows-requires-2 : goal.emit_rows-requires-2
emit_rows-requires-2 c =
    let e = (goal.at.emit_rows-requires-2 c).Else-table-eq0 in
    let s = (goal.at.Else-table-eq0 e).Start in
    let r = rw (sym c.program_of-program.ensures) at (stands s (some e)) in
    (r.placed, r.upright, r.covers, (begun e).requires.1)

pub returns : goal.returns
returns c =
    let r = c in
    let e = (goal.at.returns c).Else-table-eq0 in
    let s = (goal.at.returns c).Start in
    record {
      holds =
          r.emit_rows-2.ensures ∙
          ap (sets s.args.out.now s.args.to)
          (bytes-are (texts s) (numbers s) s.args.table.now s.requires.0 _ s.args.table.now.rows
          (rw (sym c.program_of-program.ensures) at (stands s (some e))));
      ends = omega (arith, long s);
    }
