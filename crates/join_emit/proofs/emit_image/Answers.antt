-- `join_emit::emit_image` meets its contract. Assumes nothing.
use Rattle.std.specs.Prelude.{Option}
use Prim.Native.Nat.{ℕ, ◌+◌, ◌*◌, ◌≤◌}
use mathlib.Core.List.{List, [], ◌∷◌, ◌++◌}
use mathlib.Core.Path.{◌≡◌, refl}
use native.Mathlib.Omega.{arith}
use lib.ListN.{length}
use Rattle.model.specs.Rules.Image.{lists_at}
use Rattle.model.specs.Rules.Word.{two_bytes}
use Rattle.model.proofs.Basics.Left.{Left, starts, room, turn, done}
use Rattle.image_write.proofs.Timed.{both, last}
use Rattle.join_gather.specs.declared.Joint.{Joint}
use Rattle.join_gather.specs.declared.Table.{Table}
use Rattle.join_rows.proofs.Stand.{bytes-long}
use Rattle.join_emit.specs.Image.{joint_runs, joint_rows, joint_codes, joint_codes_at, joint_records, joint_image}
use Rattle.join_emit.proofs.emit_image.Goals as goal
use Rattle.join_emit.proofs.emit_image.Goals.{After-emit_codes, After-emit_records-offsets, After-emit_rows-codes, After-emit_run_lists-rows, After-put_head-records, Start}

-- the parts of the image
module _ (s : Start) where
  abbrev by : {A : Type 0} → (List ℕ → List ℕ → Joint → Table → List (Option ℕ) → ℕ → A) → A
  by f = f s.args.texts.now s.args.numbers.now s.args.joint.now s.args.table.now s.args.sources.now s.args.h

  abbrev recorded : List ℕ
  recorded = by joint_records

  abbrev runs : List ℕ
  runs = joint_runs s.args.joint.now s.args.h (lists_at s.args.joint.now.signals s.args.h)

  abbrev rows : List ℕ
  rows = by joint_rows

  abbrev codes : List ℕ
  codes = joint_codes s.args.texts.now s.args.numbers.now s.args.joint.now s.args.sources.now

  abbrev first : List ℕ
  first = s.args.h ∷ s.args.joint.now.signals ∷ two_bytes (by joint_codes_at + length codes)

  -- what is left of it
  abbrev Rest : List ℕ → ℕ → List ℕ → Type 0
  Rest out to rest = Left s.args.out.now 0 (by joint_image) out to rest

  -- the layout
  rows_long : length rows ≡ 1 + 12 * s.args.table.now.rows
  rows_long = bytes-long s.args.texts.now s.args.numbers.now s.args.table.now s.requires.rows-ready

  code_at : s.args.layout.code ≡ by joint_codes_at
  code_at = omega (arith, s.requires.laid_out.code_at, rows_long)

  ends : s.args.layout.end ≡ by joint_codes_at + length codes
  ends = omega (arith, s.requires.laid_out.ends, code_at)

  space : 0 + length (by joint_image) ≤ length s.args.out.now
  space = omega (arith, s.requires.size, s.requires.room)

-- what is left after each part
abbrev begun : After-put_head-records → Start
begun c = (goal.at.After-put_head-records c).Start

after-head : (c : After-put_head-records) → let s = (goal.at.After-put_head-records c).Start in
    Rest s c.put_head-records.new.out c.put_head-records.result (recorded s ++ (runs s ++ (rows s ++ codes s)))
after-head c =
    let s = (goal.at.After-put_head-records c).Start in
    turn (both (first s) _) starts (rw (ends s) at c.put_head-records.ensures)

abbrev headed : After-emit_records-offsets → After-put_head-records
headed c = (goal.at.After-emit_records-offsets c).After-put_head-records

after-records : (c : After-emit_records-offsets) → let s = (goal.at.After-emit_records-offsets c).Start in
    Rest s c.emit_records-offsets.new.out c.emit_records-offsets.result (runs s ++ (rows s ++ codes s))
after-records c =
    let s = (goal.at.After-emit_records-offsets c).Start in
    turn (both (recorded s) _) (after-head (goal.at.After-emit_records-offsets c).After-put_head-records) (rw (code_at s) at c.emit_records-offsets.ensures)

abbrev written : After-emit_run_lists-rows → After-emit_records-offsets
written c = (goal.at.After-emit_run_lists-rows c).After-emit_records-offsets

after-runs : (c : After-emit_run_lists-rows) → let s = (goal.at.After-emit_run_lists-rows c).Start in
    Rest s c.emit_run_lists-rows.new.out c.emit_run_lists-rows.result (rows s ++ codes s)
after-runs c =
    let s = (goal.at.After-emit_run_lists-rows c).Start in
    turn (both (runs s) _) (after-records (goal.at.After-emit_run_lists-rows c).After-emit_records-offsets) (rw s.requires.laid_out.lists-at at c.emit_run_lists-rows.ensures)

abbrev listed : After-emit_rows-codes → After-emit_run_lists-rows
listed c = (goal.at.After-emit_rows-codes c).After-emit_run_lists-rows

after-rows : (c : After-emit_rows-codes) → let s = (goal.at.After-emit_rows-codes c).Start in
    Rest s c.emit_rows-codes.new.out c.emit_rows-codes.result (codes s)
after-rows c =
    let s = (goal.at.After-emit_rows-codes c).Start in
    turn (both (rows s) _) (after-runs (goal.at.After-emit_rows-codes c).After-emit_run_lists-rows) c.emit_rows-codes.ensures

abbrev tabled : After-emit_codes → After-emit_rows-codes
tabled c = (goal.at.After-emit_codes c).After-emit_rows-codes

after-codes : (c : After-emit_codes) → let s = (goal.at.After-emit_codes c).Start in
    Rest s c.emit_codes.new.out c.emit_codes.result []
after-codes c =
    let s = (goal.at.After-emit_codes c).Start in
    turn (last (codes s)) (after-rows (goal.at.After-emit_codes c).After-emit_rows-codes) c.emit_codes.ensures

pub emit_records-offsets-requires : goal.emit_records-offsets-requires
emit_records-offsets-requires c =
    let p = (goal.at.emit_records-offsets-requires c).After-put_head-records in
    let s = (goal.at.emit_records-offsets-requires c).Start in
    let l = after-head p in (
      s.requires.declared,
      omega (arith, s.requires.laid_out.ends, s.requires.room, l.size),
      rw (code_at s) (room (both (recorded s) _) l (space s)),
    )

pub emit_run_lists-rows-requires : goal.emit_run_lists-rows-requires
emit_run_lists-rows-requires c =
    let p = (goal.at.emit_run_lists-rows-requires c).After-emit_records-offsets in
    let s = (goal.at.emit_run_lists-rows-requires c).Start in
    let l = after-records p in (
      s.requires.times,
      omega (arith, s.requires.laid_out.lists-at, code_at s, ends s, s.requires.room, l.size),
      rw s.requires.laid_out.lists-at (room (both (runs s) _) l (space s)),
    )

pub emit_rows-codes-requires : goal.emit_rows-codes-requires
emit_rows-codes-requires c =
    let p = (goal.at.emit_rows-codes-requires c).After-emit_run_lists-rows in
    let s = (goal.at.emit_rows-codes-requires c).Start in
    let fits = room (both (rows s) _) (after-runs p) (space s) in
    (s.requires.rows-ready, omega (arith, fits, rows_long s))

pub emit_codes-requires : goal.emit_codes-requires
emit_codes-requires c =
    let p = (goal.at.emit_codes-requires c).After-emit_rows-codes in
    let s = (goal.at.emit_codes-requires c).Start in
    (s.requires.declared, room (last (codes s)) (after-rows p) (space s))

pub shape_of-out : goal.shape_of-out
shape_of-out c = (after-codes (goal.at.shape_of-out c).After-emit_codes).size

pub returns : goal.returns
returns c = (done refl (after-codes (goal.at.returns c).After-emit_codes)).holds
