-- `trial_script::script_command_at` meets its contract. Assumes nothing.
use Prim.Native.Nat.{ℕ, ◌+◌}
use mathlib.Core.List.{List}
use mathlib.Core.Path.{ap, ◌∙◌}
use native.Mathlib.Omega.{arith}
use borrow.Author.Tests.{lt-ltb, le-ltb, le-leb, lt-leb, eq-eqb, ne_eqb}
use lib.ListN.{length, get_or}
use Rattle.model.specs.Rules.Script.{script_command_at}
use Rattle.model.specs.declared.ScriptCommand.TheVariants as ScriptCommand
use Rattle.word.proofs.Locals.{kept}
use Rattle.trial_script.proofs.script_command_at.Goals as goal
use Rattle.trial_script.proofs.script_command_at.Goals.{After-shared_slice_known-2-1, Start}

-- the text, and the offset, which is inside it
abbrev start : After-shared_slice_known-2-1 → Start
start s = (goal.at.After-shared_slice_known-2-1 s).Start

abbrev text : After-shared_slice_known-2-1 → List ℕ
text s = (start s).args.text.now

abbrev offset : After-shared_slice_known-2-1 → ℕ
offset s = (start s).args.at

abbrev byte : After-shared_slice_known-2-1 → ℕ
byte s = get_or (text s) (offset s) 0

pub returns-then-text-at : goal.returns-then-text-at
unfolding script_command_at
returns-then-text-at c = let a = c.args in rw (le-ltb a.at (length a.text.now) (omega arith))

pub returns-then-b-eq0 : goal.returns-then-b-eq0
unfolding script_command_at
returns-then-b-eq0 c =
    let s = (goal.at.returns-then-b-eq0 c).After-shared_slice_known-2-1 in
    rw (lt-ltb (offset s) (length (text s)) (omega arith), eq-eqb (byte s) 0x00 c.if-b-eq0.true)

pub returns-then-left-in_script : goal.returns-then-left-in_script
unfolding script_command_at
returns-then-left-in_script c =
    let s = (goal.at.returns-then-left-in_script c).After-shared_slice_known-2-1 in
    rw (
      lt-ltb (offset s) (length (text s)) (omega arith),
      ne_eqb (byte s) 0x00 c.if-b-eq0.false,
      eq-eqb (byte s) 0x70 c.if-b-eq112.true,
      lt-leb (offset s + 6) (length (text s)) (omega arith),
    )

pub returns-then-b-eq112 : goal.returns-then-b-eq112
unfolding script_command_at
returns-then-b-eq112 c =
    let s = (goal.at.returns-then-b-eq112 c).After-shared_slice_known-2-1 in
    rw (
      lt-ltb (offset s) (length (text s)) (omega arith),
      ne_eqb (byte s) 0x00 c.if-b-eq0.false,
      eq-eqb (byte s) 0x70 c.if-b-eq112.true,
      le-leb (offset s + 6) (length (text s)) (omega arith),
    )
    (ap (ScriptCommand.Set (get_or (text s) (offset s + 1) 0)) (kept _ c.word_at.type_inv ∙ c.word_at.ensures))

pub returns-then-left-in_script-2 : goal.returns-then-left-in_script-2
unfolding script_command_at
returns-then-left-in_script-2 c =
    let s = (goal.at.returns-then-left-in_script-2 c).After-shared_slice_known-2-1 in
    rw (
      lt-ltb (offset s) (length (text s)) (omega arith),
      ne_eqb (byte s) 0x00 c.if-b-eq0.false,
      ne_eqb (byte s) 0x70 c.if-b-eq112.false,
      eq-eqb (byte s) 0x71 c.if-b-eq113.true,
      lt-leb (offset s + 2) (length (text s)) (omega arith),
    )

pub returns-then-b-eq113 : goal.returns-then-b-eq113
unfolding script_command_at
returns-then-b-eq113 c =
    let s = (goal.at.returns-then-b-eq113 c).After-shared_slice_known-2-1 in
    rw (
      lt-ltb (offset s) (length (text s)) (omega arith),
      ne_eqb (byte s) 0x00 c.if-b-eq0.false,
      ne_eqb (byte s) 0x70 c.if-b-eq112.false,
      eq-eqb (byte s) 0x71 c.if-b-eq113.true,
      le-leb (offset s + 2) (length (text s)) (omega arith),
    )

pub returns : goal.returns
unfolding script_command_at
returns c =
    let s = (goal.at.returns c).After-shared_slice_known-2-1 in
    rw (
      lt-ltb (offset s) (length (text s)) (omega arith),
      ne_eqb (byte s) 0x00 c.if-b-eq0.false,
      ne_eqb (byte s) 0x70 c.if-b-eq112.false,
      ne_eqb (byte s) 0x71 c.if-b-eq113.false,
    )
