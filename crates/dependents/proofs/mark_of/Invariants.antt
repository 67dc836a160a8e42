-- `dependents::mark_of` meets its contract. Assumes nothing.
use Prim.Native.Nat.{ℕ, ◌+◌, ◌-◌, ◌≤◌, ◌<◌}
use mathlib.Core.Bool.{Bool, true, false}
use mathlib.Core.List.{List}
use mathlib.Core.Path.{◌≡◌, refl, sym, ap, subst, ◌∙◌}
use native.Mathlib.Omega.{arith}
use lib.Dec.{eqb}
use lib.ListN.{get_or}
use borrow.Author.Rules.{rules}
use borrow.Author.Tests.{eqb-true, eqb-false}
use Rattle.model.specs.Rules.Dependents.{mark_byte}
use Rattle.model.specs.Rules.Program.{Program, Read, signal_at, body_reads}
use Rattle.model.proofs.Basics.All.{all-at}
use Rattle.text_command.specs.Operator.{ReadStands, ReadTaken}
use Rattle.text_command.specs.declared.Taken.{Taken}
use Rattle.text_program.specs.Tables.{Indexes, Indexed}
use Rattle.text_program.proofs.ByIndex.{no_read, read_at, all_seen, seen, in_table, read-stands, taken_is, rises-at}
use Rattle.dependents.specs.Marks.{is_marked}
use Rattle.dependents.proofs.Marks.{any_at, none_any}
use Rattle.dependents.proofs.mark_of.Given as goal

-- None of the first n reads of signal x is of i or of a signal marked.
abbrev pub NoneMarked : (text reads firsts marks : List ℕ) → ℕ → ℕ → ℕ → Type 0
NoneMarked text reads firsts marks i x n =
    (p : Program) (m : ℕ) → Indexes text reads firsts m p → x < m →
    (j : ℕ) → j < n → is_marked marks i (read_at p x j).operands.signal ≡ false

abbrev pub invariant-loop-i : goal.invariant-loop-i
invariant-loop-i l =
    (get_or l.firsts l.reader 0 ≤ l.i) × (l.i ≤ l.end) ×
    NoneMarked l.text l.reads l.firsts l.marks l.input l.reader (l.i - get_or l.firsts l.reader 0)
