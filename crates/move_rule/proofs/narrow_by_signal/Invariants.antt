-- `move_rule::narrow_by_signal` meets its contract. Assumes nothing.
use Prim.Native.Nat.{ℕ, ◌+◌, ◌-◌, ◌≤◌, ◌<◌}
use mathlib.Core.List.{List}
use mathlib.Core.Path.{◌≡◌, sym, ap, subst}
use native.Mathlib.Omega.{arith}
use lib.ListN.{get_or}
use borrow.Author.Rules.{rules}
use Rattle.model.specs.Rules.Program.{Program, Read, count, signal_at, body_reads}
use Rattle.model.specs.Rules.Schedule.{Schedule}
use Rattle.model.specs.Says.Feasible.{Met}
use Rattle.model.proofs.Basics.All.{all-at, at_all}
use Rattle.text_command.specs.Operator.{ReadStands, ReadTaken}
use Rattle.text_command.specs.declared.Taken.{Taken}
use Rattle.text_program.specs.Tables.{Indexes}
use Rattle.text_program.proofs.ByIndex.{no_read, read_at, all_seen, seen, in_table, read-stands, taken_is, rises-at}
use Rattle.move_rule.specs.Ranges.{ReadStays}
use Rattle.move_rule.specs.Narrowing.{Long, Narrowed, MetTables, Reading, Claim}
use Rattle.move_rule.proofs.Narrowings.{narrowed_none, narrowed-next, narrowed-as}
use Rattle.move_rule.proofs.narrow_by_signal.Given as goal

-- The first n reads of signal r stay.
abbrev pub FirstStay : Program → Schedule → ℕ → ℕ → ℕ → ℕ → Type 0
FirstStay p s r n x f = (j : ℕ) → j < n → ReadStays p s x f r (read_at p r j)

abbrev pub invariant-loop-i : goal.invariant-loop-i
invariant-loop-i l =
    (get_or l.firsts l.reader 0 ≤ l.i) × (l.i ≤ l.end) × Long l.lows l.highs ×
    Claim l.text l.reads l.firsts l.periods l.phases l.ranks (λ p s.
    l.reader < count p → Narrowed p (FirstStay p s l.reader (l.i - get_or l.firsts l.reader 0))
    l.initial.lows l.initial.highs l.lows l.highs)
