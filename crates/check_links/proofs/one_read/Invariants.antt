-- `check_links::one_read` meets its contract. Assumes nothing.
use Rattle.std.specs.Prelude.{Some, None}
use Prim.Native.Nat.{ℕ, ◌+◌, ◌-◌, ◌≤◌, ◌<◌}
use mathlib.Core.List.{List}
use mathlib.Core.Logic.{⊎_elim}
use mathlib.Core.Path.{◌≡◌, subst}
use native.Mathlib.Omega.{arith}
use lib.ListN.{length, get_or}
use borrow.Author.Rules.{rules}
use Rattle.model.specs.Rules.Program.{Program, signal_at, body_reads}
use Rattle.text_command.specs.Operator.{ReadStands}
use Rattle.text_program.specs.Tables.{Indexes, Indexed}
use Rattle.text_program.proofs.ByIndex.{in_table, read-stands, rises-at}
use Rattle.check_links.specs.Links.{one_read}
use Rattle.check_links.proofs.Counting.{
  Searched,
  same-search,
  search-starts,
  one_hit,
  one-missed,
  one_found,
  none_found,
  over,
  none-far,
  stands-inside,
}
use Rattle.check_links.proofs.one_read.Given as goal

abbrev pub invariant-loop-i : goal.invariant-loop-i
invariant-loop-i l =
    (l.first ≤ l.i) × (l.i ≤ l.end) × (l.many ≤ l.i) ×
    ((p : Program) → Indexes l.text l.reads l.firsts l.count p →
    Searched l.before (body_reads (signal_at p l.index).body) (l.i - l.first) l.many l.found)
