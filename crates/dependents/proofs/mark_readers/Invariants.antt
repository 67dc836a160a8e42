-- `dependents::mark_readers` meets its contract. Assumes nothing.
use Prim.Native.Nat.{ℕ, ◌-◌, ◌≤◌, ◌<◌}
use mathlib.Core.List.{List}
use mathlib.Core.Path.{◌≡◌, refl, ◌∙◌}
use native.Mathlib.Omega.{arith}
use lib.ListN.{length, get_or, length-set}
use Rattle.model.specs.Rules.Dependents.{any_read, mark_byte}
use Rattle.model.specs.Rules.Program.{Program, signal_at, body_reads}
use Rattle.text_program.specs.Tables.{Indexes}
use Rattle.dependents.specs.Marks.{is_marked}
use Rattle.dependents.proofs.Marks.{unmarked, round-marks, put-past, put-here}
use Rattle.dependents.proofs.mark_readers.Given as goal

-- The mark of signal y by the marks before.
abbrev pub next : List ℕ → ℕ → Program → ℕ → ℕ
next old i p y = mark_byte (any_read (is_marked old i) (body_reads (signal_at p y).body))

abbrev pub invariant-loop-reader : goal.invariant-loop-reader
invariant-loop-reader l =
    (l.reader ≤ l.signals) × (length l.marks ≡ 64) × ((y : ℕ) → l.reader ≤ y → get_or l.marks y 0 ≡ 0) ×
    ((p : Program) → Indexes l.text l.reads l.firsts l.signals p →
    (y : ℕ) → y < l.reader → get_or l.marks y 0 ≡ next l.old l.input p y)
