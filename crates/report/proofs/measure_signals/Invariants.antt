-- `report::measure_signals` meets its contract. Assumes nothing.
use Prim.Native.Nat.{ℕ, ◌-◌, ◌≤◌, ◌<◌, max}
use mathlib.Core.Path.{◌≡◌, refl, sym, ◌∙◌}
use native.Mathlib.Omega.{arith}
use lib.ListN.{length, get_or, drop, length-set}
use Rattle.model.specs.Rules.Program.{no_signal}
use Rattle.model.specs.Rules.Report.{body_commands, highest}
use Rattle.text_program.proofs.Filled.{filled}
use Rattle.image_write.specs.Codes.{declared_by}
use Rattle.report.proofs.Sums.{highest-next, highest-done}
use borrow.Author.Rules.{rules}
use Rattle.report.proofs.measure_signals.Given as goal

abbrev pub invariant-loop-x : goal.invariant-loop-x
invariant-loop-x l =
    (l.x ≤ l.n) × (length l.commands ≡ 64) × (max l.height (highest (drop l.x (declared_by l.text))) ≡ highest (declared_by l.text)) ×
    ((y : ℕ) → y < l.x → get_or l.commands y 0 ≡ body_commands (get_or (declared_by l.text) y no_signal).body)
