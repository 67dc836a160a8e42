-- `report::count_commands` meets its contract. Assumes nothing.
use Prim.Native.Nat.{ℕ, ◌+◌, ◌*◌, ◌-◌, ◌≤◌, ◌<◌}
use mathlib.Core.Bool.{cond}
use mathlib.Core.Path.{◌≡◌, refl, ap, ◌∙◌}
use native.Mathlib.Nat.{le_of_eq}
use native.Mathlib.Omega.{arith}
use lib.ListN.{length, get_or, get_or-replicate}
use Rattle.model.specs.Rules.Reads.{due}
use Rattle.image_write.specs.Lists.{list_by}
use Rattle.report.specs.Counted.{work_of}
use Rattle.report.proofs.Sums.{work_left, work-starts, work-next, work-ends}
use borrow.Author.Rules.{rules}
use Rattle.report.proofs.count_commands.Given as goal

abbrev pub invariant-loop-i : goal.invariant-loop-i
invariant-loop-i l =
    (l.i ≤ l.n) × (length l.counts ≡ 240) × ((c : ℕ) → c < l.h → get_or l.counts c 0 ≤ l.i * 65535) ×
    ((c : ℕ) → c < l.h → get_or l.counts c 0 + work_left l.periods l.order l.phases l.commands l.n c l.i ≡ work_of l.commands
    (list_by l.periods l.order l.phases l.n c)) ×
    ((c : ℕ) → l.h ≤ c → c < 240 → get_or l.counts c 0 ≡ 0)
