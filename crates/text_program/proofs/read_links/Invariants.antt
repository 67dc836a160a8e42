-- `text_program::read_links` meets its contract. Assumes nothing.
use Prim.Native.Nat.{◌-◌, ◌≤◌}
use mathlib.Core.List.{List, []}
use mathlib.Core.Path.{◌≡◌}
use lib.ListN.{length}
use Rattle.model.specs.Rules.Program.{Link, parse_links}
use Rattle.text_program.proofs.read_links.Given as goal

abbrev pub invariant-loop-next : goal.invariant-loop-next
invariant-loop-next l =
    (links : List Link) × (length links ≡ l.count) × (l.count ≤ 16) ×
    (parse_links 16 l.text l.at [] ≡ parse_links (16 - l.count) l.text l.next links)

abbrev pub decreases-loop-next : goal.decreases-loop-next
decreases-loop-next l = length l.text - l.next
