-- `check_links::is_linked` meets its contract. Assumes nothing.
use Prim.Native.Nat.{◌+◌, ◌≤◌, ◌<◌}
use mathlib.Core.Path.{sym, ◌∙◌}
use native.Mathlib.Omega.{arith}
use lib.ListN.{length}
use borrow.Author.Rules.{rules}
use Rattle.model.specs.Rules.Program.{Program}
use Rattle.text_program.specs.Tables.{Stands, chain_at}
use Rattle.check_links.proofs.Counting.{found-one, found_none}
use Rattle.text_program.proofs.ByIndex.{few-signals, few-chains, chain-inside, indexes}
use Rattle.check_links.proofs.Linking.{
  LinksLeft,
  link-inside,
  link-broken,
  link_on,
  link-over,
  chain-begins,
}
use Rattle.check_links.proofs.is_linked.Given as goal

abbrev pub invariant-loop-more : goal.invariant-loop-more
invariant-loop-more l =
    (p : Program) → Stands l.text l.reads l.tables p → LinksLeft l.text p (chain_at p l.chain).links l.at l.more
