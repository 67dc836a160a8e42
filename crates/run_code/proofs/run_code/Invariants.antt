-- `run_code::run_code` meets its contract. Assumes nothing.
use mathlib.Core.Path.{◌≡◌, sym, ap, ◌∙◌}
use mathlib.Core.Bool.{Bool}
use mathlib.Core.List.{List, ◌∷◌}
use mathlib.Core.Logic.{⊎_elim}
use Prim.Native.Nat.{ℕ, ◌+◌, ◌-◌, ◌≤◌, ◌<◌}
use native.Mathlib.Omega.{arith}
use borrow.Author.Rules.{rules}
use lib.Dec.{ltb}
use lib.IntN.{ℤ, pos}
use lib.ListN.{length, get_or}
use mir.Syntax.{w32}
use mir.Val.{to_z, of_z}
use Rattle.model.specs.Rules.Machine.{operator_code, code_ok, run_from, run_code, count_code, on_two}
use Rattle.model.specs.Rules.Table.{Row, area_rows}
use Rattle.model.specs.Rules.Word.{byte_at, binary_word}
use Rattle.model.specs.declared.Code.{Code}
use Rattle.model.specs.declared.Code.TheVariants as Code
use Rattle.model.specs.declared.Unary.TheVariants.{Negate, Table}
use Rattle.model.proofs.Images.Counts.{code-most}
use Rattle.run_stack.specs.View.{view}
use Rattle.word.proofs.Locals.{kept}
use Rattle.run_code.proofs.Commands.{
  Goes,
  Command,
  Leaf,
  leaf,
  leaf-some,
  moved,
  shifted,
  more,
  store,
  negate,
  table,
  choose,
  combine,
  ended,
  last,
  negated,
  chosen,
  combined,
  operator-code,
}
use Rattle.run_code.proofs.run_code.Given as goal

abbrev pub invariant-loop-at : goal.invariant-loop-at
invariant-loop-at l =
    Goes (ltb 0 (byte_at l.table 0)) (area_rows l.table 0) l.code l.n l.own l.state l.samples (run_code (area_rows l.table 0) l.code l.state l.samples)
    (count_code l.code) l.count l.at (view l.stack) l.stack.height

abbrev pub decreases-loop-at : goal.decreases-loop-at
decreases-loop-at l = length l.code - l.at
