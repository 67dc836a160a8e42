-- The one read of a link before.
use Rattle.std.specs.Prelude.{Option, Some, None, ℕ, cond, List, eqb}
use Rattle.model.specs.Rules.Latency.{read_among}
use Rattle.model.specs.Rules.Program.{Read}
use Rattle.model.specs.Rules.Rates.{count_reads}

-- Where the one read of w among these reads stands.
unfoldable pub one_read : ℕ → List Read → Option ℕ
one_read w ρs = cond (eqb (count_reads w ρs) 1) (Some (read_among w ρs).place) None
