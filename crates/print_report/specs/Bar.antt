-- The bar of a cycle in a printed report.
use Rattle.std.specs.Prelude.{ℕ, ◌*◌, ◌/◌}

-- 40 characters for the cycle with the most commands, the others in proportion.
abbrev pub bar_of : (commands most : ℕ) → ℕ
bar_of commands most = 40 * commands / most
