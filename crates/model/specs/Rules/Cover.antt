-- The cover of a table: if a program has a row or a TABLE, every word lies in exactly one row (29, 30). The same of an image's
-- rows.
use Rattle.std.specs.Prelude.{Option, Some, None, ℕ, zero, suc, ◌+◌, ◌*◌, Bool, cond, not, ◌&&◌, ◌||◌, List, leb, ltb, eqb, ℤ, pos, negsuc, length}
use Rattle.std.proofs.Math.IntN.{suc_ℤ}
use Rattle.std.specs.Int.Signed.{lt_z, le_z}
use Rattle.model.specs.Rules.Outcome.{Outcome, accepted, refuse, ◌▷◌, provided}
use Rattle.model.specs.Rules.Program.{Program, lookups}
use Rattle.model.specs.Rules.Search.{first_below, is_found, all_below}
use Rattle.model.specs.Rules.Table.{Row, row_at, area_rows}
use Rattle.model.specs.Rules.Word.{byte_at, eq_z}

-- The ends of the word range, −2^31 and 2^31 − 1.
abbrev pub least_word : ℤ
least_word = negsuc 2147483647

abbrev pub greatest_word : ℤ
greatest_word = pos 2147483647

-- Two rows with no word in common: one ends before the other starts.
unfoldable pub apart : Row → Row → Bool
apart a b = lt_z a.high b.low || lt_z b.high a.low

-- Row n meets an earlier one.
unfoldable pub meets_earlier : List Row → ℕ → Bool
meets_earlier rows n = not (all_below n (λ m. apart (row_at rows m) (row_at rows n)))

-- 29 at the first ROW that meets an earlier one.
abbrev pub meeting_of : List Row → Option ℕ → Outcome (Unit {0})
meeting_of rows (Some n) = refuse 29 (row_at rows n).place
meeting_of rows None = accepted tt

-- The first row that starts at z.
unfoldable pub starting_at : List Row → ℤ → Option ℕ
starting_at rows z = first_below (length rows) (λ n. eq_z (row_at rows n).low z)

-- Where a row ends, the range does or another row starts.
unfoldable pub continues : List Row → ℤ → Bool
continues rows high = eq_z high greatest_word || is_found (starting_at rows (suc_ℤ high))

-- A row starts at the lowest word, and after each row's high another does, up to the highest word.
unfoldable pub no_gap : List Row → Bool
no_gap rows = is_found (starting_at rows least_word) && all_below (length rows) (λ n. continues rows (row_at rows n).high)

-- 29 a word in two rows, then 30 a word in none.
unfoldable pub covering : List Row → Outcome (Unit {0})
covering rows = meeting_of rows (first_below (length rows) (meets_earlier rows)) ▷ λ _. provided (no_gap rows) 30 0

-- A program has a row or a TABLE.
abbrev pub has_table : Program → Bool
has_table p = ltb 0 (length p.rows + lookups p.signals)

unfoldable pub tabled : Program → Outcome (Unit {0})
tabled p = cond (has_table p) (covering p.rows) (accepted tt)

-- Where row n has to start for the rows to follow one another without a gap: at the lowest word, or after the row before it.
abbrev pub edge : List Row → ℕ → ℤ
edge rows zero = least_word
edge rows (suc n) = suc_ℤ (row_at rows n).high

-- Rows by rising low, no low above its high, that cover: each starts where the one before ended, up to the highest word.
unfoldable pub chained : List Row → Bool
chained rows =
    all_below (length rows) (λ n. eq_z (row_at rows n).low (edge rows n) && le_z (row_at rows n).low (row_at rows n).high) &&
    eq_z (edge rows (length rows)) (suc_ℤ greatest_word)

-- A count byte at `at` and its rows lie in an image, at most 32, none or rows that cover.
unfoldable pub area_ok : List ℕ → ℕ → Bool
area_ok image at =
    leb (at + 1) (length image) &&
    (leb (byte_at image at) 32 &&
    (leb (at + 1 + 12 * byte_at image at) (length image) && (eqb (byte_at image at) 0 || chained (area_rows image at))))
