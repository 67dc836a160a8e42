-- Request j: a table for altitude, edited by the customer. That every word must lie in exactly one row, with 29 and 30, is in
-- `accepted-exactly` and `refused-exactly` (Exact).
use Rattle.std.specs.Prelude.{ℕ, ◌+◌, ◌≤◌, ◌<◌, true, List, ◌≡◌, ℤ, length}
use Rattle.board.specs.Board.{reset_in, cycle_in, load_of}
use Rattle.board.specs.Board.{Board}
use Rattle.model.specs.Rules.Compile.{Pair, pair_of}
use Rattle.model.specs.Rules.Image.{image_of}
use Rattle.model.specs.Rules.Machine.{stretch, table_offset, row_count, rows_in, well_formed}
use Rattle.model.specs.Rules.Outcome.{accepted, refuse}
use Rattle.model.specs.Rules.Program.{Expr, unary, equation, Program, count, signal_at}
use Rattle.model.specs.Rules.Reads.{settled}
use Rattle.model.specs.Rules.Schedule.{Schedule}
use Rattle.model.specs.Rules.Table.{Row, table_word, row_at}
use Rattle.model.specs.Rules.Tail.{tail_in, Bears}
use Rattle.model.specs.Rules.Word.{AreBytes}
use Rattle.model.specs.Says.Calls.{Call, call_of}
use Rattle.model.specs.Says.Rows.{Lies, Covers, Reordered}
use Rattle.model.specs.Says.Words.{IsWord}
use Rattle.model.specs.declared.Unary.TheVariants.{Table}
use Rattle.theorems_images.specs.Stretches.{RowsStand}
use Rattle.theorems_images.specs.Tables.{Yields, StoresRows, WithoutTable}
use Rattle.theorems_pairs.specs.Subexpression.{Subexpression}
use Rattle.theorems_streams.specs.Streams.{value, word_read, Satisfies}

-- In the streams of an accepted pair whose inputs are words.
pub record TableStreams (p : Program) (s : Schedule) (X : ℕ → ℕ → ℤ) : Type 0 where
  -- Every element is a word ..
  pub stream-words : (x j : ℕ) → x < count p → IsWord (X x j)
  -- .. and a TABLE in the equation of signal x yields for element k the result of the one row that contains its operand.
  pub stream-table : (x k : ℕ) → x < count p → (weight : ℕ) (equated operand : Expr) →
      (signal_at p x).body ≡ equation weight equated → Subexpression (unary Table operand) equated →
      Yields p.rows (value p.rows (word_read (settled p s) X x k) operand)
      (value p.rows (word_read (settled p s) X x k) (unary Table operand))

-- On a board, of a stretch that holds an older image.
pub record FormerPlace (images : List ℕ) (start size : ℕ) : Type 0 where
  -- A load is refused 20 ..
  pub former-load : (b : Board) (state : List ℤ) (k : ℕ) → k < 4 → 260 ≤ length state →
      (load_of b images state k start size).answer ≡ refuse 20 0
  -- .. as its reset is ..
  pub former-reset : (words : List ℤ) → (reset_in images start size words).answer ≡ refuse 20 0
  -- .. and were one in a place's stretch, so is the run of a turn.
  pub former-cycle : (words samples : List ℤ) → (cycle_in images start size words samples).answer ≡ refuse 20 0

pub record RequestJ : Type 0 where
  -- TABLE yields the result of the row that contains its operand, both ends included, shown over any row count ..
  pub table-rule : (rows : List Row) (w : ℤ) (n : ℕ) → Lies rows w n → ((m : ℕ) → Lies rows w m → m ≡ n) →
      table_word rows w ≡ (row_at rows n).result
  -- .. the rows in any order.
  pub sorted-rule : (rows others : List Row) → Reordered rows others → Covers rows → (w : ℤ) → IsWord w →
      table_word others w ≡ table_word rows w
  -- Streams use the table's rule.
  pub of-streams : (program schedule : List ℕ) → AreBytes program → (p : Program) (s : Schedule) (h : ℕ) →
      pair_of program schedule ≡ accepted (record { program = p; schedule = s; hypercycle = h }) → (inputs X : ℕ → ℕ → ℤ) →
      ((x k : ℕ) → x < count p → IsWord (inputs x k)) → Satisfies p (settled p s) inputs X → TableStreams p s X
  -- In the image a count byte and the rows, 12 bytes each, follow the run lists, also when the count is 0.
  pub rows-stand : (image : List ℕ) → RowsStand image (table_offset image)
  -- They are the program's, each once, by rising low ..
  pub image-rows : (program schedule : List ℕ) → AreBytes program → (q : Pair) → pair_of program schedule ≡ accepted q →
      StoresRows q.program.rows (rows_in (image_of q.program q.schedule q.hypercycle))
  -- .. and code 3B does the lookup.
  pub image-table : (program schedule : List ℕ) → AreBytes program → (q : Pair) → pair_of program schedule ≡ accepted q →
      (w : ℤ) → table_word (rows_in (image_of q.program q.schedule q.hypercycle)) w ≡ table_word q.program.rows w
  -- Well-formedness requires the same cover.
  pub formed-covers : (image : List ℕ) → well_formed image ≡ true → 0 < row_count image → (w : ℤ) → IsWord w →
      (n : ℕ) × Lies (rows_in image) w n × ((m : ℕ) → Lies (rows_in image) w m → m ≡ n) ×
      (table_word (rows_in image) w ≡ (row_at (rows_in image) n).result)
  -- Older images are refused 20, with their tail or without.
  pub former-refused : (image tail lent : List ℕ) → WithoutTable image → Bears image tail lent →
      ((state : List ℤ) (c : Call) → (call_of lent state c).answer ≡ refuse 20 0) × (tail_in lent ≡ refuse 20 0)
  -- So it is on a board.
  pub former-place : {image tail : List ℕ} → WithoutTable image → (images : List ℕ) (start size : ℕ) →
      start + size ≤ length images → Bears image tail (stretch images start (start + size)) → FormerPlace images start size
