-- The layout of an image and its tail.
use Rattle.std.specs.Prelude.{ℕ, ◌+◌, ◌*◌, ◌≤◌, List, ◌≡◌, length}
use Rattle.model.specs.Rules.Image.{joined, lists_at, codes_at, length_of, with_tail, written_length}
use Rattle.model.specs.Rules.Program.{Program, count}
use Rattle.model.specs.Rules.Schedule.{Schedule}
use Rattle.text_schedule.specs.Arranged.{Arrangement}
use Rattle.text_schedule.specs.declared.PairTables.{PairTables}
use Rattle.image_write.specs.Lists.{lists_by}
use Rattle.image_write.specs.declared.Layout.{Layout}

-- The layout is that of the image of p and s and its tail.
pub record LaidOut (p : Program) (s : Schedule) (h : ℕ) (r : Layout) : Type 0 where
  pub lists-at : r.lists ≡ lists_at (count p) h
  pub code_at : r.code ≡ codes_at p s h
  pub ends : r.end ≡ length_of p s h
  pub tail-ends : r.written ≡ written_length p s h

-- The same by the tables of n signals, whose code has so many bytes, with so many rows.
pub record LaidOutBy (periods order phases : List ℕ) (n h size rows : ℕ) (r : Layout) : Type 0 where
  pub lists-at : r.lists ≡ lists_at n h
  pub code_at : r.code ≡ lists_at n h + length (joined (lists_by periods order phases n h)) + (1 + 12 * rows)
  pub ends : r.end ≡ r.code + size
  pub tail-ends : r.written ≡ with_tail r.end n

-- The tables are those of an arranged pair, the layout is that of its image and tail, and n bytes have space for both.
pub record Fits (text : List ℕ) (t : PairTables) (r : Layout) (n : ℕ) : Type 0 where
  pub reads : List ℕ
  pub arrangement : Arrangement text reads t
  pub laid_out : LaidOut arrangement.0 arrangement.1 t.hypercycle r
  pub room : r.written ≤ n
