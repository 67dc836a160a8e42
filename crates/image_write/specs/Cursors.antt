-- Run lists written by signal: each list is written from its own start on, an entry a run.
use Rattle.std.specs.Prelude.{ℕ, ◌+◌, ◌-◌, ◌≤◌, ◌<◌, List, ◌++◌, ◌≡◌, length, get_or}
use Rattle.std.proofs.lemmas.List.Edits.{sets}
use Rattle.model.specs.Rules.Image.{joined}
use Rattle.model.specs.Rules.Reads.{Rate, due}
use Rattle.model.specs.Rules.Search.{table, table_from}
use Rattle.image_write.specs.Lists.{run_entry}

-- What comes after the list of cycle c.
abbrev pub lists_after : (ℕ → List ℕ) → ℕ → ℕ → List ℕ
lists_after f h c = joined (table_from (c + 1) (h - (c + 1)) f)

-- The list of cycle c stands `at` bytes after the first.
pub record Stands (f : ℕ → List ℕ) (h c at : ℕ) : Type 0 where
  pub before : List ℕ
  pub size : length before ≡ at
  pub is : joined (table h f) ≡ before ++ (f c ++ lists_after f h c)

-- A table has where each list starts, and last where they end.
pub record StartsOf (f : ℕ → List ℕ) (h : ℕ) (starts : List ℕ) : Type 0 where
  pub stands : (c : ℕ) → c < h → Stands f h c (get_or starts c 0)
  pub last : get_or starts h 0 ≡ length (joined (table h f))
  pub small : length (joined (table h f)) < 65536
  pub long : length starts ≡ 241

-- Of `all`, which is to stand at `to` in l, the entries `left c` of each cycle c are still to be written, from `nexts[c]` on.
-- After the list of cycle c come `after c` bytes.
pub record Pending (all l : List ℕ) (to h : ℕ) (after : ℕ → ℕ) (left : ℕ → List ℕ) (out nexts : List ℕ) : Type 0 where
  pub size : length out ≡ length l
  pub fits : to + length all ≤ length l
  pub small : length all < 65536
  pub ends : (c : ℕ) → c < h → get_or nexts c 0 + length (left c) + after c ≡ length all
  pub due : (c k : ℕ) → c < h → k < length (left c) → get_or all (get_or nexts c 0 + k) 0 ≡ get_or (left c) k 0
  pub rest : (q : ℕ) → ((c : ℕ) → c < h → to + get_or nexts c 0 ≤ q → q + after c < to + length all → ⊥) →
      get_or out q 0 ≡ get_or (sets l to all) q 0
  pub last : get_or nexts h 0 ≡ length all

-- In each cycle in which it is due, the run of x comes first of what is left.
abbrev pub Splits : Rate → ℕ → ℕ → (ℕ → List ℕ) → (ℕ → List ℕ) → Type 0
Splits a x h old new = (c : ℕ) → c < h → old c ≡ run_entry (due a c) x ++ new c

-- Some lists have the runs of x to come.
pub record Open (a : Rate) (x h to : ℕ) (out nexts : List ℕ) : Type 0 where
  pub all : List ℕ
  pub l : List ℕ
  pub after : ℕ → ℕ
  pub old : ℕ → List ℕ
  pub new : ℕ → List ℕ
  pub pending : Pending all l to h after old out nexts
  pub splits : Splits a x h old new

-- The runs of x are written.
abbrev pub WritesRuns : Rate → ℕ → ℕ → ℕ → List ℕ → List ℕ → List ℕ → List ℕ → Type 0
WritesRuns a x h to out nexts out' nexts' =
    (all l : List ℕ) (after : ℕ → ℕ) (old new : ℕ → List ℕ) → Pending all l to h after old out nexts → Splits a x h old new →
    Pending all l to h after new out' nexts'
