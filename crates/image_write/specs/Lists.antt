-- Run lists by tables: periods and phases by signal, and the signals in PUT order.
use Rattle.std.specs.Prelude.{ℕ, zero, ◌%◌, ◌≤◌, ◌<◌, Bool, cond, List, [], ◌∷◌, eqb, ◌≡◌, length, get_or}
use Rattle.model.specs.Rules.Search.{table, chosen, join_from}
use Rattle.model.specs.Rules.Word.{two_bytes}

-- Whether signal x runs in cycle c.
abbrev pub is_due : List ℕ → List ℕ → ℕ → ℕ → Bool
is_due periods phases c x = eqb (c % get_or periods x 0) (get_or phases x 0)

-- A run of signal x, where it is due.
abbrev pub run_entry : Bool → ℕ → List ℕ
run_entry due x = cond due (x ∷ []) []

-- The run list of cycle c over the first n signals in PUT order, and those of the cycles below h.
unfoldable pub list_by : List ℕ → List ℕ → List ℕ → ℕ → ℕ → List ℕ
list_by periods order phases n c = chosen (is_due periods phases c) (table n (λ j. get_or order j 0))

unfoldable pub lists_by : List ℕ → List ℕ → List ℕ → ℕ → ℕ → List (List ℕ)
lists_by periods order phases n h = table h (list_by periods order phases n)

-- Offsets, two bytes each.
abbrev pub pairs : List ℕ → List ℕ
pairs os = join_from 0 (λ i o. two_bytes o) os

-- The first n entries of `order` are signals that have a period.
pub record HasPeriods (periods order : List ℕ) (n : ℕ) : Type 0 where
  pub few : n ≤ 64
  pub below : (j : ℕ) → j < n → get_or order j 0 < 64
  pub positive : (j : ℕ) → j < n → zero < get_or periods (get_or order j 0) 0

-- Their phases are below their periods.
abbrev pub Phased : List ℕ → List ℕ → List ℕ → ℕ → Type 0
Phased periods order phases n = (j : ℕ) → j < n → get_or phases (get_or order j 0) 0 < get_or periods (get_or order j 0) 0

-- A table has the length of each run list.
pub record RunsCounted (periods order phases : List ℕ) (n h : ℕ) (counts : List ℕ) : Type 0 where
  pub counted : (c : ℕ) → c < h → get_or counts c 0 ≡ length (list_by periods order phases n c)
