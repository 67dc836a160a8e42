-- The signals of the parts by part and number, 64 entries a part: their periods, and which are INs that no link has yet.
use Rattle.std.specs.Prelude.{Option, Some, None, ℕ, zero, ◌+◌, ◌*◌, ◌≤◌, ◌<◌, Bool, true, false, cond, not, ◌&&◌, List, ◌≡◌, eqb, length, get_or}
use Rattle.model.specs.Rules.Join.{link_at, links_in, is_declared, is_right}
use Rattle.model.specs.Rules.Parts.{Part, part_at}
use Rattle.model.specs.Rules.Program.{Signal, count, signal_at, is_input}
use Rattle.model.specs.Rules.Search.{first_below, all_below}

abbrev pub signal_in : List Part → ℕ → ℕ → Signal
signal_in parts k x = signal_at (part_at parts k).program x

-- What f tells of signal x of part k, d where there is no such signal.
abbrev pub value_in : {A : Type 0} → (Signal → A) → A → List Part → ℕ → ℕ → A
value_in f d parts k x = cond (is_declared parts k x) (f (signal_in parts k x)) d

-- The period of signal x of part k, 0 where there is no such signal.
abbrev pub period_in : List Part → ℕ → ℕ → ℕ
period_in = value_in (λ σ. σ.period) 0

-- Whether signal x of part k is an IN, false where there is no such signal.
abbrev pub input_in : List Part → ℕ → ℕ → Bool
input_in = value_in (λ σ. is_input σ.body) false

-- The table of periods of at most 8 parts.
pub record PeriodsBy (parts : List Part) (periods : List ℕ) : Type 0 where
  pub few : length parts ≤ 8
  pub small : (k : ℕ) → k < length parts → count (part_at parts k).program ≤ 64
  pub positive : (k x : ℕ) → is_declared parts k x ≡ true → zero < (signal_in parts k x).period
  pub each : (k x : ℕ) → k < 8 → x < 64 → get_or periods (64 * k + x) 0 ≡ period_in parts k x

-- No one of the first i links has signal x of part k as its IN.
abbrev pub is_free : List ℕ → ℕ → ℕ → ℕ → Bool
is_free links i k x = all_below i (λ j. not (eqb (link_at links j).input_part k && eqb (link_at links j).input x))

-- The links are free of 31.
abbrev pub AllRight : List Part → List ℕ → Type 0
AllRight parts links = (i : ℕ) → 4 * i < length links → is_right parts links i ≡ true

-- The table of the INs that the first i links do not have.
pub record FreeInputs (parts : List Part) (links : List ℕ) (i : ℕ) (inputs : List Bool) : Type 0 where
  pub long : length inputs ≡ 512
  pub each : (k x : ℕ) → k < 8 → x < 64 → get_or inputs (64 * k + x) false ≡ input_in parts k x && is_free links i k x

-- How many links come before the lowest wrong one; all, where none is wrong.
abbrev pub passed_of : ℕ → Option ℕ → ℕ
passed_of all (Some i) = i
passed_of all None = all

abbrev pub passed : List Part → List ℕ → ℕ
passed parts links = passed_of (links_in links) (first_below (links_in links) (λ i. not (is_right parts links i)))
