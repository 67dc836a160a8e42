-- The signals of a program text and their code, by the table of their places.
use Rattle.std.specs.Prelude.{ℕ, ◌+◌, ◌≤◌, ◌<◌, List, [], ◌∷◌, ◌≡◌, length, get_or}
use Rattle.model.specs.Rules.Image.{signal_code, joined, offsets}
use Rattle.model.specs.Rules.Outcome.{Outcome, accepted, refused}
use Rattle.model.specs.Rules.Program.{Program, Signal, no_signal, parse_program}
use Rattle.model.specs.Rules.Search.{join_from}
use Rattle.model.specs.Says.Stands.{SpellsSignal}

abbrev pub signals_in : Outcome Program → List Signal
signals_in (accepted p) = p.signals
signals_in (refused f) = []

-- The signals that a text declares.
unfoldable pub declared_by : List ℕ → List Signal
declared_by text = signals_in (parse_program text)

-- Their code, numbered from x on.
unfoldable pub codes_from : ℕ → List Signal → List (List ℕ)
codes_from x signals = join_from x (λ x signal. signal_code x signal.body ∷ []) signals

-- The code of each signal starts at its entry of the table after `start`, and the last ends there.
abbrev pub CodesAt : ℕ → List Signal → List ℕ → Type 0
CodesAt start signals codes =
    (x : ℕ) → x ≤ length signals → start + get_or codes x 0 ≡ get_or (offsets start (codes_from 0 signals)) x 0

-- The text declares n signals, and `places` says where. Their code is no longer than the text.
pub record Declared (text places : List ℕ) (n : ℕ) : Type 0 where
  pub few : n ≤ 64
  pub count-is : length (declared_by text) ≡ n
  pub stands : (x : ℕ) → x < n → (get_or (declared_by text) x no_signal).place ≡ get_or places x 0
  pub spelled : (x : ℕ) → x < n → SpellsSignal text (get_or (declared_by text) x no_signal)
  pub short : length (joined (codes_from 0 (declared_by text))) ≤ length text
