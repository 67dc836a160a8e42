-- The tail of a lent image, as the tool's reader returns it.
use Rattle.std.specs.Prelude.{ℕ, ◌+◌, ◌*◌, List, [], ◌++◌, ◌⊎◌, ◌≡◌, length, drop}
use Rattle.model.specs.Rules.Machine.{count_of, stated_length, lent_ok}
use Rattle.model.specs.Rules.Outcome.{Outcome, accepted, refused, ◌▷◌, provided}
use Rattle.model.specs.Rules.Program.{Signal}
use Rattle.model.specs.Rules.Word.{byte_at, two_at}

-- The stretch after L, empty for an image without a tail. It refuses by 20 alone.
unfoldable pub tail_in : List ℕ → Outcome (List ℕ)
tail_in lent = provided (lent_ok lent) 20 0 ▷ λ _. accepted (drop (stated_length lent) lent)

-- A call answers its length, or the refusal; another the stretch itself, empty where it is refused.
abbrev pub length_of_tail : Outcome (List ℕ) → Outcome ℕ
length_of_tail (accepted tail) = accepted (length tail)
length_of_tail (refused f) = refused f

abbrev pub stretch_in : Outcome (List ℕ) → List ℕ
stretch_in (accepted tail) = tail
stretch_in (refused f) = []

-- The same as a statement: what is lent is an image and its tail, which is empty or has 4N bytes.
pub record Bears (image tail lent : List ℕ) : Type 0 where
  pub whole : lent ≡ image ++ tail
  pub size : (length tail ≡ 0) ⊎ (length tail ≡ 4 * count_of image)

-- Entry x of a tail tells a signal's label, period and phase.
pub record Tells (tail : List ℕ) (x : ℕ) (signal : Signal) (phase : ℕ) : Type 0 where
  pub label_is : two_at tail (4 * x) ≡ signal.label
  pub period-is : byte_at tail (4 * x + 2) ≡ signal.period
  pub phase-is : byte_at tail (4 * x + 3) ≡ phase
