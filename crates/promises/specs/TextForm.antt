-- The text form: programs, schedules and scripts in words.
use Rattle.std.specs.Prelude.{ℕ, ◌≤◌, List, [], ◌↔◌, ◌≡◌, length, take}
use Rattle.model.specs.Rules.Compile.{Pair}
use Rattle.model.specs.Rules.Outcome.{accepted}
use Rattle.model.specs.Rules.Script.{Action}
use Rattle.model.specs.Rules.TextForm.{listing, assembly, assemble_of, listing_of}
use Rattle.model.specs.Rules.Word.{AreBytes}
use Rattle.theorems_calls.specs.Exactness.{Exactly}
use Rattle.theorems_examples.specs.TextExamples.{TextExamples}
use Rattle.theorems_forms.specs.TextForms.{TokensSay, Splits}
use Rattle.theorems_forms.specs.TextStops.{AssemblesTo, AssembleRefusedAt, ListsTo, ListRefusedAt}
use Rattle.theorems_forms.specs.TextWords.{DeclarationsMean, OperatorsMean, OthersMean}
use Rattle.theorems_pairs.specs.Conditions.{LegalPair}
use Rattle.theorems_trials.specs.TrialRefusals.{LegalScript}

pub record TextForm : Type 0 where
  -- A text is assembled to bytes exactly if the words that stand in it say them ..
  pub assembled-exactly : (text bytes : List ℕ) →
      (assembly text ≡ accepted bytes) ↔ ((tokens : List (List ℕ)) × Splits text tokens × TokensSay [] tokens bytes)
  -- .. and bytes are listed exactly if some words say them.
  pub listed-exactly : (bytes : List ℕ) → AreBytes bytes →
      ((text : List ℕ) × (listing bytes ≡ accepted text)) ↔ ((tokens : List (List ℕ)) × TokensSay [] tokens bytes)
  -- Each word with its operands is assembled to what the readers of the papers' texts take for its command.
  pub words-mean : DeclarationsMean × OperatorsMean × OthersMean
  -- What is listed is assembled to the same bytes ..
  pub assemble-lists : (bytes text : List ℕ) → AreBytes bytes → listing bytes ≡ accepted text → assembly text ≡ accepted bytes
  -- .. and what is assembled is listed, and that listing is assembled to the same bytes.
  pub list-assembles : (text bytes : List ℕ) → assembly text ≡ accepted bytes →
      (canonical : List ℕ) × (listing bytes ≡ accepted canonical) × (assembly canonical ≡ accepted bytes)
  -- Assemble is done, or refused with each of 40 to 44 and 47 at its place, exactly under its condition; and what it leaves.
  pub assemble-exactly : (text buffer : List ℕ) →
      Exactly buffer (AssemblesTo text buffer) (AssembleRefusedAt text buffer) (assemble_of text buffer)
  -- So is list, with 44 to 47.
  pub list-exactly : (bytes buffer : List ℕ) → AreBytes bytes →
      Exactly buffer (ListsTo bytes buffer) (ListRefusedAt bytes buffer) (listing_of bytes buffer)
  -- What list has written, assemble writes back.
  pub calls-inverse : (bytes text buffer : List ℕ) (n : ℕ) → AreBytes bytes → (listing_of bytes text).answer ≡ accepted n →
      n ≤ 16777216 → length bytes ≤ length buffer →
      ((assemble_of (take n (listing_of bytes text).left) buffer).answer ≡ accepted (length bytes)) ×
      (take (length bytes) (assemble_of (take n (listing_of bytes text).left) buffer).left ≡ bytes)
  -- Both texts of an accepted pair are listed ..
  pub pair-listed : (program schedule : List ℕ) → AreBytes program → AreBytes schedule → (q : Pair) →
      LegalPair program schedule q →
      ((text : List ℕ) × (listing program ≡ accepted text)) × ((text : List ℕ) × (listing schedule ≡ accepted text))
  -- .. and so is every legal script.
  pub script-listed : (q : Pair) (text : List ℕ) (actions : List Action) → AreBytes text →
      LegalScript q.program text actions → (listed : List ℕ) × (listing text ≡ accepted listed)
  -- Examples: program A, the ends of ranges, a text of a person, each refusal.
  pub text-examples : TextExamples
