-- Request e: a bench trial from a script.
use Rattle.std.specs.Prelude.{ℕ, List, ◌↔◌, ◌≡◌, ℤ}
use Rattle.model.specs.Rules.Compile.{Pair}
use Rattle.model.specs.Rules.Decimal.{natural, decimal}
use Rattle.model.specs.Rules.Outcome.{refused}
use Rattle.model.specs.Rules.Script.{Action}
use Rattle.model.specs.Rules.Trial.{trial_of}
use Rattle.model.specs.Rules.Word.{AreBytes}
use Rattle.model.specs.declared.Fault.{Fault}
use Rattle.theorems_pairs.specs.Conditions.{LegalPair}
use Rattle.theorems_trials.specs.Decimals.{SaysNumber, SaysWord}
use Rattle.theorems_trials.specs.TrialRefusals.{LegalScript, TrialRefusedAt}
use Rattle.theorems_trials.specs.Trials.{SetInputs, TrialLines}

pub record RequestE : Type 0 where
  -- The whole script is checked before the first line. Turned away: 24 script over length, cut, unknown command or bytes after
  -- END, after the pair is accepted; 25 SET of a signal that is no input, after 24.
  pub trial-refused-exactly : (program schedule text : List ℕ) (f : Fault) →
      (trial_of program schedule text ≡ refused f) ↔ TrialRefusedAt program schedule text f
  -- One line per cycle after it: cycle number, then every signal, decimal, one space between. The lines are the state that the
  -- streams give.
  pub trial-lines : (program schedule text : List ℕ) → AreBytes program → (q : Pair) (actions : List Action) →
      LegalPair program schedule q → LegalScript q.program text actions → TrialLines program schedule text q actions
  -- All samples start at 0; SET alters the named input's sample until its next SET. There are such inputs.
  pub trial-inputs : (program schedule : List ℕ) → AreBytes program → (q : Pair) → LegalPair program schedule q →
      (actions : List Action) → (inputs : ℕ → ℕ → ℤ) × SetInputs q.program q.schedule actions inputs
  -- Decimal: digits, the fewest, that read back give the number ..
  pub natural-says : (n : ℕ) → SaysNumber n (natural n)
  -- .. and before a word's one minus sign exactly if it is negative.
  pub decimal-says : (z : ℤ) → SaysWord z (decimal z)
