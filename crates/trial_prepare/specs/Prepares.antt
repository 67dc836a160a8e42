-- What the start of a trial answers: `trial_of`'s refusal, or a trial under way whose lines left are `trial_of`'s.
use Rattle.std.specs.Prelude.{Result, Ok, Err, ℕ, ◌≤◌, List, ◌≡◌, length, take, replicate}
use Rattle.model.specs.Rules.Compile.{compile_of}
use Rattle.model.specs.Rules.Machine.{Effect, stated_length}
use Rattle.model.specs.Rules.Outcome.{Outcome, accepted, refused}
use Rattle.model.specs.Rules.Script.{no_samples, script_of, check_of, cycles_of}
use Rattle.model.specs.Rules.Trial.{start_of, trial_of}
use Rattle.model.specs.declared.Fault.{Fault}
use Rattle.trial_script.specs.Inputs.{fetches}
use Rattle.trial_step.specs.Underway.{lines_left, at_start, Underway}
use Rattle.trial_prepare.specs.declared.Prepared.{Prepared}
use Rattle.trial_prepare.specs.declared.Start.{Start}

-- The buffer that compile is lent, and what a start has of it: the image that is left there and its length L, 0 where the pair is
-- refused.
abbrev pub no_image : List ℕ
no_image = replicate 65792 0

abbrev pub length_after : Effect ℕ ℕ → ℕ
length_after e = length_by e.answer e.left
  where
    length_by : Outcome ℕ → List ℕ → ℕ
    length_by (accepted n) image = stated_length (take n image)
    length_by (refused f) image = 0

pub record HoldsImage (program schedule : List ℕ) (r : Start) : Type 0 where
  pub image-is : r.image ≡ (compile_of program schedule no_image).left
  pub length-is : r.length ≡ length_after (compile_of program schedule no_image)

-- A trial that is accepted: it is under way, and the lines left are its lines.
pub record Started (program schedule text : List ℕ) (r : Start) (p : Prepared) : Type 0 where
  pub samples-are : p.samples ≡ no_samples
  pub state-is : p.state ≡ start_of (take r.length r.image)
  pub fits : r.length ≤ length r.image
  pub lines_are : trial_of program schedule text ≡
      accepted (lines_left (take r.length r.image) text at_start p.samples p.state)
  pub count : p.lines ≡
      length (lines_left (take r.length r.image) text at_start p.samples p.state)
  pub underway : Underway (take r.length r.image) text at_start p.samples p.state

-- The contract of `prepare`.
unfoldable pub Prepares : List ℕ → List ℕ → List ℕ → Start → Result Prepared Fault → Type 0
Prepares program schedule text r (Ok p) = Started program schedule text r p
Prepares program schedule text r (Err f) = trial_of program schedule text ≡ refused f

-- The same on an image.
pub record Begun (image text : List ℕ) (r : Prepared) : Type 0 where
  pub checked : check_of (fetches image) text ≡ accepted tt
  pub lines-is : r.lines ≡ cycles_of (script_of text).actions
  pub few : r.lines ≤ 522240
  pub samples-are : r.samples ≡ no_samples
  pub state-is : r.state ≡ start_of image

unfoldable pub PreparesOn : List ℕ → List ℕ → Result Prepared Fault → Type 0
PreparesOn image text (Ok r) = Begun image text r
PreparesOn image text (Err f) = check_of (fetches image) text ≡ refused f
