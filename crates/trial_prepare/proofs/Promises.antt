-- What a bench trial prints, whoever calls: from what `prepare` leaves, any run of `next_block` to its end holds the lines of the
-- definition, byte for byte. Assumes nothing.
use mathlib.Core.List.{List}
use mathlib.Core.Path.{◌≡◌, sym, ap, ◌∙◌}
use Prim.Native.Nat.{ℕ}
use lib.ListN.{take}
use Rattle.model.specs.Rules.Image.{joined}
use Rattle.model.specs.Rules.Outcome.{accepted}
use Rattle.model.specs.Rules.Trial.{trial_of}
use Rattle.model.proofs.Basics.Outcomes.{accepted-same}
use Rattle.trial_step.specs.Underway.{at_start}
use Rattle.trial_step.proofs.Filling.{Blocks, blocks-hold}
use Rattle.trial_prepare.specs.Prepares.{Started}
use Rattle.trial_prepare.specs.declared.Prepared.{Prepared}
use Rattle.trial_prepare.specs.declared.Start.{Start}

pub trial-printed : (program schedule text : List ℕ) (r : Start) (p : Prepared) (lines : List (List ℕ)) (out : List ℕ) →
    Started program schedule text r p →
    trial_of program schedule text ≡ accepted lines →
    Blocks (take r.length r.image) text at_start p.samples p.state out → out ≡ joined lines
trial-printed program schedule text r p lines out s e b =
    blocks-hold b ∙ ap joined (accepted-same _ _ (sym s.lines_are ∙ e))
