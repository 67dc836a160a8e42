-- Request f: labels that only service tools see. What the tail tells is in `one-image` (Exact).
use Rattle.std.specs.Prelude.{ℕ, true, List, ◌↔◌, ◌≡◌, ℤ}
use Rattle.model.specs.Rules.Machine.{well_formed, lent_ok}
use Rattle.model.specs.Rules.Tail.{Bears}
use Rattle.model.specs.Says.Calls.{Call, call_of}
use Rattle.theorems_images.specs.Images.{TailExactly}

pub record RequestF : Type 0 where
  -- The board accepts an image of L or of L + 4N bytes (20 is amended so) ..
  pub lent-exactly : (lent : List ℕ) →
      (lent_ok lent ≡ true) ↔ ((image : List ℕ) × (tail : List ℕ) × (well_formed image ≡ true) × Bears image tail lent)
  -- .. and runs both alike, whatever the tail.
  pub tail-alike : (image tail tail' lent lent' : List ℕ) → well_formed image ≡ true → Bears image tail lent →
      Bears image tail' lent' → (state : List ℤ) (c : Call) → call_of lent state c ≡ call_of lent' state c
  -- The tool's reader returns the tail as a stretch of the lent image, or an empty one, and refuses by 20 alone.
  pub tail-exactly : (lent : List ℕ) → TailExactly lent
