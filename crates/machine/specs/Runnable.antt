-- What is lent to a cycle that has nothing left to refuse (20 to 23).
use Rattle.std.specs.Prelude.{ℕ, ◌≤◌, ◌<◌, true, List, ◌≡◌, ℤ, pos, length, get_or}
use Rattle.model.specs.Rules.Machine.{stretch, hyper_of, count_of, table_offset, code_offset, well_formed, is_position, reset_of, cycle_of}
use Rattle.model.specs.Rules.Outcome.{refused}
use Rattle.model.specs.declared.Fault.{Fault}
use Rattle.image_valid.specs.Lends.{Lends}

-- The table of an image, from its count byte to the code.
unfoldable pub table_in : List ℕ → List ℕ
table_in image = stretch image (table_offset image) (code_offset image 0)

pub record Runnable (image : List ℕ) (state samples : List ℤ) : Type 0 where
  pub formed : well_formed image ≡ true
  pub long : count_of image < length state
  pub position : is_position (hyper_of image) (get_or state 0 (pos 0)) ≡ true
  pub enough : count_of image ≤ length samples

-- The image in what is lent, well formed, and a state with room for it.
pub record Ready (lent : List ℕ) (state : List ℤ) (image : List ℕ) : Type 0 where
  pub lends : Lends lent image
  pub formed : well_formed image ≡ true
  pub long : count_of image < length state

-- The refusal of a cycle, and of a reset and each cycle on this state. The state stays as it was.
abbrev pub RefusesCycle : List ℕ → List ℤ → List ℤ → Fault → Type 0
RefusesCycle lent state samples f = cycle_of lent state samples ≡ record { answer = refused f; left = state }

pub record Unready (lent : List ℕ) (state : List ℤ) (f : Fault) : Type 0 where
  pub resets : reset_of lent state ≡ record { answer = refused f; left = state }
  pub cycles : (samples : List ℤ) → RefusesCycle lent state samples f
