-- What is written for what stands at an offset, as the functions answer it.
use Rattle.std.specs.Prelude.{Result, Ok, Err, ℕ, ◌+◌, ◌≤◌, not, List, ◌++◌, ◌≡◌, eqb, length}
use Rattle.model.specs.Rules.Outcome.{Outcome, accepted, refused}
use Rattle.model.specs.Rules.TextForm.{Listed, lead}
use Rattle.model.specs.Rules.Writing.{Wrote}
use Rattle.model.specs.declared.Fault.{Fault}
use Rattle.text_keyword.specs.Cells.{pending_at}
use Rattle.text_list.specs.declared.TokenPut.{TokenPut}

-- What separates a token from the one before it, by the table's number.
abbrev pub lead_by : ℕ → ℕ → List ℕ
lead_by at opens = lead at (not (eqb opens 0))

-- A token with what separates it.
abbrev pub put_of : ℕ → Listed → List ℕ
put_of at x = lead at x.opens ++ x.token

-- There is room for it.
unfoldable pub Room : Outcome Listed → ℕ → List ℕ → ℕ → Type 0
Room (accepted x) at out to = to + length (put_of at x) ≤ length out
Room (refused f) at out to = Unit {0}

-- It is written.
pub record PutToken (x : Listed) (at : ℕ) (out : List ℕ) (to : ℕ) (after : List ℕ) (r : TokenPut) : Type 0 where
  pub wrote : Wrote out to (put_of at x) after r.end
  pub width : r.width ≡ x.width
  pub pending : pending_at r.next ≡ x.pending

-- It is written where it is accepted; else it is refused, and nothing is.
unfoldable pub PutsToken : Outcome Listed → ℕ → List ℕ → ℕ → List ℕ → Result TokenPut Fault → Type 0
PutsToken (accepted x) at out to after (Ok r) = PutToken x at out to after r
PutsToken (accepted x) at out to after (Err g) = ⊥
PutsToken (refused f) at out to after (Ok r) = ⊥
PutsToken (refused f) at out to after (Err g) = (g ≡ f) × (after ≡ out)
