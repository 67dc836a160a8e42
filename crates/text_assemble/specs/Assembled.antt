-- What the functions answer, as the definitions say it.
use Rattle.std.specs.Prelude.{Result, Ok, Err, ℕ, ◌^◌, ◌≤◌, cond, List, ◌≡◌}
use Rattle.model.specs.Rules.Outcome.{Outcome, accepted, refused}
use Rattle.model.specs.Rules.TextForm.{Assembled, assembled_of, token, low_bytes, is_signed, signed_of, ranged, number_of, size}
use Rattle.model.specs.declared.Operand.{Operand}
use Rattle.model.specs.declared.Fault.{Fault}
use Rattle.text_keyword.specs.Cells.{pending_at}
use Rattle.text_assemble.specs.declared.TokenRead.{TokenRead}

abbrev pub read_of : Result TokenRead Fault → Outcome Assembled
read_of (Ok r) = accepted (record { bytes = low_bytes r.size r.value; pending = pending_at r.next })
read_of (Err f) = refused f

-- How many bytes are read: none where it is refused.
abbrev pub size_read : Result TokenRead Fault → ℕ
size_read (Ok r) = r.size
size_read (Err f) = 0

-- The value of an operand's number.
abbrev pub number_value : Operand → ℕ → List ℕ → Outcome ℕ
number_value o place spelling =
    cond (is_signed o) (signed_of place spelling) (ranged place 0 (256 ^ size o) (number_of spelling))

-- What a token is read as, where these operands are to follow.
pub record ReadsAs (pending : List Operand) (place : ℕ) (spelling : List ℕ) (r : Result TokenRead Fault) : Type 0 where
  pub answer : read_of r ≡ assembled_of pending (token place spelling)
  pub small : size_read r ≤ 4
