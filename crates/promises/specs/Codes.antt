-- The answers of the calls for C as one number: number × 2^32 + place of a refusal, or 0 × 2^32 + what the call yields.
use Rattle.std.specs.Prelude.{ℕ, ◌+◌, ◌*◌, List, ◌≡◌, ℤ}
use Rattle.board.specs.Board.{load_of, mark_place_of, turn_of}
use Rattle.board.specs.Board.{Board}
use Rattle.board.specs.Record.{turn_done}
use Rattle.larderlate.specs.Code.{code_number, length_in}
use Rattle.model.specs.Rules.Compile.{compile_of}
use Rattle.model.specs.Rules.Dependents.{dependents_of}
use Rattle.model.specs.Rules.Join.{join_of}
use Rattle.model.specs.Rules.Machine.{reset_of}
use Rattle.model.specs.Rules.Moves.{moves_of}
use Rattle.model.specs.Rules.Outcome.{Outcome, refused}
use Rattle.model.specs.Rules.Report.{report_of}
use Rattle.model.specs.Rules.Rewrite.{convert_of}
use Rattle.model.specs.Rules.Tail.{tail_in, length_of_tail}
use Rattle.model.specs.Rules.Word.{AreBytes}
use Rattle.model.specs.Says.Calls.{Call, call_of}
use Rattle.model.specs.declared.Fault.{Fault}
use Rattle.promises.specs.Codable.{Codable}

pub record Codes : Type 0 where
  -- The number of a refusal tells both number and place.
  pub compile-code : (program schedule buffer : List ℕ) → AreBytes program → (f : Fault) →
      (compile_of program schedule buffer).answer ≡ refused f → code_number (refused f) ≡ f.number * 4294967296 + f.place
  pub report-code : (program schedule counts : List ℕ) → AreBytes program → (f : Fault) →
      (report_of program schedule counts).answer ≡ refused f → code_number (refused f) ≡ f.number * 4294967296 + f.place
  pub call-code : (lent : List ℕ) (state : List ℤ) (c : Call) (f : Fault) → (call_of lent state c).answer ≡ refused f →
      code_number (refused f) ≡ f.number * 4294967296 + f.place
  pub join-code : (texts numbers links image : List ℕ) → AreBytes texts → (f : Fault) →
      (join_of texts numbers links image).answer ≡ refused f → code_number (refused f) ≡ f.number * 4294967296 + f.place
  -- One number tells all: of two answers that have the same number each is the other, whichever calls gave them ..
  pub code-tells : (o o' : Outcome ℕ) → Codable o → Codable o' → code_number o ≡ code_number o' → o ≡ o'
  -- .. since lengths, counts and places are below 2^32 and the numbers of refusals above 0, in every call.
  pub compile-codable : (program schedule buffer : List ℕ) → AreBytes program →
      Codable (compile_of program schedule buffer).answer
  pub report-codable : (program schedule counts : List ℕ) → AreBytes program →
      Codable (length_in (report_of program schedule counts).answer)
  pub reset-codable : (lent : List ℕ) (state : List ℤ) → Codable (reset_of lent state).answer
  pub call-codable : (lent : List ℕ) (state : List ℤ) (c : Call) → AreBytes lent → Codable (call_of lent state c).answer
  pub tail-codable : (lent : List ℕ) → Codable (length_of_tail (tail_in lent))
  pub convert-codable : (program buffer : List ℕ) → Codable (convert_of program buffer).answer
  pub join-codable : (texts numbers links image : List ℕ) → AreBytes texts → Codable (join_of texts numbers links image).answer
  pub moves-codable : (program schedule list : List ℕ) → AreBytes program → Codable (moves_of program schedule list).answer
  pub dependents-codable : (program schedule : List ℕ) (i : ℕ) (marks : List ℕ) →
      Codable (dependents_of program schedule i marks).answer
  pub load-codable : (b : Board) (images : List ℕ) (state : List ℤ) (k start size : ℕ) →
      Codable (load_of b images state k start size).answer
  pub mark-codable : (b : Board) (k : ℕ) → Codable (mark_place_of b k).answer
  pub turn-codable : (b : Board) (images : List ℕ) (state samples : List ℤ) →
      Codable (turn_done (turn_of b images state samples).answer)
