-- Request m for joined parts: which signals read another, in their own part or by a link, by themselves or through others.
use Rattle.std.specs.Prelude.{ℕ, suc, ◌+◌, ◌<◌, List, ◌≡◌, ℤ, pos, length, get_or}
use Rattle.model.specs.Rules.Compile.{Pair}
use Rattle.model.specs.Rules.Outcome.{Outcome}
use Rattle.model.specs.Rules.Parts.{Part, base, part_at, PartLink}
use Rattle.model.specs.Rules.Program.{count}
use Rattle.theorems_pairs.specs.Conditions.{◌among◌}
use Rattle.theorems_streams.specs.Dependence.{Reads, AgreeExcept}

module _ (parts : List Part) (links : List PartLink) where
  -- Signal y of part m reads a signal of its part, or, as a linked IN, the signal of another that its link names.
  pub data PartReads (m y : ℕ) : ℕ → ℕ → Type 0 where
    own : {w : ℕ} → Reads (part_at parts m).program y w → PartReads m y m w
    link : {l : PartLink} → l among links → l.input_part ≡ m → l.input ≡ y → PartReads m y l.signal_part l.signal

  -- Signal y of part m reads signal i of part k, by itself or through other signals.
  pub data PartDependsOn : ℕ → ℕ → ℕ → ℕ → Type 0 where
    directly : {m y k i : ℕ} → PartReads m y k i → PartDependsOn m y k i
    through : {m y n w k i : ℕ} → PartReads m y n w → PartDependsOn n w k i → PartDependsOn m y k i

  -- Two runs of the joined pair q, each by its answers, log and state. They answer the same, the command counts included, and
  -- have the same position; if their elements differ only for input i of part k, every other signal of any part that does not
  -- depend on it holds the same word.
  pub record JoinSameExcept (q : Pair) (k i : ℕ) (answers answers' : List (Outcome ℕ)) (log log' : List (List ℤ))
      (state state' : List ℤ) : Type 0 where
    pub answered : answers ≡ answers'
    pub cycles : length log ≡ length log'
    pub position : get_or state 0 (pos 0) ≡ get_or state' 0 (pos 0)
    pub words : AgreeExcept q.program q.schedule (base parts k + i) log log' → (m y : ℕ) → m < length parts →
        y < count (part_at parts m).program → ¬ ((m ≡ k) × (y ≡ i)) → ¬ PartDependsOn m y k i →
        get_or state (suc (base parts m + y)) (pos 0) ≡ get_or state' (suc (base parts m + y)) (pos 0)
