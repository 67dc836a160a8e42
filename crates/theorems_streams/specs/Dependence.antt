-- Request m: which signals read an input, by themselves or through other signals, and what two runs that differ only in the
-- elements of that input have in common.
use Rattle.std.specs.Prelude.{ℕ, suc, ◌≤◌, ◌<◌, List, [], ◌∷◌, ◌≡◌, ℤ, pos, length, get_or}
use Rattle.model.specs.Rules.Outcome.{Outcome}
use Rattle.model.specs.Rules.Program.{
  Program,
  Body,
  input,
  equation,
  Expr,
  read,
  Read,
  count,
  signal_at,
}
use Rattle.model.specs.Rules.Reads.{rate_of, run_cycle}
use Rattle.model.specs.Rules.Schedule.{Schedule}
use Rattle.model.specs.Says.Calls.{Call, reset, cycle}
use Rattle.theorems_streams.specs.Held.{IsInput, state_by, log_by, answers_by}
use Rattle.theorems_streams.specs.Lists.{sample}
use Rattle.theorems_pairs.specs.Subexpression.{Subexpression}

-- Signal w occurs in an expression: in a read of any kind, wherever it stands (under TABLE, in any operand of two, and in each
-- of the three of an IF).
abbrev pub Occurs : ℕ → Expr → Type 0
Occurs w e = (ρ : Read) × (ρ.operands.signal ≡ w) × Subexpression (read ρ) e

abbrev pub OccursIn : ℕ → Body → Type 0
OccursIn w input = ⊥
OccursIn w (equation weight e) = Occurs w e

-- The equation of signal y reads w.
abbrev pub Reads : Program → ℕ → ℕ → Type 0
Reads p y w = OccursIn w (signal_at p y).body

-- Signal y reads i, by itself or through other signals.
pub data DependsOn (p : Program) : ℕ → ℕ → Type 0 where
  directly : {y i : ℕ} → Reads p y i → DependsOn p y i
  through : {y w i : ℕ} → Reads p y w → DependsOn p w i → DependsOn p y i

-- Two lists of calls, alike call by call: a reset beside a reset, and a cycle beside a cycle, both lent fewer than N samples or
-- neither.
pub data AlikeCalls (p : Program) : List Call → List Call → Type 0 where
  none : AlikeCalls p [] []
  resets : {cs cs' : List Call} → AlikeCalls p cs cs' → AlikeCalls p (reset ∷ cs) (reset ∷ cs')
  few : {cs cs' : List Call} {samples samples' : List ℤ} → length samples < count p → length samples' < count p →
      AlikeCalls p cs cs' → AlikeCalls p (cycle samples ∷ cs) (cycle samples' ∷ cs')
  runs : {cs cs' : List Call} {samples samples' : List ℤ} → count p ≤ length samples → count p ≤ length samples' →
      AlikeCalls p cs cs' → AlikeCalls p (cycle samples ∷ cs) (cycle samples' ∷ cs')

-- The elements that both logs supply are the same for every input except i.
abbrev pub AgreeExcept : Program → Schedule → ℕ → List (List ℤ) → List (List ℤ) → Type 0
AgreeExcept p s i log log' =
    (x k : ℕ) → x < count p → IsInput (signal_at p x).body → ¬ (x ≡ i) → run_cycle (rate_of p s x) k < length log →
    run_cycle (rate_of p s x) k < length log' → sample p s log x k ≡ sample p s log' x k

-- It is so if the cycles side by side are lent the same samples but for word i.
pub data LentExcept (i : ℕ) : List Call → List Call → Type 0 where
  none : LentExcept i [] []
  resets : {cs cs' : List Call} → LentExcept i cs cs' → LentExcept i (reset ∷ cs) (reset ∷ cs')
  cycles : {cs cs' : List Call} {samples samples' : List ℤ} →
      ((x : ℕ) → ¬ (x ≡ i) → get_or samples x (pos 0) ≡ get_or samples' x (pos 0)) →
      LentExcept i cs cs' → LentExcept i (cycle samples ∷ cs) (cycle samples' ∷ cs')

-- Two runs, each by its answers, log and state. They answer the same, the command counts included, and have the same position;
-- if their elements differ only for input i, every other signal that does not depend on i holds the same word.
pub record SameExcept (p : Program) (s : Schedule) (i : ℕ) (answers answers' : List (Outcome ℕ)) (log log' : List (List ℤ))
    (state state' : List ℤ) : Type 0 where
  pub answered : answers ≡ answers'
  pub cycles : length log ≡ length log'
  pub position : get_or state 0 (pos 0) ≡ get_or state' 0 (pos 0)
  pub words : AgreeExcept p s i log log' → (y : ℕ) → y < count p → ¬ (y ≡ i) → ¬ DependsOn p y i →
      get_or state (suc y) (pos 0) ≡ get_or state' (suc y) (pos 0)

-- The same of two lists, after a reset of `old` and one of `old'`.
abbrev pub SameExceptBy : Program → Schedule → ℕ → List ℕ → List ℕ → List ℤ → List ℤ → List Call → List Call → Type 0
SameExceptBy p s i lent lent' old old' cs cs' =
    SameExcept p s i (answers_by lent old cs) (answers_by lent' old' cs') (log_by lent old cs) (log_by lent' old' cs')
    (state_by lent old cs) (state_by lent' old' cs')
