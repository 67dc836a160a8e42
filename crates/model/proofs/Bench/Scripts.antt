-- Scripts: a text is read command after command, and prints a line for each cycle. Assumes nothing.
use Prim.Native.Nat.{ℕ, zero, suc, ◌+◌, ◌≤◌}
use mathlib.Core.List.{List, [], ◌∷◌}
use mathlib.Core.Path.{◌≡◌, refl, ap}
use native.Mathlib.Omega.{arith}
use borrow.Author.Tests.{le-ltb}
use lib.IntN.{ℤ}
use lib.ListN.{length, length-append, length-replicate}
use Rattle.model.specs.Rules.Script.{
  script_command_at,
  Action,
  alter,
  run,
  preceded,
  script_command,
  script_from,
  script_at,
  calls_from,
  cycles_of,
}
use Rattle.model.specs.Says.Calls.{Call, call_of}
use Rattle.model.specs.Rules.Trial.{lines_from}
use Rattle.model.specs.declared.ScriptCommand.{ScriptCommand}
use Rattle.model.specs.declared.ScriptCommand.TheVariants as ScriptCommand

module _ (text : List ℕ) where
  pub past : (at : ℕ) → length text ≤ at → script_command_at text at ≡ ScriptCommand.EndsEarly
  unfolding script_command_at
  past at h = rw (le-ltb at (length text) h)

  -- More commands allowed change nothing.
  enough : (f g at : ℕ) → length text ≤ at + f → length text ≤ at + g → script_from f text at ≡ script_from g text at
  unfolding script_from script_command
  enough zero zero at hf hg = refl
  enough zero (suc g) at hf hg = rw (past at (omega arith))
  enough (suc f) zero at hf hg = rw (past at (omega arith))
  enough (suc f) (suc g) at hf hg =
      go (script_command_at text at) (enough f g (at + 6) (omega arith) (omega arith))
      (enough f g (at + 2) (omega arith) (omega arith))
    where
      go : (c : ScriptCommand) → script_from f text (at + 6) ≡ script_from g text (at + 6) →
          script_from f text (at + 2) ≡ script_from g text (at + 2) →
          script_command (λ n. script_from f text n) text at c ≡ script_command (λ n. script_from g text n) text at c
      go ScriptCommand.EndsEarly a b = refl
      go ScriptCommand.Unknown a b = refl
      go ScriptCommand.End a b = refl
      go (ScriptCommand.Set x w) a b = ap (preceded (alter at x w)) a
      go (ScriptCommand.Run n) a b = ap (preceded (run n)) b

  -- A script from an offset on is its first command and what follows it.
  step_from : (f at : ℕ) → length text ≡ f →
      script_from f text at ≡ script_command (λ n. script_from f text n) text at (script_command_at text at)
  unfolding script_from script_command
  step_from zero at e = rw (past at (omega arith))
  step_from (suc f) at e = go (script_command_at text at)
    where
      go : (c : ScriptCommand) →
          script_command (λ n. script_from f text n) text at c ≡ script_command (λ n. script_from (suc f) text n) text at c
      go ScriptCommand.EndsEarly = refl
      go ScriptCommand.Unknown = refl
      go ScriptCommand.End = refl
      go (ScriptCommand.Set x w) = ap (preceded (alter at x w)) (enough f (suc f) (at + 6) (omega arith) (omega arith))
      go (ScriptCommand.Run n) = ap (preceded (run n)) (enough f (suc f) (at + 2) (omega arith) (omega arith))

  pub step : (at : ℕ) → script_at text at ≡ script_command (script_at text) text at (script_command_at text at)
  unfolding script_at
  step at = step_from (length text) at refl

-- As many calls as the RUNs say, whatever the samples.
pub calls_count : (samples : List ℤ) (actions : List Action) → length (calls_from samples actions) ≡ cycles_of actions
unfolding calls_from cycles_of
calls_count samples [] = refl
calls_count samples (alter at x w ∷ actions) = calls_count _ actions
calls_count samples (run n ∷ actions) =
    simp (length-append, length-replicate) (ap (λ (k : ℕ). n + k) (calls_count samples actions))

-- As many lines as calls, and line j is that of the state after the first j + 1 calls.
pub lines-count : (image : List ℕ) (j : ℕ) (state : List ℤ) (cs : List Call) → length (lines_from image j state cs) ≡ length cs
unfolding lines_from
lines-count image j state [] = refl
lines-count image j state (c ∷ cs) = ap suc (lines-count image (suc j) (call_of image state c).left cs)
