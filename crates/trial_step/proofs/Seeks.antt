-- Where the next cycle is, command by command, and what a step leaves. Assumes nothing.
use Rattle.std.specs.Prelude.{Some, None}
use Prim.Native.Nat.{ℕ, zero, suc, ◌+◌, ◌-◌, ◌≤◌, ◌<◌}
use mathlib.Core.List.{List}
use mathlib.Core.Path.{◌≡◌, refl, sym, ap, ◌∙◌}
use native.Mathlib.Omega.{arith}
use borrow.Author.Tests.{lt-ltb, le-ltb}
use lib.IntN.{ℤ}
use lib.ListN.{length}
use lib.Seq.{sets}
use Rattle.model.specs.Rules.Decimal.{line_of}
use Rattle.model.specs.Rules.Machine.{cycle_words}
use Rattle.model.specs.Rules.Script.{script_command_at}
use Rattle.model.specs.Rules.Trial.{signals_of}
use Rattle.model.specs.Rules.Width.{in_script}
use Rattle.model.specs.declared.ScriptCommand.{ScriptCommand}
use Rattle.trial_script.specs.Script.{action_width, cycles_made, altered}
use Rattle.trial_step.specs.Underway.{
  Seeking,
  nothing_sought,
  cycle_sought,
  seek_by,
  seek_from,
  seek_of,
  next_cycle,
  step_of,
  Stepped,
  Printed,
}
use Rattle.trial_step.specs.declared.Progress.{Progress}
use Rattle.trial_step.specs.Underway.{Sought}

-- One command: none, or one that ends the script; a RUN that makes a cycle; another.
module _ (go : ℕ → List ℤ → Seeking) (at : ℕ) (samples : List ℤ) where
  by-none : (c : ScriptCommand) → action_width c ≡ 0 → seek_by go at samples c ≡ nothing_sought samples
  unfolding seek_by action_width
  by-none ScriptCommand.EndsEarly e = refl
  by-none ScriptCommand.Unknown e = refl
  by-none ScriptCommand.End e = refl
  by-none (ScriptCommand.Set x w) e = absurd (omega arith)
  by-none (ScriptCommand.Run n) e = absurd (omega arith)

  by-cycle : (c : ScriptCommand) → 0 < cycles_made c →
      seek_by go at samples c ≡ cycle_sought (at + action_width c) (cycles_made c - 1) (altered samples c)
  unfolding seek_by action_width cycles_made altered
  by-cycle ScriptCommand.EndsEarly h = absurd (omega arith)
  by-cycle ScriptCommand.Unknown h = absurd (omega arith)
  by-cycle ScriptCommand.End h = absurd (omega arith)
  by-cycle (ScriptCommand.Set x w) h = absurd (omega arith)
  by-cycle (ScriptCommand.Run zero) h = absurd (omega arith)
  by-cycle (ScriptCommand.Run (suc n)) h =
      let e : n ≡ suc n - 1 = omega arith in ap (λ k. cycle_sought (at + in_script 0x71) k samples) e

  by-other : (c : ScriptCommand) → 0 < action_width c → cycles_made c ≡ 0 →
      seek_by go at samples c ≡ go (at + action_width c) (altered samples c)
  unfolding seek_by action_width cycles_made altered
  by-other ScriptCommand.EndsEarly h e = absurd (omega arith)
  by-other ScriptCommand.Unknown h e = absurd (omega arith)
  by-other ScriptCommand.End h e = absurd (omega arith)
  by-other (ScriptCommand.Set x w) h e = refl
  by-other (ScriptCommand.Run zero) h e = refl
  by-other (ScriptCommand.Run (suc n)) h e = absurd (omega arith)

module _ (text : List ℕ) (at : ℕ) (samples : List ℤ) where
  pub seek-none : (left : ℕ) → action_width (script_command_at text at) ≡ 0 →
      seek_from left text at samples ≡ nothing_sought samples
  unfolding seek_from
  seek-none zero e = refl
  seek-none (suc left) e = by-none _ at samples (script_command_at text at) e

  past-width : length text ≤ at → action_width (script_command_at text at) ≡ 0
  unfolding script_command_at action_width
  past-width le = rw (le-ltb at (length text) le)

  pub seek-past : (left : ℕ) → length text ≤ at → seek_from left text at samples ≡ nothing_sought samples
  seek-past left le = seek-none left (past-width le)

  module _ (samples' : List ℤ) (w runs : ℕ) (width : w ≡ action_width (script_command_at text at)) (some : 0 < w)
      (alters : samples' ≡ altered samples (script_command_at text at)) (makes : runs ≡ cycles_made (script_command_at text at))
    where
      pub seek-cycle : (left : ℕ) → length text ≤ left + at → at < length text → 0 < runs →
          seek_from left text at samples ≡ cycle_sought (at + w) (runs - 1) samples'
      unfolding seek_from
      seek-cycle zero enough lt r = absurd (omega arith)
      seek-cycle (suc left) enough lt r =
          rw (width, makes, alters) (by-cycle _ at samples (script_command_at text at) (omega arith))

      pub seek-on : (left : ℕ) → length text ≤ left + at → at < length text → runs ≡ 0 →
          (m : ℕ) × (length text ≤ m + (at + w)) × (seek_from left text at samples ≡ seek_from m text (at + w) samples')
      unfolding seek_from
      seek-on zero enough lt r = absurd (omega arith)
      seek-on (suc left) enough lt r = (
        left,
        omega arith,
        rw (width, alters) (by-other _ at samples (script_command_at text at) (omega arith) (omega arith)),
      )

-- What was found is where the script goes on.
pub sought-is : (text : List ℕ) (at : ℕ) (samples : List ℤ) {samples' : List ℤ} {r : Sought} → r ≡
    (seek_of text at samples).sought →
    samples' ≡ (seek_of text at samples).samples → seek_of text at samples ≡ record { sought = r; samples = samples' }
sought-is text at samples f s = λ i. record { sought = sym f i; samples = sym s i }

module _ (text : List ℕ) (p : Progress) (samples : List ℤ) where
  pub within-run : 0 < p.left → next_cycle text p samples ≡ cycle_sought p.at (p.left - 1) samples
  unfolding next_cycle
  within-run h = rw (lt-ltb 0 p.left h)

  pub after_run : p.left ≡ 0 → next_cycle text p samples ≡ seek_of text p.at samples
  unfolding next_cycle
  after_run e = rw e

module _ (image text : List ℕ) (p : Progress) (samples state : List ℤ) (line : List ℕ) where
  -- A cycle that has run and printed its line is the step.
  pub stepped-cycle : {samples' state' : List ℤ} {line' : List ℕ} {size : ℕ} (at left : ℕ) →
      next_cycle text p samples ≡ cycle_sought at left samples' → Printed image p.line samples' state line state' line' size →
      Stepped (step_of image text p samples state line) samples' state' line'
      (Some (size, record { at = at; left = left; line = p.line + 1 }))
  unfolding step_of
  stepped-cycle {samples'} {state'} {line'} {size} at left e ran =
      let bytes = line_of p.line (signals_of image (cycle_words image state samples')) in
      let same : line_of p.line (signals_of image state') ≡ bytes =
      ap (λ s. line_of p.line (signals_of image s)) ran.state-is in
      let long : size ≡ length bytes = omega (arith, ran.line-is.ends, ap length same) in
      rw e
      (record {
        next-is = ap (λ n. Some (n, record { at = at; left = left; line = p.line + 1 })) long;
        samples-is = refl;
        state-is = ran.state-is;
        line-is = ran.line-is.holds ∙ ap (sets line 0) same;
      })

  pub stepped-none : {samples' : List ℤ} → next_cycle text p samples ≡ nothing_sought samples' →
      Stepped (step_of image text p samples state line) samples' state line None
  unfolding step_of
  stepped-none e = rw e (record { next-is = refl; samples-is = refl; state-is = refl; line-is = refl })
