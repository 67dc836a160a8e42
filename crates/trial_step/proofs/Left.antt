-- What is left of a trial, before and after a line. Assumes nothing.
use Rattle.std.specs.Prelude.{Some, None}
use Prim.Native.Nat.{ℕ, zero, suc, ◌+◌, ◌-◌, ◌≤◌, ◌<◌}
use mathlib.Core.List.{List, [], ◌∷◌, ◌++◌}
use mathlib.Core.Path.{◌≡◌, refl, sym, ap, ap₂, subst, ◌∙◌}
use native.Mathlib.Numerals.{add-one}
use native.Mathlib.Omega.{arith}
use lib.IntN.{ℤ}
use lib.ListN.{length, take, drop, replicate}
use lib.Seq.{sets-eq, take_at}
use Rattle.model.specs.Says.Calls.{cycle, call_of}
use Rattle.model.specs.Rules.Decimal.{line_of}
use Rattle.model.specs.Rules.Script.{script_command_at, script_at, script_of, calls_from, cycles_of}
use Rattle.model.specs.Rules.Trial.{signals_of, lines_from}
use Rattle.model.proofs.Bench.Scripts.{calls_count}
use Rattle.decimal.specs.PutBytes.{PutBytes}
use Rattle.decimal.proofs.Puts.{put-length}
use Rattle.machine.specs.Runnable.{Runnable}
use Rattle.machine.proofs.Runnable.{cycle-leaves}
use Rattle.trial_script.specs.Script.{action_width, cycles_made, altered}
use Rattle.trial_script.proofs.Walk.{calls-more}
use Rattle.trial_step.specs.Underway.{calls_left, lines_left, at_start, Underway, Printed, Lined, StepsOn}
use Rattle.trial_step.specs.Underway.{Next}
use Rattle.trial_step.specs.declared.Progress.{Progress}

-- The calls left: within a RUN, and at its end.
module _ (text : List ℕ) (at : ℕ) (samples : List ℤ) where
  pub left-some : (left : ℕ) → 0 < left → calls_left text at left samples ≡ cycle samples ∷ calls_left text at (left - 1) samples
  unfolding calls_left
  left-some zero h = absurd (omega arith)
  left-some (suc left) h =
      let e : left ≡ suc left - 1 = omega arith in
      ap (λ (n : ℕ). cycle samples ∷ (replicate n (cycle samples) ++ calls_from samples (script_at text at).actions)) e

  pub left-none : calls_left text at 0 samples ≡ calls_from samples (script_at text at).actions
  unfolding calls_left
  left-none = refl

-- One command of the way to the next cycle.
pub seek-step : (text : List ℕ) (at w runs : ℕ) (samples samples' : List ℤ) → w ≡ action_width (script_command_at text at) →
    0 < w →
    samples' ≡ altered samples (script_command_at text at) → runs ≡ cycles_made (script_command_at text at) →
    calls_from samples (script_at text at).actions ≡ calls_left text (at + w) runs samples'
unfolding calls_left
seek-step text at w runs samples samples' e some s r =
    calls-more text at w e some samples ∙
    sym (ap₂ (λ (n : ℕ) (l : List ℤ). replicate n (cycle l) ++ calls_from l (script_at text (at + w)).actions) r s)

-- The bytes that were put to the start of a buffer.
put-start : {line bytes line' : List ℕ} {size : ℕ} → PutBytes line 0 bytes line' size → take size line' ≡ bytes
put-start {line} {bytes} {line'} {size} p =
    let room : 0 + length bytes ≤ length line = omega (arith, p.ends, p.fits, put-length p) in
    let same : size ≡ length bytes = omega (arith, p.ends) in
    ap₂ (λ (n : ℕ) (l : List ℕ). take n l) same (p.holds ∙ sets-eq bytes line 0 room) ∙
    take_at bytes (drop (0 + length bytes) line) (length bytes) refl

-- A cycle that has run, where the calls left begin with it, has printed the first of the lines left.
module _ {image text : List ℕ} {p : Progress} {samples samples' state state' : List ℤ} {line line' : List ℕ} {size : ℕ}
    (at left : ℕ)
    (u : Underway image text p samples state) (enough : Runnable image state samples')
    (calls : calls_left text p.at p.left samples ≡ cycle samples' ∷ calls_left text at left samples')
    (ran : Printed image p.line samples' state line state' line' size) where
  abbrev next : Progress
  next = record { at = at; left = left; line = p.line + 1 }

  pub lined : Lined image text p samples state samples' state' line' size next
  unfolding lines_left lines_from
  lined =
      let rest = calls_left text at left samples' in
      let leaves : (call_of image state (cycle samples')).left ≡ state' = cycle-leaves enough ∙ sym ran.state-is in
      record {
        next-line =
            ap (lines_from image p.line state) calls ∙
            ap (λ (s : List ℤ). line_of p.line (signals_of image s) ∷ lines_from image (suc p.line) s rest) leaves ∙
            ap₂ (λ (b : List ℕ) (n : ℕ). b ∷ lines_from image n state' rest) (sym (put-start ran.line-is))
            (sym (add-one p.line));
        fits = ran.line-is.fits;
        number = refl;
        underway = record { runnable = ran.runnable; few = omega (arith, u.few, ap length calls) };
      }

pub none_left : (image text : List ℕ) (p : Progress) (samples state : List ℤ) → calls_left text p.at p.left samples ≡ [] →
    lines_left image text p samples state ≡ []
unfolding lines_left lines_from
none_left image text p samples state e = ap (lines_from image p.line state) e

-- What a step that prints a line has done.
pub is-lined : {image text : List ℕ} {p : Progress} {samples state samples' state' : List ℤ} {line' : List ℕ} {r : Next}
    (size : ℕ) (after : Progress) → r ≡ Some (size, after) → StepsOn image text p samples state samples' state' line' r →
    Lined image text p samples state samples' state' line' size after
unfolding StepsOn
is-lined {image} {text} {p} {samples} {state} {samples'} {state'} {line'} size after e s =
    subst (λ (r : Next). StepsOn image text p samples state samples' state' line' r) e s

pub is-ended : (image text : List ℕ) (p : Progress) (samples state samples' state' : List ℤ) (line' : List ℕ) {r : Next} →
    r ≡ None → StepsOn image text p samples state samples' state' line' r → lines_left image text p samples state ≡ []
unfolding StepsOn
is-ended image text p samples state samples' state' line' e s =
    subst (λ (r : Next). StepsOn image text p samples state samples' state' line' r) e s

-- At the start all lines of the script are left.
pub left-all : (image text : List ℕ) (samples state : List ℤ) →
    lines_left image text at_start samples state ≡ lines_from image 0 state (calls_from samples (script_of text).actions)
unfolding lines_left
left-all image text samples state = ap (lines_from image 0 state) (left-none text 0 samples)

pub left-count : (text : List ℕ) (samples : List ℤ) → length (calls_left text 0 0 samples) ≡ cycles_of (script_of text).actions
left-count text samples = ap length (left-none text 0 samples) ∙ calls_count samples (script_of text).actions
