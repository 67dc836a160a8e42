-- The walk over a script: how a command stands in a text, and what it does to what follows. Assumes nothing.
use Prim.Native.Nat.{ℕ, ◌+◌, ◌≤◌, ◌<◌}
use mathlib.Core.Bool.{Bool, true, false, cond}
use mathlib.Core.List.{List, [], ◌∷◌, ◌++◌}
use mathlib.Core.Path.{◌≡◌, refl, sym, ap, ◌∙◌}
use native.Mathlib.Omega.{arith}
use borrow.Author.Tests.{leb-true, lt-ltb, le-leb, lt-leb}
use lib.Dec.{leb, eqb}
use lib.IntN.{ℤ}
use lib.ListN.{length, replicate}
use Rattle.model.specs.Says.Calls.{cycle}
use Rattle.model.specs.Rules.Machine.{count_of, code_offset, code_of, code_ok, code_ok_from, well_formed}
use Rattle.model.specs.Rules.Outcome.{accepted, refused, refuse, ◌▷◌, provided}
use Rattle.model.specs.Rules.Script.{
  script_command_at,
  Action,
  Script,
  script_command,
  script_at,
  script_of,
  inputs_only,
  check_of,
  calls_from,
  cycles_of,
}
use Rattle.model.specs.Rules.Word.{byte_at, word_at}
use Rattle.model.specs.declared.Fault.{Fault}
use Rattle.model.specs.declared.ScriptCommand.{ScriptCommand}
use Rattle.model.proofs.Bench.Scripts.{past, step}
use Rattle.image_valid.proofs.Parts.{formed, codes, stretch-length}
use Rattle.trial_script.specs.Script.{action_width, cycles_made, altered, may_stand, ending_at}

-- A SET or RUN is whole.
pub inside : (text : List ℕ) (at w : ℕ) → w ≡ action_width (script_command_at text at) → at < length text → at + w ≤ length text
unfolding action_width script_command_at
inside text at w e h =
    rw (e, lt-ltb at (length text) h)
    (go (eqb (byte_at text at) 0x00) (eqb (byte_at text at) 0x70) (eqb (byte_at text at) 0x71) (leb (at + 6) (length text))
    (leb (at + 2) (length text)) refl refl)
  where
    go : (a b c d f : Bool) → leb (at + 6) (length text) ≡ d → leb (at + 2) (length text) ≡ f →
        at +
        action_width (cond a ScriptCommand.End
        (cond b (cond d (ScriptCommand.Set (byte_at text (at + 1)) (word_at text (at + 2))) ScriptCommand.EndsEarly)
        (cond c (cond f (ScriptCommand.Run (byte_at text (at + 1))) ScriptCommand.EndsEarly) ScriptCommand.Unknown))) ≤
        length text
    go true b c d f p q = omega arith
    go false true c true f p q = leb-true _ _ p
    go false true c false f p q = omega arith
    go false false true d true p q = leb-true _ _ q
    go false false true d false p q = omega arith
    go false false false d f p q = omega arith

module _ (text : List ℕ) (at : ℕ) where
  abbrev here : ScriptCommand
  here = script_command_at text at

  -- past the end nothing stands
  pub ending-past : length text ≤ at → (script_at text at).ending ≡ refuse 24 (length text)
  unfolding script_command
  ending-past h = rw (step text at, past text at h)

  pub actions-past : length text ≤ at → (script_at text at).actions ≡ []
  unfolding script_command
  actions-past h = rw (step text at, past text at h)

  module _ (w : ℕ) (e : w ≡ action_width (script_command_at text at)) where
    -- a command that ends the script
    pub ending_here : w ≡ 0 → (script_at text at).ending ≡ ending_at text at here
    unfolding action_width script_command ending_at
    ending_here z = ap (λ (s : Script). s.ending) (step text at) ∙ go here (sym e ∙ z)
      where
        go : (c : ScriptCommand) → action_width c ≡ 0 → (script_command (script_at text) text at c).ending ≡ ending_at text at c
        go ScriptCommand.EndsEarly z = refl
        go ScriptCommand.Unknown z = refl
        go ScriptCommand.End z = refl
        go (ScriptCommand.Set x v) z = absurd (omega arith)
        go (ScriptCommand.Run n) z = absurd (omega arith)

    pub actions-here : w ≡ 0 → (script_at text at).actions ≡ []
    unfolding action_width script_command
    actions-here z = ap (λ (s : Script). s.actions) (step text at) ∙ go here (sym e ∙ z)
      where
        go : (c : ScriptCommand) → action_width c ≡ 0 → (script_command (script_at text) text at c).actions ≡ []
        go ScriptCommand.EndsEarly z = refl
        go ScriptCommand.Unknown z = refl
        go ScriptCommand.End z = refl
        go (ScriptCommand.Set x v) z = absurd (omega arith)
        go (ScriptCommand.Run n) z = absurd (omega arith)

    -- and one that does not
    module _ (some : 0 < w) where
      pub ending-more : (script_at text at).ending ≡ (script_at text (at + w)).ending
      unfolding action_width script_command
      ending-more = ap (λ (s : Script). s.ending) (step text at) ∙ rw e (go here (rw e at some))
        where
          go : (c : ScriptCommand) → 0 < action_width c → (script_command (script_at text) text at c).ending ≡
              (script_at text (at + action_width c)).ending
          go ScriptCommand.EndsEarly z = absurd (omega arith)
          go ScriptCommand.Unknown z = absurd (omega arith)
          go ScriptCommand.End z = absurd (omega arith)
          go (ScriptCommand.Set x v) z = refl
          go (ScriptCommand.Run n) z = refl

      pub sets_more : (is_input : ℕ → Bool) → may_stand is_input here ≡ true →
          inputs_only is_input (script_at text at).actions ≡ inputs_only is_input (script_at text (at + w)).actions
      unfolding action_width script_command may_stand inputs_only ◌▷◌ provided
      sets_more is_input m = ap (λ (s : Script). inputs_only is_input s.actions) (step text at) ∙ rw e (go here (rw e at some) m)
        where
          go : (c : ScriptCommand) → 0 < action_width c → may_stand is_input c ≡ true →
              inputs_only is_input (script_command (script_at text) text at c).actions ≡
              inputs_only is_input (script_at text (at + action_width c)).actions
          go ScriptCommand.EndsEarly z m = absurd (omega arith)
          go ScriptCommand.Unknown z m = absurd (omega arith)
          go ScriptCommand.End z m = absurd (omega arith)
          go (ScriptCommand.Set x v) z m = rw m
          go (ScriptCommand.Run n) z m = refl

      pub calls-more : (samples : List ℤ) → calls_from samples (script_at text at).actions ≡
          replicate (cycles_made here) (cycle (altered samples here)) ++ calls_from (altered samples here)
          (script_at text (at + w)).actions
      unfolding action_width script_command cycles_made altered calls_from
      calls-more samples = ap (λ (s : Script). calls_from samples s.actions) (step text at) ∙ rw e (go here (rw e at some))
        where
          go : (c : ScriptCommand) → 0 < action_width c → calls_from samples (script_command (script_at text) text at c).actions ≡
              replicate (cycles_made c) (cycle (altered samples c)) ++ calls_from (altered samples c)
              (script_at text (at + action_width c)).actions
          go ScriptCommand.EndsEarly z = absurd (omega arith)
          go ScriptCommand.Unknown z = absurd (omega arith)
          go ScriptCommand.End z = absurd (omega arith)
          go (ScriptCommand.Set x v) z = refl
          go (ScriptCommand.Run n) z = refl

      pub cycles-more : cycles_of (script_at text at).actions ≡ cycles_made here + cycles_of (script_at text (at + w)).actions
      unfolding action_width script_command cycles_made cycles_of
      cycles-more = ap (λ (s : Script). cycles_of s.actions) (step text at) ∙ rw e (go here (rw e at some))
        where
          go : (c : ScriptCommand) → 0 < action_width c → cycles_of (script_command (script_at text) text at c).actions ≡
              cycles_made c + cycles_of (script_at text (at + action_width c)).actions
          go ScriptCommand.EndsEarly z = absurd (omega arith)
          go ScriptCommand.Unknown z = absurd (omega arith)
          go ScriptCommand.End z = absurd (omega arith)
          go (ScriptCommand.Set x v) z = omega arith
          go (ScriptCommand.Run n) z = refl

  pub sets-bad : (is_input : ℕ → Bool) → may_stand is_input here ≡ false → inputs_only is_input (script_at text at).actions ≡
      refuse 25 at
  unfolding script_command may_stand inputs_only ◌▷◌ provided
  sets-bad is_input m = ap (λ (s : Script). inputs_only is_input s.actions) (step text at) ∙ go here m
    where
      go : (c : ScriptCommand) → may_stand is_input c ≡ false →
          inputs_only is_input (script_command (script_at text) text at c).actions ≡ refuse 25 at
      go ScriptCommand.EndsEarly m = let z : ◌≡◌ {A = ℕ} 0 1 = cc in absurd (omega arith)
      go ScriptCommand.Unknown m = let z : ◌≡◌ {A = ℕ} 0 1 = cc in absurd (omega arith)
      go ScriptCommand.End m = let z : ◌≡◌ {A = ℕ} 0 1 = cc in absurd (omega arith)
      go (ScriptCommand.Set x v) m = rw m
      go (ScriptCommand.Run n) m = let z : ◌≡◌ {A = ℕ} 0 1 = cc in absurd (omega arith)

-- without a command left
pub sets-none : (is_input : ℕ → Bool) (actions : List Action) → actions ≡ [] → inputs_only is_input actions ≡ accepted tt
unfolding inputs_only
sets-none is_input actions e = rw e

pub calls-none : (samples : List ℤ) (actions : List Action) → actions ≡ [] → calls_from samples actions ≡ []
unfolding calls_from
calls-none samples actions e = rw e

pub cycles-none : (actions : List Action) → actions ≡ [] → cycles_of actions ≡ 0
unfolding cycles_of
cycles-none actions e = rw e

-- The code of a signal has a first byte.
code-some : (rows : Bool) (code : List ℕ) (n x : ℕ) → code_ok rows code n x ≡ true → 0 < length code
unfolding code_ok code_ok_from
code-some rows [] n x h = let z : ◌≡◌ {A = ℕ} 0 1 = cc in absurd (omega arith)
code-some rows (b ∷ code) n x h = omega arith

pub code-starts : (image : List ℕ) (x : ℕ) → well_formed image ≡ true → x < count_of image → code_offset image x < length image
unfolding code_of
code-starts image x h lt =
    let p = codes image (formed image h).coded x lt in
    omega (
      arith,
      code-some _ _ _ _ p.formed,
      stretch-length image (code_offset image x) (code_offset image (x + 1))
          p.within,
      p.within,
    )

-- The checks of a script, by their tests.
module _ (is_input : ℕ → Bool) (text : List ℕ) where
  pub check-long : 2048 < length text → check_of is_input text ≡ refuse 24 0
  unfolding check_of ◌▷◌ provided
  check-long h = rw (lt-leb (length text) 2048 h)

  pub check-cut : {f : Fault} → length text ≤ 2048 → (script_of text).ending ≡ refused f → check_of is_input text ≡ refused f
  unfolding check_of ◌▷◌ provided
  check-cut h e = rw (le-leb (length text) 2048 h, e)

  pub check-rest : length text ≤ 2048 → (script_of text).ending ≡ accepted tt →
      check_of is_input text ≡ inputs_only is_input (script_of text).actions
  unfolding check_of ◌▷◌ provided
  check-rest h e = rw (le-leb (length text) 2048 h, e)
