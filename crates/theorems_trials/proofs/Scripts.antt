-- Scripts: a check refuses exactly as the statements of `TrialRefusals` say. Assumes nothing.
use Prim.Native.Nat.{ℕ, zero, suc, ◌+◌, ◌≤◌, ◌<◌}
use mathlib.Core.Bool.{Bool, true, false, cond, false≢true}
use mathlib.Core.List.{List, [], ◌∷◌}
use mathlib.Core.Path.{◌≡◌, refl, sym, ap, subst, ◌∙◌}
use native.Mathlib.Omega.{arith}
use borrow.Author.Tests.{ltb-true, ltb-false, leb-true, leb-false, lt-ltb, le-leb, lt-leb, eqb-true, eqb-false, ne_eqb}
use lib.Dec.{leb, ltb, eqb}
use lib.IntN.{ℤ}
use lib.ListN.{length}
use Rattle.model.specs.Rules.Outcome.{Outcome, accepted, refused, refuse, ◌▷◌, provided}
use Rattle.model.specs.Rules.Program.{Program}
use Rattle.model.specs.Rules.Script.{
  script_command_at,
  Action,
  alter,
  run,
  Script,
  preceded,
  stopped,
  script_command,
  script_from,
  script_at,
  script_of,
  is_input_of,
  inputs_only,
}
use Rattle.model.specs.Rules.Word.{byte_at, word_at}
use Rattle.theorems_streams.specs.Held.{InputOf}
use Rattle.theorems_streams.proofs.Inputs.{input-exactly}
use Rattle.theorems_pairs.specs.Conditions.{◌among◌}
use Rattle.theorems_trials.specs.TrialRefusals.{
  SetAt,
  RunAt,
  EndAt,
  SpellsScript,
  NoCommand,
  StopsScript,
  WrongSet,
}
use Rattle.model.specs.declared.ScriptCommand.{ScriptCommand}
use Rattle.model.proofs.Bench.Scripts.{past, step}
use Rattle.theorems_pairs.proofs.Judged.{Judged, Only, provided-judged}

module _ (text : List ℕ) where
  -- What stands where a command is decoded.
  abbrev pub CommandStands : ℕ → ScriptCommand → Type 0
  CommandStands at ScriptCommand.EndsEarly = StopsScript text at (length text)
  CommandStands at ScriptCommand.Unknown = StopsScript text at at
  CommandStands at ScriptCommand.End = EndAt text at
  CommandStands at (ScriptCommand.Set x w) = SetAt text at × (byte_at text (at + 1) ≡ x) × (word_at text (at + 2) ≡ w)
  CommandStands at (ScriptCommand.Run n) = RunAt text at × (byte_at text (at + 1) ≡ n)

  pub stands : (at : ℕ) → CommandStands at (script_command_at text at)
  unfolding script_command_at
  stands at =
      go (ltb at (length text)) (eqb (byte_at text at) 0x00) (eqb (byte_at text at) 0x70) (eqb (byte_at text at) 0x71)
      (leb (at + 6) (length text)) (leb (at + 2) (length text)) refl refl refl refl refl refl
    where
      go : (i a b c d f : Bool) → ltb at (length text) ≡ i → eqb (byte_at text at) 0x00 ≡ a → eqb (byte_at text at) 0x70 ≡ b →
          eqb (byte_at text at) 0x71 ≡ c → leb (at + 6) (length text) ≡ d → leb (at + 2) (length text) ≡ f →
          CommandStands at (cond i (cond a ScriptCommand.End
          (cond b (cond d (ScriptCommand.Set (byte_at text (at + 1)) (word_at text (at + 2))) ScriptCommand.EndsEarly)
          (cond c (cond f (ScriptCommand.Run (byte_at text (at + 1))) ScriptCommand.EndsEarly) ScriptCommand.Unknown)))
          ScriptCommand.EndsEarly)
      go false a b c d f i p q r s t = StopsScript.missing (ltb-false _ _ i)
      go true true b c d f i p q r s t = let l = ltb-true at (length text) i in (omega arith, eqb-true _ _ p)
      go true false true c true f i p q r s t = ((leb-true _ _ s, eqb-true _ _ q), refl, refl)
      go true false true c false f i p q r s t = StopsScript.cut_set (ltb-true _ _ i) (eqb-true _ _ q) (leb-false _ _ s)
      go true false false true d true i p q r s t = ((leb-true _ _ t, eqb-true _ _ r), refl)
      go true false false true d false i p q r s t = StopsScript.cut_run (ltb-true _ _ i) (eqb-true _ _ r) (leb-false _ _ t)
      go true false false false d f i p q r s t =
          StopsScript.unknown (ltb-true _ _ i) (eqb-false _ _ p, eqb-false _ _ q, eqb-false _ _ r)

  -- And the other way round.
  set_here : (at : ℕ) → SetAt text at → script_command_at text at ≡ ScriptCommand.Set (byte_at text (at + 1)) (word_at text (at + 2))
  unfolding script_command_at
  set_here at h = rw (lt-ltb at (length text) (omega arith), h.1, le-leb (at + 6) (length text) h.0)

  run-here : (at : ℕ) → RunAt text at → script_command_at text at ≡ ScriptCommand.Run (byte_at text (at + 1))
  unfolding script_command_at
  run-here at h = rw (lt-ltb at (length text) (omega arith), h.1, le-leb (at + 2) (length text) h.0)

  end-here : (at : ℕ) → EndAt text at → script_command_at text at ≡ ScriptCommand.End
  unfolding script_command_at
  end-here at h = rw (lt-ltb at (length text) (omega arith), h.1)

  cut-set : (at : ℕ) → at < length text → byte_at text at ≡ 0x70 → length text < at + 6 → script_command_at text at ≡
      ScriptCommand.EndsEarly
  unfolding script_command_at
  cut-set at l b c = rw (lt-ltb at (length text) l, b, lt-leb (at + 6) (length text) c)

  cut-run : (at : ℕ) → at < length text → byte_at text at ≡ 0x71 → length text < at + 2 → script_command_at text at ≡
      ScriptCommand.EndsEarly
  unfolding script_command_at
  cut-run at l b c = rw (lt-ltb at (length text) l, b, lt-leb (at + 2) (length text) c)

  unknown-here : (at : ℕ) → at < length text → NoCommand (byte_at text at) → script_command_at text at ≡ ScriptCommand.Unknown
  unfolding script_command_at
  unknown-here at l u =
      rw (
        lt-ltb at (length text) l,
        ne_eqb (byte_at text at) 0x00 u.0,
        ne_eqb (byte_at text at) 0x70 u.1,
        ne_eqb
            (byte_at text at) 0x71 u.2,
      )

  -- Where a script is spelled, it is read; where it stops, it is refused.
  spelled : {at : ℕ} {actions : List Action} → SpellsScript text at actions → script_at text at ≡
      record { actions = actions; ending = accepted tt }
  unfolding script_command provided
  spelled (SpellsScript.ends {at = at} h l) = rw (step text at, end-here at h, le-leb (length text) (at + 1) l)
  spelled (SpellsScript.sets {at = at} h s) = step text at ∙ rw (set_here at h) (ap (preceded _) (spelled s))
  spelled (SpellsScript.runs {at = at} h s) = step text at ∙ rw (run-here at h) (ap (preceded _) (spelled s))

  stops-back : {at x : ℕ} → StopsScript text at x → (script_at text at).ending ≡ refuse 24 x
  unfolding script_command provided
  stops-back (StopsScript.after_set {at = at} h s) = rw (step text at, set_here at h) (stops-back s)
  stops-back (StopsScript.after_run {at = at} h s) = rw (step text at, run-here at h) (stops-back s)
  stops-back (StopsScript.missing {at = at} h) = rw (step text at, past text at h)
  stops-back (StopsScript.cut_set {at = at} l b c) = rw (step text at, cut-set at l b c)
  stops-back (StopsScript.cut_run {at = at} l b c) = rw (step text at, cut-run at l b c)
  stops-back (StopsScript.unknown {at = at} l u) = rw (step text at, unknown-here at l u)
  stops-back (StopsScript.trailing {at = at} h l) = rw (step text at, end-here at h, lt-leb (length text) (at + 1) l)

  -- What reading from an offset on has shown.
  abbrev Ends : ℕ → Script → Outcome (Unit {0}) → Type 0
  Ends at s (accepted u) = SpellsScript text at s.actions
  Ends at s (refused f) = (f.number ≡ 24) × StopsScript text at f.place

  ends : (left at : ℕ) → length text ≤ at + left → Ends at (script_from left text at) (script_from left text at).ending
  unfolding script_from script_command provided
  ends zero at h = (refl, StopsScript.missing {at = at} (omega arith))
  ends (suc left) at h =
      go (script_command_at text at) (stands at) (ends left (at + 6) (omega arith)) (ends left (at + 2) (omega arith))
    where
      next : ℕ → Script
      next n = script_from left text n

      set_on : (s : Script) (o : Outcome (Unit {0})) → SetAt text at → Ends (at + 6) s o →
          Ends at (preceded (alter at (byte_at text (at + 1)) (word_at text (at + 2))) s) o
      set_on s (accepted u) h e = SpellsScript.sets h e
      set_on s (refused f) h e = (e.0, StopsScript.after_set h e.1)

      run_on : (s : Script) (o : Outcome (Unit {0})) → RunAt text at → Ends (at + 2) s o →
          Ends at (preceded (run (byte_at text (at + 1))) s) o
      run_on s (accepted u) h e = SpellsScript.runs h e
      run_on s (refused f) h e = (e.0, StopsScript.after_run h e.1)

      end_on : (b : Bool) → leb (length text) (at + 1) ≡ b → EndAt text at →
          Ends at (stopped (provided b 24 (at + 1))) (provided b 24 (at + 1))
      end_on true e h = SpellsScript.ends h (leb-true _ _ e)
      end_on false e h = (refl, StopsScript.trailing h (leb-false _ _ e))

      go : (c : ScriptCommand) → CommandStands at c →
          Ends (at + 6) (script_from left text (at + 6)) (script_from left text (at + 6)).ending →
          Ends (at + 2) (script_from left text (at + 2)) (script_from left text (at + 2)).ending →
          Ends at (script_command (λ n. script_from left text n) text at c)
          (script_command (λ n. script_from left text n) text at c).ending
      go ScriptCommand.EndsEarly s a b = (refl, s)
      go ScriptCommand.Unknown s a b = (refl, s)
      go ScriptCommand.End s a b = end_on (leb (length text) (at + 1)) refl s
      go (ScriptCommand.Set x w) (h, p, q) a b =
          rw (← p, ← q) (set_on (script_from left text (at + 6)) (script_from left text (at + 6)).ending h a)
      go (ScriptCommand.Run n) (h, p) a b =
          rw (← p) (run_on (script_from left text (at + 2)) (script_from left text (at + 2)).ending h b)

  -- 24: a text is read to its end exactly if it spells its commands, and refused exactly where it stops.
  pub script-judged : Judged (λ u. SpellsScript text 0 (script_of text).actions)
      (λ f. (f.number ≡ 24) × StopsScript text 0 f.place) (script_of text).ending
  unfolding script_at
  script-judged =
      record {
        accepts = λ u. (λ e. subst (Ends 0 (script_of text)) e all, λ s. ap (λ (r : Script). r.ending) (spelled s));
        refuses = λ f. (
          λ e. subst (Ends 0 (script_of text)) e all,
          λ s. stops-back s.1 ∙ ap (λ (n : ℕ). refuse n f.place) (sym s.0),
        );
      }
    where
      all : Ends 0 (script_of text) (script_of text).ending
      all = ends (length text) 0 (omega arith)

  pub script-actions : {actions : List Action} → SpellsScript text 0 actions → (script_of text).actions ≡ actions
  script-actions s = ap (λ (r : Script). r.actions) (spelled s)

-- 25.
module _ (p : Program) where
  no-input : (x : ℕ) → is_input_of p x ≡ false → ¬ InputOf p x
  no-input x e h = false≢true (sym e ∙ (input-exactly p x).1 h)

  abbrev Inputs : List Action → Type 0
  Inputs actions = (at x : ℕ) (w : ℤ) → alter at x w among actions → InputOf p x

  abbrev Sets : List Action → Outcome (Unit {0}) → Type 0
  Sets actions (accepted u) = Inputs actions
  Sets actions (refused f) = (f.number ≡ 25) × WrongSet p actions f.place

  inputs_on : (a : Action) (actions : List Action) → ((at x : ℕ) (w : ℤ) → alter at x w ≡ a → InputOf p x) → Inputs actions →
      Inputs (a ∷ actions)
  inputs_on a actions here rest at x w (◌among◌.here e) = here at x w e
  inputs_on a actions here rest at x w (◌among◌.later m) = rest at x w m

  sets : (actions : List Action) → Sets actions (inputs_only (is_input_of p) actions)
  unfolding inputs_only ◌▷◌ provided
  sets [] = none
    where
      none : (at x : ℕ) (w : ℤ) → alter at x w among [] → InputOf p x
      none at x w m = elim m [ ]
  sets (alter at x w ∷ actions) = go (is_input_of p x) refl (sets actions)
    where
      on : InputOf p x → (o : Outcome (Unit {0})) → Sets actions o → Sets (alter at x w ∷ actions) o
      on h (accepted u) s = inputs_on (alter at x w) actions (λ a y v e. let same : y ≡ x = cc in rw same h) s
      on h (refused f) s = (s.0, WrongSet.after_set h s.1)

      go : (b : Bool) → is_input_of p x ≡ b → Sets actions (inputs_only (is_input_of p) actions) →
          Sets (alter at x w ∷ actions) (provided b 25 at ▷ λ _. inputs_only (is_input_of p) actions)
      go true e s = on ((input-exactly p x).0 e) (inputs_only (is_input_of p) actions) s
      go false e s = (refl, WrongSet.here (no-input x e))
  sets (run n ∷ actions) = on (inputs_only (is_input_of p) actions) (sets actions)
    where
      on : (o : Outcome (Unit {0})) → Sets actions o → Sets (run n ∷ actions) o
      on (accepted u) s =
          inputs_on (run n) actions (λ a y v e. let z : ◌≡◌ {A = ℕ} 0 1 = cc in absurd (omega arith)) s
      on (refused f) s = (s.0, WrongSet.after_run s.1)

  inputs-back : (actions : List Action) → Inputs actions → inputs_only (is_input_of p) actions ≡ accepted tt
  unfolding inputs_only ◌▷◌ provided
  inputs-back [] h = refl
  inputs-back (alter at x w ∷ actions) h =
      rw ((input-exactly p x).1 (h at x w (◌among◌.here refl))) (inputs-back actions (λ a y v m. h a y v (◌among◌.later m)))
  inputs-back (run n ∷ actions) h = inputs-back actions (λ a y v m. h a y v (◌among◌.later m))

  not-input : (x : ℕ) → ¬ InputOf p x → is_input_of p x ≡ false
  not-input x u = go (is_input_of p x) refl
    where
      go : (b : Bool) → is_input_of p x ≡ b → b ≡ false
      go true e = absurd (u ((input-exactly p x).0 e))
      go false e = refl

  wrong-back : {actions : List Action} {place : ℕ} → WrongSet p actions place → inputs_only (is_input_of p) actions ≡ refuse 25 place
  unfolding inputs_only ◌▷◌ provided
  wrong-back (WrongSet.here {x = x} u) = rw (not-input x u)
  wrong-back (WrongSet.after_set {x = x} h s) = rw ((input-exactly p x).1 h) (wrong-back s)
  wrong-back (WrongSet.after_run s) = wrong-back s

  pub sets-judged : (actions : List Action) →
      Judged (λ u. Inputs actions) (λ f. (f.number ≡ 25) × WrongSet p actions f.place) (inputs_only (is_input_of p) actions)
  sets-judged actions =
      record {
        accepts = λ u. (λ e. subst (Sets actions) e (sets actions), inputs-back actions);
        refuses = λ f. (
          λ e. subst (Sets actions) e (sets actions),
          λ s. wrong-back s.1 ∙ ap (λ (n : ℕ). refuse n f.place) (sym s.0),
        );
      }

-- 24, over length.
pub long-judged : (text : List ℕ) →
    Judged (λ u. length text ≤ 2048) (Only 24 0 (2048 < length text)) (provided (leb (length text) 2048) 24 0)
long-judged text =
    provided-judged _ 24 0 (length text ≤ 2048) (2048 < length text) (leb-true _ _, le-leb _ _) (leb-false _ _)
    (λ l h. omega arith)
