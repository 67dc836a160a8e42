-- A bench trial is accepted and refused exactly under the conditions of `TrialRefusals`. Assumes nothing.
use Prim.Native.Nat.{ℕ, ◌≤◌, ◌<◌}
use mathlib.Core.List.{List}
use mathlib.Core.Logic.{◌↔◌}
use mathlib.Core.Path.{◌≡◌, refl, ◌∙◌, sym, subst}
use lib.IntN.{ℤ}
use lib.ListN.{length}
use Rattle.model.specs.Rules.Compile.{Pair, pair_of}
use Rattle.model.specs.Rules.Image.{image_of}
use Rattle.model.specs.Rules.Outcome.{Outcome, accepted, refused, fault, ◌▷◌}
use Rattle.model.specs.Rules.Program.{Program}
use Rattle.model.specs.Rules.Script.{Action, alter, script_of, is_input_of, inputs_only, check_of, calls_of}
use Rattle.model.specs.Rules.Trial.{lines_from, start_of, trial_of}
use Rattle.theorems_pairs.specs.Conditions.{◌among◌, LegalPair}
use Rattle.theorems_streams.specs.Held.{InputOf}
use Rattle.theorems_trials.specs.TrialRefusals.{SpellsScript, StopsScript, WrongSet, LegalScript, TrialRefusedAt}
use Rattle.model.specs.declared.Fault.{Fault}
use Rattle.model.proofs.Basics.Outcomes.{accepted-then, refused-then}
use Rattle.theorems_pairs.proofs.Exact.{pair-judged}
use Rattle.theorems_pairs.proofs.Judged.{Judged, Answers, answers-then, answers-accepted, answers-refused, Only}
use Rattle.theorems_trials.proofs.Scripts.{script-judged, script-actions, sets-judged, long-judged}

-- The refusals of a script for an accepted pair.
data ScriptRefusedAt (p : Program) (text : List ℕ) : Fault → Type 0 where
  long : 2048 < length text → ScriptRefusedAt p text (fault 24 0)
  stops : {x : ℕ} → length text ≤ 2048 → StopsScript text 0 x → ScriptRefusedAt p text (fault 24 x)
  wrong : {actions : List Action} {x : ℕ} → length text ≤ 2048 → SpellsScript text 0 actions → WrongSet p actions x →
      ScriptRefusedAt p text (fault 25 x)

module _ (p : Program) (text : List ℕ) where
  abbrev actions : List Action
  actions = (script_of text).actions

  check-answers : Answers (λ u. LegalScript p text actions) (ScriptRefusedAt p text) (check_of (is_input_of p) text)
  unfolding check_of
  check-answers =
      answers-then Q R _ _ (long-judged text) (λ g f. over f) (λ u short.
      answers-then Q R (script_of text).ending _ (script-judged text)
      (λ f s. subst (λ (n : ℕ). R (fault n f.place)) (sym s.0) (ScriptRefusedAt.stops short s.1)) (λ v spells.
      last short spells (inputs_only (is_input_of p) actions) (sets-judged p actions)))
    where
      Q : Unit {0} → Type 0
      Q u = LegalScript p text actions

      R : Fault → Type 0
      R = ScriptRefusedAt p text

      over : {f : Fault} → Only 24 0 (2048 < length text) f → ScriptRefusedAt p text f
      over (Only.only h) = ScriptRefusedAt.long h

      last : length text ≤ 2048 → SpellsScript text 0 actions → (o : Outcome (Unit {0})) →
          Judged (λ u. (at x : ℕ) (w : ℤ) → alter at x w among actions → InputOf p x)
          (λ f. (f.number ≡ 25) × WrongSet p actions f.place) o → Answers Q R o
      last short spells (accepted u) j = record { short = short; spells = spells; inputs = (j.accepts u).0 refl }
      last short spells (refused f) j =
          let s = (j.refuses f).0 refl in
          subst (λ (n : ℕ). R (fault n f.place)) (sym s.0) (ScriptRefusedAt.wrong short spells s.1)

  legal-checked : {acts : List Action} → LegalScript p text acts → check_of (is_input_of p) text ≡ accepted tt
  unfolding check_of
  legal-checked l =
      let same = script-actions text l.spells in
      accepted-then _ _ _ (((long-judged text).accepts tt).1 l.short) ∙
      accepted-then _ _ _ (((script-judged text).accepts tt).1 (rw same l.spells)) ∙
      ((sets-judged p actions).accepts tt).1 (rw same l.inputs)

  refused-checked : {f : Fault} → ScriptRefusedAt p text f → check_of (is_input_of p) text ≡ refused f
  unfolding check_of
  refused-checked (ScriptRefusedAt.long h) = refused-then _ _ _ (((long-judged text).refuses (fault 24 0)).1 (Only.only h))
  refused-checked (ScriptRefusedAt.stops {x = x} short s) =
      accepted-then _ _ _ (((long-judged text).accepts tt).1 short) ∙
      refused-then _ _ _ (((script-judged text).refuses (fault 24 x)).1 (refl, s))
  refused-checked (ScriptRefusedAt.wrong {x = x} short spells w) =
      let same = script-actions text spells in
      accepted-then _ _ _ (((long-judged text).accepts tt).1 short) ∙
      accepted-then _ _ _ (((script-judged text).accepts tt).1 (rw same spells)) ∙
      ((sets-judged p actions).refuses (fault 25 x)).1 (refl, rw same w)

  check-judged : Judged (λ u. LegalScript p text actions) (ScriptRefusedAt p text) (check_of (is_input_of p) text)
  check-judged =
      record {
        accepts = λ u. (λ e. answers-accepted _ _ _ u check-answers e, legal-checked);
        refuses = λ f. (λ e. answers-refused _ _ _ f check-answers e, refused-checked);
      }

-- The lines of a trial that is accepted as the pair q.
abbrev pub lines_of : Pair → List ℕ → List (List ℕ)
lines_of q text =
    let image = image_of q.program q.schedule q.hypercycle in lines_from image 0 (start_of image) (calls_of text)

module _ (program schedule text : List ℕ) where
  -- What is accepted: the pair, the script, and the lines.
  pub record Tried (lines : List (List ℕ)) : Type 0 where
    pub pair : Pair
    pub legal : LegalPair program schedule pair
    pub script : LegalScript pair.program text (script_of text).actions
    pub lines_are : lines ≡ lines_of pair text

  trial-answers : Answers Tried (TrialRefusedAt program schedule text) (trial_of program schedule text)
  unfolding trial_of
  trial-answers =
      answers-then Tried R (pair_of program schedule) _ (pair-judged program schedule) (λ g f. TrialRefusedAt.pair f) (λ q legal.
      answers-then Tried R (check_of (is_input_of q.program) text) _ (check-judged q.program text)
      (λ g f. script legal f) (λ u s.
      record { pair = q; legal = legal; script = s; lines_are = refl }))
    where
      R : Fault → Type 0
      R = TrialRefusedAt program schedule text

      script : {q : Pair} {f : Fault} → LegalPair program schedule q → ScriptRefusedAt q.program text f →
          TrialRefusedAt program schedule text f
      script legal (ScriptRefusedAt.long h) = TrialRefusedAt.long legal h
      script legal (ScriptRefusedAt.stops short s) = TrialRefusedAt.stops legal short s
      script legal (ScriptRefusedAt.wrong short spells w) = TrialRefusedAt.wrong legal short spells w

  passed : {q : Pair} {o : Outcome (List (List ℕ))} → LegalPair program schedule q →
      (check_of (is_input_of q.program) text ▷ λ _. accepted (lines_of q text)) ≡ o → trial_of program schedule text ≡ o
  unfolding trial_of
  passed {q} l e = accepted-then _ _ _ (((pair-judged program schedule).accepts q).1 l) ∙ e

  trial-back : {f : Fault} → TrialRefusedAt program schedule text f → trial_of program schedule text ≡ refused f
  unfolding trial_of
  trial-back (TrialRefusedAt.pair f) = refused-then _ _ _ (((pair-judged program schedule).refuses _).1 f)
  trial-back (TrialRefusedAt.long {q = q} l h) =
      passed l (refused-then _ _ _ (refused-checked q.program text (ScriptRefusedAt.long h)))
  trial-back (TrialRefusedAt.stops {q = q} l short s) =
      passed l (refused-then _ _ _ (refused-checked q.program text (ScriptRefusedAt.stops short s)))
  trial-back (TrialRefusedAt.wrong {q = q} l short spells w) =
      passed l (refused-then _ _ _ (refused-checked q.program text (ScriptRefusedAt.wrong short spells w)))

  -- A trial is refused with f, a number and a place, exactly under that number's condition.
  pub trial-refused : (f : Fault) → (trial_of program schedule text ≡ refused f) ↔ TrialRefusedAt program schedule text f
  trial-refused f = (answers-refused _ _ _ f trial-answers, trial-back)

  -- A legal pair with a legal script is tried.
  pub trial-accepts : {q : Pair} {acts : List Action} → LegalPair program schedule q → LegalScript q.program text acts →
      trial_of program schedule text ≡ accepted (lines_of q text)
  trial-accepts {q} l s = passed l (accepted-then _ _ _ (legal-checked q.program text s))
