-- What `dependents` marks, and when it is refused. Assumes nothing.
use Prim.Native.Nat.{ℕ, ◌<◌}
use mathlib.Core.Bool.{Bool, true, false, false≢true}
use mathlib.Core.List.{List}
use mathlib.Core.Logic.{◌↔◌}
use mathlib.Core.Path.{◌≡◌, refl, sym, ap, ap₂, ◌∙◌}
use native.Mathlib.Decide.{dec_lt}
use native.Mathlib.Omega.{arith}
use lib.ListN.{length, get_or, get_or-eq_default}
use lib.Seq.{ext_get_or}
use Rattle.model.specs.Rules.Compile.{Pair, pair_of}
use Rattle.model.specs.Rules.Dependents.{dependents, mark_byte, mark_bytes, dependents_job}
use Rattle.model.specs.Rules.Machine.{Job}
use Rattle.model.specs.Rules.Outcome.{accepted, refused, fault, provided}
use Rattle.model.specs.Rules.Program.{Program, count}
use Rattle.model.specs.Rules.Script.{is_input_of}
use Rattle.model.specs.declared.Fault.{Fault}
use Rattle.promises.specs.Dependents.{Reached, MarksDependents, DependentsRefusedAt}
use Rattle.theorems_pairs.specs.Conditions.{LegalPair}
use Rattle.theorems_streams.specs.Dependence.{DependsOn}
use Rattle.theorems_streams.specs.Held.{InputOf}
use Rattle.model.proofs.Basics.Outcomes.{accepted-then, refused-then, table-length, table_at}
use Rattle.model.proofs.Pairs.Verdict.{pair-passed, pair-accepted}
use Rattle.model.proofs.Texts.Legal.{legal}
use Rattle.theorems_calls.proofs.CallsExact.{Does}
use Rattle.theorems_pairs.proofs.Exact.{accepted-exactly, pair-judged}
use Rattle.theorems_pairs.proofs.Judged.{Answers, answers-then, Only, provided-judged, Judged}
use Rattle.theorems_streams.proofs.Inputs.{input-exactly}
use Rattle.theorems_streams.proofs.Dependents.{marks-length, dependents-exactly}

module _ (program schedule : List ℕ) (i : ℕ) where
  -- The marks of a legal pair.
  module _ (q : Pair) (e : pair_of program schedule ≡ accepted q) where
    abbrev p : Program
    p = q.program

    few : (y : ℕ) → y < count p → y < 64
    few y lt = omega (arith, (legal program p (pair-passed program schedule q e).parses).1.few_signals)

    mark-is : (y : ℕ) → y < 64 → get_or (mark_bytes p i) y 0 ≡ mark_byte (get_or (dependents p i) y false)
    unfolding mark_bytes
    mark-is y lt = table_at 64 _ y 0 lt

    bytes-long : length (mark_bytes p i) ≡ 64
    unfolding mark_bytes
    bytes-long = table-length 64 _

    -- A mark is set exactly where the input reaches the signal.
    set-exactly : (y : ℕ) → (get_or (dependents p i) y false ≡ true) ↔ Reached p i y
    unfolding dependents
    set-exactly y = (go (dec_lt y (count p)), λ h. (decides h.0).1 h.1)
      where
        decides : (lt : y < count p) → (get_or (dependents p i) y false ≡ true) ↔ DependsOn p y i
        decides lt = dependents-exactly p q.schedule (pair-accepted program schedule q e) i y lt

        go : Dec (y < count p) → get_or (dependents p i) y false ≡ true → Reached p i y
        go (yes lt) t = (lt, (decides lt).0 t)
        go (no ge) t =
            let past = get_or-eq_default (dependents p i) false {n = y} (omega (arith, marks-length p i (count p))) in
            absurd (false≢true (sym past ∙ t))

    marks-are : LegalPair program schedule q → InputOf p i → MarksDependents program schedule i 0 (mark_bytes p i)
    marks-are l n =
        record {
          pair = q;
          legal = l;
          input = n;
          is = refl;
          long = bytes-long;
          marked = λ y h. mark-is y (few y h.0) ∙ ap mark_byte ((set-exactly y).1 h);
          unmarked = λ y h. none y h (dec_lt y 64);
        }
      where
        clear : (y : ℕ) → ¬ Reached p i y → (b : Bool) → get_or (dependents p i) y false ≡ b → mark_byte b ≡ 0
        clear y h true t = absurd (h ((set-exactly y).0 t))
        clear y h false t = refl

        none : (y : ℕ) → ¬ Reached p i y → Dec (y < 64) → get_or (mark_bytes p i) y 0 ≡ 0
        none y h (yes lt) = mark-is y lt ∙ clear y h (get_or (dependents p i) y false) refl
        none y h (no ge) = get_or-eq_default (mark_bytes p i) 0 {n = y} (omega (arith, bytes-long))

    marks-only : (left : List ℕ) → length left ≡ 64 → ((y : ℕ) → Reached p i y → get_or left y 0 ≡ 1) →
        ((y : ℕ) → ¬ Reached p i y → get_or left y 0 ≡ 0) → mark_bytes p i ≡ left
    marks-only left long marked unmarked =
        ext_get_or 0 (mark_bytes p i) left (bytes-long ∙ sym long)
        (λ y lt. mark-is y (omega (arith, bytes-long)) ∙ go y (get_or (dependents p i) y false) refl)
      where
        go : (y : ℕ) (b : Bool) → get_or (dependents p i) y false ≡ b → mark_byte b ≡ get_or left y 0
        go y true t = sym (marked y ((set-exactly y).0 t))
        go y false t = sym (unmarked y (λ h. false≢true (sym t ∙ (set-exactly y).1 h)))

  input-judged : (p : Program) → Judged (λ u. InputOf p i) (Only 48 0 (¬ InputOf p i)) (provided (is_input_of p i) 48 0)
  input-judged p =
      provided-judged _ 48 0 (InputOf p i) (¬ InputOf p i) (input-exactly p i)
      (λ e h. false≢true (sym e ∙ (input-exactly p i).1 h)) (λ h. h)

  pub answers : Answers (Does (MarksDependents program schedule i)) (DependentsRefusedAt program schedule i)
      (dependents_job program schedule i)
  answers =
      answers-then _ _ _ _ (pair-judged program schedule) (λ g f. DependentsRefusedAt.pair f) (λ q legal.
      answers-then _ _ _ _ (input-judged q.program) (λ g f. unsampled legal f) (λ u n.
      marks-are q ((accepted-exactly program schedule q).1 legal) legal n))
    where
      unsampled : {q : Pair} {f : Fault} → LegalPair program schedule q → Only 48 0 (¬ InputOf q.program i) f →
          DependentsRefusedAt program schedule i f
      unsampled legal (Only.only h) = DependentsRefusedAt.no_input legal h

  pub marks-done : (j : Job ℕ ℕ) → MarksDependents program schedule i j.yields j.leaves →
      dependents_job program schedule i ≡ accepted j
  marks-done j d =
      let e = (accepted-exactly program schedule d.pair).1 d.legal in
      accepted-then _ _ _ e ∙ accepted-then _ _ _ (((input-judged d.pair.program).accepts tt).1 d.input) ∙
      ap₂ (λ (n : ℕ) (l : List ℕ). accepted (record { yields = n; leaves = l })) (sym d.is)
      (marks-only d.pair e j.leaves d.long d.marked d.unmarked)

  pub marks-refused : {f : Fault} → DependentsRefusedAt program schedule i f → dependents_job program schedule i ≡ refused f
  marks-refused (DependentsRefusedAt.pair r) = refused-then _ _ _ (((pair-judged program schedule).refuses _).1 r)
  marks-refused (DependentsRefusedAt.no_input {q = q} legal h) =
      accepted-then _ _ _ ((accepted-exactly program schedule q).1 legal) ∙
      refused-then _ _ _ (((input-judged q.program).refuses (fault 48 0)).1 (Only.only h))
