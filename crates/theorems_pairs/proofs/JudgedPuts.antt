-- The PUTs of a schedule: 12 and 13 decide their conditions, and refuse with the fault that the paper gives. Assumes nothing.
use Prim.Native.Nat.{ℕ, zero, suc, ◌+◌, ◌*◌, ◌≤◌, ◌<◌}
use mathlib.Core.Bool.{Bool, true, false, cond, ◌&&◌, ◌||◌, false≢true}
use mathlib.Core.List.{List, [], ◌∷◌, ◌++◌, append_assoc, append-nil}
use mathlib.Core.Logic.{◌↔◌, ◌⊎◌, inl, inr}
use mathlib.Core.Path.{◌≡◌, refl, sym, ap, ◌∙◌, subst}
use native.Mathlib.Decide.{dec_lt}
use native.Mathlib.Omega.{arith}
use borrow.Author.Tests.{ltb-true, lt-ltb, eqb-true, eq-eqb}
use lib.Dec.{ltb, eqb}
use lib.ListN.{length, length-append, get_or-append}
use Rattle.model.specs.Says.Grammar.{SpellsPuts, LegalSchedule}
use Rattle.model.specs.Rules.Outcome.{accepted, refused, fault, provided, lowest, Parsed}
use Rattle.model.specs.Rules.Program.{Program, count, signal_at}
use Rattle.model.specs.Rules.Schedule.{Put, Schedule, is_put, put_faults, puts_faults, schedule_of, placed}
use Rattle.model.specs.Rules.Search.{all_below}
use Rattle.theorems_pairs.specs.Conditions.{◌among◌, no_put, put_at, Fresh, PhaseBelow, PutsLegal, IsPut, Placed}
use Rattle.theorems_pairs.specs.Refusals.{LowestFault, PutFault}
use Rattle.model.specs.declared.Fault.{Fault}
use Rattle.model.proofs.Pairs.Decide.{all_true, true-all}
use Rattle.model.proofs.Basics.Outcomes.{not-below, not-true-false, accepted-then, refused-then, then-accepted, accepted-same}
use Rattle.theorems_pairs.proofs.Faults.{among-append, append_left, append_right, fault-none}
use Rattle.theorems_pairs.proofs.Judged.{Judged, answers-then, answers-refused, Only, provided-judged, lowest-judged}

-- Whether a signal is put.
put-true : (qs : List Put) (x : ℕ) → is_put qs x ≡ true → IsPut qs x
unfolding is_put
put-true [] x e = absurd (false≢true e)
put-true (q ∷ qs) x e = go (eqb q.signal x) refl e (λ f. put-true qs x f)
  where
    go : (b : Bool) → eqb q.signal x ≡ b → b || is_put qs x ≡ true → (is_put qs x ≡ true → IsPut qs x) → IsPut (q ∷ qs) x
    go true f t ih = (0, omega arith, eqb-true _ _ f)
    go false f t ih = let h = ih t in (suc h.0, omega (arith, h.1), h.2)

true-put : (qs : List Put) (x j : ℕ) → j < length qs → (put_at qs j).signal ≡ x → is_put qs x ≡ true
unfolding is_put
true-put [] x j lt e = absurd (omega arith)
true-put (q ∷ qs) x zero lt e = rw (eq-eqb q.signal x e)
true-put (q ∷ qs) x (suc j) lt e = go (eqb q.signal x) (true-put qs x j (omega arith) e)
  where
    go : (b : Bool) → is_put qs x ≡ true → b || is_put qs x ≡ true
    go true h = refl
    go false h = h

-- The PUT after those of `before`.
put-here : (before qs : List Put) (q : Put) → put_at (before ++ (q ∷ qs)) (length before) ≡ q
put-here [] qs q = refl
put-here (r ∷ before) qs q = put-here before qs q

module _ (p : Program) where
  -- The faults of PUT j of the PUTs, without their place.
  data FaultAt (puts : List Put) (j : ℕ) : ℕ → Type 0 where
    undeclared : ¬ ((put_at puts j).signal < count p) → FaultAt puts j 12
    twice : (i : ℕ) → i < j → (put_at puts i).signal ≡ (put_at puts j).signal → FaultAt puts j 12
    late : (put_at puts j).signal < count p → Fresh puts j → ¬ PhaseBelow p (put_at puts j) → FaultAt puts j 13

  at-fault : {n : ℕ} (puts : List Put) (j : ℕ) → j < length puts → FaultAt puts j n →
      PutFault p puts (fault n (put_at puts j).place)
  at-fault puts j lt (FaultAt.undeclared u) = PutFault.undeclared j lt u
  at-fault puts j lt (FaultAt.twice i l e) = PutFault.twice i j l lt e
  at-fault puts j lt (FaultAt.late d f u) = PutFault.late j lt d f u

  fault-at : {f : Fault} (puts : List Put) → PutFault p puts f →
      (j : ℕ) × (j < length puts) × ((put_at puts j).place ≡ f.place) × FaultAt puts j f.number
  fault-at puts (PutFault.undeclared j lt u) = (j, lt, refl, FaultAt.undeclared u)
  fault-at puts (PutFault.twice i j l lt e) = (j, lt, refl, FaultAt.twice i l e)
  fault-at puts (PutFault.late j lt d f u) = (j, lt, refl, FaultAt.late d f u)

  -- The PUT q after those of `before`.
  module _ (before qs : List Put) (q : Put) where
    all : List Put
    all = before ++ (q ∷ qs)

    here : put_at all (length before) ≡ q
    unfolding all
    here = put-here before qs q

    fresh : is_put before q.signal ≡ false → Fresh all (length before)
    unfolding all
    fresh e i lt s =
        false≢true (sym e ∙ true-put before q.signal i lt
        (ap (λ (r : Put). r.signal) (sym (get_or-append before (q ∷ qs) no_put i lt)) ∙ s ∙ ap (λ (r : Put). r.signal) here))

    not-fresh : is_put before q.signal ≡ true → FaultAt all (length before) 12
    unfolding all
    not-fresh e =
        let h = put-true before q.signal e in
        FaultAt.twice h.0 h.1
        (ap (λ (r : Put). r.signal) (get_or-append before (q ∷ qs) no_put h.0 h.1) ∙ h.2 ∙
        sym (ap (λ (r : Put). r.signal) here))

    put-sound : (f : Fault) → f among put_faults p before q →
        FaultAt all (length before) f.number × (f.place ≡ q.place)
    unfolding put_faults
    put-sound f m =
        go (ltb q.signal (count p)) (is_put before q.signal) (ltb q.phase (signal_at p q.signal).period)
        refl refl refl m
      where
        go : (a b c : Bool) → ltb q.signal (count p) ≡ a → is_put before q.signal ≡ b →
            ltb q.phase (signal_at p q.signal).period ≡ c →
            f among (cond a (cond b (fault 12 q.place ∷ []) (cond c [] (fault 13 q.place ∷ [])))
            (fault 12 q.place ∷ [])) →
            FaultAt all (length before) f.number × (f.place ≡ q.place)
        go false b c d e g (◌among◌.later m) = elim m [ ]
        go true false false d e g (◌among◌.later m) = elim m [ ]
        go true false true d e g m = elim m [ ]
        go true true c d e g (◌among◌.later m) = elim m [ ]
        go false b c d e g (◌among◌.here s) =
            rw s (FaultAt.undeclared (rw here (λ k. false≢true (sym d ∙ lt-ltb _ _ k))), refl)
        go true true c d e g (◌among◌.here s) = rw s (not-fresh e, refl)
        go true false false d e g (◌among◌.here s) =
            rw s (
              FaultAt.late (rw here (ltb-true _ _ d)) (fresh e) (rw here (λ k. false≢true (sym g ∙ lt-ltb _ _ k))),
              refl,
            )

    put-complete : {n : ℕ} → FaultAt all (length before) n → fault n q.place among put_faults p before q
    unfolding put_faults all
    put-complete (FaultAt.undeclared u) = rw (not-below (rw here at u)) (◌among◌.here refl)
    put-complete (FaultAt.twice i lt e) = go (ltb q.signal (count p))
      where
        again : is_put before q.signal ≡ true
        again =
            true-put before q.signal i lt
            (ap (λ (r : Put). r.signal) (sym (get_or-append before (q ∷ qs) no_put i lt)) ∙ e ∙
            ap (λ (r : Put). r.signal) here)

        go : (a : Bool) → fault 12 q.place among
            (cond a (cond (is_put before q.signal) (fault 12 q.place ∷ [])
            (cond (ltb q.phase (signal_at p q.signal).period) [] (fault 13 q.place ∷ []))) (fault 12 q.place ∷ []))
        go true = rw again (◌among◌.here refl)
        go false = ◌among◌.here refl
    put-complete (FaultAt.late d f u) =
        rw (lt-ltb q.signal (count p) (rw here at d), once, not-below (rw here at u)) (◌among◌.here refl)
      where
        once : is_put before q.signal ≡ false
        once = not-true-false _ (λ e.
            let h = put-true before q.signal e in
            f h.0 h.1
            (ap (λ (r : Put). r.signal) (get_or-append before (q ∷ qs) no_put h.0 h.1) ∙ h.2 ∙
            sym (ap (λ (r : Put). r.signal) here)))

  -- PUT j of all, at or after those of `before`, has a fault that is f.
  abbrev Has : List Put → Fault → Type 0
  Has puts f = (j : ℕ) × (j < length puts) × (f.place ≡ (put_at puts j).place) × FaultAt puts j f.number

  puts-sound : (before qs : List Put) (f : Fault) → f among puts_faults p before qs → Has (before ++ qs) f
  unfolding puts_faults all
  puts-sound before [] f m = elim m [ ]
  puts-sound before (q ∷ qs) f m =
      go (among-append f (put_faults p before q) _ m) (λ n. puts-sound (before ++ (q ∷ [])) qs f n)
    where
      go : (f among put_faults p before q) ⊎ (f among puts_faults p (before ++ (q ∷ [])) qs) →
          (f among puts_faults p (before ++ (q ∷ [])) qs → Has ((before ++ (q ∷ [])) ++ qs) f) → Has (before ++ (q ∷ qs)) f
      go (inl n) ih =
          let h = put-sound before qs q f n in
          (length before, rw length-append (omega arith), h.1 ∙ sym (ap (λ (r : Put). r.place) (put-here before qs q)), h.0)
      go (inr n) ih = rw (append_assoc before (q ∷ []) qs) at (ih n)

  puts-complete : (before qs : List Put) (j n : ℕ) → length before ≤ j → j < length (before ++ qs) →
      FaultAt (before ++ qs) j n → fault n (put_at (before ++ qs) j).place among puts_faults p before qs
  unfolding puts_faults all
  puts-complete before [] j n low high h = absurd (omega (arith, ap length (append-nil before)))
  puts-complete before (q ∷ qs) j n low high h =
      go (dec_lt (length before) j)
      (λ l. puts-complete (before ++ (q ∷ [])) qs j n (rw length-append (omega arith))
      (rw (append_assoc before (q ∷ []) qs) high) (rw (append_assoc before (q ∷ []) qs) h))
    where
      go : Dec (length before < j) →
          (length before < j → fault n (put_at ((before ++ (q ∷ [])) ++ qs) j).place among puts_faults p (before ++ (q ∷ [])) qs) →
          fault n (put_at (before ++ (q ∷ qs)) j).place among (put_faults p before q ++ puts_faults p (before ++ (q ∷ [])) qs)
      go (yes l) ih =
          append_right _ (put_faults p before q) _ (rw (append_assoc before (q ∷ []) qs) at (ih l))
      go (no l) ih =
          let e : j ≡ length before = omega arith in
          append_left _ (put_faults p before q) _
          (rw (e, put-here before qs q) (put-complete before qs q (rw e at h)))

  -- Each PUT stands at a place of its own.
  put-place : {text : List ℕ} {at end : ℕ} {qs : List Put} → SpellsPuts text at qs end → (j : ℕ) → j < length qs →
      (put_at qs j).place ≡ at + 3 * j
  put-place (SpellsPuts.ends e le) j lt = absurd (omega arith)
  put-place (SpellsPuts.put e r) zero lt = omega arith
  put-place (SpellsPuts.put e r) (suc j) lt = omega (arith, put-place r j (omega arith))

  one_number : {n m : ℕ} (puts : List Put) (j : ℕ) → FaultAt puts j n → FaultAt puts j m → n ≡ m
  one_number puts j (FaultAt.undeclared u) (FaultAt.undeclared v) = refl
  one_number puts j (FaultAt.undeclared u) (FaultAt.twice i l e) = refl
  one_number puts j (FaultAt.undeclared u) (FaultAt.late d f v) = absurd (u d)
  one_number puts j (FaultAt.twice i l e) (FaultAt.undeclared v) = refl
  one_number puts j (FaultAt.twice i l e) (FaultAt.twice k m g) = refl
  one_number puts j (FaultAt.twice i l e) (FaultAt.late d f v) = absurd (f i l e)
  one_number puts j (FaultAt.late d f u) (FaultAt.undeclared v) = absurd (v d)
  one_number puts j (FaultAt.late d f u) (FaultAt.twice i l e) = absurd (f i l e)
  one_number puts j (FaultAt.late d f u) (FaultAt.late c g v) = refl

  module _ (text : List ℕ) (puts : Parsed (List Put)) (l : LegalSchedule text puts) where
    qs : List Put
    qs = puts.value

    single : (f g : Fault) → PutFault p qs f → PutFault p qs g → f.place ≡ g.place → f.number ≡ g.number
    unfolding qs
    single f g h k e =
        let a = fault-at qs h in
        let b = fault-at qs k in
        let same : a.0 ≡ b.0 = omega (arith, a.2, b.2, put-place l a.0 a.1, put-place l b.0 b.1) in
        one_number qs b.0 (rw same at a.3) b.3

    sound : (f : Fault) → f among puts_faults p [] qs → PutFault p qs f
    sound f m =
        let h = puts-sound [] qs f m in
        subst (λ (x : ℕ). PutFault p qs (fault f.number x)) (sym h.2) (at-fault qs h.0 h.1 h.3)

    complete : (f : Fault) → PutFault p qs f → f among puts_faults p [] qs
    complete f h =
        let a = fault-at qs h in
        subst (λ (x : ℕ). fault f.number x among puts_faults p [] qs) a.2
        (puts-complete [] qs a.0 f.number (omega arith) a.1 a.3)

    none : PutsLegal p qs → (f : Fault) → ¬ PutFault p qs f
    none c g (PutFault.undeclared j lt u) = u (c.declared j lt)
    none c g (PutFault.twice i j l lt e) = c.once j lt i l e
    none c g (PutFault.late j lt d f u) = u (c.phases j lt)

    holds : lowest (puts_faults p [] qs) ≡ accepted tt → PutsLegal p qs
    holds e =
        record {
          declared = declared;
          once = once;
          phases = λ j lt. phase j lt (dec_lt _ _);
        }
      where
        never : (f : Fault) → ¬ PutFault p qs f
        never = fault-none (puts_faults p [] qs) (PutFault p qs) sound complete e

        declared : (j : ℕ) → j < length qs → (put_at qs j).signal < count p
        declared j lt = go (dec_lt (put_at qs j).signal (count p))
          where
            go : Dec ((put_at qs j).signal < count p) → (put_at qs j).signal < count p
            go (yes h) = h
            go (no h) = absurd (never _ (PutFault.undeclared j lt h))

        once : (j : ℕ) → j < length qs → Fresh qs j
        once j lt i l s = never _ (PutFault.twice i j l lt s)

        phase : (j : ℕ) → j < length qs → Dec (PhaseBelow p (put_at qs j)) → PhaseBelow p (put_at qs j)
        phase j lt (yes h) = h
        phase j lt (no h) = absurd (never _ (PutFault.late j lt (declared j lt) (once j lt) h))

    pub puts-judged : Judged (λ u. PutsLegal p puts.value) (LowestFault (PutFault p puts.value))
        (lowest (puts_faults p [] puts.value))
    unfolding qs
    puts-judged = lowest-judged (puts_faults p [] qs) (PutFault p qs) (PutsLegal p qs) sound complete single none holds

-- Some number below n fails the test.
pub all-false : (n : ℕ) (test : ℕ → Bool) → all_below n test ≡ false → (x : ℕ) × (x < n) × (test x ≡ false)
unfolding all_below
all-false zero test e = absurd (false≢true (sym e))
all-false (suc n) test e = go (all_below n test) (test n) refl refl e (λ f. all-false n test f)
  where
    go : (a b : Bool) → all_below n test ≡ a → test n ≡ b → a && b ≡ false →
        (all_below n test ≡ false → (x : ℕ) × (x < n) × (test x ≡ false)) → (x : ℕ) × (x < suc n) × (test x ≡ false)
    go true true f g t ih = absurd (false≢true (sym t))
    go true false f g t ih = (n, omega arith, g)
    go false b f g t ih = let h = ih f in (h.0, omega (arith, h.1), h.2)

-- 12 and 13: a fault of a PUT, or a signal missing where there is none.
pub data PlacedFault (p : Program) (puts : Parsed (List Put)) : Fault → Type 0 where
  put : {f : Fault} → LowestFault (PutFault p puts.value) f → PlacedFault p puts f
  missing : PutsLegal p puts.value → (x : ℕ) → x < count p → ¬ IsPut puts.value x →
      PlacedFault p puts (fault 12 puts.next)

module _ (p : Program) (text : List ℕ) (puts : Parsed (List Put)) (l : LegalSchedule text puts) where
  abbrev AllPut : Type 0
  AllPut = (x : ℕ) → x < count p → IsPut puts.value x

  abbrev Missing : Type 0
  Missing = (x : ℕ) × (x < count p) × (¬ IsPut puts.value x)

  missing-judged : Judged (λ u. AllPut) (Only 12 puts.next Missing)
      (provided (all_below (count p) (is_put puts.value)) 12 puts.next)
  missing-judged =
      provided-judged (all_below (count p) (is_put puts.value)) 12 puts.next AllPut Missing (
        λ e x lt. put-true puts.value x (all_true (count p) (is_put puts.value) e x lt),
        λ c. true-all (count p) (is_put puts.value) (λ x lt.
            let h = c x lt in true-put puts.value x h.0 h.1 h.2),
      )
      (λ e.
      let h = all-false (count p) (is_put puts.value) e in
      (h.0, h.1, λ q. false≢true (sym h.2 ∙ true-put puts.value h.0 q.0 q.1 q.2)))
      (λ m c. m.2 (c m.0 m.1))

  placed-accepts : (s : Schedule) → (placed p puts ≡ accepted s) ↔ Placed p puts.value s
  unfolding placed
  placed-accepts s = (forth, back)
    where
      forth : placed p puts ≡ accepted s → Placed p puts.value s
      forth e =
          let a = then-accepted (lowest (puts_faults p [] puts.value)) _ s e in
          let b = then-accepted (provided (all_below (count p) (is_put puts.value)) 12 puts.next) _ s a.2 in
          record {
            legal = ((puts-judged p text puts l).accepts tt).0 a.1;
            all = (missing-judged.accepts tt).0 b.1;
            schedule = sym (accepted-same _ _ b.2);
          }

      back : Placed p puts.value s → placed p puts ≡ accepted s
      back c =
          accepted-then _ _ tt (((puts-judged p text puts l).accepts tt).1 c.legal) ∙
          accepted-then _ _ tt ((missing-judged.accepts tt).1 c.all) ∙
          ap accepted (sym c.schedule)

  placed-refuses : (f : Fault) → (placed p puts ≡ refused f) ↔ PlacedFault p puts f
  unfolding placed
  placed-refuses g = (forth, back)
    where
      missed : {f : Fault} → PutsLegal p puts.value → Only 12 puts.next Missing f → PlacedFault p puts f
      missed c (Only.only h) = PlacedFault.missing c h.0 h.1 h.2

      forth : placed p puts ≡ refused g → PlacedFault p puts g
      forth e =
          answers-refused (λ s. Unit {0}) (PlacedFault p puts) (placed p puts) g
          (answers-then (λ s. Unit {0}) (PlacedFault p puts) (lowest (puts_faults p [] puts.value)) _
          (puts-judged p text puts l) (λ k f. PlacedFault.put f) (λ u c.
          answers-then (λ s. Unit {0}) (PlacedFault p puts) (provided (all_below (count p) (is_put puts.value)) 12 puts.next)
          (λ _. accepted (schedule_of p puts.value)) missing-judged (λ k f. missed c f) (λ v d. tt))) e

      back : {f : Fault} → PlacedFault p puts f → placed p puts ≡ refused f
      back (PlacedFault.put f) = refused-then _ _ _ (((puts-judged p text puts l).refuses _).1 f)
      back (PlacedFault.missing c z lt u) =
          accepted-then _ _ tt (((puts-judged p text puts l).accepts tt).1 c) ∙
          refused-then _ _ _ ((missing-judged.refuses (fault 12 puts.next)).1 (Only.only (z, lt, u)))

  -- 12, 13.
  pub placed-judged : Judged (Placed p puts.value) (PlacedFault p puts) (placed p puts)
  placed-judged = record { accepts = placed-accepts; refuses = placed-refuses }
