-- A join is accepted exactly under its conditions, and refused exactly under those of each number, in the order stated; a refusal
-- inside a part names the part. Assumes nothing.
use Rattle.std.specs.Prelude.{Option, Some, None}
use Prim.Native.Nat.{ℕ, zero, suc, ◌+◌, ◌≤◌, ◌<◌}
use mathlib.Core.Bool.{Bool, true, false, not, and-eq-true_iff, false≢true, true≢false}
use mathlib.Core.List.{List, [], ◌∷◌}
use mathlib.Core.Logic.{◌↔◌}
use mathlib.Core.Path.{◌≡◌, refl, sym, ap, subst, ◌∙◌}
use native.Mathlib.Decide.{dec_lt}
use native.Mathlib.Nat.{zero-add}
use native.Mathlib.Omega.{arith}
use borrow.Author.Tests.{leb-true, le-leb, ltb-true, lt-ltb, eqb-true, eq-eqb, eqb-false, ne_eqb, not-true}
use lib.Dec.{leb, eqb}
use lib.ListN.{length}
use Rattle.model.specs.Rules.Compile.{Pair}
use Rattle.model.specs.Rules.Join.{
  PartTexts,
  parts_in,
  texts_at,
  program_total,
  are_lent,
  lent,
  program_text,
  schedule_text,
  part_pair,
  parts_from,
  is_refused,
  link_at,
  links_in,
  links_of,
  same_input,
  is_named,
  is_right,
  named_of,
  named,
  one_table,
  joined_verdict,
  joined_pair_of,
  named_after,
  part_named,
}
use Rattle.model.specs.Rules.Outcome.{Outcome, accepted, refused, fault, ◌▷◌, provided}
use Rattle.model.specs.Rules.Parts.{Part, tabled_parts, part_at, PartLink}
use Rattle.model.specs.Rules.Search.{first_below, all_below}
use Rattle.model.specs.Says.Feasible.{All}
use Rattle.model.specs.declared.Fault.{Fault}
use Rattle.model.proofs.Basics.All.{at_all}
use Rattle.model.proofs.Basics.Outcomes.{not-true-false, accepted≢refused, accepted-then, refused-then, table-length, table_at}
use Rattle.model.proofs.Joining.Lent.{link-in, link-back}
use Rattle.model.proofs.Pairs.Decide.{all_true, true-all, is-first}
use Rattle.theorems_pairs.specs.Conditions.{LegalPair}
use Rattle.theorems_joins.specs.Join.{
  FeasiblePart,
  OneTable,
  input_of,
  LinkNames,
  JoinedLegal,
  JoinedRefused,
  BothLent,
  TextsLent,
  PartLegal,
  PartsLegal,
  LinkRight,
  LinksRight,
  WrongLink,
  JoinLegal,
  JoinRefused,
}
use Rattle.theorems_pairs.specs.Refusals.{LowestFault, RefusedAt}
use Rattle.theorems_joins.proofs.Bounds.{pair-feasible}
use Rattle.theorems_streams.proofs.Inputs.{input-decides}
use Rattle.theorems_joins.proofs.Rows.{one-table}
use Rattle.theorems_joins.proofs.Verdict.{joined-judged}
use Rattle.theorems_pairs.proofs.Exact.{pair-judged, accepted-exactly}
use Rattle.theorems_pairs.proofs.JudgedPuts.{all-false}
use Rattle.theorems_pairs.proofs.Judged.{
  Judged,
  Answers,
  answers-then,
  answers-accepted,
  answers-refused,
  Only,
  provided-judged,
}

-- The first number below n at which a test finds that C does not hold.
module _ (n : ℕ) (bad : ℕ → Bool) (C : ℕ → Type 0) (decides : (i : ℕ) → i < n → (bad i ≡ false) ↔ C i) where
  first-bad : (i : ℕ) → first_below n bad ≡ Some i → (i < n) × ¬ C i × ((j : ℕ) → j < i → C j)
  first-bad i e =
      let h = is-first n bad (Some i) e in
      let lt : i < n = omega arith in (
        lt,
        (λ c. true≢false (sym h.2 ∙ (decides i lt).1 c)),
        (λ j l. (decides j (omega arith)).0 (h.3 j (omega arith) l)),
      )

  none-bad : first_below n bad ≡ None → (i : ℕ) → i < n → C i
  none-bad e i lt = (decides i lt).0 (is-first n bad None e i (omega arith) (omega arith))

  bad-first : (i : ℕ) → i < n → ¬ C i → ((j : ℕ) → j < i → C j) → first_below n bad ≡ Some i
  bad-first i lt u g = go (first_below n bad) refl
    where
      go : (f : Option ℕ) → first_below n bad ≡ f → f ≡ Some i
      go None e = absurd (u (none-bad e i lt))
      go (Some j) e = same (dec_lt j i) (dec_lt i j)
        where
          h : (j < n) × ¬ C j × ((k : ℕ) → k < j → C k)
          h = first-bad j e

          same : Dec (j < i) → Dec (i < j) → Some j ≡ Some i
          same (yes l) d = absurd (h.1 (g j l))
          same (no l) (yes k) = absurd (u (h.2 i k))
          same (no l) (no k) = let q : j ≡ i = omega arith in ap Some q

  bad-none : ((i : ℕ) → i < n → C i) → first_below n bad ≡ None
  bad-none g = go (first_below n bad) refl
    where
      go : (f : Option ℕ) → first_below n bad ≡ f → f ≡ None
      go None e = refl
      go (Some j) e = let h = first-bad j e in absurd (h.1 (g j h.0))

-- 1, 4, 27.
bound-judged : (a b n x : ℕ) → Judged (λ u. a ≤ b) (Only n x (¬ (a ≤ b))) (provided (leb a b) n x)
bound-judged a b n x =
    provided-judged (leb a b) n x (a ≤ b) (¬ (a ≤ b)) (leb-true a b, le-leb a b) (λ e c. false≢true (sym e ∙ le-leb a b c))
    (λ h. h)

module _ (buffer numbers : List ℕ) where
  both-lent : (t : PartTexts) → (are_lent buffer t ≡ true) ↔ BothLent buffer t
  both-lent t = (
    (λ e. let h = (and-eq-true_iff _ _).0 e in (leb-true _ _ h.0, leb-true _ _ h.1)),
    (λ c. (and-eq-true_iff _ _).1 (le-leb _ _ c.0, le-leb _ _ c.1)),
  )

  abbrev Inside : Type 0
  Inside = (k : ℕ) → k < parts_in numbers → BothLent buffer (texts_at numbers k)

  abbrev Outside : Type 0
  Outside = (k : ℕ) × (k < parts_in numbers) × ¬ BothLent buffer (texts_at numbers k)

  abbrev in_test : ℕ → Bool
  in_test k = are_lent buffer (texts_at numbers k)

  inside-judged : Judged (λ u. Inside) (Only 27 0 Outside) (provided (all_below (parts_in numbers) in_test) 27 0)
  inside-judged =
      provided-judged (all_below (parts_in numbers) in_test) 27 0 Inside Outside (
        (λ e k lt. (both-lent (texts_at numbers k)).0 (all_true (parts_in numbers) in_test e k lt)),
        (λ c. true-all (parts_in numbers) in_test (λ k lt. (both-lent (texts_at numbers k)).1 (c k lt))),
      )
      (λ e.
      let h = all-false (parts_in numbers) in_test e in
      (h.0, h.1, λ c. false≢true (sym h.2 ∙ (both-lent (texts_at numbers h.0)).1 c)))
      (λ m c. m.2 (c m.0 m.1))

  pub data LentFault : Fault → Type 0 where
    long : ¬ (program_total numbers ≤ 8192) → LentFault (fault 1 0)
    ninth : program_total numbers ≤ 8192 → ¬ (parts_in numbers ≤ 8) → LentFault (fault 4 0)
    outside : program_total numbers ≤ 8192 → parts_in numbers ≤ 8 → Outside → LentFault (fault 27 0)

  abbrev Lends : Unit {0} → Type 0
  Lends u = TextsLent buffer numbers

  lent-answers : Answers Lends LentFault (lent buffer numbers)
  unfolding lent
  lent-answers =
      answers-then Lends LentFault _ _ (bound-judged (program_total numbers) 8192 1 0) (λ g f. one f) (λ u short.
      answers-then Lends LentFault _ _ (bound-judged (parts_in numbers) 8 4 0) (λ g f. two short f) (λ v few.
      answers-last (provided (all_below (parts_in numbers) in_test) 27 0) inside-judged short few))
    where
      one : {f : Fault} → Only 1 0 (¬ (program_total numbers ≤ 8192)) f → LentFault f
      one (Only.only h) = LentFault.long h

      two : {f : Fault} → program_total numbers ≤ 8192 → Only 4 0 (¬ (parts_in numbers ≤ 8)) f → LentFault f
      two short (Only.only h) = LentFault.ninth short h

      three : {f : Fault} → program_total numbers ≤ 8192 → parts_in numbers ≤ 8 → Only 27 0 Outside f → LentFault f
      three short few (Only.only h) = LentFault.outside short few h

      answers-last : (o : Outcome (Unit {0})) → Judged (λ u. Inside) (Only 27 0 Outside) o → program_total numbers ≤ 8192 →
          parts_in numbers ≤ 8 → Answers Lends LentFault o
      answers-last (accepted u) j short few = record { short = short; few = few; inside = (j.accepts u).0 refl }
      answers-last (refused f) j short few = three short few ((j.refuses f).0 refl)

  lent-passed : TextsLent buffer numbers → lent buffer numbers ≡ accepted tt
  unfolding lent
  lent-passed l =
      accepted-then _ _ _ (((bound-judged (program_total numbers) 8192 1 0).accepts tt).1 l.short) ∙
      accepted-then _ _ _ (((bound-judged (parts_in numbers) 8 4 0).accepts tt).1 l.few) ∙
      (inside-judged.accepts tt).1 l.inside

  lent-fails : {f : Fault} → LentFault f → lent buffer numbers ≡ refused f
  unfolding lent
  lent-fails (LentFault.long h) = refused-then _ _ _ (((bound-judged (program_total numbers) 8192 1 0).refuses _).1 (Only.only h))
  lent-fails (LentFault.ninth short h) =
      accepted-then _ _ _ (((bound-judged (program_total numbers) 8192 1 0).accepts tt).1 short) ∙
      refused-then _ _ _ (((bound-judged (parts_in numbers) 8 4 0).refuses _).1 (Only.only h))
  lent-fails (LentFault.outside short few h) =
      accepted-then _ _ _ (((bound-judged (program_total numbers) 8192 1 0).accepts tt).1 short) ∙
      accepted-then _ _ _ (((bound-judged (parts_in numbers) 8 4 0).accepts tt).1 few) ∙
      (inside-judged.refuses _).1 (Only.only h)

  pub lent-judged : Judged Lends LentFault (lent buffer numbers)
  lent-judged =
      record {
        accepts = λ u. (answers-accepted Lends LentFault (lent buffer numbers) u lent-answers, lent-passed);
        refuses = λ f. (answers-refused Lends LentFault (lent buffer numbers) f lent-answers, lent-fails);
      }

  -- The parts, each alone.
  abbrev Accepts : ℕ → Type 0
  Accepts k = (a : Part) × PartLegal buffer (texts_at numbers k) a

  abbrev Refuses : ℕ → Fault → Type 0
  Refuses k f = RefusedAt (program_text buffer (texts_at numbers k)) (schedule_text buffer (texts_at numbers k)) f

  part-judged : (k : ℕ) →
      Judged (LegalPair (program_text buffer (texts_at numbers k)) (schedule_text buffer (texts_at numbers k))) (Refuses k)
      (part_pair buffer (texts_at numbers k))
  unfolding part_pair
  part-judged k = pair-judged (program_text buffer (texts_at numbers k)) (schedule_text buffer (texts_at numbers k))

  -- The n parts from part k on.
  pub record PartsFrom (k n : ℕ) (parts : List Part) : Type 0 where
    pub count-is : length parts ≡ n
    pub each : (i : ℕ) → i < n → PartLegal buffer (texts_at numbers (k + i)) (part_at parts i)

  pub data PartFault (k n : ℕ) : Fault → Type 0 where
    part : {f : Fault} (i : ℕ) → i < n → ((j : ℕ) → j < i → Accepts (k + j)) → Refuses (k + i) f → PartFault k n f

  zero-add-at : (k : ℕ) → k + 0 ≡ k
  zero-add-at k = omega arith

  parts-answers : (k n : ℕ) → Answers (PartsFrom k n) (PartFault k n) (parts_from buffer numbers k n)
  unfolding parts_from ◌▷◌
  parts-answers k zero = record { count-is = refl; each = λ i lt. absurd (omega arith) }
  parts-answers k (suc n) =
      answers-then (PartsFrom k (suc n)) (PartFault k (suc n)) (part_pair buffer (texts_at numbers k)) _ (part-judged k)
      (λ f r.
      PartFault.part 0 (omega arith) (λ j lt. absurd (omega arith)) (subst (λ (i : ℕ). Refuses i f) (sym (zero-add-at k)) r))
      (λ q legal. go q legal (parts_from buffer numbers (suc k) n) (parts-answers (suc k) n))
    where
      go : (q : Pair) → LegalPair (program_text buffer (texts_at numbers k)) (schedule_text buffer (texts_at numbers k)) q →
          (o : Outcome (List Part)) → Answers (PartsFrom (suc k) n) (PartFault (suc k) n) o →
          Answers (PartsFrom k (suc n)) (PartFault k (suc n))
          (o ▷ λ parts. accepted (record { program = q.program; schedule = q.schedule } ∷ parts))
      go q legal (accepted parts) h =
          record { count-is = ap suc h.count-is; each = λ i lt. each i lt }
        where
          each : (i : ℕ) → i < suc n →
              PartLegal buffer (texts_at numbers (k + i))
              (part_at (record { program = q.program; schedule = q.schedule } ∷ parts) i)
          each zero lt =
              subst (λ (i : ℕ). PartLegal buffer (texts_at numbers i) (record { program = q.program; schedule = q.schedule }))
              (sym (zero-add-at k)) (q.hypercycle, legal)
          each (suc i) lt =
              let e : suc k + i ≡ k + suc i = omega arith in
              subst (λ (j : ℕ). PartLegal buffer (texts_at numbers j) (part_at parts i)) e (h.each i (omega arith))
      go q legal (refused f) (PartFault.part i lt before r) =
          let e : suc k + i ≡ k + suc i = omega arith in
          PartFault.part (suc i) (omega arith) (λ j l. earlier j l) (subst (λ (j : ℕ). Refuses j f) e r)
        where
          earlier : (j : ℕ) → j < suc i → Accepts (k + j)
          earlier zero l =
              subst Accepts (sym (zero-add-at k))
              (record { program = q.program; schedule = q.schedule }, (q.hypercycle, legal))
          earlier (suc j) l = let e : suc k + j ≡ k + suc j = omega arith in subst Accepts e (before j (omega arith))

  parts-passed : (k n : ℕ) (parts : List Part) → PartsFrom k n parts → parts_from buffer numbers k n ≡ accepted parts
  unfolding parts_from ◌▷◌
  parts-passed k zero [] h = refl
  parts-passed k zero (a ∷ parts) h = absurd (omega (arith, h.count-is))
  parts-passed k (suc n) [] h = absurd (omega (arith, h.count-is))
  parts-passed k (suc n) (a ∷ parts) h =
      accepted-then _ _ _ (((part-judged k).accepts _).1 here.1) ∙
      accepted-then _ _ _ (parts-passed (suc k) n parts (record { count-is = omega (arith, h.count-is); each = others }))
    where
      here : PartLegal buffer (texts_at numbers k) a
      here = subst (λ (i : ℕ). PartLegal buffer (texts_at numbers i) a) (zero-add-at k) (h.each 0 (omega arith))

      others : (i : ℕ) → i < n → PartLegal buffer (texts_at numbers (suc k + i)) (part_at parts i)
      others i lt =
          let e : k + suc i ≡ suc k + i = omega arith in
          subst (λ (j : ℕ). PartLegal buffer (texts_at numbers j) (part_at parts i)) e (h.each (suc i) (omega arith))

  parts-fail : (k n : ℕ) {f : Fault} → PartFault k n f → parts_from buffer numbers k n ≡ refused f
  unfolding parts_from ◌▷◌
  parts-fail k zero (PartFault.part i lt before r) = absurd (omega arith)
  parts-fail k (suc n) {f} (PartFault.part zero lt before r) =
      refused-then _ _ _ (((part-judged k).refuses f).1 (subst (λ (i : ℕ). Refuses i f) (zero-add-at k) r))
  parts-fail k (suc n) {f} (PartFault.part (suc i) lt before r) =
      let e : k + suc i ≡ suc k + i = omega arith in
      let a = subst Accepts (zero-add-at k) (before 0 (omega arith)) in
      accepted-then _ _ _ (((part-judged k).accepts _).1 a.1.1) ∙
      refused-then _ _ _
      (parts-fail (suc k) n
      (PartFault.part i (omega arith)
      (λ j l. let g : k + suc j ≡ suc k + j = omega arith in subst Accepts g (before (suc j) (omega arith)))
      (subst (λ (j : ℕ). Refuses j f) e r)))

  pub parts-judged : (k n : ℕ) → Judged (PartsFrom k n) (PartFault k n) (parts_from buffer numbers k n)
  parts-judged k n =
      record {
        accepts = λ parts. (
          answers-accepted (PartsFrom k n) (PartFault k n) (parts_from buffer numbers k n) parts (parts-answers k n),
          parts-passed k n parts,
        );
        refuses = λ f. (
          answers-refused (PartsFrom k n) (PartFault k n) (parts_from buffer numbers k n) f (parts-answers k n),
          parts-fail k n,
        );
      }

  -- All of them.
  pub all-legal : (parts : List Part) → PartsFrom 0 (parts_in numbers) parts ↔ PartsLegal buffer numbers parts
  all-legal parts = (
    (λ h. record {
      count-is = h.count-is;
      each = λ k lt.
          subst (λ (i : ℕ). PartLegal buffer (texts_at numbers i) (part_at parts k)) (zero-add k)
          (h.each k (omega (arith, h.count-is)));
    }),
    (λ h. record {
      count-is = h.count-is;
      each = λ k lt.
          subst (λ (i : ℕ). PartLegal buffer (texts_at numbers i) (part_at parts k)) (sym (zero-add k))
          (h.each k (omega (arith, h.count-is)));
    }),
  )

  -- The first part that is refused.
  refused-decides : (k : ℕ) → k < parts_in numbers → (is_refused (part_pair buffer (texts_at numbers k)) ≡ false) ↔ Accepts k
  refused-decides k lt = (forth (part_pair buffer (texts_at numbers k)) refl, back)
    where
      forth : (o : Outcome Pair) → part_pair buffer (texts_at numbers k) ≡ o → is_refused o ≡ false → Accepts k
      forth (accepted q) e t =
          (record { program = q.program; schedule = q.schedule }, (q.hypercycle, ((part-judged k).accepts q).0 e))
      forth (refused f) e t = absurd (true≢false t)

      back : Accepts k → is_refused (part_pair buffer (texts_at numbers k)) ≡ false
      back a = ap is_refused (((part-judged k).accepts _).1 a.1.1)

  refused-not : (k : ℕ) (f : Fault) → Refuses k f → ¬ Accepts k
  refused-not k f r a = accepted≢refused _ _ f (((part-judged k).accepts _).1 a.1.1) (((part-judged k).refuses f).1 r)

-- The links.
module _ (parts : List Part) (links : List ℕ) where
  names-decide : (l : PartLink) → (is_named parts l ≡ true) ↔ LinkNames parts l
  unfolding is_named
  names-decide l = (forth, back)
    where
      forth : is_named parts l ≡ true → LinkNames parts l
      forth e =
          let a = (and-eq-true_iff _ _).0 e in
          let b = (and-eq-true_iff _ _).0 a.0 in
          let c = (and-eq-true_iff _ _).0 b.0 in
          let d = (and-eq-true_iff _ _).0 c.0 in
          let f = (and-eq-true_iff _ _).0 d.0 in
          let g = (and-eq-true_iff _ _).0 c.1 in
          record {
            input_part = ltb-true _ _ f.0;
            input = ltb-true _ _ f.1;
            is_input = (input-decides (input_of parts l).body).0 d.1;
            signal_part = ltb-true _ _ g.0;
            signal = ltb-true _ _ g.1;
            other = eqb-false _ _ (not-true _ b.1);
            periods = eqb-true _ _ a.1;
          }

      back : LinkNames parts l → is_named parts l ≡ true
      back n =
          let f = (and-eq-true_iff _ _).1 (lt-ltb _ _ n.input_part, lt-ltb _ _ n.input) in
          let g = (and-eq-true_iff _ _).1 (lt-ltb _ _ n.signal_part, lt-ltb _ _ n.signal) in
          let d = (and-eq-true_iff _ _).1 (f, (input-decides (input_of parts l).body).1 n.is_input) in
          let c = (and-eq-true_iff _ _).1 (d, g) in
          let b = (and-eq-true_iff _ (not (eqb l.input_part l.signal_part))).1 (c, ap not (ne_eqb _ _ n.other)) in
          (and-eq-true_iff _ _).1 (b, eq-eqb _ _ n.periods)

  same-decides : (l m : PartLink) →
      (not (same_input l m) ≡ true) ↔ ¬ ((l.input_part ≡ m.input_part) × (l.input ≡ m.input))
  same-decides l m = (
    (λ e c.
        false≢true (sym (not-true _ e) ∙
        (and-eq-true_iff (eqb l.input_part m.input_part) _).1 (eq-eqb _ _ c.0, eq-eqb _ _ c.1))),
    (λ u. ap not (not-true-false (same_input l m) (λ e.
        let h = (and-eq-true_iff (eqb l.input_part m.input_part) _).0 e in u (eqb-true _ _ h.0, eqb-true _ _ h.1)))),
  )

  pub right-decides : (i : ℕ) → (is_right parts links i ≡ true) ↔ LinkRight parts links i
  unfolding is_right
  right-decides i = (
    (λ e.
        let a = (and-eq-true_iff _ _).0 e in
        let b = (and-eq-true_iff _ _).0 a.0 in
        record {
          whole = leb-true _ _ b.0;
          names = (names-decide (link_at links i)).0 b.1;
          first = λ j lt. (same-decides (link_at links j) (link_at links i)).0 (all_true i _ a.1 j lt);
        }),
    (λ r.
        let b = (and-eq-true_iff _ _).1 (le-leb _ _ r.whole, (names-decide (link_at links i)).1 r.names) in
        (and-eq-true_iff _ _).1
        (b, true-all i _ (λ j lt. (same-decides (link_at links j) (link_at links i)).1 (r.first j lt)))),
  )

  wrong-decides : (i : ℕ) → i < links_in links → (not (is_right parts links i) ≡ false) ↔ LinkRight parts links i
  wrong-decides i lt = (
    (λ e. (right-decides i).0 (passes (is_right parts links i) e)),
    (λ r. ap not ((right-decides i).1 r)),
  )
    where
      passes : (b : Bool) → not b ≡ false → b ≡ true
      passes true e = refl
      passes false e = absurd (true≢false e)

  none_right : ((i : ℕ) → i < links_in links → LinkRight parts links i) ↔ LinksRight parts links
  none_right = ((λ g i lt. g i (link-in links i lt)), (λ g i lt. g i (link-back links i lt)))

  -- 31.
  lowest-wrong : (i : ℕ) → first_below (links_in links) (λ i. not (is_right parts links i)) ≡ Some i →
      LowestFault (WrongLink parts links) (fault 31 i)
  lowest-wrong i e =
      let h = first-bad (links_in links) _ (LinkRight parts links) wrong-decides i e in
      record { fault = WrongLink.wrong i (link-back links i h.0) h.1; least = λ g w. least h.2 w }
    where
      least : {g : Fault} → ((j : ℕ) → j < i → LinkRight parts links j) → WrongLink parts links g → i ≤ g.place
      least before (WrongLink.wrong j lt u) = go (dec_lt j i)
        where
          go : Dec (j < i) → i ≤ j
          go (yes l) = absurd (u (before j l))
          go (no l) = omega arith

  abbrev Right : Unit {0} → Type 0
  Right u = LinksRight parts links

  abbrev Wrong : Fault → Type 0
  Wrong = LowestFault (WrongLink parts links)

  named-answers : Answers Right Wrong (named parts links)
  unfolding named
  named-answers = go (first_below (links_in links) (λ i. not (is_right parts links i))) refl
    where
      go : (f : Option ℕ) → first_below (links_in links) (λ i. not (is_right parts links i)) ≡ f →
          Answers Right Wrong (named_of parts f)
      go (Some i) e = lowest-wrong i e
      go None e = none_right.0 (none-bad (links_in links) _ (LinkRight parts links) wrong-decides e)

  named-passed : LinksRight parts links → named parts links ≡ accepted tt
  unfolding named
  named-passed r = ap (named_of parts) (bad-none (links_in links) _ (LinkRight parts links) wrong-decides (none_right.1 r))

  named-fails : {f : Fault} → LowestFault (WrongLink parts links) f → named parts links ≡ refused f
  unfolding named
  named-fails {f} w = go (first_below (links_in links) (λ i. not (is_right parts links i))) refl
    where
      same : {g : Fault} (i : ℕ) → WrongLink parts links g → g.place ≡ i → fault 31 i ≡ g
      same i (WrongLink.wrong j lt u) e = ap (fault 31) (sym e)

      never : {g : Fault} → WrongLink parts links g → LinksRight parts links → ⊥
      never (WrongLink.wrong j lt u) r = u (r j lt)

      go : (k : Option ℕ) → first_below (links_in links) (λ i. not (is_right parts links i)) ≡ k → named_of parts k ≡ refused f
      go (Some i) e =
          let l = lowest-wrong i e in
          let p : f.place ≡ i = omega (arith, w.least _ l.fault, l.least _ w.fault) in
          ap refused (same i w.fault p)
      go None e =
          absurd (never w.fault (none_right.0 (none-bad (links_in links) _ (LinkRight parts links) wrong-decides e)))

  pub named-judged : Judged Right Wrong (named parts links)
  named-judged =
      record {
        accepts = λ u. (answers-accepted Right Wrong (named parts links) u named-answers, named-passed);
        refuses = λ f. (answers-refused Right Wrong (named parts links) f named-answers, named-fails);
      }

  -- Every link names what it should.
  pub all_named : LinksRight parts links → All (LinkNames parts) (links_of links)
  all_named r =
      at_all (LinkNames parts) (links_of links) (link_at links 0) (λ i lt.
      let l : i < links_in links = omega (arith, table-length (links_in links) (link_at links)) in
      subst (LinkNames parts) (sym (table_at (links_in links) (link_at links) i (link_at links 0) l))
      (r i (link-back links i l)).names)

-- 31 for rows.
pub table-judged : (parts : List Part) → Judged (λ u. OneTable parts) (Only 31 0 (¬ OneTable parts)) (one_table parts)
unfolding one_table
table-judged parts =
    let t = one-table parts in
    provided-judged (leb (tabled_parts parts) 1) 31 0 (OneTable parts) (¬ OneTable parts)
    ((λ e. t.0 (leb-true (tabled_parts parts) 1 e)), (λ h. le-leb (tabled_parts parts) 1 (t.1 h)))
    (λ e h. false≢true (sym e ∙ le-leb (tabled_parts parts) 1 (t.1 h))) (λ h. h)

-- Parts that are accepted alone are feasible.
pub parts-legal-feasible : (buffer numbers : List ℕ) (parts : List Part) → PartsLegal buffer numbers parts →
    All FeasiblePart parts
parts-legal-feasible buffer numbers parts l =
    at_all FeasiblePart parts _ (λ k lt.
    let a = l.each k lt in
    pair-feasible _ _ _ ((accepted-exactly _ _ _).1 a.1))

-- All checks.
module _ (buffer numbers links : List ℕ) where
  Q : Pair → Type 0
  Q = JoinLegal buffer numbers links

  R : Fault → Type 0
  R = JoinRefused buffer numbers links (part_named buffer numbers)

  abbrev n : ℕ
  n = parts_in numbers

  abbrev refused_part : ℕ → Bool
  refused_part k = is_refused (part_pair buffer (texts_at numbers k))

  -- The part named.
  named_none : {f : Fault} → lent buffer numbers ≡ refused f → part_named buffer numbers ≡ None
  unfolding part_named
  named_none e = ap (λ (o : Outcome (Unit {0})). named_after o (first_below n refused_part)) e

  named-first : lent buffer numbers ≡ accepted tt → part_named buffer numbers ≡ first_below n refused_part
  unfolding part_named
  named-first e = ap (λ (o : Outcome (Unit {0})). named_after o (first_below n refused_part)) e

  named-part : TextsLent buffer numbers → (k : ℕ) → k < n → ((j : ℕ) → j < k → Accepts buffer numbers j) → (f : Fault) →
      Refuses buffer numbers k f → part_named buffer numbers ≡ Some k
  named-part l k lt before f r =
      named-first (((lent-judged buffer numbers).accepts tt).1 l) ∙
      bad-first n refused_part (Accepts buffer numbers) (refused-decides buffer numbers) k lt
      (refused-not buffer numbers k f r) before

  named-legal : TextsLent buffer numbers → (parts : List Part) → PartsLegal buffer numbers parts →
      part_named buffer numbers ≡ None
  named-legal l parts legal =
      named-first (((lent-judged buffer numbers).accepts tt).1 l) ∙
      bad-none n refused_part (Accepts buffer numbers) (refused-decides buffer numbers)
      (λ k lt. (part_at parts k, legal.each k (omega (arith, legal.count-is))))

  at_name : {f : Fault} (k : Option ℕ) → part_named buffer numbers ≡ k → JoinRefused buffer numbers links k f → R f
  unfolding R
  at_name {f} k e r = subst (λ (j : Option ℕ). JoinRefused buffer numbers links j f) (sym e) r

  lent-refused : {f : Fault} → LentFault buffer numbers f → R f
  lent-refused {f} w = at_name None (named_none (((lent-judged buffer numbers).refuses f).1 w)) (stated w)
    where
      stated : {g : Fault} → LentFault buffer numbers g → JoinRefused buffer numbers links None g
      stated (LentFault.long h) = JoinRefused.long h
      stated (LentFault.ninth short h) = JoinRefused.ninth short h
      stated (LentFault.outside short few h) = JoinRefused.outside short few h.0 h.1 h.2

  part-refused : {f : Fault} → TextsLent buffer numbers → PartFault buffer numbers 0 n f → R f
  part-refused {f} l (PartFault.part i lt before r) =
      let r' = subst (λ (k : ℕ). Refuses buffer numbers k f) (zero-add i) r in
      let before' : (j : ℕ) → j < i → Accepts buffer numbers j =
      λ j k. subst (Accepts buffer numbers) (zero-add j) (before j k) in
      at_name (Some i) (named-part l i lt before' f r') (JoinRefused.inside l i lt before' r')

  two-tables : {parts : List Part} {f : Fault} → TextsLent buffer numbers → PartsLegal buffer numbers parts →
      LinksRight parts links → Only 31 0 (¬ OneTable parts) f → JoinRefused buffer numbers links None f
  two-tables l legal right (Only.only u) = JoinRefused.tables l legal right u

  answers : Answers Q R (joined_pair_of buffer numbers links)
  unfolding joined_pair_of Q R
  answers =
      answers-then Q R (lent buffer numbers) _ (lent-judged buffer numbers) (λ g f. lent-refused f) (λ u l.
      answers-then Q R (parts_from buffer numbers 0 n) _ (parts-judged buffer numbers 0 n) (λ g f. part-refused l f)
      (λ parts from.
      let legal = (all-legal buffer numbers parts).0 from in
      let none = named-legal l parts legal in
      answers-then Q R (named parts links) _ (named-judged parts links)
      (λ g f. at_name None none (JoinRefused.wrong l legal f)) (λ v right.
      answers-then Q R (one_table parts) _ (table-judged parts)
      (λ g f. at_name None none (two-tables l legal right f)) (λ w one.
      last parts l legal none right one (joined_verdict parts (links_of links))
      (joined-judged parts (parts-legal-feasible buffer numbers parts legal) (links_of links) (all_named parts links right))))))
    where
      last : (parts : List Part) → TextsLent buffer numbers → PartsLegal buffer numbers parts →
          part_named buffer numbers ≡ None → LinksRight parts links → OneTable parts → (o : Outcome Pair) →
          Judged (JoinedLegal parts (links_of links)) (JoinedRefused parts (links_of links)) o → Answers Q R o
      last parts l legal none right one (accepted q) j =
          record { lent = l; parts = parts; legal = legal; right = right; table = one; joined = (j.accepts q).0 refl }
      last parts l legal none right one (refused f) j =
          at_name None none (JoinRefused.joined l legal right one ((j.refuses f).0 refl))

  verdict-judged : (parts : List Part) → PartsLegal buffer numbers parts → LinksRight parts links →
      Judged (JoinedLegal parts (links_of links)) (JoinedRefused parts (links_of links)) (joined_verdict parts (links_of links))
  verdict-judged parts legal right =
      joined-judged parts (parts-legal-feasible buffer numbers parts legal) (links_of links) (all_named parts links right)

  -- Where the conditions hold, the checks are passed.
  lent-then : TextsLent buffer numbers →
      joined_pair_of buffer numbers links ≡
      (parts_from buffer numbers 0 n ▷ λ parts. named parts links ▷ λ _. one_table parts ▷ λ _. joined_verdict parts (links_of links))
  unfolding joined_pair_of
  lent-then l = accepted-then _ _ _ (((lent-judged buffer numbers).accepts tt).1 l)

  parts_then : {parts : List Part} → TextsLent buffer numbers → PartsLegal buffer numbers parts →
      joined_pair_of buffer numbers links ≡ (named parts links ▷ λ _. one_table parts ▷ λ _. joined_verdict parts (links_of links))
  parts_then {parts} l legal =
      lent-then l ∙
      accepted-then _ _ _ (((parts-judged buffer numbers 0 n).accepts parts).1 ((all-legal buffer numbers parts).1 legal))

  legal-back : (q : Pair) → JoinLegal buffer numbers links q → joined_pair_of buffer numbers links ≡ accepted q
  legal-back q h =
      parts_then h.lent h.legal ∙
      accepted-then _ _ _ (((named-judged h.parts links).accepts tt).1 h.right) ∙
      accepted-then _ _ _ (((table-judged h.parts).accepts tt).1 h.table) ∙
      ((verdict-judged h.parts h.legal h.right).accepts q).1 h.joined

  refused-back : {k : Option ℕ} {f : Fault} → JoinRefused buffer numbers links k f →
      (joined_pair_of buffer numbers links ≡ refused f) × (part_named buffer numbers ≡ k)
  unfolding joined_pair_of
  refused-back (JoinRefused.long h) =
      let e = ((lent-judged buffer numbers).refuses _).1 (LentFault.long h) in (refused-then _ _ _ e, named_none e)
  refused-back (JoinRefused.ninth short h) =
      let e = ((lent-judged buffer numbers).refuses _).1 (LentFault.ninth short h) in (refused-then _ _ _ e, named_none e)
  refused-back (JoinRefused.outside short few k lt u) =
      let e = ((lent-judged buffer numbers).refuses _).1 (LentFault.outside short few (k, lt, u)) in
      (refused-then _ _ _ e, named_none e)
  refused-back {f = f} (JoinRefused.inside l k lt before r) = (
    lent-then l ∙
        refused-then _ _ _
        (((parts-judged buffer numbers 0 n).refuses f).1
        (PartFault.part k lt (λ j i. subst (Accepts buffer numbers) (sym (zero-add j)) (before j i))
        (subst (λ (j : ℕ). Refuses buffer numbers j f) (sym (zero-add k)) r))),
    named-part l k lt before f r,
  )
  refused-back {f = f} (JoinRefused.wrong {parts = parts} l legal w) = (
    parts_then l legal ∙ refused-then _ _ _ (((named-judged parts links).refuses f).1 w),
    named-legal l parts legal,
  )
  refused-back (JoinRefused.tables {parts = parts} l legal right u) = (
    parts_then l legal ∙
        accepted-then _ _ _ (((named-judged parts links).accepts tt).1 right) ∙
        refused-then _ _ _ (((table-judged parts).refuses _).1 (Only.only u)),
    named-legal l parts legal,
  )
  refused-back {f = f} (JoinRefused.joined {parts = parts} l legal right one w) = (
    parts_then l legal ∙
        accepted-then _ _ _ (((named-judged parts links).accepts tt).1 right) ∙
        accepted-then _ _ _ (((table-judged parts).accepts tt).1 one) ∙
        ((verdict-judged parts legal right).refuses f).1 w,
    named-legal l parts legal,
  )

  -- A join is accepted as the pair q exactly if text total, part count and buffers are kept, every part is accepted, links and
  -- rows are free of 31, the joined bounds and H hold, every link read is met and the joined load fits.
  pub join-accepted-exactly : (q : Pair) → (joined_pair_of buffer numbers links ≡ accepted q) ↔ JoinLegal buffer numbers links q
  unfolding Q
  join-accepted-exactly q = (answers-accepted Q R (joined_pair_of buffer numbers links) q answers, legal-back q)

  -- It is refused with f, a number and a place, naming part k or none, exactly under that number's condition.
  pub join-refused-exactly : (k : Option ℕ) (f : Fault) →
      ((joined_pair_of buffer numbers links ≡ refused f) × (part_named buffer numbers ≡ k)) ↔
      JoinRefused buffer numbers links k f
  unfolding R
  join-refused-exactly k f = (
    (λ e.
        subst (λ (j : Option ℕ). JoinRefused buffer numbers links j f) e.1
        (answers-refused Q R (joined_pair_of buffer numbers links) f answers e.0)),
    refused-back,
  )

  pub join-judged : Judged (JoinLegal buffer numbers links) (JoinRefused buffer numbers links (part_named buffer numbers))
      (joined_pair_of buffer numbers links)
  join-judged =
      record {
        accepts = join-accepted-exactly;
        refuses = λ f. (
          (λ e. (join-refused-exactly (part_named buffer numbers) f).0 (e, refl)),
          (λ r. ((join-refused-exactly (part_named buffer numbers) f).1 r).0),
        );
      }

  -- An accepted join names no part.
  pub legal-unnamed : (q : Pair) → JoinLegal buffer numbers links q → part_named buffer numbers ≡ None
  legal-unnamed q l = named-legal l.lent l.parts l.legal
