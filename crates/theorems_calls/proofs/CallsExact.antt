-- Compile, reset and cycle do their job, and are refused with each number at its place, exactly under the stated conditions.
-- Assumes nothing.
use Prim.Native.Nat.{ℕ, ◌+◌, ◌≤◌, ◌<◌}
use mathlib.Core.Bool.{true, false≢true}
use mathlib.Core.List.{List, ◌++◌}
use mathlib.Core.Logic.{◌↔◌}
use mathlib.Core.Path.{◌≡◌, refl, sym, ap, ap₂, subst, ◌∙◌}
use native.Mathlib.Omega.{arith}
use borrow.Author.Tests.{leb-true, leb-false, ltb-true, ltb-false, le-leb, lt-ltb}
use lib.Dec.{leb, ltb}
use lib.IntN.{ℤ, pos, negsuc}
use lib.ListN.{length, get_or, drop}
use Rattle.model.specs.Rules.Compile.{Pair, pair_of, verdict_of, compile_of}
use Rattle.model.specs.Rules.Image.{written_of}
use Rattle.model.specs.Rules.Machine.{
  Job,
  effect,
  hyper_of,
  count_of,
  stated_length,
  image_part,
  lent_ok,
  is_position,
  reset_words,
  cycle_words,
  cycle_count,
  reset_of,
  cycle_of,
}
use Rattle.model.specs.Rules.Outcome.{Outcome, accepted, refused, fault, ◌▷◌, provided}
use Rattle.theorems_pairs.specs.Conditions.{LegalPair}
use Rattle.theorems_calls.specs.Exactness.{
  Exactly,
  size_of,
  Writes,
  WriteRefusedAt,
  Compiles,
  CompileRefusedAt,
  Usable,
  Resets,
  ResetRefusedAt,
  Positioned,
  Cycles,
  CycleRefusedAt,
}
use Rattle.theorems_pairs.specs.Refusals.{RefusedAt}
use Rattle.theorems_images.specs.WellFormed.{WellLent}
use Rattle.model.specs.declared.Fault.{Fault}
use Rattle.model.proofs.Basics.Outcomes.{accepted≢refused, accepted-same, accepted-then, refused-then, then-then}
use Rattle.model.proofs.Images.Tails.{lent-ok, lent-formed, lent-bears, part-is, written-length}
use Rattle.theorems_pairs.proofs.Exact.{pair-judged}
use Rattle.theorems_images.proofs.FormedExactly.{well-formed-exactly}
use Rattle.theorems_images.proofs.Ran.{cycle-is, cycle_runs, reset-leaves, reset-is}
use Rattle.theorems_pairs.proofs.Judged.{
  Judged,
  Only,
  provided-judged,
  Answers,
  answers-then,
  answers-accepted,
  answers-refused,
}

-- Steps whose answer has its condition, where each condition gives its answer.
pub both_ways : {A : Type 0} {Q : A → Type 0} {R : Fault → Type 0} (o : Outcome A) → Answers Q R o →
    ((a : A) → Q a → o ≡ accepted a) → ((f : Fault) → R f → o ≡ refused f) → Judged Q R o
both_ways {Q = Q} {R = R} o h f g =
    record {
      accepts = λ a. (answers-accepted Q R o a h, f a);
      refuses = λ f. (answers-refused Q R o f h, g f);
    }

-- What a job that is done yields and leaves.
abbrev pub Does : {A : Type 0} → (ℕ → List A → Type 0) → Job ℕ A → Type 0
Does Done j = Done j.yields j.leaves

-- The steps of a call, judged, are the call.
module _ {A : Type 0} (lent : List A) (Done : ℕ → List A → Type 0) (Refused : Fault → Type 0) where
  pub exactly : (o : Outcome (Job ℕ A)) → Judged (Does Done) Refused o → Exactly lent Done Refused (effect lent o)
  exactly o h = record { done = done o h; refuses = refuses o h }
    where
      done : (o : Outcome (Job ℕ A)) → Judged (Does Done) Refused o → (n : ℕ) (left : List A) →
          (((effect lent o).answer ≡ accepted n) × ((effect lent o).left ≡ left)) ↔ Done n left
      done (accepted j) h n left = (
        λ e. subst (λ k. Done n k) e.1
            (subst (λ (k : ℕ). Done k j.leaves) (accepted-same _ n e.0) ((h.accepts j).0 refl)),
        λ d. let e = accepted-same _ _ ((h.accepts (record { yields = n; leaves = left })).1 d) in
            (ap (λ k. accepted k.yields) e, ap (λ k. k.leaves) e),
      )
      done (refused f) h n left = (
        λ e. absurd (accepted≢refused _ n f e.0 refl),
        λ d. absurd (accepted≢refused _ _ f ((h.accepts (record { yields = n; leaves = left })).1 d) refl),
      )

      refuses : (o : Outcome (Job ℕ A)) → Judged (Does Done) Refused o → (g : Fault) (left : List A) →
          (((effect lent o).answer ≡ refused g) × ((effect lent o).left ≡ left)) ↔ (Refused g × (left ≡ lent))
      refuses (accepted j) h g left = (
        λ e. absurd (accepted≢refused _ j.yields g refl e.0),
        λ d. absurd (accepted≢refused _ j g refl ((h.refuses g).1 d.0)),
      )
      refuses (refused f) h g left = (
        λ e. let q : f ≡ g = cc e.0 in ((h.refuses g).0 (ap refused q), sym e.1),
        λ d. let e = (h.refuses g).1 d.0 in let q : f ≡ g = cc e in (ap refused q, sym d.1),
      )

-- A verdict on a pair, and its image written.
module _ (Legal : Pair → Type 0) (Refused : Fault → Type 0) (o : Outcome Pair) (judged : Judged Legal Refused o)
    (buffer : List ℕ) where
  abbrev written : Pair → List ℕ
  written q = written_of q.program q.schedule q.hypercycle

  abbrev Done : ℕ → List ℕ → Type 0
  Done = Writes Legal buffer

  abbrev NotDone : Fault → Type 0
  NotDone = WriteRefusedAt Legal Refused buffer

  -- What follows an accepted pair.
  abbrev writes : Pair → Outcome (Job ℕ ℕ)
  writes q =
      provided (leb (length (written q)) (length buffer)) 17 (length (written q)) ▷ λ _.
      accepted (record { yields = length (written q); leaves = written q ++ drop (length (written q)) buffer })

  size : (q : Pair) → length (written q) ≡ size_of q
  size q = written-length q.program q.schedule q.hypercycle

  space-judged : (q : Pair) →
      Judged (λ u. size_of q ≤ length buffer) (Only 17 (size_of q) (length buffer < size_of q))
      (provided (leb (length (written q)) (length buffer)) 17 (length (written q)))
  space-judged q =
      rw (size q)
      (provided-judged _ 17 (size_of q) (size_of q ≤ length buffer) (length buffer < size_of q) (leb-true _ _, le-leb _ _)
      (leb-false _ _) (λ l h. omega arith))

  write-answers : Answers (Does Done) NotDone (o ▷ writes)
  write-answers =
      answers-then _ NotDone _ _ judged (λ g f. WriteRefusedAt.pair f) (λ q legal.
      answers-then _ NotDone _ _ (space-judged q) (λ g f. space legal f) (λ u fits.
      record { pair = q; legal = legal; is = size q; fits = omega (arith, size q); leaves = refl }))
    where
      space : {q : Pair} {f : Fault} → Legal q → Only 17 (size_of q) (length buffer < size_of q) f → NotDone f
      space legal (Only.only h) = WriteRefusedAt.space legal h

  write_done : (j : Job ℕ ℕ) → Done j.yields j.leaves → o ▷ writes ≡ accepted j
  write_done j d =
      let q = d.pair in
      let same : length (written q) ≡ j.yields = size q ∙ sym d.is in
      accepted-then _ _ _ ((judged.accepts q).1 d.legal) ∙
      accepted-then _ _ _ (((space-judged q).accepts tt).1 (omega (arith, d.is, d.fits))) ∙
      ap₂ (λ (n : ℕ) (l : List ℕ). accepted (record { yields = n; leaves = l })) same
      (ap (λ (n : ℕ). written q ++ drop n buffer) same ∙ sym d.leaves)

  write-refused : {f : Fault} → NotDone f → o ▷ writes ≡ refused f
  write-refused (WriteRefusedAt.pair r) = refused-then _ _ _ ((judged.refuses _).1 r)
  write-refused (WriteRefusedAt.space {q = q} legal lt) =
      accepted-then _ _ _ ((judged.accepts q).1 legal) ∙
      refused-then _ _ _ (((space-judged q).refuses (fault 17 (size_of q))).1 (Only.only lt))

  pub write-exactly : Exactly buffer Done NotDone (effect buffer (o ▷ writes))
  write-exactly =
      exactly buffer Done NotDone _ (both_ways _ write-answers write_done (λ g r. write-refused r))

-- Compile does its job, or is refused by 1 to 17, 29 or 30, exactly under its condition.
pub compile-exactly : (program schedule buffer : List ℕ) →
    Exactly buffer (Compiles program schedule buffer) (CompileRefusedAt program schedule buffer)
    (compile_of program schedule buffer)
unfolding compile_of verdict_of ◌▷◌
compile-exactly program schedule buffer =
    subst (λ o. Exactly buffer (Compiles program schedule buffer) (CompileRefusedAt program schedule buffer) (effect buffer o))
    (sym (then-then (pair_of program schedule)
    (λ q. accepted (written_of q.program q.schedule q.hypercycle)) _))
    (write-exactly (LegalPair program schedule) (RefusedAt program schedule) (pair_of program schedule)
    (pair-judged program schedule) buffer)

-- Reset and cycle.
module _ (lent : List ℕ) (state : List ℤ) where
  abbrev own : List ℕ
  own = image_part lent

  -- What is lent bears one image: its first L bytes.
  lent-image : {image : List ℕ} → WellLent lent image → own ≡ image
  lent-image {image} w = part-is ((well-formed-exactly image).1 w.formed) w.bears

  lent-judged : Judged (λ u. WellLent lent own) (Only 20 0 ((image : List ℕ) → ¬ WellLent lent image))
      (provided (lent_ok lent) 20 0)
  lent-judged =
      provided-judged _ 20 0 (WellLent lent own) ((image : List ℕ) → ¬ WellLent lent image) (forth, back)
      (λ e image w. false≢true (sym e ∙ back w)) (λ none w. none own w)
    where
      forth : lent_ok lent ≡ true → WellLent lent own
      forth e =
          record {
            formed = (well-formed-exactly own).0 (lent-formed lent e);
            tail = drop (stated_length lent) lent;
            bears = lent-bears lent e;
          }

      back : {image : List ℕ} → WellLent lent image → lent_ok lent ≡ true
      back {image} w = lent-ok ((well-formed-exactly image).1 w.formed) w.bears

  state-judged : Judged (λ u. count_of own + 1 ≤ length state) (Only 21 0 (length state < count_of own + 1))
      (provided (ltb (count_of own) (length state)) 21 0)
  state-judged =
      provided-judged _ 21 0 (count_of own + 1 ≤ length state) (length state < count_of own + 1)
      (λ e. omega (arith, ltb-true (count_of own) (length state) e), λ le. lt-ltb (count_of own) (length state) (omega arith))
      (λ e. omega (arith, ltb-false (count_of own) (length state) e))
      (λ l h. omega arith)

  -- The steps that both calls begin with, before the job.
  abbrev checked : Outcome (Job ℕ ℤ) → Outcome (Job ℕ ℤ)
  checked o = provided (lent_ok lent) 20 0 ▷ λ _. provided (ltb (count_of own) (length state)) 21 0 ▷ λ _. o

  checked-answers : (Q : Job ℕ ℤ → Type 0) (R : Fault → Type 0) (o : Outcome (Job ℕ ℤ)) →
      ((f : Fault) → ResetRefusedAt lent state f → R f) → (Usable lent state own → Answers Q R o) → Answers Q R (checked o)
  checked-answers Q R o r g =
      answers-then Q R _ _ lent-judged (λ g f. r g (unformed f)) (λ u lends.
      answers-then Q R _ _ state-judged (λ g f. r g (short lends f)) (λ v long. g (record { lends = lends; long = long })))
    where
      unformed : {f : Fault} → Only 20 0 ((image : List ℕ) → ¬ WellLent lent image) f → ResetRefusedAt lent state f
      unformed (Only.only h) = ResetRefusedAt.unformed h

      short : {f : Fault} → WellLent lent own → Only 21 0 (length state < count_of own + 1) f → ResetRefusedAt lent state f
      short lends (Only.only h) = ResetRefusedAt.short lends h

  usable-passes : (o : Outcome (Job ℕ ℤ)) → Usable lent state own → checked o ≡ o
  usable-passes o h =
      accepted-then _ _ _ ((lent-judged.accepts tt).1 h.lends) ∙ accepted-then _ _ _ ((state-judged.accepts tt).1 h.long)

  checked-refuses : {f : Fault} (o : Outcome (Job ℕ ℤ)) → ResetRefusedAt lent state f → checked o ≡ refused f
  checked-refuses o (ResetRefusedAt.unformed none) = refused-then _ _ _ ((lent-judged.refuses (fault 20 0)).1 (Only.only none))
  checked-refuses o (ResetRefusedAt.short lends lt) =
      let same = lent-image lends in
      accepted-then _ _ _ ((lent-judged.accepts tt).1 (subst (λ (i : List ℕ). WellLent lent i) (sym same) lends)) ∙
      refused-then _ _ _
      ((state-judged.refuses (fault 21 0)).1 (Only.only (subst (λ (i : List ℕ). length state < count_of i + 1) (sym same) lt)))

  usable-own : {image : List ℕ} → Usable lent state image → Usable lent state own
  usable-own h = subst (λ (i : List ℕ). Usable lent state i) (sym (lent-image h.lends)) h

  reset-done : (j : Job ℕ ℤ) → Resets lent state j.yields j.leaves →
      checked (accepted (record { yields = 0; leaves = reset_words own state })) ≡ accepted j
  reset-done j d =
      usable-passes _ (usable-own d.usable) ∙
      ap₂ (λ (n : ℕ) (l : List ℤ). accepted (record { yields = n; leaves = l })) (sym d.is)
      (ap (λ (i : List ℕ). reset_words i state) (lent-image d.usable.lends) ∙
      sym (reset-is d.image state d.usable.long d.leaves))

  -- A reset does its job, or is refused by 20 or 21, exactly under its condition.
  pub reset-exactly : Exactly state (Resets lent state) (ResetRefusedAt lent state) (reset_of lent state)
  unfolding reset_of
  reset-exactly =
      exactly state (Resets lent state) (ResetRefusedAt lent state) _
      (both_ways _
      (checked-answers _ _ _ (λ g r. r) (λ usable.
      record { image = own; usable = usable; is = refl; leaves = reset-leaves own state usable.long }))
      reset-done (λ g r. checked-refuses _ r))

  position-judged : Judged (λ u. Positioned lent state own) (Only 22 0 (¬ Positioned lent state own))
      (provided (is_position (hyper_of own) (get_or state 0 (pos 0))) 22 0)
  position-judged =
      provided-judged _ 22 0 (Positioned lent state own) (¬ Positioned lent state own)
      (forth (get_or state 0 (pos 0)) refl, back) (λ e p. false≢true (sym e ∙ back p)) (λ h. h)
    where
      forth : (w : ℤ) → get_or state 0 (pos 0) ≡ w → is_position (hyper_of own) w ≡ true → Positioned lent state own
      forth (pos c) e t = record { position = c; stands = e; below = ltb-true c (hyper_of own) t }
      forth (negsuc c) e t = absurd (false≢true t)

      back : Positioned lent state own → is_position (hyper_of own) (get_or state 0 (pos 0)) ≡ true
      back p = rw p.stands (lt-ltb p.position (hyper_of own) p.below)

  module _ (samples : List ℤ) where
    abbrev cycle_done : ℕ → List ℤ → Type 0
    cycle_done = Cycles lent state samples

    abbrev cycle_refused : Fault → Type 0
    cycle_refused = CycleRefusedAt lent state samples

    samples-judged : Judged (λ u. count_of own ≤ length samples) (Only 23 0 (length samples < count_of own))
        (provided (leb (count_of own) (length samples)) 23 0)
    samples-judged =
        provided-judged _ 23 0 (count_of own ≤ length samples) (length samples < count_of own) (leb-true _ _, le-leb _ _)
        (leb-false _ _) (λ l h. omega arith)

    abbrev ran : Job ℕ ℤ
    ran = record { yields = cycle_count own state; leaves = cycle_words own state samples }

    -- The steps of a cycle after 21.
    abbrev runs : Outcome (Job ℕ ℤ)
    runs =
        provided (is_position (hyper_of own) (get_or state 0 (pos 0))) 22 0 ▷ λ _.
        provided (leb (count_of own) (length samples)) 23 0 ▷ λ _.
        accepted ran

    runs-answers : Usable lent state own → Answers (Does cycle_done) cycle_refused runs
    unfolding cycle_words cycle_count
    runs-answers usable =
        answers-then _ cycle_refused _ _ position-judged (λ g f. outside f) (λ u positioned.
        answers-then _ cycle_refused _ _ samples-judged (λ g f. unsampled positioned f) (λ v sampled.
        record {
          image = own;
          usable = usable;
          positioned = positioned;
          sampled = sampled;
          runs = rw positioned.stands (cycle_runs own _ state samples usable.lends.formed positioned.below);
        }))
      where
        outside : {f : Fault} → Only 22 0 (¬ Positioned lent state own) f → cycle_refused f
        outside (Only.only h) = CycleRefusedAt.outside usable h

        unsampled : {f : Fault} → Positioned lent state own → Only 23 0 (length samples < count_of own) f → cycle_refused f
        unsampled positioned (Only.only h) = CycleRefusedAt.unsampled usable positioned h

    cycle-done : (j : Job ℕ ℤ) → cycle_done j.yields j.leaves → checked runs ≡ accepted j
    unfolding cycle_words cycle_count
    cycle-done j d =
        let same = lent-image d.usable.lends in
        let ran = cycle-is d.image d.positioned.position state samples d.runs in
        usable-passes runs (usable-own d.usable) ∙
        accepted-then _ _ _
        ((position-judged.accepts tt).1 (subst (λ (i : List ℕ). Positioned lent state i) (sym same) d.positioned)) ∙
        accepted-then _ _ _
        ((samples-judged.accepts tt).1 (subst (λ (i : List ℕ). count_of i ≤ length samples) (sym same) d.sampled)) ∙
        ap₂ (λ (n : ℕ) (l : List ℤ). accepted (record { yields = n; leaves = l }))
        (ap (λ (i : List ℕ). cycle_count i state) same ∙ rw d.positioned.stands (sym ran.1))
        (ap (λ (i : List ℕ). cycle_words i state samples) same ∙ rw d.positioned.stands (sym ran.0))

    cycle-refused : {f : Fault} → cycle_refused f → checked runs ≡ refused f
    cycle-refused (CycleRefusedAt.unready r) = checked-refuses runs r
    cycle-refused (CycleRefusedAt.outside usable none) =
        let same = lent-image usable.lends in
        usable-passes runs (usable-own usable) ∙
        refused-then _ _ _
        ((position-judged.refuses (fault 22 0)).1 (Only.only (subst (λ (i : List ℕ). ¬ Positioned lent state i) (sym same) none)))
    cycle-refused (CycleRefusedAt.unsampled usable positioned lt) =
        let same = lent-image usable.lends in
        usable-passes runs (usable-own usable) ∙
        accepted-then _ _ _
        ((position-judged.accepts tt).1 (subst (λ (i : List ℕ). Positioned lent state i) (sym same) positioned)) ∙
        refused-then _ _ _
        ((samples-judged.refuses (fault 23 0)).1 (Only.only (subst (λ (i : List ℕ). length samples < count_of i) (sym same) lt)))

    -- A cycle does its job, or is refused by 20 to 23, exactly under its condition.
    pub cycle-exactly : Exactly state cycle_done cycle_refused (cycle_of lent state samples)
    unfolding cycle_of
    cycle-exactly =
        exactly state cycle_done cycle_refused _
        (both_ways _ (checked-answers _ cycle_refused runs (λ g r. CycleRefusedAt.unready r) runs-answers) cycle-done
        (λ g r. cycle-refused r))
