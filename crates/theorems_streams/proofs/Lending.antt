-- Demand 3 of a pair that is feasible and within bounds, lent its image with a tail or without. Assumes nothing.
use Prim.Native.Nat.{ℕ, ◌<◌}
use mathlib.Core.Bool.{Bool, true, false}
use mathlib.Core.List.{List, []}
use mathlib.Core.Path.{◌≡◌, refl, sym, ap, subst, ◌∙◌}
use native.Mathlib.Omega.{arith}
use borrow.Author.Tests.{ltb-true}
use lib.Dec.{ltb}
use lib.IntN.{ℤ}
use lib.ListN.{length, take}
use Rattle.model.specs.Says.Feasible.{Feasible, Multiple}
use Rattle.model.specs.Says.Calls.{Call, call_of, after, log_after}
use Rattle.model.specs.Rules.Image.{image_of}
use Rattle.model.specs.Rules.Machine.{Effect, effect, well_formed, reset_words, reset_of}
use Rattle.model.specs.Rules.Outcome.{accepted, ◌▷◌, provided}
use Rattle.model.specs.Rules.Program.{Program, count}
use Rattle.model.specs.Rules.Reads.{settled}
use Rattle.model.specs.Rules.Report.{counts_of}
use Rattle.model.specs.Rules.Schedule.{Schedule}
use Rattle.model.specs.Rules.Tail.{Bears}
use Rattle.theorems_streams.specs.Held.{answers_of, state_by, log_by, answers_by, Answered, Supplied, Holds}
use Rattle.theorems_streams.specs.Lists.{Lent, after_reset, owns, left_all, own_answers, own_log, OwnsBear, OthersRefused}
use Rattle.theorems_streams.specs.Streams.{Satisfies}
use Rattle.model.proofs.Images.Bounds.{Bounded}
use Rattle.model.proofs.Images.Formed.{image-well-formed}
use Rattle.model.proofs.Images.Stretches.{image-count}
use Rattle.model.proofs.Images.Tails as Tails
use Rattle.theorems_streams.proofs.Among.{others-nothing}
use Rattle.theorems_streams.proofs.OnBytes as OnBytes
use Rattle.theorems_streams.proofs.Tailed

module _ (p : Program) (s : Schedule) (h : ℕ) (accepts : Feasible p s) (whole : Multiple p h) (bounded : Bounded p s h) where
  pub image-formed : well_formed (image_of p s h) ≡ true
  image-formed = image-well-formed p s h accepts whole bounded

  reset-long : (old : List ℤ) → (reset_of (image_of p s h) old).answer ≡ accepted 0 → count p < length old
  unfolding reset_of ◌▷◌ provided
  reset-long old r =
      let own = Tails.bears-itself (image_of p s h) in
      go (ltb (count p) (length old)) refl
      (rw (Tails.lent-ok image-formed own, Tails.part-is image-formed own, image-count p s h) at r)
    where
      go : (b : Bool) → ltb (count p) (length old) ≡ b →
          (effect {Y = ℕ} old (provided b 21 0 ▷ λ _. accepted (record { yields = 0; leaves = reset_words (image_of p s h) old }))
          ).answer ≡
          accepted 0 → count p < length old
      go true q t = ltb-true (count p) (length old) q
      go false q t = let z : ◌≡◌ {A = ℕ} 0 1 = cc in absurd (omega arith)

  -- What is lent bears the pair's image.
  module _ {tail lent : List ℕ} (bears : Bears (image_of p s h) tail lent) where
    reset-alike : (old : List ℤ) → reset_of lent old ≡ reset_of (image_of p s h) old
    unfolding call_of
    reset-alike old = Tailed.call-alike image-formed bears old Call.reset

    pub lent-long : (old : List ℤ) → (reset_of lent old).answer ≡ accepted 0 → count p < length old
    lent-long old r = reset-long old (sym (ap (λ (x : Effect ℕ ℤ). x.answer) (reset-alike old)) ∙ r)

    pub state-alike : (old : List ℤ) (cs : List Call) → state_by lent old cs ≡ state_by (image_of p s h) old cs
    state-alike old cs =
        Tailed.list-alike image-formed bears _ cs ∙
        ap (λ (x : Effect ℕ ℤ). after (image_of p s h) x.left cs) (reset-alike old)

    pub log-alike : (old : List ℤ) (cs : List Call) → log_by lent old cs ≡ log_by (image_of p s h) old cs
    log-alike old cs =
        Tailed.log-alike image-formed bears _ [] cs ∙
        ap (λ (x : Effect ℕ ℤ). log_after (image_of p s h) x.left [] cs) (reset-alike old)

    answers-alike : (old : List ℤ) (cs : List Call) → answers_by lent old cs ≡ answers_by (image_of p s h) old cs
    answers-alike old cs =
        Tailed.answers-alike image-formed bears _ cs ∙
        ap (λ (x : Effect ℕ ℤ). answers_of (image_of p s h) x.left cs) (reset-alike old)

    pub list-answered : (old : List ℤ) → count p < length old → (cs : List Call) →
        Answered p h (counts_of p s h) 0 cs (answers_by lent old cs) (length (log_by lent old cs))
    list-answered old long cs =
        rw (answers-alike old cs, log-alike old cs) (OnBytes.list-answered p s h accepts whole bounded old long cs)

    pub list-holds : (old : List ℤ) → count p < length old → (cs : List Call) (inputs X : ℕ → ℕ → ℤ) →
        Supplied p s (log_by lent old cs) inputs → Satisfies p (settled p s) inputs X →
        Holds p s h X old (length (log_by lent old cs)) (state_by lent old cs)
    list-holds old long cs inputs X sup sat =
        let log = log-alike old cs in
        rw (log, state-alike old cs)
        (OnBytes.calls-hold p s h accepts whole bounded old long cs inputs X
        (subst (λ (l : List (List ℤ)). Supplied p s l inputs) log sup) sat)

  -- A list with calls in between that are lent something else and are refused is the list without them, lent the image alone.
  module _ (size : ℕ) (buffer : List ℕ) {tail : List ℕ} (bears : Bears (image_of p s h) tail (take size buffer))
      (old : List ℤ) where
    pub reset-itself : (reset_of (take size buffer) old).answer ≡ accepted 0 → (reset_of (image_of p s h) old).answer ≡ accepted 0
    reset-itself r = sym (ap (λ (x : Effect ℕ ℤ). x.answer) (reset-alike bears old)) ∙ r

    pub among : (ls : List Lent) → OwnsBear (image_of p s h) buffer ls →
        let m = after_reset size buffer old in
        OthersRefused m ls →
        (own_answers m ls ≡ answers_by (image_of p s h) old (owns ls)) × (own_log m [] ls ≡ log_by (image_of p s h) old (owns ls)) ×
        ((left_all m ls).state ≡ state_by (image_of p s h) old (owns ls))
    among ls own others =
        let image = image_of p s h in
        let e = reset-alike bears old in
        let a = others-nothing image-formed (after_reset size buffer old) [] ls own others in (
          a.answers ∙ ap (λ (x : Effect ℕ ℤ). answers_of image x.left (owns ls)) e,
          a.logs ∙ ap (λ (x : Effect ℕ ℤ). log_after image x.left [] (owns ls)) e,
          a.state ∙ ap (λ (x : Effect ℕ ℤ). after image x.left (owns ls)) e,
        )
