-- Two accepted schedules of one program that settle alike store the same words through the bytes of their images. Assumes
-- nothing.
use Prim.Native.Nat.{ℕ, zero, suc, ◌<◌}
use mathlib.Core.List.{List}
use mathlib.Core.Path.{◌≡◌, sym, ap, subst₂, ◌∙◌}
use lib.IntN.{ℤ, pos}
use lib.ListN.{length, get_or}
use Rattle.model.specs.Says.Feasible.{Feasible, Multiple}
use Rattle.model.specs.Says.Calls.{Call}
use Rattle.theorems_streams.specs.Held.{state_by, log_by}
use Rattle.model.specs.Rules.Image.{image_of}
use Rattle.theorems_streams.specs.Lists.{Agree, EndsWith}
use Rattle.model.specs.Rules.Program.{Program, count}
use Rattle.model.specs.Rules.Reads.{rate_of, stored}
use Rattle.model.specs.Rules.Schedule.{Schedule}
use Rattle.theorems_streams.proofs.Alike.{Alike, alike-words}
use Rattle.model.proofs.Images.Bounds.{Bounded}
use Rattle.theorems_streams.proofs.OnBytes.{words_of, view, list-shown}
use Rattle.model.proofs.Pairs.Rate.{stored-none, stored_some}

ends-stored : (p : Program) (s : Schedule) → Feasible p s → (c x j : ℕ) → x < count p → EndsWith p s c x j →
    stored (rate_of p s x) c ≡ j
ends-stored p s acc c x zero lt e = stored-none (rate_of p s x) c (acc.ordered.phases x lt) e
ends-stored p s acc c x (suc k) lt e = stored_some (rate_of p s x) c (acc.ordered.phases x lt) e.0 ∙ ap suc e.1

module _ (p : Program) (s s' : Schedule) (h : ℕ) (acc : Feasible p s) (acc' : Feasible p s') (whole : Multiple p h)
    (bounded : Bounded p s h) (bounded' : Bounded p s' h) (alike : Alike p s s') (old old' : List ℤ)
    (long : count p < length old) (long' : count p < length old') (cs cs' : List Call)
    (agree : Agree p s s' (log_by (image_of p s h) old cs) (log_by (image_of p s' h) old' cs')) where
  -- Where both lists end with as many elements of x stored, the initial word counted, its word is the same.
  stored-alike : (x : ℕ) → x < count p →
      stored (rate_of p s x) (length (log_by (image_of p s h) old cs)) ≡
      stored (rate_of p s' x) (length (log_by (image_of p s' h) old' cs')) →
      words_of (state_by (image_of p s h) old cs) x ≡ words_of (state_by (image_of p s' h) old' cs') x
  stored-alike x lt e =
      let shown = list-shown p s h acc whole bounded old long cs in
      let shown' = list-shown p s' h acc' whole bounded' old' long' cs' in
      ap (λ v. v.words x) shown.shows ∙
      alike-words p s s' h acc acc' whole alike (view old) (view old') cs cs'
      (subst₂ (Agree p s s') shown.logs shown'.logs agree) x lt
      (subst₂ (λ l l'. stored (rate_of p s x) (length l) ≡ stored (rate_of p s' x) (length l')) shown.logs shown'.logs e) ∙
      sym (ap (λ v. v.words x) shown'.shows)

  -- Where both end holding one entry of the history of x, its initial word included, it is the same word.
  pub entry-alike : (x j : ℕ) → x < count p → EndsWith p s (length (log_by (image_of p s h) old cs)) x j →
      EndsWith p s' (length (log_by (image_of p s' h) old' cs')) x j →
      get_or (state_by (image_of p s h) old cs) (suc x) (pos 0) ≡ get_or (state_by (image_of p s' h) old' cs') (suc x) (pos 0)
  entry-alike x j lt e e' =
      stored-alike x lt (ends-stored p s acc _ x j lt e ∙ sym (ends-stored p s' acc' _ x j lt e'))
