-- Two schedules of one program that settle alike store the same words, lent their images with a tail or without. Assumes nothing.
use Prim.Native.Nat.{ℕ}
use mathlib.Core.List.{List}
use mathlib.Core.Path.{subst, subst₂}
use lib.IntN.{ℤ}
use lib.ListN.{length}
use Rattle.model.specs.Says.Feasible.{Feasible, Multiple}
use Rattle.model.specs.Rules.Image.{image_of}
use Rattle.model.specs.Rules.Program.{Program}
use Rattle.model.specs.Rules.Schedule.{Schedule}
use Rattle.theorems_streams.specs.Lists.{SettleAlike, Agree, EndsWith, SameWords}
use Rattle.model.proofs.Images.Bounds.{Bounded}
use Rattle.theorems_streams.proofs.Alike.{open-alike}
use Rattle.theorems_streams.proofs.AlikeBytes.{entry-alike}
use Rattle.theorems_streams.proofs.Lending as Lending

pub words-alike : (p : Program) (s s' : Schedule) (h : ℕ) → Feasible p s → Feasible p s' → Multiple p h → Bounded p s h →
    Bounded p s' h → SettleAlike p s s' → SameWords p s s' (image_of p s h) (image_of p s' h)
words-alike p s s' h acc acc' whole bounded bounded' alike tail tail' lent lent' b b' old old' r r' cs cs' agree x j lt
    ends ends' =
    let log = Lending.log-alike p s h acc whole bounded b old cs in
    let log' = Lending.log-alike p s' h acc' whole bounded' b' old' cs' in
    rw (
      Lending.state-alike p s h acc whole bounded b old cs,
      Lending.state-alike p s' h acc' whole bounded' b' old' cs',
    )
    (entry-alike p s s' h acc acc' whole bounded bounded' (open-alike p s s' alike) old old'
    (Lending.lent-long p s h acc whole bounded b old r) (Lending.lent-long p s' h acc' whole bounded' b' old' r') cs cs'
    (subst₂ (Agree p s s') log log' agree) x j lt
    (subst (λ (l : List (List ℤ)). EndsWith p s (length l) x j) log ends)
    (subst (λ (l : List (List ℤ)). EndsWith p s' (length l) x j) log' ends'))
