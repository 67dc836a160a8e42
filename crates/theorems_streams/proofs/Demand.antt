-- Demand 3 of an accepted pair of texts, lent its image with a tail or without. Assumes nothing.
use Prim.Native.Nat.{ℕ, ◌<◌}
use mathlib.Core.Bool.{true}
use mathlib.Core.List.{List}
use mathlib.Core.Path.{◌≡◌}
use lib.IntN.{ℤ}
use lib.ListN.{length}
use Rattle.model.specs.Says.Feasible.{Feasible, Multiple}
use Rattle.model.specs.Says.Calls.{Call}
use Rattle.model.specs.Rules.Compile.{pair_of}
use Rattle.model.specs.Rules.Image.{image_of}
use Rattle.model.specs.Rules.Machine.{well_formed, reset_of}
use Rattle.model.specs.Rules.Outcome.{accepted, ◌▷◌}
use Rattle.model.specs.Rules.Program.{Program, count}
use Rattle.model.specs.Rules.Report.{report_of}
use Rattle.model.specs.Rules.Schedule.{Schedule}
use Rattle.model.specs.Rules.Tail.{Bears}
use Rattle.model.specs.Rules.Word.{AreBytes}
use Rattle.theorems_streams.specs.Held.{state_by, log_by}
use Rattle.theorems_streams.specs.Lists.{KeptBy}
use Rattle.model.proofs.Images.Bounds.{Bounded}
use Rattle.model.proofs.Pairs.Verdict.{pair-accepted, pair-multiple, pair-bounded}
use Rattle.theorems_streams.proofs.Lending as Lending

module _ (program schedule : List ℕ) (bytes : AreBytes program) (p : Program) (s : Schedule) (h : ℕ)
    (e : pair_of program schedule ≡ accepted (record { program = p; schedule = s; hypercycle = h })) where
  pub accepts : Feasible p s
  accepts = pair-accepted program schedule _ e

  pub whole : Multiple p h
  whole = pair-multiple program schedule _ e

  pub bounded : Bounded p s h
  bounded = pair-bounded program schedule _ e bytes

  pub image-formed : well_formed (image_of p s h) ≡ true
  image-formed = Lending.image-formed p s h accepts whole bounded

  -- What is lent bears the pair's image.
  module _ {tail lent : List ℕ} (bears : Bears (image_of p s h) tail lent) where
    pub lent-long : (old : List ℤ) → (reset_of lent old).answer ≡ accepted 0 → count p < length old
    lent-long = Lending.lent-long p s h accepts whole bounded bears

    pub state-alike : (old : List ℤ) (cs : List Call) → state_by lent old cs ≡ state_by (image_of p s h) old cs
    state-alike = Lending.state-alike p s h accepts whole bounded bears

    pub log-alike : (old : List ℤ) (cs : List Call) → log_by lent old cs ≡ log_by (image_of p s h) old cs
    log-alike = Lending.log-alike p s h accepts whole bounded bears

    pub calls-hold : (old : List ℤ) → (reset_of lent old).answer ≡ accepted 0 → (cs : List Call) →
        KeptBy program schedule p s h lent old cs
    unfolding report_of ◌▷◌
    calls-hold old r cs =
        let long = lent-long old r in
        record {
          answered = λ counts. rw e (Lending.list-answered p s h accepts whole bounded bears old long cs);
          holds = Lending.list-holds p s h accepts whole bounded bears old long cs;
        }
