-- What join answers and leaves, by its tests. Assumes nothing.
use Prim.Native.Nat.{ℕ, ◌≤◌, ◌<◌}
use mathlib.Core.List.{List, ◌++◌}
use mathlib.Core.Path.{◌≡◌, refl, sym, ap, ◌∙◌}
use borrow.Author.Tests.{le-leb, lt-leb}
use lib.ListN.{length, drop}
use Rattle.model.specs.Rules.Image.{written_of, written_length}
use Rattle.model.specs.Rules.Join.{joined_pair_of, join_of}
use Rattle.model.specs.Rules.Outcome.{accepted, refused, refuse, ◌▷◌, provided}
use Rattle.model.specs.declared.Fault.{Fault}
use Rattle.image_write.proofs.Written.{long}
use Rattle.join_verdict.specs.declared.Verdict.{Verdict}
use Rattle.join.specs.Ready.{JoinReady}
use Rattle.join.proofs.Written.{joined_program, joined_schedule, written_is}

module _ (texts numbers links image : List ℕ) where
  pub join-refused : (f : Fault) → joined_pair_of texts numbers links ≡ refused f →
      (refused f ≡ (join_of texts numbers links image).answer) × (image ≡ (join_of texts numbers links image).left)
  unfolding join_of ◌▷◌
  join-refused f e = rw e (refl, refl)

  -- An accepted join, whose image with its tail has n bytes.
  module _ {r : Verdict} (ready : JoinReady texts numbers links r) (n : ℕ)
      (size : n ≡ written_length (joined_program ready) (joined_schedule ready) r.hypercycle) where
    size_is : length (written_of ready.pair.program ready.pair.schedule ready.pair.hypercycle) ≡ n
    size_is =
        ap length (written_is ready) ∙ long (joined_program ready) (joined_schedule ready) r.hypercycle n image size

    pub join-short : length image < n →
        (refuse 17 n ≡ (join_of texts numbers links image).answer) × (image ≡ (join_of texts numbers links image).left)
    unfolding join_of provided ◌▷◌
    join-short lt = rw (ready.accepts, size_is, lt-leb n (length image) lt) (refl, refl)

    module _ (le : n ≤ length image) where
      pub join-answer : accepted n ≡ (join_of texts numbers links image).answer
      unfolding join_of provided ◌▷◌
      join-answer = rw (ready.accepts, size_is, le-leb n (length image) le) refl

      pub join-left : {after : List ℕ} →
          after ≡ written_of (joined_program ready) (joined_schedule ready) r.hypercycle ++ drop n image →
          after ≡ (join_of texts numbers links image).left
      unfolding join_of provided ◌▷◌
      join-left e =
          rw (ready.accepts, size_is, le-leb n (length image) le)
          (e ∙ ap (λ (l : List ℕ). l ++ drop n image) (sym (written_is ready)))
