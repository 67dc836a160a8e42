-- What compile answers and leaves, by its tests. Assumes nothing.
use Prim.Native.Nat.{ℕ, ◌≤◌, ◌<◌}
use mathlib.Core.List.{List, ◌++◌}
use mathlib.Core.Path.{◌≡◌, refl, sym, ap, ◌∙◌}
use borrow.Author.Tests.{le-leb, lt-leb}
use lib.ListN.{length, drop}
use Rattle.model.specs.Rules.Compile.{Pair, pair_of, verdict_of, compile_of}
use Rattle.model.specs.Rules.Image.{written_of, written_length}
use Rattle.model.specs.Rules.Outcome.{accepted, refused, refuse, ◌▷◌, provided}
use Rattle.model.specs.declared.Fault.{Fault}
use Rattle.image_write.proofs.Written.{long}

module _ (program schedule buffer : List ℕ) where
  pub compile-refused : (f : Fault) → pair_of program schedule ≡ refused f →
      (refused f ≡ (compile_of program schedule buffer).answer) × (buffer ≡ (compile_of program schedule buffer).left)
  unfolding compile_of verdict_of ◌▷◌
  compile-refused f e = rw e (refl, refl)

  -- An accepted pair, whose image with its tail has n bytes.
  module _ (q : Pair) (h n : ℕ) (pair : pair_of program schedule ≡ accepted q) (hyper : h ≡ q.hypercycle)
      (size : n ≡ written_length q.program q.schedule h) where
    size_is : length (written_of q.program q.schedule q.hypercycle) ≡ n
    size_is =
        ap (λ (k : ℕ). length (written_of q.program q.schedule k)) (sym hyper) ∙
        long q.program q.schedule h n buffer size

    pub compile-short : length buffer < n →
        (refuse 17 n ≡ (compile_of program schedule buffer).answer) × (buffer ≡ (compile_of program schedule buffer).left)
    unfolding compile_of verdict_of provided ◌▷◌
    compile-short lt = rw (pair, size_is, lt-leb n (length buffer) lt) (refl, refl)

    pub compile-done : n ≤ length buffer → {after : List ℕ} →
        after ≡ written_of q.program q.schedule h ++ drop n buffer →
        (accepted n ≡ (compile_of program schedule buffer).answer) × (after ≡ (compile_of program schedule buffer).left)
    unfolding compile_of verdict_of provided ◌▷◌
    compile-done le e =
        rw (pair, size_is, le-leb n (length buffer) le)
        (refl, e ∙ ap (λ (k : ℕ). written_of q.program q.schedule k ++ drop n buffer) hyper)
