-- Demand 2. Assumes nothing.
use Prim.Native.Nat.{ℕ, ◌+◌, ◌*◌}
use mathlib.Core.Path.{◌≡◌, refl, sym, ap, ◌∙◌}
use native.Mathlib.Omega.{arith}
use borrow.Author.Tests.{le-leb, lt-leb}
use lib.ListN.{length}
use Rattle.model.specs.Rules.Compile.{verdict_of, compile_of}
use Rattle.model.specs.Rules.Image.{image_of, written_of}
use Rattle.model.specs.Rules.Outcome.{◌▷◌, provided}
use Rattle.model.specs.Rules.Program.{Program, count}
use Rattle.model.specs.Rules.Schedule.{Schedule}
use Rattle.promises.specs.Exact.{Exact}
use Rattle.theorems_calls.specs.Exactness.{size_of}
use Rattle.model.proofs.Images.Stretches.{image-length, length-bytes}
use Rattle.model.proofs.Images.Tails.{tail-length, tail-tells, written-bears, written-length}
use Rattle.model.proofs.Pairs.Verdict.{pair-passed, pair-bounded}
use Rattle.model.proofs.Texts.Legal.{signal-label}
use Rattle.theorems_calls.proofs.CallsExact as CallsExact
use Rattle.theorems_calls.proofs.Numbers as Numbers
use Rattle.theorems_examples.proofs.Examples as Examples
use Rattle.theorems_images.proofs.FormedExactly as FormedExactly
use Rattle.theorems_images.proofs.Heights.{stack-31}
use Rattle.theorems_images.proofs.Offsets.{offsets-fit}
use Rattle.theorems_pairs.proofs.Exact as Pairs
use Rattle.theorems_pairs.proofs.Terms as Terms
use Rattle.theorems_streams.proofs.Demand as Demand

-- The length of an image with its tail.
both-length : (p : Program) (s : Schedule) (h : ℕ) → length (written_of p s h) ≡ length (image_of p s h) + 4 * count p
both-length p s h = written-length p s h ∙ ap (λ (n : ℕ). n + 4 * count p) (sym (image-length p s h))

pub exact : Exact
exact =
    record {
      accepted-exactly = Pairs.accepted-exactly;
      refused-exactly = Pairs.refused-exactly;
      terms-are = Terms.terms-are;
      one-image = λ program schedule bytes p s h e.
          let bounded = pair-bounded program schedule _ e bytes in
          unfold verdict_of compile_of ◌▷◌ provided written_of in
          (record {
            verdict = rw e;
            bound = omega (arith, image-length p s h, bounded.size);
            formed = Demand.image-formed program schedule bytes p s h e;
            stated = length-bytes p s h bounded;
            bears = written-bears p s h;
            four = tail-length p s;
            tells = λ x lt. tail-tells p s x lt (signal-label program p (pair-passed program schedule _ e).parses bytes x lt);
            offsets = offsets-fit p s h bounded;
            stack = stack-31 p s h bounded;
            written = λ buffer le. rw (e, both-length p s h, le-leb _ (length buffer) le);
            space = λ buffer lt. rw (e, both-length p s h, lt-leb _ (length buffer) lt);
          });
      well-formed-exactly = FormedExactly.well-formed-exactly;
      compile-exactly = CallsExact.compile-exactly;
      reset-exactly = CallsExact.reset-exactly;
      cycle-exactly = CallsExact.cycle-exactly;
      image-bytes = λ program schedule bytes q e buffer le.
          (((CallsExact.compile-exactly program schedule buffer).done (size_of q) _).1
          (record {
            pair = q;
            legal = (Pairs.accepted-exactly program schedule q).0 e;
            is = refl;
            fits = omega (arith, Numbers.size-most program schedule bytes q e);
            leaves = refl;
          })).0;
      examples = Examples.examples;
    }
