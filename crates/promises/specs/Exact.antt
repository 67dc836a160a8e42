-- Demand 2, exact: what is accepted and what is refused, the one image of an accepted pair, and each call as one statement.
use Rattle.std.specs.Prelude.{ℕ, ◌≤◌, true, List, ◌↔◌, ◌≡◌, ℤ, length}
use Rattle.model.specs.Rules.Compile.{Pair, pair_of, compile_of}
use Rattle.model.specs.Rules.Image.{image_of, tail_of}
use Rattle.model.specs.Rules.Machine.{well_formed, reset_of, cycle_of}
use Rattle.model.specs.Rules.Outcome.{accepted, refused}
use Rattle.model.specs.Rules.Program.{Program}
use Rattle.model.specs.Rules.Schedule.{Schedule}
use Rattle.model.specs.Rules.Word.{AreBytes}
use Rattle.model.specs.declared.Fault.{Fault}
use Rattle.theorems_calls.specs.Exactness.{
  Exactly,
  size_of,
  Compiles,
  CompileRefusedAt,
  Resets,
  ResetRefusedAt,
  Cycles,
  CycleRefusedAt,
}
use Rattle.theorems_examples.specs.Examples.{ExamplesHold}
use Rattle.theorems_images.specs.Images.{OneImage}
use Rattle.theorems_images.specs.WellFormed.{WellFormed}
use Rattle.theorems_pairs.specs.Conditions.{LegalPlaces, LegalPair}
use Rattle.theorems_pairs.specs.Refusals.{RefusedAt}
use Rattle.theorems_pairs.specs.Terms.{TermsAre}

pub record Exact : Type 0 where
  -- A pair of program and schedule is accepted exactly if the rules say so.
  pub accepted-exactly : (program schedule : List ℕ) (q : Pair) →
      (pair_of program schedule ≡ accepted q) ↔ LegalPair program schedule q
  -- The first fault met, left to right, is the one given: each refusal comes under its condition, in the stated order, and under
  -- no other.
  pub refused-exactly : (program schedule : List ℕ) (f : Fault) →
      (pair_of program schedule ≡ refused f) ↔ RefusedAt program schedule f
  -- The terms of these conditions are the paper's: exactly one read of the link before, what the PUTs say, put before, the
  -- summed weight of the signals that run in a cycle.
  pub terms-are : (program schedule : List ℕ) (p : Program) (h : ℕ) (s : Schedule) (c : LegalPlaces program schedule p h s) →
      TermsAre p c.puts.value s
  -- An accepted pair has one image, fixed to the byte: offsets count from byte 0, bytes 2-3 hold its length L, and compile writes
  -- it with its tail, or answers 17.
  pub one-image : (program schedule : List ℕ) → AreBytes program → (p : Program) (s : Schedule) (h : ℕ) →
      pair_of program schedule ≡ accepted (record { program = p; schedule = s; hypercycle = h }) →
      OneImage program schedule p s h (image_of p s h) (tail_of p s)
  -- Well formed: H 1 to 240, N up to 64, only the codes named here .., point by point. The test passes exactly these images.
  pub well-formed-exactly : (image : List ℕ) → (well_formed image ≡ true) ↔ WellFormed image
  -- A compile that accepts yields L + 4N, and buffer bytes past that stay. It is refused where the pair is, or by 17 where the
  -- buffer is shorter than that, after all of the above (L + 4N).
  pub compile-exactly : (program schedule buffer : List ℕ) →
      Exactly buffer (Compiles program schedule buffer) (CompileRefusedAt program schedule buffer)
      (compile_of program schedule buffer)
  -- Reset puts 0 in word 0 and each signal's initial word after it; it can give 20, 21, in this order.
  pub reset-exactly : (lent : List ℕ) (state : List ℤ) →
      Exactly state (Resets lent state) (ResetRefusedAt lent state) (reset_of lent state)
  -- A cycle runs the code of each signal in its position's list, in order, then moves the position on by one; it can give 20 to
  -- 23, in this order.
  pub cycle-exactly : (lent : List ℕ) (state samples : List ℤ) →
      Exactly state (Cycles lent state samples) (CycleRefusedAt lent state samples) (cycle_of lent state samples)
  -- 24,679 bytes, the header's LARDERLATE_IMAGE_BYTES, hold what compile writes for every accepted pair.
  pub image-bytes : (program schedule : List ℕ) → AreBytes program → (q : Pair) → pair_of program schedule ≡ accepted q →
      (buffer : List ℕ) → 24679 ≤ length buffer → (compile_of program schedule buffer).answer ≡ accepted (size_of q)
  -- The examples marked m, as one table.
  pub examples : ExamplesHold
