-- What a cycle leaves can be run again, and so can what a reset leaves. Assumes nothing.
use Prim.Native.Nat.{ℕ, ◌≤◌, ◌<◌}
use mathlib.Core.Bool.{true}
use mathlib.Core.List.{List}
use mathlib.Core.Path.{◌≡◌, ap}
use native.Mathlib.Omega.{arith}
use borrow.Author.Tests.{lt-ltb, le-leb}
use lib.IntN.{ℤ, pos}
use lib.ListN.{length, get_or, length-append, length-drop}
use lib.Seq.{get_or-set_same}
use Rattle.model.specs.Says.Calls.{cycle, call_of}
use Rattle.model.specs.Rules.Machine.{
  hyper_of,
  count_of,
  well_formed,
  position_of,
  next_position,
  list_of,
  run_signals,
  cycle_words,
  reset_words,
  Effect,
}
use Rattle.model.proofs.Images.Cycles.{position-is, next-inside, run_length, cycle-length}
use Rattle.model.proofs.Basics.Outcomes.{table-length}
use Rattle.image_valid.proofs.Parts.{head, formed}
use Rattle.machine.specs.Runnable.{Runnable}
use Rattle.machine.proofs.Machine.{cycle-done, lends-itself}

cycle-first : (image : List ℕ) (state samples : List ℤ) → 0 < length state →
    get_or (cycle_words image state samples) 0 (pos 0) ≡ pos (next_position (hyper_of image) (position_of (get_or state 0 (pos 0))))
unfolding cycle_words
cycle-first image state samples h =
    let c = position_of (get_or state 0 (pos 0)) in
    get_or-set_same (run_signals image (list_of image c) samples state) 0 (pos (next_position (hyper_of image) c)) (pos 0)
    (omega (arith, run_length image (list_of image c) samples state))

module _ {image : List ℕ} {state samples : List ℤ} (r : Runnable image state samples) where
  pub stays-runnable : Runnable image (cycle_words image state samples) samples
  stays-runnable =
      let c = position_of (get_or state 0 (pos 0)) in
      record {
        formed = r.formed;
        long = rw (cycle-length image state samples) r.long;
        position =
            rw (cycle-first image state samples (omega (arith, r.long)))
            (lt-ltb (next_position (hyper_of image) c) (hyper_of image)
            (next-inside (hyper_of image) c (position-is (hyper_of image) (get_or state 0 (pos 0)) r.position).1));
        enough = r.enough;
      }

  -- A cycle call that is not refused leaves the words of the cycle.
  pub cycle-leaves : (call_of image state (cycle samples)).left ≡ cycle_words image state samples
  unfolding call_of
  cycle-leaves =
      ap (λ (e : Effect ℕ ℤ). e.left)
      (cycle-done (lends-itself r.formed) state samples r.formed (lt-ltb (count_of image) (length state) r.long)
      r.position
      (le-leb (count_of image) (length samples) r.enough))

-- A reset of a well-formed image that is not refused: with 64 samples the state that it leaves can be run.
pub reset-runnable : (image : List ℕ) (old samples : List ℤ) → well_formed image ≡ true → count_of image < length old →
    64 ≤ length samples →
    Runnable image (reset_words image old) samples
unfolding reset_words
reset-runnable image old samples f l h =
    let top = head image (formed image f).good in
    record {
      formed = f;
      long = simp (length-append, length-drop, table-length) (omega (arith, l));
      position = lt-ltb 0 (hyper_of image) top.some;
      enough = omega (arith, top.signals);
    }
