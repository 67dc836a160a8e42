-- A cycle moves the position within the hypercycle, and keeps the number of words. Assumes nothing.
use Prim.Native.Nat.{ℕ, ◌+◌, ◌<◌}
use mathlib.Core.Bool.{Bool, true, false, cond}
use mathlib.Core.List.{List, [], ◌∷◌}
use mathlib.Core.Path.{◌≡◌, refl, ◌∙◌}
use native.Mathlib.Omega.{arith}
use borrow.Author.Tests.{ltb-true, eqb-false}
use lib.Dec.{eqb}
use lib.IntN.{ℤ, pos, negsuc}
use lib.ListN.{length, length-set}
use Rattle.model.specs.Rules.Machine.{run_signals, is_position, position_of, cycle_words, next_position}

pub position-is : (h : ℕ) (w : ℤ) → is_position h w ≡ true → (w ≡ pos (position_of w)) × (position_of w < h)
position-is h (pos c) e = (refl, ltb-true c h e)
position-is h (negsuc c) e = let z : ◌≡◌ {A = ℕ} 0 1 = cc in absurd (omega arith)

pub next-inside : (h c : ℕ) → c < h → next_position h c < h
unfolding next_position
next-inside h c lt = go (eqb (c + 1) h) refl
  where
    go : (b : Bool) → eqb (c + 1) h ≡ b → cond b 0 (c + 1) < h
    go true e = omega arith
    go false e = omega (arith, eqb-false (c + 1) h e)

pub run_length : (image xs : List ℕ) (samples state : List ℤ) → length (run_signals image xs samples state) ≡ length state
unfolding run_signals
run_length image [] samples state = refl
run_length image (x ∷ xs) samples state = run_length image xs samples _ ∙ length-set state (x + 1) _

pub cycle-length : (image : List ℕ) (state samples : List ℤ) → length (cycle_words image state samples) ≡ length state
unfolding cycle_words
cycle-length image state samples = simp (length-set, run_length)
