-- What a cycle on an image that can be run answers and leaves. Assumes nothing.
use Prim.Native.Nat.{ℕ}
use mathlib.Core.List.{List}
use mathlib.Core.Path.{◌≡◌}
use borrow.Author.Tests.{lt-ltb, le-leb}
use lib.IntN.{ℤ}
use lib.ListN.{length}
use Rattle.model.specs.Rules.Machine.{count_of, cycle_words, cycle_count, cycle_of}
use Rattle.image_valid.specs.Lends.{Lends}
use Rattle.machine.specs.Runnable.{Runnable}
use Rattle.machine.proofs.Machine.{done, cycle-done}

pub runs_done : {lent image : List ℕ} {state samples : List ℤ} → Lends lent image → Runnable image state samples →
    cycle_of lent state samples ≡ done (cycle_count image state) (cycle_words image state samples)
runs_done {image = image} {state = state} {samples = samples} l r =
    cycle-done l state samples r.formed (lt-ltb (count_of image) (length state) r.long) r.position
    (le-leb (count_of image) (length samples) r.enough)
