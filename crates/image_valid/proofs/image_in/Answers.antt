-- `image_valid::image_in` meets its contract. Assumes nothing.
use native.Mathlib.Omega.{arith}
use lib.ListN.{length-take}
use Rattle.image_valid.proofs.image_in.Goals as goal

pub slice_bounds-result-end : goal.slice_bounds-result-end
slice_bounds-result-end c = simp length-take (omega (arith, c.image_length-length.ensures.0))

pub returns : goal.returns
returns c = c.image_length-length.ensures.1
