-- `image_code::put_operator` meets its contract. Assumes nothing.
use mathlib.Core.Path.{refl}
use native.Mathlib.Omega.{arith}
use Rattle.image_code.proofs.put_operator.Goals as goal

pub returns : goal.returns
returns c = record { goes = refl; ends = omega arith; holds = refl }
