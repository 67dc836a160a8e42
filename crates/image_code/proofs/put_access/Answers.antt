-- `image_code::put_access` meets its contract. Assumes nothing.
use native.Mathlib.Omega.{arith}
use native.Mathlib.Numerals.{towards_suc}
use mathlib.Core.Path.{refl}
use lib.ListN.{length-set}
use Rattle.image_code.proofs.put_access.Goals as goal

pub returns : goal.returns
returns c = record { goes = refl; ends = omega arith; holds = simp towards_suc }

pub bounds-out-to-2 : goal.bounds-out-to-2
bounds-out-to-2 c = simp length-set (omega arith)
