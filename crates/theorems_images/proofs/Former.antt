-- An image from before request j has no table, and no call takes it, with its tail or without. Assumes nothing.
use Prim.Native.Nat.{ℕ}
use mathlib.Core.Bool.{false}
use mathlib.Core.List.{List}
use mathlib.Core.Path.{◌≡◌, subst}
use native.Mathlib.Omega.{arith}
use Rattle.model.specs.Rules.Machine.{table_offset, image_part, lent_ok}
use Rattle.model.specs.Rules.Tail.{Bears}
use Rattle.theorems_images.specs.Tables.{WithoutTable}
use Rattle.theorems_images.specs.WellFormed.{WellFormed}
use Rattle.model.proofs.Basics.Outcomes.{not-true-false}
use Rattle.model.proofs.Images.Tails.{Headed, part-here, lent-formed}
use Rattle.theorems_images.proofs.FormedExactly.{code-start, well-formed-exactly}

-- It is not well formed: between lists and code a count byte is wanted.
unformed : (image : List ℕ) → WithoutTable image → ¬ WellFormed image
unfolding table_offset
unformed image o f = omega (arith, o.adjacent, code-start image f)

pub not-lent : {image tail lent : List ℕ} → WithoutTable image → Bears image tail lent → lent_ok lent ≡ false
not-lent {image} {lent = lent} o b = not-true-false (lent_ok lent) (λ e.
    let head : Headed image = record { four = o.four; stated = o.stated } in
    unformed image o (subst WellFormed (part-here head b) ((well-formed-exactly (image_part lent)).0 (lent-formed lent e))))
