-- `image_valid_code::plain_shapes` meets its contract. Assumes nothing.
use Prim.Native.Nat.{ℕ}
use mathlib.Core.Bool.{Bool, false}
use lib.Dec.{T, eqb, eqb→eq}
use lib.ListN.{length, get_or}
use mathlib.Core.Path.{◌≡◌, refl}
use mathlib.Core.List.{List}
use Rattle.image_valid_code.specs.Shape.{shape_of, Shapes}
use Rattle.image_valid_code.proofs.Table.{every, at}
use Rattle.image_valid_code.proofs.plain_shapes.Goals as goal

-- an entry of the table is right
right : ℕ → ℕ → Bool
right b x = eqb x (shape_of false b)

whole : (table : List ℕ) → T (every right 0 table) → length table ≡ 256 → Shapes false table
unfolding right
whole table t e = record { entry = λ b h. eqb→eq (get_or table b 0) (shape_of false b) (at right table t b (rw e h)) }

pub returns : goal.returns
unfolding right shape_of
returns c = whole _ tt refl
