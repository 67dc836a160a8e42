-- `image_valid_code::ceilings` meets its contract. Assumes nothing.
use Prim.Native.Nat.{ℕ, ◌-◌, ◌<◌}
use mathlib.Core.Bool.{Bool, true, false}
use mathlib.Core.Path.{◌≡◌, refl, ◌∙◌}
use borrow.Author.Tests.{eqb-true, eqb-false}
use lib.Dec.{eqb}
use lib.ListN.{get_or, set, replicate, get_or-replicate}
use lib.Seq.{get_or-set_other}
use Rattle.image_valid_code.specs.Shape.{ceiling_of, Ceilings}
use Rattle.image_valid_code.proofs.ceilings.Goals as goal

with-load : (n : ℕ) → Ceilings n (set (replicate 256 255) 0x51 (n - 1))
unfolding ceiling_of
with-load n = record { entry = λ b lt. go b lt (eqb b 0x51) refl }
  where
    go : (b : ℕ) → b < 256 → (t : Bool) → eqb b 0x51 ≡ t → get_or (set (replicate 256 255) 0x51 (n - 1)) b 0 ≡ ceiling_of n b
    go b lt true e = rw (eqb-true b 0x51 e) refl
    go b lt false e =
        rw e (get_or-set_other (replicate 256 255) 0x51 b (n - 1) 0 (eqb-false b 0x51 e) ∙ get_or-replicate 256 b 255 0 lt)

pub returns : goal.returns
returns c = with-load c.args.n
