-- The reads that stand in an expression are its reads. Assumes nothing.
use mathlib.Core.List.{◌++◌}
use mathlib.Core.Logic.{◌⊎◌, inl, inr}
use mathlib.Core.Path.{refl, subst}
use Rattle.model.specs.Rules.Program.{Expr, constant, read, binary, unary, choose, Read, reads_of}
use Rattle.theorems_pairs.specs.Conditions.{◌among◌}
use Rattle.theorems_pairs.specs.Subexpression.{Subexpression}
use Rattle.theorems_pairs.proofs.Faults.{among-append, append_left, append_right}

pub among-part : (e : Expr) (ρ : Read) → ρ among reads_of e → Subexpression (read ρ) e
unfolding reads_of
among-part (constant _) ρ m = elim m [ ]
among-part (read σ) ρ (◌among◌.later m) = elim m [ ]
among-part (read σ) ρ (◌among◌.here e) = subst (λ (τ : Read). Subexpression (read ρ) (read τ)) e Subexpression.whole
among-part (binary operator x y) ρ m = go (among-append ρ (reads_of x) (reads_of y) m) (among-part x ρ) (among-part y ρ)
  where
    go : (ρ among reads_of x) ⊎ (ρ among reads_of y) → (ρ among reads_of x → Subexpression (read ρ) x) →
        (ρ among reads_of y → Subexpression (read ρ) y) → Subexpression (read ρ) (binary operator x y)
    go (inl n) f g = Subexpression.left (f n)
    go (inr n) f g = Subexpression.right (g n)
among-part (unary operator x) ρ m = Subexpression.under (among-part x ρ m)
among-part (choose x y z) ρ m =
    go (among-append ρ (reads_of x) (reads_of y ++ reads_of z) m) (among-part x ρ) (among-part y ρ) (among-part z ρ)
  where
    branch : (ρ among reads_of y) ⊎ (ρ among reads_of z) → (ρ among reads_of y → Subexpression (read ρ) y) →
        (ρ among reads_of z → Subexpression (read ρ) z) → Subexpression (read ρ) (choose x y z)
    branch (inl n) f g = Subexpression.first (f n)
    branch (inr n) f g = Subexpression.second (g n)

    go : (ρ among reads_of x) ⊎ (ρ among (reads_of y ++ reads_of z)) → (ρ among reads_of x → Subexpression (read ρ) x) →
        (ρ among reads_of y → Subexpression (read ρ) y) → (ρ among reads_of z → Subexpression (read ρ) z) →
        Subexpression (read ρ) (choose x y z)
    go (inl n) f g k = Subexpression.condition (f n)
    go (inr n) f g k = branch (among-append ρ (reads_of y) (reads_of z) n) g k

pub part-among : (e : Expr) (ρ : Read) → Subexpression (read ρ) e → ρ among reads_of e
unfolding reads_of
part-among (constant _) σ m = elim m [ ]
part-among (read ρ) σ Subexpression.whole = ◌among◌.here refl
part-among (binary operator x y) ρ (Subexpression.left s) = append_left ρ (reads_of x) (reads_of y) (part-among x ρ s)
part-among (binary operator x y) ρ (Subexpression.right s) = append_right ρ (reads_of x) (reads_of y) (part-among y ρ s)
part-among (unary operator x) ρ (Subexpression.under s) = part-among x ρ s
part-among (choose x y z) ρ (Subexpression.condition s) =
    append_left ρ (reads_of x) (reads_of y ++ reads_of z) (part-among x ρ s)
part-among (choose x y z) ρ (Subexpression.first s) =
    append_right ρ (reads_of x) (reads_of y ++ reads_of z) (append_left ρ (reads_of y) (reads_of z) (part-among y ρ s))
part-among (choose x y z) ρ (Subexpression.second s) =
    append_right ρ (reads_of x) (reads_of y ++ reads_of z) (append_right ρ (reads_of y) (reads_of z) (part-among z ρ s))
