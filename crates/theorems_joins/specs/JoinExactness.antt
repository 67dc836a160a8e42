-- When join does its job, when it is refused and naming which part, and what it leaves.
use Rattle.std.specs.Prelude.{Option, None, ℕ, ◌<◌, List, ◌↔◌, ◌≡◌, length}
use Rattle.model.specs.Rules.Compile.{Pair}
use Rattle.model.specs.Rules.Join.{part_named, join_of}
use Rattle.model.specs.Rules.Outcome.{accepted, refused, fault}
use Rattle.model.specs.declared.Fault.{Fault}
use Rattle.theorems_calls.specs.Exactness.{size_of, Writes}
use Rattle.theorems_joins.specs.Join.{JoinLegal, JoinRefused}

module _ (buffer numbers links image : List ℕ) where
  -- Join is done.
  abbrev pub Joins : ℕ → List ℕ → Type 0
  Joins = Writes (JoinLegal buffer numbers links) image

  -- It is refused, naming part k or none.
  pub data JoinRefusedAt : Option ℕ → Fault → Type 0 where
    pair : {k : Option ℕ} {f : Fault} → JoinRefused buffer numbers links k f → JoinRefusedAt k f
    space : {q : Pair} → JoinLegal buffer numbers links q → length image < size_of q → JoinRefusedAt None (fault 17 (size_of q))

  -- Join yields n and leaves `left` exactly if `Joins` says so. It is refused with f, naming part k or none, exactly if
  -- `JoinRefusedAt` says so, and then leaves what was lent.
  pub record JoinExactly : Type 0 where
    pub done : (n : ℕ) (left : List ℕ) →
        (((join_of buffer numbers links image).answer ≡ accepted n) × ((join_of buffer numbers links image).left ≡ left)) ↔
        Joins n left
    pub refuses : (k : Option ℕ) (f : Fault) (left : List ℕ) →
        (((join_of buffer numbers links image).answer ≡ refused f) × ((join_of buffer numbers links image).left ≡ left) ×
        (part_named buffer numbers ≡ k)) ↔
        (JoinRefusedAt k f × (left ≡ image))
