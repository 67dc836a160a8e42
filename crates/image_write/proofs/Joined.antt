-- Lists of a table joined, and their offsets, list by list. Assumes nothing.
use Prim.Native.Nat.{ℕ, zero, suc, ◌+◌, ◌-◌, ◌*◌, ◌≤◌, ◌<◌}
use mathlib.Core.List.{List, [], ◌∷◌, ◌++◌}
use mathlib.Core.Path.{◌≡◌, refl, ap, ◌∙◌}
use native.Mathlib.Omega.{arith}
use lib.ListN.{length, get_or, length-append}
use Rattle.model.specs.Rules.Image.{joined, offsets}
use Rattle.model.specs.Rules.Search.{table, table_from, join_from}
use Rattle.model.specs.Rules.Word.{two_bytes}
use Rattle.image_write.specs.Lists.{is_due, list_by, lists_by, pairs}
use Rattle.model.proofs.Images.Stretches.{joined-cons}
use Rattle.model.proofs.Basics.Outcomes.{table-length}
use Rattle.model.proofs.Basics.Left.{Parts}
use Rattle.model.proofs.Basics.All.{chosen-length}
use Rattle.image_write.proofs.Listed.{table-starts, table_step, table-ends}

-- Where the number is not looked at, it does not matter where the count starts.
pub join-any : {A B : Type 0} (f : A → List B) (i j : ℕ) (xs : List A) → join_from i (λ k x. f x) xs ≡ join_from j (λ k x. f x) xs
unfolding join_from
join-any f i j [] = refl
join-any f i j (x ∷ xs) = ap (λ l. f x ++ l) (join-any f (suc i) (suc j) xs)

pub pairs-cons : (o : ℕ) (os : List ℕ) → pairs (o ∷ os) ≡ two_bytes o ++ pairs os
unfolding join_from
pairs-cons o os = ap (λ l. two_bytes o ++ l) (join-any two_bytes 1 0 os)

list-most : (periods order phases : List ℕ) (n c : ℕ) → length (list_by periods order phases n c) ≤ n
unfolding list_by
list-most periods order phases n c =
    omega (arith, chosen-length (is_due periods phases c) (table n (λ j. get_or order j 0)), table-length n (λ j. get_or order j 0))

-- What is left of the lists and of their offsets from cycle c on.
module _ (f : ℕ → List ℕ) (h : ℕ) where
  unfoldable pub joined_from : ℕ → List ℕ
  joined_from c = joined (table_from c (h - c) f)

  unfoldable pub pairs_from : ℕ → ℕ → List ℕ
  pairs_from offset c = pairs (offsets offset (table_from c (h - c) f))

  pub joined-starts : joined_from 0 ≡ joined (table h f)
  unfolding joined_from
  joined-starts = ap joined (table-starts f h)

  pub joined_step : (c : ℕ) → c < h → Parts (joined_from c) (f c) (joined_from (c + 1))
  unfolding joined_from
  joined_step c lt =
      record { is = ap joined (table_step f h c lt) ∙ joined-cons (f c) (table_from (c + 1) (h - (c + 1)) f) }

  pub joined-ends : (c : ℕ) → h ≤ c → joined_from c ≡ []
  unfolding joined_from join_from
  joined-ends c le = ap joined (table-ends f h c le)

  pub pairs_start : (offset : ℕ) → pairs_from offset 0 ≡ pairs (offsets offset (table h f))
  unfolding pairs_from
  pairs_start offset = ap (λ l. pairs (offsets offset l)) (table-starts f h)

  pub pairs-step : (offset c : ℕ) → c < h →
      Parts (pairs_from offset c) (two_bytes offset) (pairs_from (offset + length (f c)) (c + 1))
  unfolding pairs_from offsets
  pairs-step offset c lt =
      record {
        is =
            ap (λ l. pairs (offsets offset l)) (table_step f h c lt) ∙
            pairs-cons offset (offsets (offset + length (f c)) (table_from (c + 1) (h - (c + 1)) f));
      }

  pub pairs-last : (offset c : ℕ) → h ≤ c → Parts (pairs_from offset c) (two_bytes offset) []
  unfolding pairs_from offsets join_from
  pairs-last offset c le =
      record { is = ap (λ l. pairs (offsets offset l)) (table-ends f h c le) ∙ pairs-cons offset [] }

join-most : (f : ℕ → List ℕ) → ((c : ℕ) → length (f c) ≤ 64) → (i k : ℕ) → length (joined (table_from i k f)) ≤ 64 * k
unfolding table_from join_from
join-most f le i zero = omega arith
join-most f le i (suc k) =
    rw joined-cons (simp length-append (omega (arith, le i, join-most f le (suc i) k)))

pub lists-most : (periods order phases : List ℕ) (n h : ℕ) → n ≤ 64 →
    length (joined (lists_by periods order phases n h)) ≤ 64 * h
unfolding lists_by table
lists-most periods order phases n h le =
    join-most (list_by periods order phases n) (λ c. omega (arith, list-most periods order phases n c)) 0 h
