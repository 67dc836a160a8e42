-- What holds of all elements of a list, and of all elements whose lists are joined. Assumes nothing.
use Prim.Native.Nat.{ℕ, zero, suc, ◌*◌, ◌≤◌, ◌<◌}
use mathlib.Core.List.{List, [], ◌∷◌, ◌++◌, map, reverse_aux}
use mathlib.Core.Path.{◌≡◌}
use mathlib.Core.Bool.{Bool, true, false, cond}
use native.Mathlib.Omega.{arith}
use lib.ListN.{length, get_or, length-append}
use Rattle.model.specs.Says.Feasible.{All}
use Rattle.model.specs.Rules.Search.{join_from, chosen}
use Rattle.model.proofs.Basics.Outcomes.{append-none}

module _ {A : Type 0} (Q : A → Type 0) where
  pub all_append : (xs ys : List A) → All Q xs → All Q ys → All Q (xs ++ ys)
  all_append [] ys h g = g
  all_append (x ∷ xs) ys h g = (h.0, all_append xs ys h.1 g)

  pub all-at : (xs : List A) (d : A) → All Q xs → (i : ℕ) → i < length xs → Q (get_or xs i d)
  all-at [] d h i lt = absurd (omega arith)
  all-at (x ∷ xs) d h zero lt = h.0
  all-at (x ∷ xs) d h (suc i) lt = all-at xs d h.1 i (omega arith)

  pub at_all : (xs : List A) (d : A) → ((i : ℕ) → i < length xs → Q (get_or xs i d)) → All Q xs
  at_all [] d h = tt
  at_all (x ∷ xs) d h = (h 0 (omega arith), at_all xs d (λ i l. h (suc i) (omega arith)))

  pub all_map : (R : A → Type 0) → ((x : A) → Q x → R x) → (xs : List A) → All Q xs → All R xs
  all_map R g [] h = tt
  all_map R g (x ∷ xs) h = (g x h.0, all_map R g xs h.1)

  pub all_both : (R : A → Type 0) (xs : List A) → All Q xs → All R xs → All (λ x. Q x × R x) xs
  all_both R [] h g = tt
  all_both R (x ∷ xs) h g = ((h.0, g.0), all_both R xs h.1 g.1)

  pub all-reverse_aux : (xs ys : List A) → All Q xs → All Q ys → All Q (reverse_aux xs ys)
  all-reverse_aux [] ys h g = g
  all-reverse_aux (x ∷ xs) ys h g = all-reverse_aux xs (x ∷ ys) h.1 (h.0, g)

-- Where joined lists give no element, none of them does.
pub all-joined : {A B : Type 0} (f : ℕ → A → List B) (Q : A → Type 0) → ((i : ℕ) (x : A) → f i x ≡ [] → Q x) →
    (i : ℕ) (xs : List A) → join_from i f xs ≡ [] → All Q xs
unfolding join_from
all-joined f Q g i [] e = tt
all-joined f Q g i (x ∷ xs) e =
    let h = append-none (f i x) (join_from (suc i) f xs) e in (g i x h.0, all-joined f Q g (suc i) xs h.1)

-- Joined lists of at most b elements each.
pub joined_length : {A : Type 0} (b i : ℕ) (xs : List (List A)) → All (λ x. length x ≤ b) xs →
    length (join_from i (λ j x. x) xs) ≤ length xs * b
unfolding join_from
joined_length b i [] h = omega arith
joined_length b i (x ∷ xs) h = simp length-append (omega (arith, h.0, joined_length b (suc i) xs h.1))

pub all_of_map : {A B : Type 0} (Q : B → Type 0) (f : A → B) (xs : List A) → All (λ x. Q (f x)) xs → All Q (map f xs)
all_of_map Q f [] h = tt
all_of_map Q f (x ∷ xs) h = (h.0, all_of_map Q f xs h.1)

pub all_split : {A : Type 0} (Q : A → Type 0) (xs ys : List A) → All Q (xs ++ ys) → All Q xs × All Q ys
all_split Q [] ys q = (tt, q)
all_split Q (x ∷ xs) ys q = let h = all_split Q xs ys q.1 in ((q.0, h.0), h.1)

-- A run list is no longer than the PUT order.
pub chosen-length : {A : Type 0} (test : A → Bool) (xs : List A) → length (chosen test xs) ≤ length xs
unfolding chosen
chosen-length test [] = omega arith
chosen-length test (x ∷ xs) = go (test x) (chosen-length test xs)
  where
    go : (b : Bool) → length (chosen test xs) ≤ length xs →
        length (cond b (x ∷ chosen test xs) (chosen test xs)) ≤ suc (length xs)
    go true h = omega arith
    go false h = omega arith
