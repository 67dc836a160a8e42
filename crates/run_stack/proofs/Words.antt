-- What a push, a pop and an operator do to the list of a stack's words. Assumes nothing.
use mathlib.Core.Path.{◌≡◌, refl, sym, ap, ap₂, ◌∙◌}
use mathlib.Core.List.{List, [], ◌∷◌, ◌++◌}
use Prim.Native.Nat.{ℕ, zero, suc, ◌+◌, ◌-◌, ◌≤◌, ◌<◌}
use native.Mathlib.Numerals.{add-one, unary_clauses}
use native.Mathlib.Nat.{zero-add, suc-add}
use native.Mathlib.Omega.{arith}
use lib.ListN.{length, get_or, set, length-append}
use lib.Seq.{get_or-set_same, get_or-set_other, set-append_left}
use lib.IntN.{ℤ, pos}
use Rattle.run_stack.specs.View.{under, view_of}
use Rattle.model.specs.Rules.Machine.{on_one, on_two, on_three}

-- a store above the n words is not seen
under-above : (ws : List ℤ) (i : ℕ) (w : ℤ) (n : ℕ) → n < i → under (set ws i w) n ≡ under ws n
unfolding under
under-above ws i w zero p = refl
under-above ws i w (suc n) p = ap₂ ◌∷◌ (get_or-set_other ws i (suc n) w (pos 0) (other n i p)) (under-above ws i w n (omega arith))
  where
    other : (n i : ℕ) → suc n < i → suc n ≡ i → ⊥
    other n i p e = omega arith

pub view-push : (t : ℤ) (ws : List ℤ) (h : ℕ) (w : ℤ) → h < length ws → view_of w (set ws h t) (h + 1) ≡ w ∷ view_of t ws h
unfolding under view_of
view-push t ws zero w p = refl
view-push t ws (suc n) w p = rw (add-one (suc n))
    (ap (◌∷◌ w) (ap₂ ◌∷◌ (get_or-set_same ws (suc n) t (pos 0) p) (under-above ws (suc n) t n (omega arith))))

pub view-pop : (t : ℤ) (ws : List ℤ) (h : ℕ) → 0 < h → view_of t ws h ≡ t ∷ view_of (get_or ws (h - 1) (pos 0)) ws (h - 1)
unfolding under view_of
view-pop t ws zero p = let e : ⊥ = omega (arith, p) in absurd e
view-pop t ws (suc zero) p = refl
view-pop t ws (suc (suc n)) p = simp unary_clauses refl

pub view-one : (f : ℤ → ℤ) (t : ℤ) (ws : List ℤ) (h : ℕ) → 1 ≤ h → view_of (f t) ws h ≡ on_one f (view_of t ws h)
unfolding view_of
view-one f t ws zero p = refl
view-one f t ws (suc n) p = refl

pub view-two : (f : ℤ → ℤ → ℤ) (t : ℤ) (ws : List ℤ) (h : ℕ) → 2 ≤ h
    → view_of (f (get_or ws (h - 1) (pos 0)) t) ws (h - 1) ≡ on_two f (view_of t ws h)
unfolding under view_of
view-two f t ws zero p = let e : ⊥ = omega (arith, p) in absurd e
view-two f t ws (suc zero) p = let e : ⊥ = omega (arith, p) in absurd e
view-two f t ws (suc (suc n)) p = simp unary_clauses refl

pub view-with : (f : ℤ → ℤ → ℤ) (t w : ℤ) (ws : List ℤ) (h : ℕ) → 1 ≤ h → view_of (f t w) ws h ≡ on_two f (w ∷ view_of t ws h)
unfolding view_of
view-with f t w ws zero p = let e : ⊥ = omega (arith, p) in absurd e
view-with f t w ws (suc n) p = refl

pub view-three : (f : ℤ → ℤ → ℤ → ℤ) (t : ℤ) (ws : List ℤ) (h : ℕ) → 3 ≤ h
    → view_of (f (get_or ws (h - 2) (pos 0)) (get_or ws (h - 2 + 1) (pos 0)) t) ws (h - 2) ≡ on_three f (view_of t ws h)
unfolding under view_of
view-three f t ws zero p = let e : ⊥ = omega (arith, p) in absurd e
view-three f t ws (suc zero) p = let e : ⊥ = omega (arith, p) in absurd e
view-three f t ws (suc (suc zero)) p = let e : ⊥ = omega (arith, p) in absurd e
view-three f t ws (suc (suc (suc n))) p = rw (two n, add-one (suc n)) refl
  where
    two : (n : ℕ) → suc (suc (suc n)) - 2 ≡ suc n
    two n = omega arith

split : (i n m : ℕ) → m ≡ n → n ≤ i → i ≡ m + (i - n)
split i n m e p = omega arith

-- the words in two parts: a store of the first part, and of the second
pub near_store : (xs ys : List ℤ) (i : ℕ) (w : ℤ) → i < length xs → set xs i w ++ ys ≡ set (xs ++ ys) i w
near_store xs ys i w p = sym (set-append_left xs ys i w p)

far-add : (xs ys : List ℤ) (i : ℕ) (w : ℤ) → set (xs ++ ys) (length xs + i) w ≡ xs ++ set ys i w
far-add [] ys i w = ap (λ (k : ℕ). set ys k w) (zero-add i)
far-add (x ∷ xs) ys i w = rw (suc-add (length xs) i) (ap (◌∷◌ x) (far-add xs ys i w))

pub far-store : (xs ys : List ℤ) (n i : ℕ) (w : ℤ) → length xs ≡ n → n ≤ i → xs ++ set ys (i - n) w ≡ set (xs ++ ys) i w
far-store xs ys n i w e p = sym (ap (λ (k : ℕ). set (xs ++ ys) k w) (split i n (length xs) e p) ∙ far-add xs ys (i - n) w)

pub view-near : (t : ℤ) (xs ys : List ℤ) (h : ℕ) (w : ℤ) → h < length xs
    → view_of w (set xs h t ++ ys) (h + 1) ≡ w ∷ view_of t (xs ++ ys) h
view-near t xs ys h w p = rw (near_store xs ys h t p) (view-push t (xs ++ ys) h w (within (length-append xs ys)))
  where
    within : {l : ℕ} → l ≡ length xs + length ys → h < l
    within e = omega (arith, p)

pub view-far : (t : ℤ) (xs ys : List ℤ) (n h : ℕ) (w : ℤ) → length xs ≡ n → n ≤ h → h < n + length ys
    → view_of w (xs ++ set ys (h - n) t) (h + 1) ≡ w ∷ view_of t (xs ++ ys) h
view-far t xs ys n h w e p q = rw (far-store xs ys n h t e p) (view-push t (xs ++ ys) h w (within (length-append xs ys)))
  where
    within : {l : ℕ} → l ≡ length xs + length ys → h < l
    within g = omega (arith, e, p, q)
