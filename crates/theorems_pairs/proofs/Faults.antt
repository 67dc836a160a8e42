-- The faults that a check collects, as a relation: the check accepts where there is none, and refuses with the one at the
-- lowest place. Assumes nothing.
use Prim.Native.Nat.{ℕ, zero, suc, ◌+◌, ◌≤◌, ◌<◌}
use mathlib.Core.Bool.{Bool, true, false, cond}
use mathlib.Core.List.{List, [], ◌∷◌, ◌++◌}
use mathlib.Core.Logic.{◌⊎◌, inl, inr}
use mathlib.Core.Path.{◌≡◌, refl, sym, ap, subst}
use native.Mathlib.Nat.{add-zero, add-suc, suc-add}
use native.Mathlib.Omega.{arith}
use lib.ListN.{length, get_or}
use Rattle.model.specs.Says.Feasible.{All}
use Rattle.model.specs.Rules.Outcome.{accepted, refused, fault, lowest}
use Rattle.model.specs.Rules.Search.{join_from}
use Rattle.theorems_pairs.specs.Conditions.{◌among◌}
use Rattle.theorems_pairs.specs.Refusals.{LowestFault}
use Rattle.model.specs.declared.Fault.{Fault}
use Rattle.model.proofs.Basics.Outcomes.{Lowest, lowest-none, none-lowest, lowest-least, lowest-is}

-- Elements of lists.
module _ {A : Type 0} where
  pub among-at : (x : A) (xs : List A) (d : A) → x among xs → (j : ℕ) × (j < length xs) × (get_or xs j d ≡ x)
  among-at x [] d m = elim m [ ]
  among-at x (y ∷ ys) d (◌among◌.here e) = (0, omega arith, sym e)
  among-at x (y ∷ ys) d (◌among◌.later m) =
      let h = among-at x ys d m in (suc h.0, omega (arith, h.1), h.2)

  pub at-among : (xs : List A) (d : A) (j : ℕ) → j < length xs → get_or xs j d among xs
  at-among [] d j lt = absurd (omega arith)
  at-among (y ∷ ys) d zero lt = ◌among◌.here refl
  at-among (y ∷ ys) d (suc j) lt = ◌among◌.later (at-among ys d j (omega arith))

  pub all_among : (Q : A → Type 0) (xs : List A) → All Q xs → (x : A) → x among xs → Q x
  all_among Q [] h x m = elim m [ ]
  all_among Q (y ∷ ys) h x (◌among◌.here e) = subst Q (sym e) h.0
  all_among Q (y ∷ ys) h x (◌among◌.later m) = all_among Q ys h.1 x m

  pub among-all : (Q : A → Type 0) (xs : List A) → ((x : A) → x among xs → Q x) → All Q xs
  among-all Q [] h = tt
  among-all Q (y ∷ ys) h = (h y (◌among◌.here refl), among-all Q ys (λ x m. h x (◌among◌.later m)))

  pub among_none : (xs : List A) → ((x : A) → ¬ (x among xs)) → xs ≡ []
  among_none [] h = refl
  among_none (y ∷ ys) h = absurd (h y (◌among◌.here refl))

  pub none-among : (xs : List A) (x : A) → xs ≡ [] → ¬ (x among xs)
  none-among [] x e m = elim m [ ]
  none-among (y ∷ ys) x e (◌among◌.here q) = absurd (omega (arith, ap length e))
  none-among (y ∷ ys) x e (◌among◌.later m) = absurd (omega (arith, ap length e))

  pub among-append : (x : A) (xs ys : List A) → x among (xs ++ ys) → (x among xs) ⊎ (x among ys)
  among-append x [] ys m = inr m
  among-append x (z ∷ xs) ys (◌among◌.here e) = inl (◌among◌.here e)
  among-append x (z ∷ xs) ys (◌among◌.later m) = go (among-append x xs ys m)
    where
      go : (x among xs) ⊎ (x among ys) → (x among (z ∷ xs)) ⊎ (x among ys)
      go (inl n) = inl (◌among◌.later n)
      go (inr n) = inr n

  pub append_left : (x : A) (xs ys : List A) → x among xs → x among (xs ++ ys)
  append_left x [] ys m = elim m [ ]
  append_left x (z ∷ xs) ys (◌among◌.here e) = ◌among◌.here e
  append_left x (z ∷ xs) ys (◌among◌.later m) = ◌among◌.later (append_left x xs ys m)

  pub append_right : (x : A) (xs ys : List A) → x among ys → x among (xs ++ ys)
  append_right x [] ys m = m
  append_right x (z ∷ xs) ys m = ◌among◌.later (append_right x xs ys m)

-- A test that fails puts one element into the list.
module _ {A : Type 0} where
  pub among-cond : (t : Bool) (x y : A) → x among (cond t [] (y ∷ [])) → (t ≡ false) × (x ≡ y)
  among-cond true x y m = elim m [ ]
  among-cond false x y (◌among◌.here e) = (refl, e)
  among-cond false x y (◌among◌.later m) = elim m [ ]

  pub cond-among : (t : Bool) (x : A) → t ≡ false → x among (cond t [] (x ∷ []))
  cond-among t x e = rw e (◌among◌.here refl)

-- The elements of joined lists.
module _ {A B : Type 0} (f : ℕ → A → List B) where
  pub among-join : (i : ℕ) (xs : List A) (d : A) (y : B) → y among join_from i f xs →
      (j : ℕ) × (j < length xs) × (y among f (i + j) (get_or xs j d))
  unfolding join_from
  among-join i [] d y m = elim m [ ]
  among-join i (x ∷ xs) d y m = go (among-append y (f i x) (join_from (suc i) f xs) m) (λ n. among-join (suc i) xs d y n)
    where
      Found : Type 0
      Found = (j : ℕ) × (j < length xs) × (y among f (suc i + j) (get_or xs j d))

      go : (y among f i x) ⊎ (y among join_from (suc i) f xs) → (y among join_from (suc i) f xs → Found) →
          (j : ℕ) × (j < length (x ∷ xs)) × (y among f (i + j) (get_or (x ∷ xs) j d))
      go (inl n) ih = (0, omega arith, rw add-zero n)
      go (inr n) ih =
          let h = ih n in (suc h.0, omega (arith, h.1), rw (add-suc, ← suc-add) h.2)

  pub join-among : (i : ℕ) (xs : List A) (d : A) (y : B) (j : ℕ) → j < length xs → y among f (i + j) (get_or xs j d) →
      y among join_from i f xs
  unfolding join_from
  join-among i [] d y j lt m = absurd (omega arith)
  join-among i (x ∷ xs) d y zero lt m = append_left y (f i x) _ (rw add-zero at m)
  join-among i (x ∷ xs) d y (suc j) lt m =
      append_right y (f i x) (join_from (suc i) f xs)
      (join-among (suc i) xs d y j (omega arith) (rw (add-suc, ← suc-add) at m))

-- A list of faults that holds those of F and no others.
module _
    (fs : List Fault)
    (F : Fault → Type 0)
    (sound : (f : Fault) → f among fs → F f)
    (complete : (f : Fault) → F f → f among fs)
  where
    pub no-fault : ((f : Fault) → ¬ F f) → lowest fs ≡ accepted tt
    no-fault h = none-lowest fs (among_none fs (λ f m. h f (sound f m)))

    pub fault-none : lowest fs ≡ accepted tt → (f : Fault) → ¬ F f
    fault-none e f h = none-among fs f (lowest-none fs e) (complete f h)

    -- The check refuses with the fault at the lowest place, if a place has faults of one number only.
    pub fault-lowest : (f : Fault) → lowest fs ≡ refused f → LowestFault F f
    fault-lowest f e =
        let h = lowest-least (fault 0 0) fs f e in
        record {
          fault = sound f (rw h.here at (at-among fs (fault 0 0) h.index h.inside));
          least = λ g k. least h g (among-at g fs (fault 0 0) (complete g k));
        }
      where
        least : Lowest (fault 0 0) fs f → (g : Fault) → (j : ℕ) × (j < length fs) × (get_or fs j (fault 0 0) ≡ g) →
            f.place ≤ g.place
        least h g a = let e = ap (λ (k : Fault). k.place) a.2 in omega (arith, h.least a.0 a.1)

    pub lowest-fault : ((f g : Fault) → F f → F g → f.place ≡ g.place → f.number ≡ g.number) → (f : Fault) →
        LowestFault F f → lowest fs ≡ refused f
    lowest-fault single f h =
        let a = among-at f fs (fault 0 0) (complete f h.fault) in
        lowest-is (fault 0 0) fs f a.0 a.1 a.2
        (λ i lt. h.least _ (sound (get_or fs i (fault 0 0)) (at-among fs (fault 0 0) i lt)))
        (λ i lt e.
        same (get_or fs i (fault 0 0)) e (sound (get_or fs i (fault 0 0)) (at-among fs (fault 0 0) i lt)))
      where
        same : (g : Fault) → g.place ≡ f.place → F g → g ≡ f
        same g e k = λ i. record { number = single g f k h.fault e i; place = e i }
