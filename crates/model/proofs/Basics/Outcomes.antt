-- Outcomes step after step, the lowest fault of a list, and lists that are joined or tabled. Assumes nothing.
use Prim.Native.Nat.{ℕ, zero, suc, ◌+◌, ◌≤◌, ◌<◌}
use mathlib.Core.Bool.{Bool, true, false, cond, false≢true}
use mathlib.Core.List.{List, [], ◌∷◌, ◌++◌, append_assoc}
use mathlib.Core.Path.{◌≡◌, refl, sym, ap, ◌∙◌}
use native.Mathlib.Nat.{add-zero, add-suc, suc-add, add_assoc, zero-add}
use native.Mathlib.Decide.{dec_lt}
use native.Mathlib.Omega.{arith}
use borrow.Author.Tests.{ltb-true, ltb-false, le-ltb}
use lib.Dec.{ltb}
use lib.ListN.{length, get_or}
use Rattle.model.specs.Rules.Outcome.{Outcome, accepted, refused, refuse, ◌▷◌, provided, lower, lowest}
use Rattle.model.specs.Rules.Search.{table_from, table, join_from, sum}
use Rattle.model.specs.declared.Fault.{Fault}

-- Tests that fail.
pub not-below : {a b : ℕ} → ¬ (a < b) → ltb a b ≡ false
not-below {a} {b} h = le-ltb a b (omega arith)

pub not-true-false : (t : Bool) → ¬ (t ≡ true) → t ≡ false
not-true-false true h = absurd (h refl)
not-true-false false h = refl

pub accepted≢refused : {A : Type 0} (o : Outcome A) (a : A) (f : Fault) → o ≡ accepted a → o ≡ refused f → ⊥
accepted≢refused o a f p q = let z : ◌≡◌ {A = ℕ} 0 1 = cc in omega arith

pub accepted-same : {A : Type 0} (a b : A) → accepted a ≡ accepted b → a ≡ b
accepted-same a b e = cc

-- A step whose end is accepted was accepted itself.
pub then-accepted : {A B : Type 0} (o : Outcome A) (next : A → Outcome B) (b : B) → o ▷ next ≡ accepted b →
    (a : A) × (o ≡ accepted a) × (next a ≡ accepted b)
unfolding ◌▷◌
then-accepted (accepted a) next b e = (a, refl, e)
then-accepted (refused f) next b e = absurd (accepted≢refused _ b f e refl)

pub accepted-then : {A B : Type 0} (o : Outcome A) (next : A → Outcome B) (a : A) → o ≡ accepted a → o ▷ next ≡ next a
unfolding ◌▷◌
accepted-then (accepted b) next a e = ap next (accepted-same b a e)
accepted-then (refused f) next a e = absurd (accepted≢refused _ a f e refl)

pub refused-then : {A B : Type 0} (o : Outcome A) (next : A → Outcome B) (f : Fault) → o ≡ refused f → o ▷ next ≡ refused f
unfolding ◌▷◌
refused-then (accepted a) next f e = absurd (accepted≢refused _ a f refl e)
refused-then (refused g) next f e = let q : g ≡ f = cc in ap refused q

-- A step that is itself steps; steps that go on alike.
pub then-then : {A B C : Type 0} (o : Outcome A) (f : A → Outcome B) (g : B → Outcome C) → (o ▷ f) ▷ g ≡ o ▷ λ a. f a ▷ g
unfolding ◌▷◌
then-then (accepted a) f g = refl
then-then (refused x) f g = refl

pub then_same : {A B : Type 0} (o : Outcome A) (f g : A → Outcome B) → ((a : A) → f a ≡ g a) → o ▷ f ≡ o ▷ g
unfolding ◌▷◌
then_same (accepted a) f g h = h a
then_same (refused x) f g h = refl

pub provided-true : (t : Bool) (n place : ℕ) → provided t n place ≡ accepted tt → t ≡ true
unfolding provided
provided-true true n place e = refl
provided-true false n place e = absurd (accepted≢refused _ tt _ e refl)

pub true-provided : (t : Bool) (n place : ℕ) → t ≡ true → provided t n place ≡ accepted tt
unfolding provided
true-provided true n place e = refl
true-provided false n place e = absurd (false≢true e)

pub false-provided : (t : Bool) (n place : ℕ) → t ≡ false → provided t n place ≡ refuse n place
unfolding provided
false-provided true n place e = absurd (false≢true (sym e))
false-provided false n place e = refl

-- What holds of the value, where one is accepted.
abbrev pub Holds : {A : Type 0} → (A → Type 0) → Outcome A → Type 0
Holds Q (accepted a) = Q a
Holds Q (refused f) = Unit {0}

pub holds-value : {A : Type 0} (Q : A → Type 0) (o : Outcome A) (a : A) → Holds Q o → o ≡ accepted a → Q a
holds-value Q o a h e = rw e at h

pub value-holds : {A : Type 0} (o : Outcome A) → Holds (λ a. o ≡ accepted a) o
value-holds (accepted a) = refl
value-holds (refused f) = tt

pub holds_then : {A B : Type 0} (Q : A → Type 0) (R : B → Type 0) (o : Outcome A) (next : A → Outcome B) → Holds Q o →
    ((a : A) → Q a → Holds R (next a)) → Holds R (o ▷ next)
unfolding ◌▷◌
holds_then Q R (accepted a) next h g = g a h
holds_then Q R (refused f) next h g = tt

pub holds-map : {A : Type 0} (Q R : A → Type 0) (o : Outcome A) → ((a : A) → Q a → R a) → Holds Q o → Holds R o
holds-map Q R (accepted a) g h = g a h
holds-map Q R (refused f) g h = tt

pub holds-provided : {B : Type 0} (R : B → Type 0) (t : Bool) (n place : ℕ) (o : Outcome B) → (t ≡ true → Holds R o) →
    Holds R (provided t n place ▷ λ _. o)
unfolding ◌▷◌ provided
holds-provided R true n place o g = g refl
holds-provided R false n place o g = tt

-- No fault is the lowest where there is none.
pub lowest-none : (fs : List Fault) → lowest fs ≡ accepted tt → fs ≡ []
unfolding lowest
lowest-none [] e = refl
lowest-none (f ∷ fs) e = go (lowest fs) e
  where
    go : (o : Outcome (Unit {0})) → lower f o ≡ accepted tt → f ∷ fs ≡ []
    go (accepted a) q = absurd (accepted≢refused _ tt f q refl)
    go (refused g) q = absurd (accepted≢refused _ tt _ q refl)

pub none-lowest : (fs : List Fault) → fs ≡ [] → lowest fs ≡ accepted tt
unfolding lowest
none-lowest fs e = rw e

-- f is a fault of the list, and none has a lower place.
pub record Lowest (d : Fault) (fs : List Fault) (f : Fault) : Type 0 where
  pub index : ℕ
  pub inside : index < length fs
  pub here : get_or fs index d ≡ f
  pub least : (i : ℕ) → i < length fs → f.place ≤ (get_or fs i d).place

pub lowest-least : (d : Fault) (fs : List Fault) (f : Fault) → lowest fs ≡ refused f → Lowest d fs f
unfolding lowest
lowest-least d [] f e = absurd (accepted≢refused _ tt f refl e)
lowest-least d (x ∷ fs) f e = go (lowest fs) refl e (λ g q. lowest-least d fs g q)
  where
    none : fs ≡ [] → (i : ℕ) → i < length (x ∷ fs) → x.place ≤ (get_or (x ∷ fs) i d).place
    none q zero l = omega arith
    none q (suc i) l = absurd (omega (arith, ap length q))

    pick : (g : Fault) → Lowest d fs g → (b : Bool) → ltb g.place x.place ≡ b → cond b g x ≡ f → Lowest d (x ∷ fs) f
    pick g h true t q =
        record {
          index = suc h.index;
          inside = omega (arith, h.inside);
          here = h.here ∙ q;
          least = rw (sym q) below;
        }
      where
        below : (i : ℕ) → i < length (x ∷ fs) → g.place ≤ (get_or (x ∷ fs) i d).place
        below zero l = omega (arith, ltb-true g.place x.place t)
        below (suc i) l = h.least i (omega arith)
    pick g h false t q = record { index = 0; inside = omega arith; here = q; least = rw (sym q) below }
      where
        below : (i : ℕ) → i < length (x ∷ fs) → x.place ≤ (get_or (x ∷ fs) i d).place
        below zero l = omega arith
        below (suc i) l = omega (arith, ltb-false g.place x.place t, h.least i (omega arith))

    go : (o : Outcome (Unit {0})) → lowest fs ≡ o → lower x o ≡ refused f →
        ((g : Fault) → lowest fs ≡ refused g → Lowest d fs g) → Lowest d (x ∷ fs) f
    go (accepted a) p q ih =
        let same : x ≡ f = cc in
        record { index = 0; inside = omega arith; here = same; least = rw (sym same) (none (lowest-none fs p)) }
    go (refused g) p q ih = pick g (ih g p) (ltb g.place x.place) refl (same q)
      where
        same : {u v : Fault} → ◌≡◌ {A = Outcome (Unit {0})} (refused u) (refused v) → u ≡ v
        same r = cc

-- A fault of the list is the lowest if none has a lower place and it is the only one at its own.
pub lowest-is : (d : Fault) (fs : List Fault) (f : Fault) (j : ℕ) → j < length fs → get_or fs j d ≡ f →
    ((i : ℕ) → i < length fs → f.place ≤ (get_or fs i d).place) →
    ((i : ℕ) → i < length fs → (get_or fs i d).place ≡ f.place → get_or fs i d ≡ f) → lowest fs ≡ refused f
lowest-is d fs f j inside here least only = go (lowest fs) refl
  where
    go : (o : Outcome (Unit {0})) → lowest fs ≡ o → o ≡ refused f
    go (accepted a) p = absurd (omega (arith, ap length (lowest-none fs p)))
    go (refused g) p =
        let h = lowest-least d fs g p in
        let at-index = ap (λ (x : Fault). x.place) h.here in
        let at_j = ap (λ (x : Fault). x.place) here in
        let same : (get_or fs h.index d).place ≡ f.place =
        omega (arith, h.least j inside, least h.index h.inside) in
        ap refused (sym h.here ∙ only h.index h.inside same)

-- The first fault is the lowest if no other has a lower place.
pub lowest-sorted : (d f : Fault) (fs : List Fault) → ((j : ℕ) → j < length fs → f.place ≤ (get_or fs j d).place) →
    lowest (f ∷ fs) ≡ refused f
unfolding lowest
lowest-sorted d f fs above = go (lowest fs) refl
  where
    go : (o : Outcome (Unit {0})) → lowest fs ≡ o → lower f o ≡ refused f
    go (accepted a) p = refl
    go (refused g) p =
        let h = lowest-least d fs g p in
        let at-index = ap (λ (x : Fault). x.place) h.here in
        rw (le-ltb g.place f.place (omega (arith, above h.index h.inside)))

-- A list of two parts is empty if both are.
pub append-none : {A : Type 0} (xs ys : List A) → xs ++ ys ≡ [] → (xs ≡ []) × (ys ≡ [])
append-none [] ys e = (refl, e)
append-none (x ∷ xs) ys e = absurd (omega (arith, ap length e))

-- A test that fails puts an element into the list.
pub cond-none : {A : Type 0} (t : Bool) (x : A) → cond t [] (x ∷ []) ≡ [] → t ≡ true
cond-none true x e = refl
cond-none false x e = absurd (omega (arith, ap length e))

-- Joined lists.
module _ {A B : Type 0} (f : ℕ → A → List B) where
  pub join_from-none : (i : ℕ) (xs : List A) (d : A) → join_from i f xs ≡ [] → (j : ℕ) → j < length xs →
      f (i + j) (get_or xs j d) ≡ []
  unfolding join_from
  join_from-none i [] d e j lt = absurd (omega arith)
  join_from-none i (x ∷ xs) d e zero lt = rw add-zero (append-none (f i x) _ e).0
  join_from-none i (x ∷ xs) d e (suc j) lt =
      rw (add-suc, ← suc-add) (join_from-none (suc i) xs d (append-none (f i x) _ e).1 j (omega arith))

  pub none-join_from : (i : ℕ) (xs : List A) (d : A) → ((j : ℕ) → j < length xs → f (i + j) (get_or xs j d) ≡ []) →
      join_from i f xs ≡ []
  unfolding join_from
  none-join_from i [] d h = refl
  none-join_from i (x ∷ xs) d h =
      let here : f i x ≡ [] = rw add-zero at (h 0 (omega arith)) in
      rw here (none-join_from (suc i) xs d (λ j l. rw (suc-add, ← add-suc) (h (suc j) (omega arith))))

  pub join_from-append : (i : ℕ) (xs ys : List A) →
      join_from i f (xs ++ ys) ≡ join_from i f xs ++ join_from (i + length xs) f ys
  unfolding join_from
  join_from-append i [] ys = rw add-zero
  join_from-append i (x ∷ xs) ys =
      ap (f i x ++◌) (join_from-append (suc i) xs ys) ∙
      rw (append_assoc, add-suc, suc-add)

-- A table holds the values of its function.
table_from-length : {A : Type 0} (i n : ℕ) (f : ℕ → A) → length (table_from i n f) ≡ n
unfolding table_from
table_from-length i zero f = refl
table_from-length i (suc n) f = ap suc (table_from-length (suc i) n f)

table_from-at : {A : Type 0} (i n : ℕ) (f : ℕ → A) (c : ℕ) (d : A) → c < n → get_or (table_from i n f) c d ≡ f (i + c)
unfolding table_from
table_from-at i zero f c d h = absurd (omega arith)
table_from-at i (suc n) f zero d h = ap f (omega arith)
table_from-at i (suc n) f (suc c) d h = table_from-at (suc i) n f c d (omega arith) ∙ ap f (omega arith)

pub table-length : {A : Type 0} (n : ℕ) (f : ℕ → A) → length (table n f) ≡ n
unfolding table
table-length n f = table_from-length 0 n f

pub table_at : {A : Type 0} (n : ℕ) (f : ℕ → A) (c : ℕ) (d : A) → c < n → get_or (table n f) c d ≡ f c
unfolding table
table_at n f c d h = table_from-at 0 n f c d h ∙ ap f (omega arith)

-- A sum with one number more.
pub sum-from : (i n : ℕ) (f : ℕ → ℕ) → sum (table_from i (suc n) f) ≡ sum (table_from i n f) + f (i + n)
unfolding sum table_from
sum-from i zero f = add-zero (f i) ∙ sym (zero-add (f i)) ∙ ap (λ k. 0 + f k) (sym (add-zero i))
sum-from i (suc n) f =
    ap (f i +◌) (sum-from (suc i) n f) ∙ sym (add_assoc (f i) (sum (table_from (suc i) n f)) (f (suc i + n))) ∙
    ap (λ k. f i + sum (table_from (suc i) n f) + f k) (omega arith)

-- The sum of the first numbers of a table is no more than that of all.
pub sum_first : (k n : ℕ) (f : ℕ → ℕ) → k < n → sum (table k f) + f k ≤ sum (table n f)
unfolding table
sum_first k zero f lt = absurd (omega arith)
sum_first k (suc n) f lt = go (dec_lt k n) (λ l. sum_first k n f l)
  where
    more : sum (table_from 0 (suc n) f) ≡ sum (table_from 0 n f) + f n
    more = sum-from 0 n f ∙ ap (λ (m : ℕ). sum (table_from 0 n f) + f m) (zero-add n)

    go : Dec (k < n) → (k < n → sum (table_from 0 k f) + f k ≤ sum (table_from 0 n f)) →
        sum (table_from 0 k f) + f k ≤ sum (table_from 0 (suc n) f)
    go (yes l) ih = omega (arith, more, ih l)
    go (no l) ih = let e : k ≡ n = omega arith in rw e (omega (arith, more))

pub sum-next : (k : ℕ) (f : ℕ → ℕ) → sum (table (k + 1) f) ≡ sum (table k f) + f k
unfolding table
sum-next k f =
    ap (λ (n : ℕ). sum (table_from 0 n f)) (omega arith) ∙ sum-from 0 k f ∙
    ap (λ (m : ℕ). sum (table_from 0 k f) + f m) (zero-add k)
