-- The signals that depend on one, computed, are those that do. Assumes nothing.
use Prim.Native.Nat.{ℕ, zero, suc, ◌≤◌, ◌<◌}
use mathlib.Core.Bool.{Bool, true, false, ◌||◌}
use mathlib.Core.List.{List, [], ◌∷◌}
use mathlib.Core.Logic.{◌⊎◌, inl, inr, ◌↔◌}
use mathlib.Core.Path.{◌≡◌, refl, sym, ap, subst, ◌∙◌}
use native.Mathlib.Omega.{arith}
use borrow.Author.Tests.{eqb-true, eq-eqb}
use lib.Dec.{eqb}
use lib.ListN.{length, get_or}
use Rattle.model.specs.Says.Feasible.{Met, Feasible}
use Rattle.model.specs.Rules.Dependents.{any_read, mark_readers, marks_after, dependents}
use Rattle.model.specs.Rules.Program.{Program, Read, body_reads, count, signal_at}
use Rattle.model.specs.Rules.Schedule.{Schedule}
use Rattle.theorems_pairs.specs.Conditions.{◌among◌}
use Rattle.theorems_streams.specs.Dependence.{Reads, DependsOn}
use Rattle.model.proofs.Basics.Outcomes.{table-length, table_at}
use Rattle.theorems_pairs.proofs.Faults.{all_among}
use Rattle.theorems_streams.proofs.Dependence.{reads-exactly}

false≢true : false ≡ true → ⊥
false≢true e = let z : ◌≡◌ {A = ℕ} 0 1 = cc in omega arith

-- Lists of marks: how many are set; those that another list has too.
trues : List Bool → ℕ
trues [] = 0
trues (true ∷ bs) = suc (trues bs)
trues (false ∷ bs) = trues bs

abbrev Marked : List Bool → ℕ → Type 0
Marked bs y = get_or bs y false ≡ true

abbrev Fewer : List Bool → List Bool → Type 0
Fewer bs cs = (y : ℕ) → y < length bs → Marked bs y → Marked cs y

trues_most : (bs : List Bool) → trues bs ≤ length bs
unfolding trues
trues_most [] = omega arith
trues_most (true ∷ bs) = omega (arith, trues_most bs)
trues_most (false ∷ bs) = omega (arith, trues_most bs)

trues-all : (bs : List Bool) → length bs ≤ trues bs → (y : ℕ) → y < length bs → Marked bs y
unfolding trues
trues-all [] le y lt = absurd (omega arith)
trues-all (true ∷ bs) le zero lt = refl
trues-all (true ∷ bs) le (suc y) lt = trues-all bs (omega arith) y (omega arith)
trues-all (false ∷ bs) le y lt = absurd (omega (arith, trues_most bs))

trues-fewer : (bs cs : List Bool) → length bs ≡ length cs → Fewer bs cs → trues bs ≤ trues cs
unfolding trues
trues-fewer [] cs e h = omega arith
trues-fewer (b ∷ bs) [] e h = absurd (omega arith)
trues-fewer (true ∷ bs) (true ∷ cs) e h =
    omega (arith, trues-fewer bs cs (omega arith) (λ y lt. h (suc y) (omega arith)))
trues-fewer (true ∷ bs) (false ∷ cs) e h = absurd (false≢true (h 0 (omega arith) refl))
trues-fewer (false ∷ bs) (true ∷ cs) e h =
    omega (arith, trues-fewer bs cs (omega arith) (λ y lt. h (suc y) (omega arith)))
trues-fewer (false ∷ bs) (false ∷ cs) e h = trues-fewer bs cs (omega arith) (λ y lt. h (suc y) (omega arith))

-- If no fewer are set, they are the same.
same-or-more : (bs cs : List Bool) → length bs ≡ length cs → Fewer bs cs → (bs ≡ cs) ⊎ (trues bs < trues cs)
unfolding trues
same-or-more [] [] e h = inl refl
same-or-more [] (c ∷ cs) e h = absurd (omega arith)
same-or-more (b ∷ bs) [] e h = absurd (omega arith)
same-or-more (true ∷ bs) (true ∷ cs) e h = go (same-or-more bs cs (omega arith) (λ y lt. h (suc y) (omega arith)))
  where
    go : (bs ≡ cs) ⊎ (trues bs < trues cs) → (◌≡◌ {A = List Bool} (true ∷ bs) (true ∷ cs)) ⊎ (suc (trues bs) < suc (trues cs))
    go (inl q) = inl (ap (λ (ds : List Bool). true ∷ ds) q)
    go (inr l) = inr (omega arith)
same-or-more (true ∷ bs) (false ∷ cs) e h = absurd (false≢true (h 0 (omega arith) refl))
same-or-more (false ∷ bs) (true ∷ cs) e h =
    inr (omega (arith, trues-fewer bs cs (omega arith) (λ y lt. h (suc y) (omega arith))))
same-or-more (false ∷ bs) (false ∷ cs) e h = go (same-or-more bs cs (omega arith) (λ y lt. h (suc y) (omega arith)))
  where
    go : (bs ≡ cs) ⊎ (trues bs < trues cs) → (◌≡◌ {A = List Bool} (false ∷ bs) (false ∷ cs)) ⊎ (trues bs < trues cs)
    go (inl q) = inl (ap (λ (ds : List Bool). false ∷ ds) q)
    go (inr l) = inr l

-- A test of two.
either : (a b : Bool) → (a || b) ≡ true → (a ≡ true) ⊎ (b ≡ true)
either true b e = inl refl
either false b e = inr e

or_left : (a b : Bool) → a ≡ true → (a || b) ≡ true
or_left true b e = refl
or_left false b e = absurd (false≢true e)

or_right : (a b : Bool) → b ≡ true → (a || b) ≡ true
or_right true b e = refl
or_right false b e = e

any-among : (test : ℕ → Bool) (ρs : List Read) → any_read test ρs ≡ true →
    (ρ : Read) × (ρ among ρs) × (test ρ.operands.signal ≡ true)
unfolding any_read
any-among test [] e = absurd (false≢true e)
any-among test (ρ ∷ ρs) e = go (either (test ρ.operands.signal) (any_read test ρs) e) (any-among test ρs)
  where
    Found : List Read → Type 0
    Found σs = (σ : Read) × (σ among σs) × (test σ.operands.signal ≡ true)

    go : (test ρ.operands.signal ≡ true) ⊎ (any_read test ρs ≡ true) → (any_read test ρs ≡ true → Found ρs) → Found (ρ ∷ ρs)
    go (inl t) ih = (ρ, ◌among◌.here refl, t)
    go (inr t) ih = let h = ih t in (h.0, ◌among◌.later h.1, h.2)

among-any : (test : ℕ → Bool) (ρs : List Read) (ρ : Read) → ρ among ρs → test ρ.operands.signal ≡ true →
    any_read test ρs ≡ true
unfolding any_read
among-any test [] ρ m t = elim m [ ]
among-any test (σ ∷ ρs) ρ (◌among◌.here e) t =
    or_left (test σ.operands.signal) (any_read test ρs) (ap (λ (r : Read). test r.operands.signal) (sym e) ∙ t)
among-any test (σ ∷ ρs) ρ (◌among◌.later m) t =
    or_right (test σ.operands.signal) (any_read test ρs) (among-any test ρs ρ m t)

pub marks-length : (p : Program) (i n : ℕ) → length (marks_after p i n) ≡ count p
unfolding marks_after mark_readers
marks-length p i zero = table-length (count p) _
marks-length p i (suc n) = table-length (count p) _

module _ (p : Program) (i : ℕ) (declared : (y w : ℕ) → y < count p → Reads p y w → w < count p) where
  -- A signal is marked in a round exactly if it reads i or a signal marked before.
  abbrev Next : List Bool → ℕ → Type 0
  Next marks y = (w : ℕ) × Reads p y w × ((w ≡ i) ⊎ Marked marks w)

  mark-from : (marks : List Bool) (y : ℕ) → y < count p → Marked (mark_readers p i marks) y → Next marks y
  unfolding mark_readers
  mark-from marks y lt e =
      let b = (signal_at p y).body in
      let h = any-among (λ w. eqb w i || get_or marks w false) (body_reads b) (sym (table_at (count p) _ y false lt) ∙ e) in
      let w = h.0.operands.signal in
      (w, (reads-exactly b w).1 (h.0, h.1, refl), which w (either (eqb w i) (get_or marks w false) h.2))
    where
      which : (w : ℕ) → (eqb w i ≡ true) ⊎ Marked marks w → (w ≡ i) ⊎ Marked marks w
      which w (inl q) = inl (eqb-true w i q)
      which w (inr q) = inr q

  mark-next : (marks : List Bool) (y : ℕ) → y < count p → Next marks y → Marked (mark_readers p i marks) y
  unfolding mark_readers
  mark-next marks y lt (w, r, h) =
      let b = (signal_at p y).body in
      let q = (reads-exactly b w).0 r in
      table_at (count p) _ y false lt ∙
      among-any (λ v. eqb v i || get_or marks v false) (body_reads b) q.0 q.1
      (subst (λ (v : ℕ). (eqb v i || get_or marks v false) ≡ true) (sym q.2) (which h))
    where
      which : (w ≡ i) ⊎ Marked marks w → (eqb w i || get_or marks w false) ≡ true
      which (inl e) = or_left (eqb w i) (get_or marks w false) (eq-eqb w i e)
      which (inr m) = or_right (eqb w i) (get_or marks w false) m

  -- What is marked depends on i, and stays marked.
  marks-depend : (n y : ℕ) → y < count p → Marked (marks_after p i n) y → DependsOn p y i
  unfolding marks_after
  marks-depend zero y lt e = absurd (false≢true (sym (table_at (count p) _ y false lt) ∙ e))
  marks-depend (suc n) y lt e = go (mark-from (marks_after p i n) y lt e) (marks-depend n)
    where
      go : Next (marks_after p i n) y → ((w : ℕ) → w < count p → Marked (marks_after p i n) w → DependsOn p w i) → DependsOn p y i
      go (w, r, inl q) ih = DependsOn.directly (subst (Reads p y) q r)
      go (w, r, inr m) ih = DependsOn.through r (ih w (declared y w lt r) m)

  marks_stay : (n y : ℕ) → y < count p → Marked (marks_after p i n) y → Marked (marks_after p i (suc n)) y
  unfolding marks_after
  marks_stay zero y lt e = absurd (false≢true (sym (table_at (count p) _ y false lt) ∙ e))
  marks_stay (suc n) y lt e =
      mark-next (mark_readers p i (marks_after p i n)) y lt (go (mark-from (marks_after p i n) y lt e) (marks_stay n))
    where
      go : Next (marks_after p i n) y →
          ((w : ℕ) → w < count p → Marked (marks_after p i n) w → Marked (mark_readers p i (marks_after p i n)) w) →
          Next (mark_readers p i (marks_after p i n)) y
      go (w, r, inl q) ih = (w, r, inl q)
      go (w, r, inr m) ih = (w, r, inr (ih w (declared y w lt r) m))

  -- Marks that another round does not add to are all.
  abbrev Closed : List Bool → Type 0
  Closed marks = (y : ℕ) → y < count p → Marked (mark_readers p i marks) y → Marked marks y

  closed_all : (marks : List Bool) → Closed marks → (y : ℕ) → y < count p → DependsOn p y i → Marked marks y
  closed_all marks h y lt (DependsOn.directly r) = h y lt (mark-next marks y lt (i, r, inl refl))
  closed_all marks h y lt (DependsOn.through {w = w} r d) =
      h y lt (mark-next marks y lt (w, r, inr (closed_all marks h w (declared y w lt r) d)))

  closed-next : (marks : List Bool) → Closed marks → Closed (mark_readers p i marks)
  closed-next marks h y lt e = mark-next marks y lt (go (mark-from (mark_readers p i marks) y lt e))
    where
      go : Next (mark_readers p i marks) y → Next marks y
      go (w, r, inl q) = (w, r, inl q)
      go (w, r, inr m) = (w, r, inr (h w (declared y w lt r) m))

  -- Each round adds one at least, or none adds any more.
  rounds : (n : ℕ) → Closed (marks_after p i n) ⊎ (n ≤ trues (marks_after p i n))
  unfolding marks_after
  rounds zero = inr (omega arith)
  rounds (suc n) = go (rounds n)
    where
      grown :
          (marks_after p i n ≡ mark_readers p i (marks_after p i n)) ⊎
          (trues (marks_after p i n) < trues (mark_readers p i (marks_after p i n))) →
          n ≤ trues (marks_after p i n) →
          Closed (mark_readers p i (marks_after p i n)) ⊎ (suc n ≤ trues (mark_readers p i (marks_after p i n)))
      grown (inl q) le =
          inl (closed-next (marks_after p i n) (λ y lt e. ap (λ (ms : List Bool). get_or ms y false) q ∙ e))
      grown (inr l) le = inr (omega arith)

      go : Closed (marks_after p i n) ⊎ (n ≤ trues (marks_after p i n)) →
          Closed (mark_readers p i (marks_after p i n)) ⊎ (suc n ≤ trues (mark_readers p i (marks_after p i n)))
      go (inl h) = inl (closed-next (marks_after p i n) h)
      go (inr le) =
          grown
          (same-or-more (marks_after p i n) (mark_readers p i (marks_after p i n))
          (marks-length p i n ∙ sym (marks-length p i (suc n)))
          (λ y lt. marks_stay n y (rw (marks-length p i n) at lt)))
          le

  all_closed : Closed (marks_after p i (count p))
  all_closed = go (rounds (count p))
    where
      go : Closed (marks_after p i (count p)) ⊎ (count p ≤ trues (marks_after p i (count p))) → Closed (marks_after p i (count p))
      go (inl h) = h
      go (inr le) = λ y lt e.
          let n = marks-length p i (count p) in
          trues-all (marks_after p i (count p)) (omega (arith, n)) y (omega (arith, n))

  marks-exactly : (y : ℕ) → y < count p → Marked (dependents p i) y ↔ DependsOn p y i
  unfolding dependents
  marks-exactly y lt = (marks-depend (count p) y lt, closed_all (marks_after p i (count p)) all_closed y lt)

-- Reads of a feasible pair are of declared signals.
pub dependents-exactly : (p : Program) (s : Schedule) → Feasible p s → (i y : ℕ) → y < count p →
    (get_or (dependents p i) y false ≡ true) ↔ DependsOn p y i
dependents-exactly p s acc i y lt = marks-exactly p i declared y lt
  where
    declared : (x w : ℕ) → x < count p → Reads p x w → w < count p
    declared x w lx r =
        let h = (reads-exactly (signal_at p x).body w).0 r in
        subst (λ (v : ℕ). v < count p) h.2
        (all_among (Met p s x) (body_reads (signal_at p x).body) (acc.met x lx) h.0 h.1).declared
