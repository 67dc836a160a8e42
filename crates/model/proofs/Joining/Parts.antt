-- Two parts joined, and one part more: where signals, phases and PUTs stand. Assumes nothing.
use Prim.Native.Nat.{ℕ, zero, suc, ◌+◌, ◌-◌, ◌<◌, min}
use mathlib.Core.Bool.{Bool, true, false, cond}
use mathlib.Core.List.{List, [], ◌∷◌, ◌++◌, map, map-append, append_assoc, append-nil}
use mathlib.Core.Path.{◌≡◌, refl, sym, ap, ap₂, subst, fun_ext, ◌∙◌}
use native.Mathlib.Decide.{dec_lt}
use native.Mathlib.Nat.{zero-add}
use native.Mathlib.Omega.{arith}
use borrow.Author.Tests.{eqb-true, eqb-false, eq-eqb, ne_eqb}
use lib.Dec.{eqb}
use lib.ListN.{length, get_or, length-append, length-map, get_or-append, get_or-map}
use lib.Seq.{get_or-append-add}
use Rattle.model.specs.Rules.Parts.{Part, renumber_signal, renumber_chain, smaller, ◌⊕◌, no_part, joined_parts}
use Rattle.model.specs.Rules.Program.{Program, Limit, unlimited, limit, no_signal, count, signal_at}
use Rattle.model.specs.Rules.Reads.{rank}
use Rattle.model.specs.Rules.Schedule.{Schedule, phase_of}
use Rattle.model.specs.Says.Feasible.{OrderedPart}
use Rattle.model.proofs.Joining.Renumbered.{chain-twice, chain-none, signal-twice, signal-none}

-- Places in two orders that follow one another.
rank-first : (xs ys : List ℕ) (x : ℕ) → rank xs x < length xs → rank (xs ++ ys) x ≡ rank xs x
unfolding rank
rank-first [] ys x lt = absurd (omega arith)
rank-first (z ∷ xs) ys x lt = go (eqb z x) (rank-first xs ys x) lt
  where
    go : (b : Bool) → (rank xs x < length xs → rank (xs ++ ys) x ≡ rank xs x) →
        cond b 0 (suc (rank xs x)) < suc (length xs) → cond b 0 (suc (rank (xs ++ ys) x)) ≡ cond b 0 (suc (rank xs x))
    go true ih l = refl
    go false ih l = ap suc (ih (omega arith))

rank-second : (xs ys : List ℕ) (x : ℕ) → ((j : ℕ) → j < length xs → get_or xs j 0 ≡ x → ⊥) →
    rank (xs ++ ys) x ≡ length xs + rank ys x
unfolding rank
rank-second [] ys x h = sym (zero-add (rank ys x))
rank-second (z ∷ xs) ys x h =
    rw (ne_eqb z x (h 0 (omega arith)))
    (ap suc (rank-second xs ys x (λ j l. h (suc j) (omega arith))) ∙ omega arith)

rank-shifted : (n : ℕ) (ys : List ℕ) (x : ℕ) → rank (map (λ y. n + y) ys) (n + x) ≡ rank ys x
unfolding rank
rank-shifted n [] x = refl
rank-shifted n (y ∷ ys) x = go (eqb y x) refl (rank-shifted n ys x)
  where
    go : (b : Bool) → eqb y x ≡ b → rank (map (λ y. n + y) ys) (n + x) ≡ rank ys x →
        cond (eqb (n + y) (n + x)) 0 (suc (rank (map (λ y. n + y) ys) (n + x))) ≡ cond b 0 (suc (rank ys x))
    go true e ih = rw (eq-eqb (n + y) (n + x) (omega (arith, eqb-true y x e)))
    go false e ih = rw (ne_eqb (n + y) (n + x) (λ q. eqb-false y x e (omega arith))) (ap suc ih)

-- What holds of the numbers below n, and of n and the numbers below m, holds of all below n + m.
by-halves : (n m : ℕ) (P : ℕ → Type 0) → ((x : ℕ) → x < n → P x) → ((y : ℕ) → y < m → P (n + y)) → (x : ℕ) → x < n + m → P x
by-halves n m P f g x lt = go (dec_lt x n)
  where
    go : Dec (x < n) → P x
    go (yes l) = f x l
    go (no l) = let e : n + (x - n) ≡ x = omega arith in subst P e (g (x - n) (omega arith))

-- Two parts.
module _ (a b : Part) where
  pub join-count : count (a ⊕ b).program ≡ count a.program + count b.program
  unfolding ◌⊕◌
  join-count = simp (length-append, length-map)

  pub first-signal : (x : ℕ) → x < count a.program → signal_at (a ⊕ b).program x ≡ signal_at a.program x
  unfolding ◌⊕◌
  first-signal x lt = get_or-append a.program.signals _ no_signal x lt

  pub second-signal : (x : ℕ) →
      signal_at (a ⊕ b).program (count a.program + x) ≡
      renumber_signal (λ y. count a.program + y) (signal_at b.program x)
  unfolding ◌⊕◌
  second-signal x =
      get_or-append-add a.program.signals _ x no_signal ∙
      get_or-map (renumber_signal (λ y. count a.program + y)) b.program.signals x no_signal

  pub join-order : length (a ⊕ b).schedule.order ≡ length a.schedule.order + length b.schedule.order
  unfolding ◌⊕◌
  join-order = simp (length-append, length-map) (omega arith)

  pub first-put : (j : ℕ) → j < length a.schedule.order → get_or (a ⊕ b).schedule.order j 0 ≡ get_or a.schedule.order j 0
  unfolding ◌⊕◌
  first-put j lt = get_or-append a.schedule.order _ 0 j lt

  pub second-put : (j : ℕ) → j < length b.schedule.order →
      get_or (a ⊕ b).schedule.order (length a.schedule.order + j) 0 ≡ count a.program + get_or b.schedule.order j 0
  unfolding ◌⊕◌
  second-put j lt =
      get_or-append-add a.schedule.order _ j 0 ∙
      mapped b.schedule.order j lt
    where
      mapped : (ys : List ℕ) (j : ℕ) → j < length ys →
          get_or (map (λ y. count a.program + y) ys) j 0 ≡ count a.program + get_or ys j 0
      mapped [] j lt = absurd (omega arith)
      mapped (y ∷ ys) zero lt = refl
      mapped (y ∷ ys) (suc j) lt = mapped ys j (omega arith)

  -- Signal by signal, and PUT by PUT.
  pub by-signals : (P : ℕ → Type 0) → ((x : ℕ) → x < count a.program → P x) →
      ((y : ℕ) → y < count b.program → P (count a.program + y)) → (x : ℕ) → x < count (a ⊕ b).program → P x
  by-signals P f g x lt =
      by-halves (count a.program) (count b.program) P f g x (omega (arith, join-count))

  pub by-puts : (P : ℕ → Type 0) → ((j : ℕ) → j < length a.schedule.order → P j) →
      ((j : ℕ) → j < length b.schedule.order → P (length a.schedule.order + j)) →
      (j : ℕ) → j < length (a ⊕ b).schedule.order → P j
  by-puts P f g j lt =
      by-halves (length a.schedule.order) (length b.schedule.order) P f g j (omega (arith, join-order))

-- Two such parts.
module _ (a b : Part) (ok : OrderedPart a) (ok' : OrderedPart b) where
  pub first-phase : (x : ℕ) → x < count a.program → phase_of (a ⊕ b).schedule x ≡ phase_of a.schedule x
  unfolding ◌⊕◌
  first-phase x lt = get_or-append a.schedule.phases b.schedule.phases 0 x (omega (arith, ok.phased))

  pub second-phase : (x : ℕ) → phase_of (a ⊕ b).schedule (count a.program + x) ≡ phase_of b.schedule x
  unfolding ◌⊕◌
  second-phase x = rw (← ok.phased) (get_or-append-add a.schedule.phases b.schedule.phases x 0)

  pub first-rank : (x : ℕ) → x < count a.program → rank (a ⊕ b).schedule.order x ≡ rank a.schedule.order x
  unfolding ◌⊕◌
  first-rank x lt = rank-first a.schedule.order _ x (ok.ordered.put x lt)

  pub second-rank : (x : ℕ) →
      rank (a ⊕ b).schedule.order (count a.program + x) ≡ length a.schedule.order + rank b.schedule.order x
  unfolding ◌⊕◌
  second-rank x =
      rank-second a.schedule.order _ (count a.program + x)
      (λ j l e. absurd (omega (arith, ok.ordered.only j l))) ∙
      ap (λ (k : ℕ). length a.schedule.order + k) (rank-shifted (count a.program) b.schedule.order x)

  pub join-phases : length (a ⊕ b).schedule.phases ≡ count (a ⊕ b).program
  unfolding ◌⊕◌
  join-phases = simp (length-append, length-map) (omega (arith, ok.phased, ok'.phased))

  -- Two parts that are in order are in order when joined.
  pub join-ordered : OrderedPart (a ⊕ b)
  join-ordered =
      record { ordered = record { phases = phases; put = put; once = once; only = only }; phased = join-phases }
    where
      p : Program
      p = (a ⊕ b).program

      s : Schedule
      s = (a ⊕ b).schedule

      phases : (x : ℕ) → x < count p → phase_of s x < (signal_at p x).period
      phases =
          by-signals a b (λ x. phase_of s x < (signal_at p x).period)
          (λ x lt. omega (arith, first-phase x lt, ap (λ σ. σ.period) (first-signal a b x lt), ok.ordered.phases x lt))
          (λ y lt. omega (arith, second-phase y, ap (λ σ. σ.period) (second-signal a b y), ok'.ordered.phases y lt))

      put : (x : ℕ) → x < count p → rank s.order x < length s.order
      put =
          by-signals a b (λ x. rank s.order x < length s.order)
          (λ x lt. omega (arith, first-rank x lt, join-order a b, ok.ordered.put x lt))
          (λ y lt. omega (arith, second-rank y, join-order a b, ok'.ordered.put y lt))

      once : (j : ℕ) → j < length s.order → rank s.order (get_or s.order j 0) ≡ j
      once =
          by-puts a b (λ j. rank s.order (get_or s.order j 0) ≡ j)
          (λ j lt.
          ap (rank s.order) (first-put a b j lt) ∙
          first-rank (get_or a.schedule.order j 0) (ok.ordered.only j lt) ∙
          ok.ordered.once j lt)
          (λ j lt.
          ap (rank s.order) (second-put a b j lt) ∙
          second-rank (get_or b.schedule.order j 0) ∙
          ap (λ (i : ℕ). length a.schedule.order + i) (ok'.ordered.once j lt))

      only : (j : ℕ) → j < length s.order → get_or s.order j 0 < count p
      only =
          by-puts a b (λ j. get_or s.order j 0 < count p)
          (λ j lt. omega (arith, first-put a b j lt, join-count a b, ok.ordered.only j lt))
          (λ j lt. omega (arith, second-put a b j lt, join-count a b, ok'.ordered.only j lt))

map-twice : {A : Type 0} (f g h : A → A) → ((x : A) → g (f x) ≡ h x) → (xs : List A) → map g (map f xs) ≡ map h xs
map-twice f g h e [] = refl
map-twice f g h e (x ∷ xs) = ap₂ ◌∷◌ (e x) (map-twice f g h e xs)

map-none : {A : Type 0} (f : A → A) → ((x : A) → f x ≡ x) → (xs : List A) → map f xs ≡ xs
map-none f e [] = refl
map-none f e (x ∷ xs) = ap₂ ◌∷◌ (e x) (map-none f e xs)

-- Three lists joined, of which the second and the third are numbered on.
three : {A : Type 0} (f g h : A → A) (xs ys zs : List A) → ((x : A) → f (h x) ≡ g x) →
    (xs ++ map f ys) ++ map g zs ≡ xs ++ map f (ys ++ map h zs)
three f g h xs ys zs e =
    append_assoc xs (map f ys) (map g zs) ∙
    ap (λ l. xs ++ l)
    (ap (λ l. map f ys ++ l) (sym (map-twice h f g e zs)) ∙ sym (map-append f ys (map h zs)))

min_assoc : (m n k : ℕ) → min (min m n) k ≡ min m (min n k)
min_assoc m n k = omega arith

smaller-assoc : (a b c : Limit) → smaller (smaller a b) c ≡ smaller a (smaller b c)
smaller-assoc unlimited b c = refl
smaller-assoc (limit m) unlimited c = refl
smaller-assoc (limit m) (limit n) unlimited = refl
smaller-assoc (limit m) (limit n) (limit k) = ap limit (min_assoc m n k)

smaller-none : (a : Limit) → smaller a unlimited ≡ a
smaller-none unlimited = refl
smaller-none (limit m) = refl

pub join-chains : (a b : Part) →
    length (a ⊕ b).program.chains ≡ length a.program.chains + length b.program.chains
unfolding ◌⊕◌
join-chains a b = simp (length-append, length-map)

join-assoc : (a b c : Part) → (a ⊕ b) ⊕ c ≡ a ⊕ (b ⊕ c)
unfolding ◌⊕◌
join-assoc a b c i =
    record {
      program =
          record {
            signals =
                three (renumber_signal f) (renumber_signal g) (renumber_signal h) a.program.signals b.program.signals
                c.program.signals (λ σ. signal-twice h f σ ∙ ap (λ (k : ℕ → ℕ). renumber_signal k σ) same) i;
            chains =
                three (renumber_chain f) (renumber_chain g) (renumber_chain h) a.program.chains b.program.chains
                c.program.chains (λ σ. chain-twice h f σ ∙ ap (λ (k : ℕ → ℕ). renumber_chain k σ) same) i;
            cap = smaller-assoc a.program.cap b.program.cap c.program.cap i;
            rows = append_assoc a.program.rows b.program.rows c.program.rows i;
          };
      schedule =
          record {
            order =
                three f g h a.schedule.order b.schedule.order c.schedule.order
                (λ x. ap (λ (k : ℕ → ℕ). k x) same) i;
            phases = append_assoc a.schedule.phases b.schedule.phases c.schedule.phases i;
          };
    }
  where
    f : ℕ → ℕ
    f x = count a.program + x

    h : ℕ → ℕ
    h x = count b.program + x

    g : ℕ → ℕ
    g x = count (a ⊕ b).program + x

    same : ◌≡◌ {A = ℕ → ℕ} (λ x. f (h x)) g
    same = fun_ext (λ x. omega (arith, join-count a b))

none_first : (a : Part) → no_part ⊕ a ≡ a
unfolding ◌⊕◌
none_first a i =
    record {
      program =
          record {
            signals =
                map-none (renumber_signal (λ x. 0 + x))
                (λ σ. ap (λ (k : ℕ → ℕ). renumber_signal k σ) (fun_ext zero-add) ∙ signal-none σ) a.program.signals i;
            chains =
                map-none (renumber_chain (λ x. 0 + x))
                (λ σ. ap (λ (k : ℕ → ℕ). renumber_chain k σ) (fun_ext zero-add) ∙ chain-none σ) a.program.chains i;
            cap = a.program.cap;
            rows = a.program.rows;
          };
      schedule =
          record { order = map-none (λ x. 0 + x) zero-add a.schedule.order i; phases = a.schedule.phases };
    }

none_last : (a : Part) → a ⊕ no_part ≡ a
unfolding ◌⊕◌
none_last a i =
    record {
      program =
          record {
            signals = append-nil a.program.signals i;
            chains = append-nil a.program.chains i;
            cap = smaller-none a.program.cap i;
            rows = append-nil a.program.rows i;
          };
      schedule = record { order = append-nil a.schedule.order i; phases = append-nil a.schedule.phases i };
    }

-- One part more.
pub joined-last : (parts : List Part) (a : Part) → joined_parts (parts ++ (a ∷ [])) ≡ joined_parts parts ⊕ a
unfolding joined_parts
joined-last [] a = none_last a ∙ sym (none_first a)
joined-last (b ∷ parts) a =
    ap (λ (c : Part). b ⊕ c) (joined-last parts a) ∙ sym (join-assoc b (joined_parts parts) a)
