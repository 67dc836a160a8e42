-- The load of a pair with one phase set. Assumes nothing.
use Rattle.std.specs.Prelude.{Option, Some, None}
use Prim.Native.Nat.{ℕ, zero, suc, ◌+◌, ◌≤◌, ◌<◌}
use mathlib.Core.Bool.{Bool, true, false, cond, false≢true}
use mathlib.Core.Logic.{◌↔◌, inl, inr}
use mathlib.Core.Path.{◌≡◌, refl, sym, ap, ap₂, ◌∙◌}
use native.Mathlib.Omega.{arith}
use borrow.Author.Tests.{eqb-true, eqb-false, ltb-false, le-ltb, ne_eqb}
use lib.Dec.{eqb}
use Rattle.model.specs.Rules.Load.{load, is_over, loaded_of, loaded}
use Rattle.model.specs.Rules.Outcome.{accepted}
use Rattle.model.specs.Rules.Program.{Program, Limit, unlimited, limit, count, signal_at, weight_of}
use Rattle.model.specs.Rules.Reads.{Rate, rate_of, due}
use Rattle.model.specs.Rules.Schedule.{Schedule, phase_of}
use Rattle.model.specs.Rules.Search.{first_below, sum, table, table_from}
use Rattle.model.proofs.Basics.Outcomes.{accepted≢refused}
use Rattle.model.proofs.Pairs.Decide.{is-first}
use Rattle.read_rule.specs.Reads.{at_phase}
use Rattle.move_rule.specs.Ranges.{Room}
use Rattle.model.proofs.Pairs.Moves.{Moved}

-- Sums over tables that differ nowhere, or in one entry.
sum_same : (i n : ℕ) (f g : ℕ → ℕ) → ((y : ℕ) → i ≤ y → y < i + n → f y ≡ g y) → sum (table_from i n f) ≡ sum (table_from i n g)
unfolding sum table_from
sum_same i zero f g h = refl
sum_same i (suc n) f g h = ap₂ ◌+◌ (h i (omega arith) (omega arith)) (sum_same (suc i) n f g (λ y a b. h y (omega arith) (omega
    arith)))

sum-change : (i n x : ℕ) (f g : ℕ → ℕ) → i ≤ x → x < i + n → ((y : ℕ) → i ≤ y → y < i + n → ¬ (y ≡ x) → f y ≡ g y) →
    sum (table_from i n f) + g x ≡ sum (table_from i n g) + f x
unfolding sum table_from
sum-change i zero x f g a b h = absurd (omega arith)
sum-change i (suc n) x f g a b h =
    go (eqb i x) refl (λ d. sum-change (suc i) n x f g (omega arith) (omega arith) (λ y l u k. h y (omega arith) (omega arith) k))
  where
    go : (t : Bool) → eqb i x ≡ t →
        (¬ (i ≡ x) → sum (table_from (suc i) n f) + g x ≡ sum (table_from (suc i) n g) + f x) → f i + sum (table_from (suc i) n f)
        + g x ≡ g i + sum (table_from (suc i) n g) + f x
    go true e ih =
        let z = eqb-true i x e in
        let rest = sum_same (suc i) n f g (λ y l u. h y (omega arith) (omega arith) (λ q. omega arith)) in
        let p = ap f z in
        let q = ap g z in
        omega (arith, rest, p, q)
    go false e ih =
        let d = eqb-false i x e in
        let here = h i (omega arith) (omega arith) d in
        omega (arith, here, ih d)

-- No cycle is over the limit.
abbrev WithinCap : Program → Schedule → ℕ → Type 0
WithinCap p s h = (c : ℕ) → c < h → is_over p.cap (load p s c) ≡ false

loaded-decides : (p : Program) (s : Schedule) (h : ℕ) → (loaded p s h ≡ accepted tt) ↔ WithinCap p s h
unfolding loaded
loaded-decides p s h = (λ e. there (first_below h over) refl e, λ g. back (first_below h over) refl g)
  where
    over : ℕ → Bool
    over c = is_over p.cap (load p s c)

    there : (f : Option ℕ) → first_below h over ≡ f → loaded_of f ≡ accepted tt → WithinCap p s h
    there (Some c) q e = absurd (accepted≢refused _ tt _ e refl)
    there None q e = λ c lt. is-first h over None q c (omega arith) (omega arith)

    back : (f : Option ℕ) → first_below h over ≡ f → WithinCap p s h → loaded_of f ≡ accepted tt
    back (Some c) q g = let k = is-first h over (Some c) q in absurd (false≢true (sym (g c (omega (arith, k.1))) ∙ k.2))
    back None q g = refl

less-over : (l : Limit) (a b : ℕ) → b ≤ a → is_over l a ≡ false → is_over l b ≡ false
less-over unlimited a b le e = refl
less-over (limit m) a b le e = le-ltb m b (omega (arith, ltb-false m a e))

module _ (p : Program) (s s' : Schedule) (x f : ℕ) (mv : Moved p s x f s') (lt : x < count p) where
  abbrev weight : ℕ
  weight = weight_of (signal_at p x).body

  abbrev adds : Schedule → ℕ → ℕ → ℕ
  adds t c y = cond (due (rate_of p t y) c) (weight_of (signal_at p y).body) 0

  adds_same : (c y : ℕ) → y < count p → ¬ (y ≡ x) → adds s' c y ≡ adds s c y
  adds_same c y l d = ap (λ k. cond (due (record { period = (signal_at p y).period; phase = k }) c) (weight_of (signal_at p
      y).body) 0)
      (mv.there y l d)

  load-change : (c : ℕ) → load p s' c + adds s c x ≡ load p s c + adds s' c x
  unfolding load table
  load-change c = sum-change 0 (count p) x (adds s' c) (adds s c) (omega arith) (omega arith)
      (λ y a b d. adds_same c y (omega arith) d)

  rate-here : rate_of p s' x ≡ at_phase (rate_of p s x) f
  rate-here = ap (λ k. record { period = (signal_at p x).period; phase = k }) mv.here

  adds-here : (c : ℕ) → adds s' c x ≡ cond (due (at_phase (rate_of p s x) f) c) weight 0
  adds-here c = ap (λ (a : Rate). cond (due a c) weight 0) rate-here

  apart : ¬ (f ≡ phase_of s x) → (c : ℕ) → due (at_phase (rate_of p s x) f) c ≡ true → due (rate_of p s x) c ≡ false
  unfolding due
  apart d c e = ne_eqb _ _ (λ q. d (sym (eqb-true _ _ e) ∙ q))

  pub loaded-moved : (h : ℕ) → loaded p s h ≡ accepted tt → (loaded p s' h ≡ accepted tt) ↔ Room p s h x f
  loaded-moved h e = (λ t. there (eqb f (phase_of s x)) refl ((loaded-decides p s' h).0 t), λ r. (loaded-decides p s' h).1 (back r))
    where
      old : WithinCap p s h
      old = (loaded-decides p s h).0 e

      full : (c : ℕ) → ¬ (f ≡ phase_of s x) → due (at_phase (rate_of p s x) f) c ≡ true → load p s' c ≡ load p s c + weight
      full c d t =
          let a = load-change c in
          let b = adds-here c ∙ ap (λ k. cond k weight 0) t in
          let g : adds s c x ≡ 0 = ap (λ k. cond k weight 0) (apart d c t) in
          omega (arith, a, b, g)

      there : (b : Bool) → eqb f (phase_of s x) ≡ b → WithinCap p s' h → Room p s h x f
      there true q w = inl (eqb-true f (phase_of s x) q)
      there false q w = inr (λ c l t. ap (is_over p.cap) (sym (full c (eqb-false f (phase_of s x) q) t)) ∙ w c l)

      still : f ≡ phase_of s x → WithinCap p s' h
      still q c l =
          let same = adds-here c ∙ ap (λ k. cond (due (record { period = (signal_at p x).period; phase = k }) c) weight 0) q in
          less-over p.cap (load p s c) (load p s' c) (omega (arith, load-change c, same)) (old c l)

      back : Room p s h x f → WithinCap p s' h
      back (inl q) c l = still q c l
      back (inr g) c l = go (eqb f (phase_of s x)) refl (due (at_phase (rate_of p s x) f) c) refl
        where
          go : (b : Bool) → eqb f (phase_of s x) ≡ b → (t : Bool) → due (at_phase (rate_of p s x) f) c ≡ t →
              is_over p.cap (load p s' c) ≡ false
          go true q t u = still (eqb-true f (phase_of s x) q) c l
          go false q true u = ap (is_over p.cap) (full c (eqb-false f (phase_of s x) q) u) ∙ g c l u
          go false q false u =
              let b = adds-here c ∙ ap (λ k. cond k weight 0) u in
              less-over p.cap (load p s c) (load p s' c) (omega (arith, load-change c, b)) (old c l)
