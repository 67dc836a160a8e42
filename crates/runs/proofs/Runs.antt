-- Laws of the runs of a signal, and of sums raised by its weight from run to run. Assumes nothing.
use Prim.Native.Nat.{ℕ, suc, ◌+◌, ◌/◌, ◌%◌, ◌≤◌, ◌<◌}
use mathlib.Core.Bool.{Bool, true, false, cond}
use mathlib.Core.List.{List}
use mathlib.Core.Path.{◌≡◌, refl, sym, ap, ◌∙◌}
use native.Mathlib.Decide.{dec_lt}
use native.Mathlib.Nat.{add-zero, mul-add-mod_self_right, mod-eq_of_lt}
use native.Mathlib.Omega.{arith}
use borrow.Author.Tests.{eq-eqb, ne_eqb}
use lib.ListN.{length, get_or, set}
use lib.Seq.{get_or-set_same, get_or-set_other}
use Rattle.model.specs.Rules.Reads.{Rate, run_cycle, due}
use Rattle.model.proofs.Pairs.Rate.{stored_is}
use Rattle.model.proofs.Pairs.Rate.{due-run}

-- What a signal of weight w adds to the sum of cycle c.
abbrev added : Rate → ℕ → ℕ → ℕ
added a w c = cond (due a c) w 0

-- The sums below `next` have the weight added where the signal is due, the others have not.
abbrev pub RaisedTo : Rate → ℕ → List ℕ → List ℕ → ℕ → Type 0
RaisedTo a w old new next =
    ((c : ℕ) → c < next → get_or new c 0 ≡ get_or old c 0 + added a w c) × ((c : ℕ) → next ≤ c → get_or new c 0 ≡ get_or old c 0)

module _ (a : Rate) (v : a.phase < a.period) where
  run-is-due : (j : ℕ) → due a (run_cycle a j) ≡ true
  unfolding due
  run-is-due j = eq-eqb _ _ (mul-add-mod_self_right j a.period a.phase ∙ mod-eq_of_lt v)

  -- The first run is in the cycle of the phase, the others a period after the one before.
  pub due-first : due a a.phase ≡ true
  due-first = let e : a.phase ≡ run_cycle a 0 = omega arith in ap (due a) e ∙ run-is-due 0

  pub due-next : (t : ℕ) → due a t ≡ true → due a (t + a.period) ≡ true
  due-next t e =
      let n : run_cycle a (suc (t / a.period)) ≡ t + a.period = omega (arith, due-run a t e) in
      rw (← n) (run-is-due (suc (t / a.period)))

  -- Nothing is due before the first run, nor between two runs.
  pub due-before : (c : ℕ) → c < a.phase → due a c ≡ false
  unfolding due
  due-before c h =
      let l : c < a.period = omega arith in
      ne_eqb (c % a.period) a.phase (λ e. omega (arith, mod-eq_of_lt l))

  pub due-between : (t c : ℕ) → due a t ≡ true → t < c → c < t + a.period → due a c ≡ false
  due-between t c e h g = go (due a c) refl
    where
      go : (b : Bool) → due a c ≡ b → b ≡ false
      go false d = refl
      go true d =
          let j : ℕ = suc (t / a.period) in
          let r = due-run a t e in
          let q = due-run a c d in
          let same = sym (stored_is a (suc t) j (omega arith) (omega arith)) ∙
          stored_is a (suc t) (c / a.period) (omega arith) (omega arith) in
          absurd (omega (arith, ap (run_cycle a) same))

  module _ (w : ℕ) (old : List ℕ) where
    pub raised-none : RaisedTo a w old old a.phase
    raised-none = ((λ c h. rw (due-before c h) (sym (add-zero _))), (λ c h. refl))

    pub raised-next : (new : List ℕ) (t : ℕ) → due a t ≡ true → t < length new → RaisedTo a w old new t →
        RaisedTo a w old (set new t (get_or new t 0 + w)) (t + a.period)
    raised-next new t e lt h = (below, (λ c g. get_or-set_other new t c _ 0 (λ z. omega arith) ∙ h.1 c (omega arith)))
      where
        below : (c : ℕ) → c < t + a.period → get_or (set new t (get_or new t 0 + w)) c 0 ≡ get_or old c 0 + added a w c
        below c g = go (dec_lt c t) (dec_lt t c)
          where
            go : Dec (c < t) → Dec (t < c) → get_or (set new t (get_or new t 0 + w)) c 0 ≡ get_or old c 0 + added a w c
            go (yes l) m = get_or-set_other new t c _ 0 (λ z. omega arith) ∙ h.0 c l
            go (no l) (yes m) =
                get_or-set_other new t c _ 0 (λ z. omega arith) ∙ h.1 c (omega arith) ∙
                rw (due-between t c e m g) (sym (add-zero _))
            go (no l) (no m) =
                let z : c ≡ t = omega arith in
                rw (z, e) (get_or-set_same new t _ 0 lt ∙ ap (◌+ w) (h.1 t (omega arith)))

-- A weight is added at most once.
pub added-most : (a : Rate) (w c m : ℕ) → w ≤ m → added a w c ≤ m
added-most a w c m h = go (due a c)
  where
    go : (b : Bool) → cond b w 0 ≤ m
    go true = h
    go false = omega arith
