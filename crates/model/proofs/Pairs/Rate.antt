-- How many elements of a signal are stored before a cycle. Assumes nothing.
use Prim.Native.Nat.{ℕ, zero, suc, ◌+◌, ◌*◌, ◌-◌, ◌/◌, ◌≤◌, ◌<◌, ◌%◌}
use mathlib.Core.Bool.{Bool, true, false, true≢false, false≢true}
use mathlib.Core.Path.{◌≡◌, refl, sym, ◌∙◌}
use native.Mathlib.Nat.{div-eq_of_lt-le, div-mul-le_self, lt-div-mul-add, div-add-mod', mul-add-mod_self_right, mod-eq_of_lt}
use native.Mathlib.Omega.{arith}
use borrow.Author.Tests.{eqb-true, eqb-false}
use Rattle.model.specs.Rules.Reads.{Rate, run_cycle, stored, due}

-- j elements are stored before cycle t where run j is the first at or after t.
pub stored_is : (a : Rate) (t j : ℕ) → t ≤ run_cycle a j → run_cycle a j < t + a.period → stored a t ≡ j
unfolding stored
stored_is a t j h g = div-eq_of_lt-le a.period (omega arith) (omega arith)

-- The other way round: run `stored a t` is the first at or after t.
pub stored_low : (a : Rate) (t : ℕ) → a.phase < a.period → t ≤ run_cycle a (stored a t)
unfolding stored
stored_low a t v =
    let h : zero < a.period = omega arith in
    omega (arith, lt-div-mul-add {a = t + a.period - suc a.phase} h)

pub stored-high : (a : Rate) (t : ℕ) → a.phase < a.period → run_cycle a (stored a t) < t + a.period
unfolding stored
stored-high a t v = omega (arith, div-mul-le_self (t + a.period - suc a.phase) a.period)

abbrev pub bit : Bool → ℕ
bit true = 1
bit false = 0

-- What the run of cycle t itself stores makes no difference where there is none.
pub stored-bit : (a : Rate) (t : ℕ) (b c : Bool) → a.phase < a.period → ((j : ℕ) → run_cycle a j ≡ t → b ≡ c) →
    stored a (t + bit b) ≡ stored a (t + bit c)
stored-bit a t b c v h = go b c h
  where
    none : ((j : ℕ) → run_cycle a j ≡ t → ⊥) → stored a (t + 1) ≡ stored a (t + 0)
    none g =
        let j : ℕ = stored a (t + 0) in
        stored_is a (t + 1) j (omega (arith, stored_low a (t + 0) v, g j)) (omega (arith, stored-high a (t + 0) v))

    go : (b c : Bool) → ((j : ℕ) → run_cycle a j ≡ t → b ≡ c) → stored a (t + bit b) ≡ stored a (t + bit c)
    go true true h = refl
    go false false h = refl
    go true false h = none (λ j e. true≢false (h j e))
    go false true h = sym (none (λ j e. false≢true (h j e)))

-- After c cycles a signal holds its initial word if c ≤ p ..
pub stored-none : (a : Rate) (c : ℕ) → a.phase < a.period → c ≤ a.phase → stored a c ≡ 0
stored-none a c v h = stored_is a c 0 (omega arith) (omega arith)

-- .. and else its element floor((c − 1 − p)/P), which is the history entry one higher.
pub stored_some : (a : Rate) (c : ℕ) → a.phase < a.period → a.phase < c → stored a c ≡ suc ((c - 1 - a.phase) / a.period)
stored_some a c v h =
    let d : ℕ = c - 1 - a.phase in
    let pos : zero < a.period = omega arith in
    let f = div-mul-le_self d a.period in
    let g = lt-div-mul-add {a = d} pos in
    stored_is a c (suc (d / a.period)) (omega arith) (omega arith)

-- b periods later, b elements more are stored.
pub stored-shift : (a : Rate) (t b : ℕ) → a.phase < a.period → stored a (t + b * a.period) ≡ stored a t + b
stored-shift a t b v =
    stored_is a (t + b * a.period) (stored a t + b) (omega (arith, stored_low a t v)) (omega (arith, stored-high a t v))

-- A signal is due in the cycles of its runs.
pub due-run : (a : Rate) (t : ℕ) → due a t ≡ true → run_cycle a (t / a.period) ≡ t
unfolding due
due-run a t e = omega (arith, div-add-mod' t a.period, eqb-true (t % a.period) a.phase e)

pub run-due : (a : Rate) (t : ℕ) → a.phase < a.period → due a t ≡ false → (j : ℕ) → run_cycle a j ≡ t → ⊥
unfolding due
run-due a t v e j h =
    eqb-false (t % a.period) a.phase e (rw (← h) (mul-add-mod_self_right j a.period a.phase ∙ mod-eq_of_lt v))
