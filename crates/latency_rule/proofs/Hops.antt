-- Laws of going back over hops. Assumes nothing.
use Rattle.std.specs.Prelude.{Option, Some}
use Prim.Native.Nat.{ℕ, zero, suc, ◌+◌, ◌*◌, ◌-◌, ◌≤◌, ◌<◌}
use mathlib.Core.List.{List}
use mathlib.Core.Path.{◌≡◌, refl, ap, subst, ◌∙◌}
use native.Mathlib.Nat.{mul-le-mul_left, mul-le-mul_right, le_trans}
use native.Mathlib.Omega.{arith}
use lib.ListN.{get_or}
use Rattle.model.specs.Rules.Latency.{onward}
use Rattle.latency_rule.specs.declared.Hop.{Hop}
use Rattle.latency_rule.specs.declared.Route.{Route}
use Rattle.latency_rule.specs.Back.{no_hop, used_by, back_by, Small, OnwardSmall, Passable}

-- A product of an element's number and a byte.
pub times-byte : (k n : ℕ) → k ≤ 1000000 → n < 256 → k * n ≤ 255000000
times-byte k n h g =
    let y : n ≤ 255 = omega arith in
    le_trans (mul-le-mul_left k y) (mul-le-mul_right 255 h)

below : (n : ℕ) → 0 < n → n ≡ suc (n - 1)
below n h = omega arith

module _ (hops : List Hop) where
  -- One hop more.
  pub back_at : (n k e : ℕ) → 0 < n → e ≡ used_by (get_or hops (n - 1) no_hop) k →
      back_by hops n k ≡ onward (λ m. back_by hops (n - 1) m) e
  unfolding back_by
  back_at n k e h q = ap (λ n. back_by hops n k) (below n h) ∙ rw q (go (n - 1))
    where
      go : (n : ℕ) → back_by hops (suc n) k ≡ onward (λ m. back_by hops n m) (used_by (get_or hops n no_hop) k)
      go n = refl

  pub small_at : (n k e : ℕ) → 0 < n → e ≡ used_by (get_or hops (n - 1) no_hop) k → Small hops n k →
      OnwardSmall (λ m. Small hops (n - 1) m) e
  unfolding Small
  small_at n k e h q s = rw q (go (n - 1) (subst (λ n. Small hops n k) (below n h) s))
    where
      go : (n : ℕ) → Small hops (suc n) k → OnwardSmall (λ m. Small hops n m) (used_by (get_or hops n no_hop) k)
      go n t = t.1

  pub back_end : (n k : ℕ) → n ≡ 0 → back_by hops n k ≡ Some k
  unfolding back_by
  back_end n k h = rw h

  pub small-start : (n k : ℕ) → Small hops n k → k ≤ 1000000
  unfolding Small
  small-start zero k s = s
  small-start (suc n) k s = s.0

-- An entry that is not 0.
pub onward-at : (go : ℕ → Option ℕ) (e : ℕ) → (e ≡ 0 → ⊥) → onward go e ≡ go (e - 1)
onward-at go zero h = absurd (h refl)
onward-at go (suc m) h = ap go (omega arith)

pub small-onward : (go : ℕ → Type 0) (e : ℕ) → (e ≡ 0 → ⊥) → OnwardSmall go e → go (e - 1)
small-onward go zero h s = absurd (h refl)
small-onward go (suc m) h s = subst go (omega arith) s

-- From one run, from some of the runs, and from a run of the window.
module _ {route : Route} {from : ℕ} where
  pub small-run : Passable route from 1 → Small route.hops route.count from
  small-run h = subst (Small route.hops route.count) (omega arith) (h.small 0 (omega arith))

  module _ {window : ℕ} (h : Passable route from window) where
    pub fewer-runs : (runs : ℕ) → runs ≤ window → Passable route from runs
    fewer-runs runs le = record {
      few = h.few;
      sound = h.sound;
      small = λ i lt. h.small i (omega arith);
      within = omega (arith, h.within);
    }

    pub one-run : (i : ℕ) → i < window → Passable route (from + i) 1
    one-run i lt = record {
      few = h.few;
      sound = h.sound;
      small = λ j one. subst (Small route.hops route.count) (omega arith) (h.small i lt);
      within = omega (arith, h.within);
    }
