-- The next due place in cyclic order. Assumes nothing.
use Rattle.std.specs.Prelude.{Option, Some, None}
use Prim.Native.Nat.{ℕ, ◌<◌}
use mathlib.Core.Bool.{true, false}
use mathlib.Core.Path.{◌≡◌, refl, sym, ap, ◌∙◌}
use native.Mathlib.Decide.{dec_lt}
use native.Mathlib.Omega.{arith}
use Rattle.model.specs.Rules.Search.{first_below}
use Rattle.model.proofs.Pairs.Decide.{is-first}
use Rattle.board.specs.Board.{place_after, due_after, place_found, next_due}
use Rattle.board.specs.Board.{Board}

pub true≢false : true ≡ false → ⊥
true≢false e = let z : ◌≡◌ {A = ℕ} 0 1 = cc in omega arith

-- The next due place: the first of the four in cyclic order that is due, or none as none is.
module _ (b : Board) where
  pub next-at : (i : ℕ) → i < 4 → due_after b i ≡ true → ((m : ℕ) → m < i → due_after b m ≡ false) →
      next_due b ≡ Some (place_after b i)
  unfolding next_due
  next-at i lt e h = go (first_below 4 (due_after b)) refl
    where
      same : (j : ℕ) → due_after b j ≡ true → ((m : ℕ) → m < j → due_after b m ≡ false) → Dec (i < j) → Dec (j < i) → j ≡ i
      same j d none (yes l) r = absurd (true≢false (sym e ∙ none i l))
      same j d none (no g) (yes l) = absurd (true≢false (sym d ∙ h j l))
      same j d none (no g) (no k) = omega arith

      go : (f : Option ℕ) → first_below 4 (due_after b) ≡ f → place_found b f ≡ Some (place_after b i)
      go (Some j) q =
          let w = is-first 4 (due_after b) (Some j) q in
          ap (λ (k : ℕ). Some (place_after b k)) (same j w.2 (λ m l. w.3 m (omega arith) l) (dec_lt i j) (dec_lt j i))
      go None q = absurd (true≢false (sym e ∙ is-first 4 (due_after b) None q i (omega arith) (omega arith)))

  pub next-none : ((m : ℕ) → m < 4 → due_after b m ≡ false) → next_due b ≡ None
  unfolding next_due
  next-none h = go (first_below 4 (due_after b)) refl
    where
      go : (f : Option ℕ) → first_below 4 (due_after b) ≡ f → place_found b f ≡ None
      go (Some j) q =
          let w = is-first 4 (due_after b) (Some j) q in absurd (true≢false (sym w.2 ∙ h j (omega (arith, w.1))))
      go None q = refl

  pub next-below : (k : ℕ) → next_due b ≡ Some k → k < 4
  unfolding next_due
  next-below k e = go (first_below 4 (due_after b)) e
    where
      go : (f : Option ℕ) → place_found b f ≡ Some k → k < 4
      go (Some i) h = let q : place_after b i ≡ k = cc in omega arith
      go None h = let z : ◌≡◌ {A = ℕ} 0 1 = cc in absurd (omega arith)

-- The place found is the i-th after the last, and none before it is due.
pub record NextAt (b : Board) (k : ℕ) : Type 0 where
  pub ahead : ℕ
  pub few : ahead < 4
  pub here : place_after b ahead ≡ k
  pub is-due : due_after b ahead ≡ true
  pub before : (m : ℕ) → m < ahead → due_after b m ≡ false

module _ (b : Board) where
  pub reached : (k : ℕ) → next_due b ≡ Some k → NextAt b k
  unfolding next_due
  reached k = go (first_below 4 (due_after b)) refl
    where
      go : (f : Option ℕ) → first_below 4 (due_after b) ≡ f → place_found b f ≡ Some k → NextAt b k
      go (Some i) e h =
          let w = is-first 4 (due_after b) (Some i) e in
          record { ahead = i; few = omega (arith, w.1); here = cc; is-due = w.2; before = λ m lt. w.3 m (omega arith) lt }
      go None e h = let z : ◌≡◌ {A = ℕ} 0 1 = cc in absurd (omega arith)

  pub none-due : next_due b ≡ None → (m : ℕ) → m < 4 → due_after b m ≡ false
  unfolding next_due
  none-due = go (first_below 4 (due_after b)) refl
    where
      go : (f : Option ℕ) → first_below 4 (due_after b) ≡ f → place_found b f ≡ None → (m : ℕ) → m < 4 → due_after b m ≡ false
      go (Some i) e h m lt = let z : ◌≡◌ {A = ℕ} 0 1 = cc in absurd (omega arith)
      go None e h m lt = is-first 4 (due_after b) None e m (omega arith) (omega arith)
