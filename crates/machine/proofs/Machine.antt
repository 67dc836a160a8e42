-- What reset and cycle answer and leave, by their tests. Assumes nothing.
use mathlib.Core.Path.{◌≡◌, sym, ap, ◌∙◌}
use mathlib.Core.Bool.{true, false}
use mathlib.Core.List.{List}
use Prim.Native.Nat.{ℕ}
use lib.Dec.{leb, ltb}
use lib.IntN.{ℤ, pos}
use lib.ListN.{length, get_or}
use Rattle.model.specs.Rules.Machine.{
  hyper_of,
  count_of,
  well_formed,
  is_position,
  reset_words,
  cycle_words,
  cycle_count,
  Effect,
  reset_of,
  cycle_of,
}
use Rattle.model.specs.Rules.Outcome.{Outcome, accepted, refuse, ◌▷◌, provided}
use Rattle.model.proofs.Images.Tails.{part-is, lent-ok, bears-itself}
use Rattle.image_valid.specs.Lends.{Lends}

-- a refusal leaves the state as it was
abbrev pub refusal : ℕ → List ℤ → Effect ℕ ℤ
refusal number state = record { answer = refuse number 0; left = state }

abbrev pub done : ℕ → List ℤ → Effect ℕ ℤ
done n state = record { answer = accepted n; left = state }

-- what a call that was refused, or has done its job, hands back
pub gives-refusal : {e : Effect ℕ ℤ} {number : ℕ} {state : List ℤ} {a : Outcome ℕ} →
    e ≡ refusal number state → a ≡ refuse number 0
    → (a ≡ e.answer) × (state ≡ e.left)
gives-refusal q h = (h ∙ sym (ap (λ (e : Effect ℕ ℤ). e.answer) q), sym (ap (λ (e : Effect ℕ ℤ). e.left) q))

pub gives-done : {e : Effect ℕ ℤ} {m n : ℕ} {state after : List ℤ} → e ≡ done n state → m ≡ n → after ≡ state
    → (accepted m ≡ e.answer) × (after ≡ e.left)
gives-done q k h = (ap accepted k ∙ sym (ap (λ (e : Effect ℕ ℤ). e.answer) q), h ∙ sym (ap (λ (e : Effect ℕ ℤ). e.left) q))

-- The image in what is lent is judged, and run.
module _ {lent image : List ℕ} (l : Lends lent image) (state : List ℤ) where
  pub reset-image : well_formed image ≡ false → reset_of lent state ≡ refusal 20 state
  unfolding reset_of provided ◌▷◌
  reset-image a = rw (l.judged ∙ a)

  pub reset-state : well_formed image ≡ true → ltb (count_of image) (length state) ≡ false → reset_of lent state ≡ refusal 21 state
  unfolding reset_of provided ◌▷◌
  reset-state a b = rw (l.judged ∙ a, sym (l.part a), b)

  pub reset-done : well_formed image ≡ true → ltb (count_of image) (length state) ≡ true →
      reset_of lent state ≡ done 0 (reset_words image state)
  unfolding reset_of provided ◌▷◌
  reset-done a b = rw (l.judged ∙ a, sym (l.part a), b)

module _ {lent image : List ℕ} (l : Lends lent image) (state samples : List ℤ) where
  pub cycle-image : well_formed image ≡ false → cycle_of lent state samples ≡ refusal 20 state
  unfolding cycle_of provided ◌▷◌
  cycle-image a = rw (l.judged ∙ a)

  pub cycle-state : well_formed image ≡ true → ltb (count_of image) (length state) ≡ false →
      cycle_of lent state samples ≡ refusal 21 state
  unfolding cycle_of provided ◌▷◌
  cycle-state a b = rw (l.judged ∙ a, sym (l.part a), b)

  pub cycle-position : well_formed image ≡ true → ltb (count_of image) (length state) ≡ true →
      is_position (hyper_of image) (get_or state 0 (pos 0)) ≡ false
      → cycle_of lent state samples ≡ refusal 22 state
  unfolding cycle_of provided ◌▷◌
  cycle-position a b c = rw (l.judged ∙ a, sym (l.part a), b, c)

  pub cycle-samples : well_formed image ≡ true → ltb (count_of image) (length state) ≡ true →
      is_position (hyper_of image) (get_or state 0 (pos 0)) ≡ true
      → leb (count_of image) (length samples) ≡ false → cycle_of lent state samples ≡ refusal 23 state
  unfolding cycle_of provided ◌▷◌
  cycle-samples a b c d = rw (l.judged ∙ a, sym (l.part a), b, c, d)

  pub cycle-done : well_formed image ≡ true → ltb (count_of image) (length state) ≡ true →
      is_position (hyper_of image) (get_or state 0 (pos 0)) ≡ true
      → leb (count_of image) (length samples) ≡ true →
      cycle_of lent state samples ≡ done (cycle_count image state) (cycle_words image state samples)
  unfolding cycle_of provided ◌▷◌
  cycle-done a b c d = rw (l.judged ∙ a, sym (l.part a), b, c, d)

-- A well-formed image may be lent as it is.
pub lends-itself : {image : List ℕ} → well_formed image ≡ true → Lends image image
lends-itself {image} f =
    let own = bears-itself image in
    record { judged = lent-ok f own ∙ sym f; part = λ t. sym (part-is f own) }
