-- Outcomes: a value, or a refusal with its number and its place.
use Rattle.std.specs.Prelude.{Result, Ok, Err, ℕ, Bool, true, false, cond, List, [], ◌∷◌, ltb}
use Rattle.model.specs.declared.Fault.{Fault}

pub data Outcome (A : Type 0) : Type 0 where
  accepted : A → Outcome A
  refused : Fault → Outcome A

abbrev pub fault : ℕ → ℕ → Fault
fault number place = record { number = number; place = place }

abbrev pub refuse : {A : Type 0} → ℕ → ℕ → Outcome A
refuse number place = refused (fault number place)

-- What the answer of a call that yields a number stands for.
abbrev pub yielded_of : Result ℕ Fault → Outcome ℕ
yielded_of (Ok n) = accepted n
yielded_of (Err f) = refused f

-- One step after another. The first fault met is the one given.
infixr 10 ◌▷◌
unfoldable pub ◌▷◌ : {A B : Type 0} → Outcome A → (A → Outcome B) → Outcome B
accepted a ▷ next = next a
refused f ▷ next = refused f

-- The condition of a step, and the refusal where it does not hold.
unfoldable pub provided : Bool → ℕ → ℕ → Outcome (Unit {0})
provided true number place = accepted tt
provided false number place = refuse number place

-- The one of two faults with the lower place.
abbrev pub lower : Fault → Outcome (Unit {0}) → Outcome (Unit {0})
lower f (accepted a) = refused f
lower f (refused g) = refused (cond (ltb g.place f.place) g f)

-- The fault at the lowest place, where there is one.
unfoldable pub lowest : List Fault → Outcome (Unit {0})
lowest [] = accepted tt
lowest (f ∷ fs) = lower f (lowest fs)

-- A value read from a text, and the offset after it.
pub record Parsed (A : Type 0) : Type 0 where
  pub value : A
  pub next : ℕ

abbrev pub parsed : {A : Type 0} → A → ℕ → Outcome (Parsed A)
parsed value next = accepted (record { value = value; next = next })
