-- What a call that writes a list of bytes answers and leaves, by its tests. Assumes nothing.
use Rattle.std.specs.Prelude.{Ok, Err}
use Prim.Native.Nat.{ℕ, ◌+◌, ◌≤◌, ◌<◌}
use mathlib.Core.List.{List, ◌++◌}
use mathlib.Core.Path.{◌≡◌, refl, sym, ap, ◌∙◌}
use native.Mathlib.Omega.{arith}
use borrow.Author.Tests.{le-leb, lt-leb}
use lib.ListN.{length, drop}
use lib.Seq.{sets-eq}
use Rattle.model.specs.Rules.Machine.{effect}
use Rattle.model.specs.Rules.Outcome.{Outcome, accepted, refused, refuse, ◌▷◌, provided}
use Rattle.model.specs.Rules.TextForm.{write_job}
use Rattle.model.specs.Rules.Writing.{Wrote}
use Rattle.model.specs.declared.Fault.{Fault}
use Rattle.text_keyword.specs.Written.{length_answer}

-- What a measured length tells.
pub length-refused : (o : Outcome (List ℕ)) (f : Fault) → Err f ≡ length_answer o → o ≡ refused f
length-refused (accepted l) f e = let z : ◌≡◌ {A = ℕ} 0 1 = cc in absurd (omega arith)
length-refused (refused g) f e = let z : f ≡ g = cc in ap refused (sym z)

pub length-done : (o : Outcome (List ℕ)) (n : ℕ) → Ok n ≡ length_answer o → (l : List ℕ) × (o ≡ accepted l) ×
    (length l ≡ n)
length-done (accepted l) n e = let z : n ≡ length l = cc in (l, refl, sym z)
length-done (refused g) n e = let z : ◌≡◌ {A = ℕ} 0 1 = cc in absurd (omega arith)

module _ (taken : List ℕ) (o : Outcome (List ℕ)) (buffer : List ℕ) where
  abbrev Answers : Outcome ℕ → List ℕ → Type 0
  Answers answer after =
      (answer ≡ (effect buffer (write_job taken o buffer)).answer) × (after ≡ (effect buffer (write_job taken o buffer)).left)

  pub answered-long : 16777216 < length taken → Answers (refuse 47 0) buffer
  unfolding provided ◌▷◌
  answered-long lt = rw (lt-leb (length taken) 16777216 lt) (refl, refl)

  module _ (le : length taken ≤ 16777216) where
    pub answered-refused : (f : Fault) → o ≡ refused f → Answers (refused f) buffer
    unfolding provided ◌▷◌
    answered-refused f e = rw (le-leb (length taken) 16777216 le, e) (refl, refl)

    module _ (l : List ℕ) (e : o ≡ accepted l) where
      pub answered-short : (n : ℕ) → length l ≡ n → length buffer < n → Answers (refuse 44 n) buffer
      unfolding provided ◌▷◌
      answered-short n size lt =
          rw (le-leb (length taken) 16777216 le, e, size, lt-leb n (length buffer) lt) (refl, refl)

      pub answered-done : (after : List ℕ) (end : ℕ) → length l ≤ length buffer → Wrote buffer 0 l after end →
          Answers (accepted end) after
      unfolding provided ◌▷◌
      answered-done after end fits w =
          let whole : 0 + length l ≡ length l = omega arith in
          rw (le-leb (length taken) 16777216 le, e, le-leb (length l) (length buffer) fits) (
            ap accepted (w.ends ∙ whole),
            w.holds ∙ sets-eq l buffer 0 (omega arith) ∙ ap (λ (m : ℕ). l ++ drop m buffer) whole,
          )
