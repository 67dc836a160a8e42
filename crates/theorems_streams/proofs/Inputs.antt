-- The tests of an input. Assumes nothing.
use Prim.Native.Nat.{ℕ}
use mathlib.Core.Bool.{Bool, true, false, cond, false≢true}
use mathlib.Core.Logic.{◌↔◌}
use mathlib.Core.Path.{◌≡◌, refl, ap, ◌∙◌}
use borrow.Author.Tests.{lt-ltb, ltb-true}
use lib.Dec.{ltb}
use Rattle.model.specs.Rules.Program.{Program, Body, input, equation, is_input, count, signal_at}
use Rattle.model.specs.Rules.Script.{is_input_of}
use Rattle.theorems_streams.specs.Held.{IsInput, InputOf}

pub input-decides : (b : Body) → (is_input b ≡ true) ↔ IsInput b
input-decides input = (λ e. tt, λ h. refl)
input-decides (equation weight e) = (λ q. absurd (false≢true q), λ h. absurd h)

pub input-exactly : (p : Program) (x : ℕ) → (is_input_of p x ≡ true) ↔ InputOf p x
unfolding is_input_of
input-exactly p x = (
  go (ltb x (count p)) refl,
  λ h. ap (λ b. cond b (is_input (signal_at p x).body) false)
      (lt-ltb x (count p) h.0) ∙ (input-decides (signal_at p x).body).1 h.1,
)
  where
    go : (b : Bool) → ltb x (count p) ≡ b → cond b (is_input (signal_at p x).body) false ≡ true → InputOf p x
    go true e h = (ltb-true x (count p) e, (input-decides (signal_at p x).body).0 h)
    go false e h = absurd (false≢true h)
