-- The code of the signals of a part in a join.
use Rattle.std.specs.Prelude.{Option, Some, None, ℕ, ◌+◌, ◌≤◌, ◌<◌, List, [], ◌∷◌, ◌≡◌, length}
use Rattle.model.specs.Rules.Image.{signal_code}
use Rattle.model.specs.Rules.Parts.{renumber_body}
use Rattle.model.specs.Rules.Program.{Signal, Body, Read, body_reads}
use Rattle.model.specs.Rules.Writing.{Wrote}
use Rattle.model.specs.Says.Feasible.{All}
use Rattle.model.specs.Says.Stands.{SpellsSignal}

-- The code of the joined signal x, whose part has this base: of a linked IN a LOAD of its source and a STORE.
abbrev pub joined_code : ℕ → Option ℕ → ℕ → Body → List ℕ
joined_code base None x b = signal_code x (renumber_body (λ y. base + y) b)
joined_code base (Some source) x b = 0x51 ∷ source ∷ 0x5F ∷ x ∷ []

-- With the base added each read fits a byte.
abbrev pub ReadsFit : ℕ → Body → Type 0
ReadsFit base b = All (λ (ρ : Read). ρ.operands.signal + base < 256) (body_reads b)

-- The signal σ is declared at `place`, and n bytes have space for its code in the join.
pub record JoinedRoom (text : List ℕ) (place base x : ℕ) (source : Option ℕ) (n to : ℕ) (σ : Signal) : Type 0 where
  pub stands : σ.place ≡ place
  pub spelled : SpellsSignal text σ
  pub low : base ≤ 64
  pub small : x < 256
  pub reads : ReadsFit base σ.body
  pub fits : to + length (joined_code base source x σ.body) ≤ n

abbrev pub JoinedHere : List ℕ → ℕ → ℕ → ℕ → Option ℕ → ℕ → ℕ → Type 0
JoinedHere text place base x source n to = (σ : Signal) × JoinedRoom text place base x source n to σ

-- l' is l with the code of the signal at `place` in the join, from `to` up to `end`.
pub record EmitsJoined (text : List ℕ) (place base x : ℕ) (source : Option ℕ) (l : List ℕ) (to : ℕ)
    (l' : List ℕ) (end : ℕ) : Type 0 where
  pub puts : (σ : Signal) → JoinedRoom text place base x source (length l) to σ →
      Wrote l to (joined_code base source x σ.body) l' end
