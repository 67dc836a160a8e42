-- What writing the code of an expression asks for, and what it leaves.
use Rattle.std.specs.Prelude.{ℕ, ◌+◌, ◌^◌, ◌≤◌, ◌<◌, true, List, [], ◌∷◌, ◌++◌, ◌≡◌, length}
use Rattle.std.proofs.lemmas.List.Edits.{sets}
use Rattle.model.specs.Rules.Image.{expr_code, signal_code}
use Rattle.model.specs.Rules.Program.{least_factor, Expr, Signal}
use Rattle.model.specs.Says.Feasible.{All}
use Rattle.model.specs.Says.Grammar.{depth, Spells}
use Rattle.model.specs.Says.Stands.{SpellsSignal}
use Rattle.model.specs.declared.Operator.{Operator}
use Rattle.image_code.specs.Shape.{lead_of}

-- l' is l with the bytes from `to` up to `end`; the text goes on at `next`.
pub record Puts (l : List ℕ) (to : ℕ) (bytes : List ℕ) (n : ℕ) (l' : List ℕ) (next end : ℕ) : Type 0 where
  pub goes : next ≡ n
  pub ends : end ≡ to + length bytes
  pub holds : l' ≡ sets l to bytes

-- Expressions that stand one after another, and their code.
pub data SpellsAll (text : List ℕ) : ℕ → List Expr → ℕ → Type 0 where
  none : {at : ℕ} → SpellsAll text at [] at
  more : {at m n : ℕ} {x : Expr} {xs : List Expr} → Spells least_factor text at x m → SpellsAll text m xs n →
      SpellsAll text at (x ∷ xs) n

unfoldable pub code_of_all : List Expr → List ℕ
code_of_all [] = []
code_of_all (x ∷ xs) = expr_code x ++ code_of_all xs

abbrev pub NestsIn : ℕ → Expr → Type 0
NestsIn d x = depth x ≤ d

-- k expressions stand at `at`, each nests at most d deep, and n bytes have space for their code and t bytes after it.
pub record Rooms (d : ℕ) (text : List ℕ) (at n to k t : ℕ) : Type 0 where
  pub exprs : List Expr
  pub next : ℕ
  pub spelled : SpellsAll text at exprs next
  pub deep : All (NestsIn d) exprs
  pub count : length exprs ≡ k
  pub fits : to + (length (code_of_all exprs) + t) ≤ n

-- l' is l with the code of the k expressions that stand at `at`.
pub record EmitsAll (text : List ℕ) (at k : ℕ) (l : List ℕ) (to : ℕ) (l' : List ℕ) (next end : ℕ) : Type 0 where
  pub puts : (es : List Expr) (n : ℕ) → SpellsAll text at es n → length es ≡ k → Puts l to (code_of_all es) n l' next end

-- An operator without operands stands at `at`, and n bytes have space for its code from `to` on.
pub record LeafSpace (c : Operator) (at n to : ℕ) : Type 0 where
  pub operator : (lead_of c).operator ≡ true
  pub leaf : (lead_of c).arity ≡ 0
  pub counted : at + (lead_of c).width < 2 ^ 64
  pub fits : to + length (lead_of c).last ≤ n

-- A signal is declared at `place`.
pub record SignalStands (text : List ℕ) (place : ℕ) : Type 0 where
  pub signal : Signal
  pub stands : signal.place ≡ place
  pub spelled : SpellsSignal text signal

-- There is space for the code of the signal x, and l' is l with it from `to` up to `end`.
pub record SignalRoom (text : List ℕ) (place x n to : ℕ) : Type 0 where
  pub here : SignalStands text place
  pub fits : to + length (signal_code x here.signal.body) ≤ n

pub record EmitsSignal (text : List ℕ) (place x : ℕ) (l : List ℕ) (to : ℕ) (l' : List ℕ) (end : ℕ) : Type 0 where
  pub puts : (σ : Signal) → σ.place ≡ place → SpellsSignal text σ →
      (l' ≡ sets l to (signal_code x σ.body)) × (end ≡ to + length (signal_code x σ.body))
