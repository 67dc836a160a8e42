-- Renumbered signals and chains: numbers that stay, numbers given twice, and what new numbers do not change. Assumes nothing.
use Prim.Native.Nat.{ℕ}
use mathlib.Core.List.{List, [], ◌∷◌, map}
use mathlib.Core.Path.{◌≡◌, refl, ap, ap₂}
use lib.ListN.{length, length-append}
use Rattle.model.specs.Rules.Image.{expr_code, signal_code}
use Rattle.model.specs.Rules.Parts.{renumber_expr, renumber_body, renumber_signal, renumber_link, renumber_chain}
use Rattle.model.specs.Rules.Program.{
  Signal,
  Body,
  input,
  equation,
  Expr,
  constant,
  read,
  binary,
  unary,
  choose,
  Link,
  Chain,
  weight_of,
  is_input,
}

-- Numbers that stay are no renumbering.
renumber-none : (e : Expr) → renumber_expr (λ x. x) e ≡ e
unfolding renumber_expr
renumber-none (constant w) = refl
renumber-none (read ρ) = refl
renumber-none (binary operator x y) = ap₂ (binary operator) (renumber-none x) (renumber-none y)
renumber-none (unary operator x) = ap (unary operator) (renumber-none x)
renumber-none (choose x y z) =
    let a = renumber-none x in
    let b = renumber-none y in
    let c = renumber-none z in
    cc

pub renumber-body-none : (b : Body) → renumber_body (λ x. x) b ≡ b
renumber-body-none input = refl
renumber-body-none (equation weight e) = ap (equation weight) (renumber-none e)

-- Numbers given twice.
renumber-twice : (f g : ℕ → ℕ) (e : Expr) → renumber_expr g (renumber_expr f e) ≡ renumber_expr (λ x. g (f x)) e
unfolding renumber_expr
renumber-twice f g (constant w) = refl
renumber-twice f g (read ρ) = refl
renumber-twice f g (binary operator x y) = ap₂ (binary operator) (renumber-twice f g x) (renumber-twice f g y)
renumber-twice f g (unary operator x) = ap (unary operator) (renumber-twice f g x)
renumber-twice f g (choose x y z) =
    let a = renumber-twice f g x in
    let b = renumber-twice f g y in
    let c = renumber-twice f g z in
    cc

renumber-body-twice : (f g : ℕ → ℕ) (b : Body) → renumber_body g (renumber_body f b) ≡ renumber_body (λ x. g (f x)) b
renumber-body-twice f g input = refl
renumber-body-twice f g (equation weight e) = ap (equation weight) (renumber-twice f g e)

links-twice : (f g : ℕ → ℕ) (ls : List Link) →
    map (renumber_link g) (map (renumber_link f) ls) ≡ map (renumber_link (λ x. g (f x))) ls
links-twice f g [] = refl
links-twice f g (l ∷ ls) = ap (λ (m : List Link). renumber_link (λ x. g (f x)) l ∷ m) (links-twice f g ls)

links-none : (ls : List Link) → map (renumber_link (λ x. x)) ls ≡ ls
links-none [] = refl
links-none (l ∷ ls) = ap (λ (m : List Link). l ∷ m) (links-none ls)

with_links : Chain → List Link → Chain
with_links c ls = record { place = c.place; mode = c.mode; bound = c.bound; links = ls }

pub chain-twice : (f g : ℕ → ℕ) (c : Chain) → renumber_chain g (renumber_chain f c) ≡ renumber_chain (λ x. g (f x)) c
unfolding with_links
chain-twice f g c = ap (with_links c) (links-twice f g c.links)

pub chain-none : (c : Chain) → renumber_chain (λ x. x) c ≡ c
unfolding with_links
chain-none c = ap (with_links c) (links-none c.links)

pub signal-twice : (f g : ℕ → ℕ) (σ : Signal) → renumber_signal g (renumber_signal f σ) ≡ renumber_signal (λ x. g (f x)) σ
signal-twice f g σ i =
    record {
      place = σ.place;
      period = σ.period;
      initial = σ.initial;
      body = renumber-body-twice f g σ.body i;
      label = σ.label;
    }

pub signal-none : (σ : Signal) → renumber_signal (λ x. x) σ ≡ σ
signal-none σ i =
    record {
      place = σ.place;
      period = σ.period;
      initial = σ.initial;
      body = renumber-body-none σ.body i;
      label = σ.label;
    }

-- An input stays one.
pub input-kept : (f : ℕ → ℕ) (b : Body) → is_input (renumber_body f b) ≡ is_input b
input-kept f input = refl
input-kept f (equation weight e) = refl

-- A weight stays.
pub weight-kept : (f : ℕ → ℕ) (b : Body) → weight_of (renumber_body f b) ≡ weight_of b
weight-kept f input = refl
weight-kept f (equation weight e) = refl

-- The length of code stays.
expr-length : (f : ℕ → ℕ) (e : Expr) → length (expr_code (renumber_expr f e)) ≡ length (expr_code e)
unfolding expr_code renumber_expr
expr-length f (constant w) = refl
expr-length f (read ρ) = refl
expr-length f (binary operator x y) = simp (length-append, expr-length f x, expr-length f y)
expr-length f (unary operator x) = simp (length-append, expr-length f x)
expr-length f (choose x y z) = simp (length-append, expr-length f x, expr-length f y, expr-length f z)

pub code-length : (f : ℕ → ℕ) (x y : ℕ) (b : Body) → length (signal_code x (renumber_body f b)) ≡ length (signal_code y b)
code-length f x y input = refl
code-length f x y (equation weight e) = simp (length-append, expr-length f e)
