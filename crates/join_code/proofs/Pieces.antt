-- The commands of an expression: they are its code, and with a base added the code of the renumbered one. Assumes nothing.
use Prim.Native.Nat.{ℕ, ◌+◌, ◌<◌}
use mathlib.Core.List.{List, [], ◌∷◌, ◌++◌, map, map-append, append_assoc}
use mathlib.Core.Path.{◌≡◌, refl, sym, ap, ap₂, ◌∙◌}
use native.Mathlib.Nat.{mod-eq_of_lt}
use native.Mathlib.Omega.{arith}
use Rattle.model.specs.Rules.Image.{binary_byte, unary_byte, expr_code, joined}
use Rattle.model.specs.Rules.Parts.{renumber_expr}
use Rattle.model.specs.Rules.Program.{Expr, constant, read, binary, unary, choose, Read, reads_of}
use Rattle.model.specs.Rules.Word.{four_bytes, word_bytes}
use Rattle.model.specs.Says.Feasible.{All}
use Rattle.model.specs.declared.Binary.{Binary}
use Rattle.model.specs.declared.Binary.TheVariants.{Add, Sub, Mul, Less, Same, Min, Max}
use Rattle.model.specs.declared.Unary.{Unary}
use Rattle.model.specs.declared.Unary.TheVariants.{Negate, Table}
use Rattle.model.proofs.Basics.All.{all_append, all_split}
use Rattle.model.proofs.Images.Stretches.{joined-cons}
use Rattle.model.specs.Rules.Search.{join_from}
use Rattle.join_code.specs.Shift.{Command, shift_piece, expr_pieces}

pub joined-append : (xs ys : List (List ℕ)) → joined (xs ++ ys) ≡ joined xs ++ joined ys
unfolding join_from
joined-append [] ys = refl
joined-append (x ∷ xs) ys =
    joined-cons x (xs ++ ys) ∙ ap (λ (l : List ℕ). x ++ l) (joined-append xs ys) ∙
    sym (append_assoc x (joined xs) (joined ys)) ∙ ap (λ (l : List ℕ). l ++ joined ys) (sym (joined-cons x xs))

pub joined-one : (x : List ℕ) → joined (x ∷ []) ≡ x
unfolding join_from
joined-one x = joined-cons x [] ∙ none x
  where
    none : (l : List ℕ) → l ++ [] ≡ l
    none [] = refl
    none (y ∷ l) = ap (λ (m : List ℕ). y ∷ m) (none l)

-- Two and three operands before an operator.
two : (xs ys zs : List (List ℕ)) (a b c : List ℕ) → joined xs ≡ a → joined ys ≡ b → joined zs ≡ c →
    joined (xs ++ (ys ++ zs)) ≡ a ++ (b ++ c)
two xs ys zs a b c p q r =
    joined-append xs (ys ++ zs) ∙ ap₂ ◌++◌ p (joined-append ys zs ∙ ap₂ ◌++◌ q r)

pub pieces-code : (e : Expr) → joined (expr_pieces e) ≡ expr_code e
unfolding expr_pieces expr_code
pieces-code (constant w) = joined-one _
pieces-code (read ρ) = joined-one _
pieces-code (binary operator x y) = two _ _ _ _ _ _ (pieces-code x) (pieces-code y) (joined-one _)
pieces-code (unary operator x) = joined-append (expr_pieces x) _ ∙ ap₂ ◌++◌ (pieces-code x) (joined-one _)
pieces-code (choose x y z) =
    joined-append (expr_pieces x) _ ∙
    ap₂ ◌++◌ (pieces-code x) (two _ _ _ _ _ _ (pieces-code y) (pieces-code z) (joined-one _))

-- With a base added.
module _ (base : ℕ) where
  abbrev shift : List (List ℕ) → List (List ℕ)
  shift = map (shift_piece base)

  pub shift-append : (xs ys : List (List ℕ)) → joined (shift (xs ++ ys)) ≡ joined (shift xs) ++ joined (shift ys)
  shift-append xs ys = ap joined (map-append (shift_piece base) xs ys) ∙ joined-append (shift xs) (shift ys)

  pub pieces-shifted : (e : Expr) → All (λ (ρ : Read). ρ.operands.signal + base < 256) (reads_of e) →
      joined (shift (expr_pieces e)) ≡ expr_code (renumber_expr (λ x. base + x) e)
  unfolding expr_pieces expr_code renumber_expr reads_of word_bytes four_bytes
  pieces-shifted (constant w) h = joined-one _
  pieces-shifted (read ρ) h =
      joined-one _ ∙ ap (λ (n : ℕ). 0x51 ∷ n ∷ []) (mod-eq_of_lt h.0 ∙ omega arith)
  pieces-shifted (binary operator x y) h =
      let g = all_split _ (reads_of x) (reads_of y) h in
      shift-append (expr_pieces x) _ ∙
      ap₂ ◌++◌ (pieces-shifted x g.0) (shift-append (expr_pieces y) _ ∙ ap₂ ◌++◌ (pieces-shifted y g.1) (joined-one _))
  pieces-shifted (unary operator x) h =
      shift-append (expr_pieces x) _ ∙ ap₂ ◌++◌ (pieces-shifted x h) (joined-one _)
  pieces-shifted (choose x y z) h =
      let g = all_split _ (reads_of x) (reads_of y ++ reads_of z) h in
      let k = all_split _ (reads_of y) (reads_of z) g.1 in
      shift-append (expr_pieces x) _ ∙
      ap₂ ◌++◌ (pieces-shifted x g.0)
      (shift-append (expr_pieces y) _ ∙
      ap₂ ◌++◌ (pieces-shifted y k.0) (shift-append (expr_pieces z) _ ∙ ap₂ ◌++◌ (pieces-shifted z k.1) (joined-one _)))

-- Each is one command.
binary-command : (operator : Binary) → Command (binary_byte operator ∷ [])
binary-command Add = Command.other 0x30 [] (λ e. omega arith) refl
binary-command Sub = Command.other 0x31 [] (λ e. omega arith) refl
binary-command Mul = Command.other 0x32 [] (λ e. omega arith) refl
binary-command Less = Command.other 0x33 [] (λ e. omega arith) refl
binary-command Same = Command.other 0x34 [] (λ e. omega arith) refl
binary-command Min = Command.other 0x35 [] (λ e. omega arith) refl
binary-command Max = Command.other 0x36 [] (λ e. omega arith) refl

unary-command : (operator : Unary) → Command (unary_byte operator ∷ [])
unary-command Negate = Command.other 0x38 [] (λ e. omega arith) refl
unary-command Table = Command.other 0x3B [] (λ e. omega arith) refl

pub pieces-commands : (e : Expr) → All Command (expr_pieces e)
unfolding expr_pieces word_bytes four_bytes
pieces-commands (constant w) = (Command.other 0x50 _ (λ e. omega arith) refl, tt)
pieces-commands (read ρ) = (Command.load ρ.operands.signal, tt)
pieces-commands (binary operator x y) =
    all_append Command (expr_pieces x) _ (pieces-commands x)
    (all_append Command (expr_pieces y) _ (pieces-commands y) (binary-command operator, tt))
pieces-commands (unary operator x) = all_append Command (expr_pieces x) _ (pieces-commands x) (unary-command operator, tt)
pieces-commands (choose x y z) =
    all_append Command (expr_pieces x) _ (pieces-commands x)
    (all_append Command (expr_pieces y) _ (pieces-commands y)
    (all_append Command (expr_pieces z) _ (pieces-commands z) (Command.other 0x3A [] (λ e. omega arith) refl, tt)))
