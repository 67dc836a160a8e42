-- The commands of a code where they stand, and how many an expression has. Assumes nothing.
use Prim.Native.Nat.{ℕ, suc, ◌+◌, ◌-◌, ◌≤◌}
use mathlib.Core.Bool.{true, false}
use mathlib.Core.List.{List, [], ◌∷◌, ◌++◌}
use mathlib.Core.Path.{◌≡◌, refl, ap}
use native.Mathlib.Omega.{arith}
use borrow.Author.Tests.{lt-ltb, le-leb}
use lib.Dec.{leb, ltb, eqb}
use lib.IntN.{ℤ}
use lib.ListN.{length, length-append}
use mir.Syntax.{w32}
use mir.Val.{SFits}
use Rattle.model.specs.Rules.Image.{binary_byte, unary_byte, expr_code}
use Rattle.model.specs.Rules.Machine.{operator_code, code_at}
use Rattle.model.specs.Rules.Program.{Expr, constant, read, binary, unary, choose}
use Rattle.model.specs.Rules.Report.{expr_commands}
use Rattle.model.specs.Rules.Word.{four_bytes, word_bytes}
use Rattle.model.specs.declared.Binary.{Binary}
use Rattle.model.specs.declared.Binary.TheVariants.{Add, Sub, Mul, Less, Same, Min, Max}
use Rattle.model.specs.declared.Unary.{Unary}
use Rattle.model.specs.declared.Unary.TheVariants.{Negate, Table}
use Rattle.model.specs.declared.Code.{Code}
use Rattle.model.specs.declared.Code.TheVariants as Code
use Rattle.model.proofs.Images.Stretches.{Stands, front, behind, inside, byte-here, word-at}

-- The command that stands at a place of a code.
module _ {code : List ℕ} {at : ℕ} where
  in_code : {b : ℕ} {part : List ℕ} → Stands code at (b ∷ part) → ltb at (length code) ≡ true
  in_code {b} {part} h = lt-ltb at (length code) (omega (arith, inside {part = b ∷ part} (omega arith) h))

  whole : {b : ℕ} {part : List ℕ} → Stands code at (b ∷ part) → leb (at + suc (length part)) (length code) ≡ true
  whole {b} {part} h = le-leb (at + suc (length part)) (length code) (inside {part = b ∷ part} (omega arith) h)

  pub push_at : (w : ℤ) → SFits w32 w → Stands code at (0x50 ∷ word_bytes w) → code_at code at ≡ Code.Push w
  unfolding code_at word_bytes four_bytes
  push_at w f h = rw (in_code h, byte-here h, whole h) (ap Code.Push (word-at w f (behind (0x50 ∷ []) (word_bytes w) h)))

  pub load_at : (x : ℕ) → Stands code at (0x51 ∷ x ∷ []) → code_at code at ≡ Code.Load x
  unfolding code_at
  load_at x h = rw (in_code h, byte-here h, whole h) (ap Code.Load (byte-here (behind (0x51 ∷ []) (x ∷ []) h)))

  pub fetch-at : (x : ℕ) → Stands code at (0x52 ∷ x ∷ []) → code_at code at ≡ Code.Fetch x
  unfolding code_at
  fetch-at x h = rw (in_code h, byte-here h, whole h) (ap Code.Fetch (byte-here (behind (0x52 ∷ []) (x ∷ []) h)))

  pub store_at : (x : ℕ) → Stands code at (0x5F ∷ x ∷ []) → code_at code at ≡ Code.Store x
  unfolding code_at
  store_at x h = rw (in_code h, byte-here h, whole h) (ap Code.Store (byte-here (behind (0x5F ∷ []) (x ∷ []) h)))

  operator-at : (b : ℕ) → Stands code at (b ∷ []) → eqb b 0x50 ≡ false → eqb b 0x51 ≡ false → eqb b 0x52 ≡ false →
      eqb b 0x5F ≡ false → code_at code at ≡ operator_code b
  unfolding code_at
  operator-at b h p q r u = rw (in_code h, byte-here h, p, q, r, u)

  pub binary-at : (operator : Binary) → Stands code at (binary_byte operator ∷ []) → code_at code at ≡ Code.Binary operator
  unfolding operator_code
  binary-at Add h = operator-at 0x30 h refl refl refl refl
  binary-at Sub h = operator-at 0x31 h refl refl refl refl
  binary-at Mul h = operator-at 0x32 h refl refl refl refl
  binary-at Less h = operator-at 0x33 h refl refl refl refl
  binary-at Same h = operator-at 0x34 h refl refl refl refl
  binary-at Min h = operator-at 0x35 h refl refl refl refl
  binary-at Max h = operator-at 0x36 h refl refl refl refl

  pub unary-at : (operator : Unary) → Stands code at (unary_byte operator ∷ []) → code_at code at ≡ Code.Unary operator
  unfolding operator_code
  unary-at Negate h = operator-at 0x38 h refl refl refl refl
  unary-at Table h = operator-at 0x3B h refl refl refl refl

  pub if-at : Stands code at (0x3A ∷ []) → code_at code at ≡ Code.If
  unfolding operator_code
  if-at h = operator-at 0x3A h refl refl refl refl

-- Where the operands and the operator stand in the code of an expression.
module _ {code : List ℕ} {at : ℕ} where
  pub binary-parts : (operator : Binary) (x y : Expr) → Stands code at (expr_code (binary operator x y)) →
      Stands code at (expr_code x) × Stands code (at + length (expr_code x)) (expr_code y) ×
      Stands code (at + length (expr_code x) + length (expr_code y)) (binary_byte operator ∷ [])
  unfolding expr_code
  binary-parts operator x y h =
      let g = behind (expr_code x) (expr_code y ++ (binary_byte operator ∷ [])) h in
      (front (expr_code x) _ h, front (expr_code y) (binary_byte operator ∷ []) g, behind (expr_code y) (binary_byte operator ∷ []) g)

  pub unary-parts : (operator : Unary) (x : Expr) → Stands code at (expr_code (unary operator x)) →
      Stands code at (expr_code x) × Stands code (at + length (expr_code x)) (unary_byte operator ∷ [])
  unfolding expr_code
  unary-parts operator x h = (front (expr_code x) (unary_byte operator ∷ []) h, behind (expr_code x) (unary_byte operator ∷ []) h)

  pub choose-parts : (x y z : Expr) → Stands code at (expr_code (choose x y z)) →
      Stands code at (expr_code x) × Stands code (at + length (expr_code x)) (expr_code y) ×
      Stands code (at + length (expr_code x) + length (expr_code y)) (expr_code z) ×
      Stands code (at + length (expr_code x) + length (expr_code y) + length (expr_code z)) (0x3A ∷ [])
  unfolding expr_code
  choose-parts x y z h =
      let g = behind (expr_code x) (expr_code y ++ (expr_code z ++ (0x3A ∷ []))) h in
      let k = behind (expr_code y) (expr_code z ++ (0x3A ∷ [])) g in (
        front (expr_code x) _ h,
        front (expr_code y) _ g,
        front (expr_code z) (0x3A ∷ []) k,
        behind (expr_code z) (0x3A ∷ []) k,
      )

pub commands-most : (e : Expr) → expr_commands e ≤ length (expr_code e)
unfolding expr_code word_bytes four_bytes
commands-most (constant w) = omega arith
commands-most (read ρ) = omega arith
commands-most (binary operator x y) = simp length-append (omega (arith, commands-most x, commands-most y))
commands-most (unary operator x) = simp length-append (omega (arith, commands-most x))
commands-most (choose x y z) = simp length-append (omega (arith, commands-most x, commands-most y, commands-most z))

-- The commands that the code of an equation has room for after its expression.
abbrev pub spare : Expr → ℕ
spare e = suc (length (expr_code e)) - expr_commands e

pub code-room : (e : Expr) (x : ℕ) → length (expr_code e ++ (0x5F ∷ x ∷ [])) ≡ expr_commands e + suc (spare e)
code-room e x = simp length-append (omega (arith, commands-most e))
