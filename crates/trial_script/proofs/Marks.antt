-- An image tells which signals of its program are inputs, and a table marks them. Assumes nothing.
use Prim.Native.Nat.{ℕ, zero, suc, ◌+◌, ◌-◌, ◌<◌}
use mathlib.Core.Bool.{Bool, true, false, cond}
use mathlib.Core.List.{List, [], ◌∷◌, ◌++◌, append_assoc}
use mathlib.Core.Path.{◌≡◌, refl, sym, ap, ◌∙◌, fun_ext}
use native.Mathlib.Omega.{arith}
use borrow.Author.Tests.{ltb-true, ltb-false, lt-ltb, le-ltb, eqb-true, eqb-false}
use lib.Dec.{ltb, eqb}
use lib.ListN.{length, get_or, take, drop, set, replicate, length-take, length-append, length-set, length-replicate}
use lib.Seq.{get_or-take, get_or-drop, get_or-set_same, get_or-set_other}
use Rattle.model.specs.Rules.Image.{expr_code, signal_code, image_of}
use Rattle.model.specs.Rules.Machine.{count_of, code_offset, code_of}
use Rattle.model.specs.Rules.Program.{
  Program,
  Body,
  input,
  equation,
  Expr,
  constant,
  read,
  binary,
  unary,
  choose,
  count,
  signal_at,
  is_input,
}
use Rattle.model.specs.Rules.Schedule.{Schedule}
use Rattle.model.specs.Rules.Word.{byte_at}
use Rattle.model.proofs.Images.Bounds.{Bounded}
use Rattle.model.proofs.Images.Stretches.{image-count, code-stretch}
use Rattle.model.specs.Rules.Script.{is_input_of}
use Rattle.trial_script.specs.Inputs.{fetches, mark_of, marked}

-- The code of an expression starts with PUSH or LOAD.
no-fetch : (e : Expr) (rest : List ℕ) → eqb (byte_at (expr_code e ++ rest) 0) 0x52 ≡ false
unfolding expr_code
no-fetch (constant w) rest = refl
no-fetch (read ρ) rest = refl
no-fetch (binary o x y) rest = rw append_assoc (no-fetch x _)
no-fetch (unary operator x) rest = rw append_assoc (no-fetch x _)
no-fetch (choose x y z) rest = rw append_assoc (no-fetch x _)

first_byte : (x : ℕ) (b : Body) → eqb (byte_at (signal_code x b) 0) 0x52 ≡ is_input b
first_byte x input = refl
first_byte x (equation weight e) = no-fetch e (0x5F ∷ x ∷ [])

code-some : (x : ℕ) (b : Body) → 0 < length (signal_code x b)
code-some x input = omega arith
code-some x (equation weight e) = omega (arith, length-append (expr_code e) (0x5F ∷ x ∷ []))

fetches-past : (image : List ℕ) (x : ℕ) → ltb x (count_of image) ≡ false → fetches image x ≡ false
unfolding fetches
fetches-past image x e = rw e

module _ (p : Program) (s : Schedule) (h : ℕ) (bounded : Bounded p s h) where
  code-first : (x : ℕ) → x < count p → byte_at (image_of p s h) (code_offset (image_of p s h) x) ≡
      byte_at (signal_code x (signal_at p x).body) 0
  unfolding code_of
  code-first x lt =
      let image = image_of p s h in
      let a = code_offset image x in
      let n = code_offset image (x + 1) - a in
      let is : take n (drop a image) ≡ signal_code x (signal_at p x).body = code-stretch p s h bounded x lt in
      let some : 0 < n = omega (arith, ap length is, length-take n (drop a image), code-some x (signal_at p x).body) in
      let here : a ≡ a + 0 = omega arith in
      ap (byte_at image) here ∙ sym (get_or-take n (drop a image) 0 0 some ∙ get_or-drop a image 0 0) ∙
      ap (λ (l : List ℕ). byte_at l 0) is

  fetches-at : (x : ℕ) → fetches (image_of p s h) x ≡ is_input_of p x
  unfolding fetches is_input_of
  fetches-at x = rw (image-count p s h) (go (ltb x (count p)) refl)
    where
      go : (b : Bool) → ltb x (count p) ≡ b →
          cond b (eqb (byte_at (image_of p s h) (code_offset (image_of p s h) x)) 0x52) false ≡
          cond b (is_input (signal_at p x).body) false
      go true e = ap (λ (c : ℕ). eqb c 0x52) (code-first x (ltb-true x (count p) e)) ∙ first_byte x (signal_at p x).body
      go false e = refl

  pub fetches-are : fetches (image_of p s h) ≡ is_input_of p
  fetches-are = fun_ext fetches-at

-- A table in which the signals below x are marked.
pub record Marks (image : List ℕ) (x : ℕ) (table : List ℕ) : Type 0 where
  pub size : length table ≡ 256
  pub at : (y : ℕ) → byte_at table y ≡ cond (ltb y x) (mark_of (fetches image y)) 0

replicate-zero : (n y : ℕ) → ◌≡◌ {A = ℕ} (get_or (replicate n 0) y 0) 0
replicate-zero zero y = refl
replicate-zero (suc n) zero = refl
replicate-zero (suc n) (suc y) = replicate-zero n y

pub marks-none : (image : List ℕ) → Marks image 0 (replicate 256 0)
marks-none image =
    record { size = length-replicate {A = ℕ} 256 0; at = λ y. replicate-zero 256 y ∙ sym (none y) }
  where
    none : (y : ℕ) → cond (ltb y 0) (mark_of (fetches image y)) 0 ≡ 0
    none y = rw (le-ltb y 0 (omega arith))

pub marks-more : {image table : List ℕ} {x : ℕ} → Marks image x table → x < 256 →
    Marks image (x + 1) (set table x (mark_of (fetches image x)))
marks-more {image} {table} {x} m lt =
    record { size = simp length-set m.size; at = λ y. go y (eqb x y) refl }
  where
    other : (y : ℕ) → ¬ (x ≡ y) → ltb y x ≡ ltb y (x + 1)
    other y u = split (ltb y x) refl
      where
        split : (b : Bool) → ltb y x ≡ b → b ≡ ltb y (x + 1)
        split true e = let l = ltb-true y x e in sym (lt-ltb y (x + 1) (omega arith))
        split false e = let l = ltb-false y x e in sym (le-ltb y (x + 1) (omega arith))

    go : (y : ℕ) (b : Bool) → eqb x y ≡ b →
        byte_at (set table x (mark_of (fetches image x))) y ≡ cond (ltb y (x + 1)) (mark_of (fetches image y)) 0
    go y true e =
        let same = eqb-true x y e in
        rw (← same, lt-ltb x (x + 1) (omega arith))
        (get_or-set_same table x (mark_of (fetches image x)) 0 (omega (arith, m.size)))
    go y false e =
        let u = eqb-false x y e in
        get_or-set_other table x y (mark_of (fetches image x)) 0 (λ q. u (sym q)) ∙ m.at y ∙
        ap (λ (b : Bool). cond b (mark_of (fetches image y)) 0) (other y u)

-- Once all are, the table marks what the image tells.
pub marks-all : {image table : List ℕ} → Marks image (count_of image) table → (y : ℕ) → marked table y ≡ fetches image y
unfolding marked
marks-all {image} {table} m y = ap (λ (n : ℕ). eqb n 1) (m.at y) ∙ go (ltb y (count_of image)) refl
  where
    back : (b : Bool) → eqb (mark_of b) 1 ≡ b
    back true = refl
    back false = refl

    go : (b : Bool) → ltb y (count_of image) ≡ b → eqb (cond b (mark_of (fetches image y)) 0) 1 ≡ fetches image y
    go true e = back (fetches image y)
    go false e = sym (fetches-past image y e)
