-- On an image of a pair a cycle runs as many commands as the report tells, and on any well-formed image fewer than 2^32.
-- Assumes nothing.
use Prim.Native.Nat.{ℕ, suc, ◌+◌, ◌^◌, ◌<◌}
use mathlib.Core.Bool.{Bool, true, false, cond}
use mathlib.Core.List.{List, [], ◌∷◌}
use mathlib.Core.Path.{◌≡◌, refl, ap, ap₂, ◌∙◌}
use native.Mathlib.Omega.{arith}
use lib.IntN.{ℤ}
use lib.ListN.{length, get_or, length-append}
use Rattle.model.specs.Rules.Image.{expr_code, signal_code, run_list, image_of}
use Rattle.model.specs.Rules.Machine.{
  code_at,
  list_of,
  code_of,
  well_formed,
  count_command,
  count_from,
  count_code,
  count_signals,
  cycle_count,
}
use Rattle.model.specs.Rules.Program.{
  Program,
  Body,
  input,
  equation,
  Expr,
  constant,
  read,
  binary,
  unary,
  choose,
  count,
  signal_at,
}
use Rattle.model.specs.Rules.Reads.{rate_of, due}
use Rattle.model.specs.Rules.Report.{expr_commands, body_commands, list_commands, cycle_commands}
use Rattle.model.specs.Rules.Schedule.{Schedule}
use Rattle.model.specs.Rules.Search.{chosen}
use Rattle.model.specs.Rules.Word.{four_bytes, word_bytes, AreBytes}
use Rattle.model.specs.declared.Code.{Code}
use Rattle.model.proofs.Images.Bounds.{Words, BodyWords, Bounded}
use Rattle.model.proofs.Images.Runs.{
  push_at,
  load_at,
  fetch-at,
  store_at,
  binary-at,
  unary-at,
  if-at,
  binary-parts,
  unary-parts,
  choose-parts,
  spare,
  code-room,
}
use Rattle.model.proofs.Images.Stretches.{Stands, all_of, front, behind, list-stretch, code-stretch}
use Rattle.model.proofs.Images.Counts.{lists-inside, image-short, signals-fit}

-- The code of an expression has as many commands as its tree has leaves and operators.
module _ (code : List ℕ) where
  step : (f at : ℕ) (c : Code) → code_at code at ≡ c → count_from (suc f) code at ≡ count_command (λ a. count_from f code a) at c
  unfolding count_from
  step f at c d = rw d

  count-expr : (e : Expr) (f at : ℕ) → Words e → Stands code at (expr_code e) →
      count_from (expr_commands e + f) code at ≡ expr_commands e + count_from f code (at + length (expr_code e))
  unfolding expr_code count_command word_bytes four_bytes
  count-expr (constant w) f at fit h =
      ap (λ (k : ℕ). count_from k code at) (omega arith) ∙ step f at _ (push_at w fit h) ∙ omega arith
  count-expr (read ρ) f at fit h =
      ap (λ (k : ℕ). count_from k code at) (omega arith) ∙ step f at _ (load_at _ h) ∙ omega arith
  count-expr (binary operator x y) f at fit h =
      let parts = binary-parts operator x y h in
      let last = step f _ _ (binary-at operator parts.2) in
      let second = count-expr y (suc f) _ fit.1 parts.1 in
      let first = count-expr x (expr_commands y + suc f) at fit.0 parts.0 in
      let ends : at + length (expr_code x) + length (expr_code y) + 1 ≡ at + length (expr_code (binary operator x y)) =
      simp length-append (omega arith) in
      let room : expr_commands (binary operator x y) + f ≡ expr_commands x + (expr_commands y + suc f) = omega arith in
      ap (λ (k : ℕ). count_from k code at) room ∙
      omega (arith, first, second, last, ap (λ (k : ℕ). count_from f code k) ends)
  count-expr (unary operator x) f at fit h =
      let parts = unary-parts operator x h in
      let last = step f _ _ (unary-at operator parts.1) in
      let first = count-expr x (suc f) at fit parts.0 in
      let ends : at + length (expr_code x) + 1 ≡ at + length (expr_code (unary operator x)) = simp length-append (omega arith) in
      let room : expr_commands (unary operator x) + f ≡ expr_commands x + suc f = omega arith in
      ap (λ (k : ℕ). count_from k code at) room ∙
      omega (arith, first, last, ap (λ (k : ℕ). count_from f code k) ends)
  count-expr (choose x y z) f at fit h =
      let parts = choose-parts x y z h in
      let last = step f _ _ (if-at parts.3) in
      let third = count-expr z (suc f) _ fit.2 parts.2 in
      let second = count-expr y (expr_commands z + suc f) _ fit.1 parts.1 in
      let first = count-expr x (expr_commands y + (expr_commands z + suc f)) at fit.0 parts.0 in
      let ends : at + length (expr_code x) + length (expr_code y) + length (expr_code z) + 1 ≡
      at + length (expr_code (choose x y z)) = simp length-append (omega arith) in
      let room : expr_commands (choose x y z) + f ≡ expr_commands x + (expr_commands y + (expr_commands z + suc f)) = omega arith in
      ap (λ (k : ℕ). count_from k code at) room ∙
      omega (arith, first, second, third, last, ap (λ (k : ℕ). count_from f code k) ends)

count-signal : (x : ℕ) (body : Body) → BodyWords body → count_code (signal_code x body) ≡ body_commands body
unfolding count_code count_command
count-signal x input fit =
    let code = signal_code x input in
    let first = step code 3 0 _ (fetch-at x (front (0x52 ∷ x ∷ []) (0x5F ∷ x ∷ []) (all_of code))) in
    let second = step code 2 2 _ (store_at x (behind (0x52 ∷ x ∷ []) (0x5F ∷ x ∷ []) (all_of code))) in
    first ∙ ap suc second
count-signal x (equation weight e) fit =
    let code = signal_code x (equation weight e) in
    ap (λ (k : ℕ). count_from k code 0) (code-room e x) ∙
    count-expr code e (suc (spare e)) 0 fit (front (expr_code e) (0x5F ∷ x ∷ []) (all_of code)) ∙
    ap (λ (k : ℕ). expr_commands e + k)
    (step code (spare e) _ _ (store_at x (behind (expr_code e) (0x5F ∷ x ∷ []) (all_of code))))

-- On the image of a pair a cycle runs as many commands as the report tells.
module _ (p : Program) (s : Schedule) (h : ℕ) (bounded : Bounded p s h) where
  code-count : (x : ℕ) → x < count p → count_code (code_of (image_of p s h) x) ≡ body_commands (signal_at p x).body
  code-count x lt =
      ap count_code (code-stretch p s h bounded x lt) ∙ count-signal x (signal_at p x).body (bounded.constants x lt)

  list_count : (test : ℕ → Bool) (order : List ℕ) → ((j : ℕ) → j < length order → get_or order j 0 < count p) →
      count_signals (image_of p s h) (chosen test order) ≡ list_commands p (chosen test order)
  unfolding count_signals list_commands chosen
  list_count test [] known = refl
  list_count test (x ∷ xs) known = go (test x) (list_count test xs (λ j l. known (suc j) (omega arith)))
    where
      rest : List ℕ
      rest = chosen test xs

      go : (b : Bool) → count_signals (image_of p s h) rest ≡ list_commands p rest →
          count_signals (image_of p s h) (cond b (x ∷ rest) rest) ≡ list_commands p (cond b (x ∷ rest) rest)
      go true ih = ap₂ ◌+◌ (code-count x (known 0 (omega arith))) ih
      go false ih = ih

  pub cycle-count : ((j : ℕ) → j < length s.order → get_or s.order j 0 < count p) → (c : ℕ) → c < h →
      count_signals (image_of p s h) (list_of (image_of p s h) c) ≡ cycle_commands p s c
  unfolding cycle_commands run_list
  cycle-count known c lt =
      ap (count_signals (image_of p s h)) (list-stretch p s h bounded c lt) ∙
      list_count (λ x. due (rate_of p s x) c) s.order known

-- Whatever well-formed image a cycle is lent, its count has 32 bits.
pub count_fits : (image : List ℕ) (state : List ℤ) → AreBytes image → well_formed image ≡ true → cycle_count image state < 2 ^ 32
unfolding cycle_count
count_fits image state bytes h = signals-fit image _ (image-short image bytes h) (lists-inside image _)
