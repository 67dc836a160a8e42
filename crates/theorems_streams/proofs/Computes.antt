-- The code of a signal, run on a state, gives the next word of its stream. Assumes nothing.
use Prim.Native.Nat.{ℕ, suc, ◌+◌}
use mathlib.Core.List.{List, [], ◌∷◌}
use mathlib.Core.Path.{◌≡◌, ap, ◌∙◌}
use native.Mathlib.Numerals.{add-one}
use native.Mathlib.Omega.{arith}
use lib.IntN.{ℤ, pos}
use lib.ListN.{length, get_or, length-append}
use Rattle.model.specs.Rules.Image.{expr_code, signal_code}
use Rattle.model.specs.Rules.Machine.{code_at, run_command, run_from, run_code}
use Rattle.model.specs.Rules.Program.{Body, input, equation, Expr, constant, read, binary, unary, choose, Read}
use Rattle.model.specs.Rules.Report.{expr_commands}
use Rattle.model.specs.Rules.Table.{Row, unary_word}
use Rattle.model.specs.Rules.Word.{four_bytes, word_bytes, binary_word, if_word}
use Rattle.theorems_streams.specs.Streams.{value, next}
use Rattle.model.specs.declared.Code.{Code}
use Rattle.model.specs.declared.Unary.{Unary}
use Rattle.model.proofs.Images.Bounds.{Words, BodyWords}
use Rattle.model.proofs.Images.Stretches.{Stands, all_of, front, behind}
use Rattle.model.proofs.Images.Runs.{
  push_at,
  load_at,
  fetch-at,
  store_at,
  binary-at,
  unary-at,
  if-at,
  binary-parts,
  unary-parts,
  choose-parts,
  spare,
  code-room,
}

-- The rows of the image may be in another order than the program's, and at no place: what counts is what TABLE yields.
module _ (rows others : List Row) (same : (operator : Unary) (w : ℤ) → unary_word others operator w ≡ unary_word rows operator w)
    (code : List ℕ) (state samples : List ℤ) where
  -- The word that a read finds in the state.
  abbrev word : Read → ℤ
  word ρ = get_or state (suc ρ.operands.signal) (pos 0)

  step : (f at : ℕ) (stack : List ℤ) (c : Code) → code_at code at ≡ c →
      run_from (suc f) others code state samples at stack ≡
      run_command (λ a k. run_from f others code state samples a k) others state samples at stack c
  unfolding run_from
  step f at stack c d = rw d

  run-expr : (e : Expr) (f at : ℕ) (stack : List ℤ) → Words e → Stands code at (expr_code e) →
      run_from (expr_commands e + f) others code state samples at stack ≡
      run_from f others code state samples (at + length (expr_code e)) (value rows word e ∷ stack)
  unfolding expr_code value run_command word_bytes four_bytes
  run-expr (constant w) f at stack fit h =
      ap (λ (k : ℕ). run_from k others code state samples at stack) (omega arith) ∙ step f at stack _ (push_at w fit h)
  run-expr (read ρ) f at stack fit h =
      ap (λ (k : ℕ). run_from k others code state samples at stack) (omega arith) ∙ step f at stack _ (load_at _ h) ∙
      ap (λ (k : ℕ). run_from f others code state samples (at + 2) (get_or state k (pos 0) ∷ stack)) (add-one ρ.operands.signal)
  run-expr (binary operator x y) f at stack fit h =
      let parts = binary-parts operator x y h in
      ap (λ (k : ℕ). run_from k others code state samples at stack) (omega arith) ∙
      run-expr x (expr_commands y + suc f) at stack fit.0 parts.0 ∙
      run-expr y (suc f) _ _ fit.1 parts.1 ∙
      step f _ _ _ (binary-at operator parts.2) ∙
      ap (λ (k : ℕ). run_from f others code state samples k (binary_word operator (value rows word x) (value rows word y) ∷ stack))
      (simp length-append (omega arith))
  run-expr (unary operator x) f at stack fit h =
      let parts = unary-parts operator x h in
      ap (λ (k : ℕ). run_from k others code state samples at stack) (omega arith) ∙
      run-expr x (suc f) at stack fit parts.0 ∙
      step f _ _ _ (unary-at operator parts.1) ∙
      ap (λ (w : ℤ). run_from f others code state samples (at + length (expr_code x) + 1) (w ∷ stack))
      (same operator (value rows word x)) ∙
      ap (λ (k : ℕ). run_from f others code state samples k (unary_word rows operator (value rows word x) ∷ stack))
      (simp length-append (omega arith))
  run-expr (choose x y z) f at stack fit h =
      let parts = choose-parts x y z h in
      ap (λ (k : ℕ). run_from k others code state samples at stack) (omega arith) ∙
      run-expr x (expr_commands y + (expr_commands z + suc f)) at stack fit.0 parts.0 ∙
      run-expr y (expr_commands z + suc f) _ _ fit.1 parts.1 ∙
      run-expr z (suc f) _ _ fit.2 parts.2 ∙
      step f _ _ _ (if-at parts.3) ∙
      ap (λ (k : ℕ). run_from f others code state samples k (if_word (value rows word x) (value rows word y) (value rows word z) ∷
      stack))
      (simp length-append (omega arith))

pub run-signal : (rows others : List Row) → ((operator : Unary) (w : ℤ) → unary_word others operator w ≡ unary_word rows operator
    w) →
    (x : ℕ) (body : Body) (state samples : List ℤ) → BodyWords body →
    run_code others (signal_code x body) state samples ≡
    next rows (λ ρ. get_or state (suc ρ.operands.signal) (pos 0)) (get_or samples x (pos 0)) body
unfolding run_code run_command
run-signal rows others same x input state samples fit =
    let code = signal_code x input in
    step rows others same code state samples 3 0 [] _ (fetch-at x (front (0x52 ∷ x ∷ []) (0x5F ∷ x ∷ []) (all_of code))) ∙
    step rows others same code state samples 2 2 _ _ (store_at x (behind (0x52 ∷ x ∷ []) (0x5F ∷ x ∷ []) (all_of code)))
run-signal rows others same x (equation weight e) state samples fit =
    let code = signal_code x (equation weight e) in
    ap (λ (k : ℕ). run_from k others code state samples 0 []) (code-room e x) ∙
    run-expr rows others same code state samples e (suc (spare e)) 0 [] fit (front (expr_code e) (0x5F ∷ x ∷ []) (all_of code)) ∙
    step rows others same code state samples (spare e) _ _ _ (store_at x (behind (expr_code e) (0x5F ∷ x ∷ []) (all_of code)))
