-- The highest stack use that the report tells is the least that the code of every signal keeps within, on the image's bytes; and
-- for an accepted pair it is never over 31. Assumes nothing.
use Prim.Native.Nat.{ℕ, zero, suc, ◌+◌, ◌*◌, ◌≤◌, ◌<◌}
use mathlib.Core.List.{List, [], ◌∷◌}
use mathlib.Core.Logic.{◌↔◌}
use mathlib.Core.Path.{◌≡◌, refl, sym, ap, subst, ◌∙◌}
use native.Mathlib.Omega.{arith}
use lib.ListN.{length, get_or, length-append}
use Rattle.model.specs.Rules.Image.{expr_code, signal_code, image_of}
use Rattle.model.specs.Rules.Machine.{code_at, code_of}
use Rattle.model.specs.Rules.Program.{
  Program,
  Signal,
  Body,
  input,
  equation,
  Expr,
  constant,
  read,
  binary,
  unary,
  choose,
  count,
  no_signal,
  signal_at,
}
use Rattle.model.specs.Rules.Report.{expr_height, body_height, highest}
use Rattle.model.specs.Rules.Schedule.{Schedule}
use Rattle.model.specs.Rules.Word.{four_bytes, word_bytes}
use Rattle.theorems_images.specs.Height.{Changes, Within}
use Rattle.model.specs.declared.Code.{Code}
use Rattle.model.specs.declared.Code.TheVariants as Code
use Rattle.model.proofs.Images.Bounds.{depth, body_depth, Words, BodyWords, Bounded, height-some}
use Rattle.model.proofs.Images.Runs.{
  push_at,
  load_at,
  fetch-at,
  store_at,
  binary-at,
  unary-at,
  if-at,
  binary-parts,
  unary-parts,
  choose-parts,
}
use Rattle.theorems_images.proofs.Decoded.{written, decoded}
use Rattle.model.proofs.Images.Stretches.{Stands, all_of, front, behind, code-stretch}

-- An expression of depth d puts at most 2(d − 1) + 1 words on the stack.
height-depth : (e : Expr) → expr_height e + 1 ≤ 2 * depth e
height-depth (constant w) = omega arith
height-depth (read ρ) = omega arith
height-depth (binary operator x y) = omega (arith, height-depth x, height-depth y)
height-depth (unary operator x) = omega (arith, height-depth x)
height-depth (choose x y z) = omega (arith, height-depth x, height-depth y, height-depth z)

body-depth : (body : Body) → body_height body + 1 ≤ 2 * body_depth body
body-depth input = omega arith
body-depth (equation weight e) = height-depth e

-- What a command does to the height, and that it is no STORE.
abbrev Moves : Code → ℕ → ℕ → ℕ → Type 0
Moves Code.EndsEarly width height after = ⊥
Moves Code.Unknown width height after = ⊥
Moves (Code.Push w) width height after = (width ≡ 5) × (after ≡ suc height)
Moves (Code.Load x) width height after = (width ≡ 2) × (after ≡ suc height)
Moves (Code.Fetch x) width height after = (width ≡ 2) × (after ≡ suc height)
Moves (Code.Store x) width height after = ⊥
Moves (Code.Binary operator) width height after = (width ≡ 1) × (height ≡ suc after)
Moves (Code.Unary operator) width height after = (width ≡ 1) × (height ≡ after)
Moves Code.If width height after = (width ≡ 1) × (height ≡ suc (suc after))

moves : {c : Code} {width height after : ℕ} → Changes c width height after → Moves c width height after
moves Changes.push = (refl, refl)
moves Changes.load = (refl, refl)
moves Changes.fetch = (refl, refl)
moves Changes.binary = (refl, refl)
moves Changes.unary = (refl, refl)
moves Changes.choose = (refl, refl)

abbrev GoesOn : Code → Type 0
GoesOn Code.EndsEarly = ⊥
GoesOn Code.Unknown = ⊥
GoesOn (Code.Push w) = Unit {0}
GoesOn (Code.Load x) = Unit {0}
GoesOn (Code.Fetch x) = Unit {0}
GoesOn (Code.Store x) = ⊥
GoesOn (Code.Binary operator) = Unit {0}
GoesOn (Code.Unary operator) = Unit {0}
GoesOn Code.If = Unit {0}

module _ (most : ℕ) (code : List ℕ) where
  moved : {at to height : ℕ} → at ≡ to → Within most code at height → Within most code to height
  moved {height = height} e w = subst (λ (k : ℕ). Within most code k height) e w

  -- The code of an expression keeps within `most` where its height does ..
  expr-within : (e : Expr) (at height : ℕ) → Words e → height + expr_height e ≤ most → Stands code at (expr_code e) →
      Within most code (at + length (expr_code e)) (suc height) → Within most code at height
  unfolding expr_code word_bytes four_bytes
  expr-within (constant w) at height fit room h next =
      Within.onward {height = height} (written (push_at w fit h) tt) (omega arith) Changes.push next
  expr-within (read ρ) at height fit room h next =
      Within.onward {height = height} (written (load_at _ h) tt) (omega arith) Changes.load next
  expr-within (binary operator x y) at height fit room h next =
      let parts = binary-parts operator x y h in
      expr-within x at height fit.0 (omega arith) parts.0
      (expr-within y _ _ fit.1 (omega arith) parts.1
      (Within.onward {height = suc (suc height)} (written (binary-at operator parts.2) tt) (omega (arith, height-some y))
      Changes.binary
      (moved (simp length-append (omega arith)) next)))
  expr-within (unary operator x) at height fit room h next =
      let parts = unary-parts operator x h in
      expr-within x at height fit room parts.0
      (Within.onward {height = suc height} (written (unary-at operator parts.1) tt) (omega (arith, height-some x))
      Changes.unary
      (moved (simp length-append (omega arith)) next))
  expr-within (choose x y z) at height fit room h next =
      let parts = choose-parts x y z h in
      expr-within x at height fit.0 (omega arith) parts.0
      (expr-within y _ _ fit.1 (omega arith) parts.1
      (expr-within z _ _ fit.2 (omega arith) parts.2
      (Within.onward {height = suc (suc (suc height))} (written (if-at parts.3) tt) (omega (arith, height-some z))
      Changes.choose
      (moved (simp length-append (omega arith)) next))))

  -- .. and only there.
  here-within : {at height : ℕ} → Within most code at height → height ≤ most
  here-within (Within.store d le) = le
  here-within (Within.onward d le change next) = le

  record Next (c : Code) (at height : ℕ) : Type 0 where
    width : ℕ
    after : ℕ
    changes : Moves c width height after
    next : Within most code (at + width) after

  next_of : {at height : ℕ} (c : Code) → code_at code at ≡ c → GoesOn c → Within most code at height → Next c at height
  next_of c e on (Within.store d le) = absurd (subst GoesOn (sym e ∙ decoded d) on)
  next_of {height = height} c e on (Within.onward {width = width} {after = after} d le change next) =
      record {
        width = width;
        after = after;
        changes = subst (λ k. Moves k width height after) (sym (decoded d) ∙ e) (moves change);
        next = next;
      }

  goes_on : {from to after height : ℕ} → from ≡ to → after ≡ height → Within most code from after → Within most code to height
  goes_on p q w = rw (← p, ← q) w

  within-expr : (e : Expr) (at height : ℕ) → Words e → Stands code at (expr_code e) → Within most code at height →
      (height + expr_height e ≤ most) × Within most code (at + length (expr_code e)) (suc height)
  unfolding expr_code word_bytes four_bytes
  within-expr (constant w) at height fit h here =
      let n = next_of _ (push_at w fit h) tt here in
      let after = goes_on (ap (λ (k : ℕ). at + k) n.changes.0) n.changes.1 n.next in
      (omega (arith, here-within after), after)
  within-expr (read ρ) at height fit h here =
      let n = next_of _ (load_at _ h) tt here in
      let after = goes_on (ap (λ (k : ℕ). at + k) n.changes.0) n.changes.1 n.next in
      (omega (arith, here-within after), after)
  within-expr (binary operator x y) at height fit h here =
      let parts = binary-parts operator x y h in
      let first = within-expr x at height fit.0 parts.0 here in
      let second = within-expr y _ _ fit.1 parts.1 first.1 in
      let n = next_of _ (binary-at operator parts.2) tt second.1 in (
        omega (arith, first.0, second.0),
        goes_on (simp length-append (omega (arith, n.changes.0))) (omega (arith, n.changes.1)) n.next,
      )
  within-expr (unary operator x) at height fit h here =
      let parts = unary-parts operator x h in
      let first = within-expr x at height fit parts.0 here in
      let n = next_of _ (unary-at operator parts.1) tt first.1 in (
        first.0,
        goes_on (simp length-append (omega (arith, n.changes.0))) (omega (arith, n.changes.1)) n.next,
      )
  within-expr (choose x y z) at height fit h here =
      let parts = choose-parts x y z h in
      let first = within-expr x at height fit.0 parts.0 here in
      let second = within-expr y _ _ fit.1 parts.1 first.1 in
      let third = within-expr z _ _ fit.2 parts.2 second.1 in
      let n = next_of _ (if-at parts.3) tt third.1 in (
        omega (arith, first.0, second.0, third.0),
        goes_on (simp length-append (omega (arith, n.changes.0))) (omega (arith, n.changes.1)) n.next,
      )

signal-within : (most x : ℕ) (body : Body) → BodyWords body → body_height body ≤ most → Within most (signal_code x body) 0 0
signal-within most x input fit room =
    let code = signal_code x input in
    Within.onward {height = 0} (written (fetch-at x (front (0x52 ∷ x ∷ []) (0x5F ∷ x ∷ []) (all_of code))) tt) (omega arith)
    Changes.fetch
    (Within.store {height = 1} (written (store_at x (behind (0x52 ∷ x ∷ []) (0x5F ∷ x ∷ []) (all_of code))) tt) (omega arith))
signal-within most x (equation weight e) fit room =
    let code = signal_code x (equation weight e) in
    expr-within most code e 0 0 fit (omega arith) (front (expr_code e) (0x5F ∷ x ∷ []) (all_of code))
    (Within.store {height = 1} (written (store_at x (behind (expr_code e) (0x5F ∷ x ∷ []) (all_of code))) tt)
    (omega (arith, height-some e)))

within-signal : (most x : ℕ) (body : Body) → BodyWords body → Within most (signal_code x body) 0 0 → body_height body ≤ most
within-signal most x input fit here =
    let code = signal_code x input in
    let n = next_of most code _ (fetch-at x (front (0x52 ∷ x ∷ []) (0x5F ∷ x ∷ []) (all_of code))) tt here in
    omega (arith, here-within most code n.next, n.changes.1)
within-signal most x (equation weight e) fit here =
    let code = signal_code x (equation weight e) in
    omega (arith, (within-expr most code e 0 0 fit (front (expr_code e) (0x5F ∷ x ∷ []) (all_of code)) here).0)

-- The highest of some signals is the least number that none passes.
highest-above : (xs : List Signal) (x : ℕ) → x < length xs → body_height (get_or xs x no_signal).body ≤ highest xs
unfolding highest
highest-above [] x lt = absurd (omega arith)
highest-above (y ∷ xs) zero lt = omega arith
highest-above (y ∷ xs) (suc x) lt = omega (arith, highest-above xs x (omega arith))

highest-least : (m : ℕ) (xs : List Signal) → ((x : ℕ) → x < length xs → body_height (get_or xs x no_signal).body ≤ m) →
    highest xs ≤ m
unfolding highest
highest-least m [] h = omega arith
highest-least m (y ∷ xs) h =
    omega (arith, h 0 (omega arith), highest-least m xs (λ x lt. h (suc x) (omega arith)))

module _ (p : Program) (s : Schedule) (h : ℕ) (bounded : Bounded p s h) where
  -- The stack use of a pair is the least number that the code of every signal keeps within.
  pub stack-least : (m : ℕ) → ((x : ℕ) → x < count p → Within m (code_of (image_of p s h) x) 0 0) ↔ (highest p.signals ≤ m)
  stack-least m = (to, from)
    where
      to : ((x : ℕ) → x < count p → Within m (code_of (image_of p s h) x) 0 0) → highest p.signals ≤ m
      to w =
          highest-least m p.signals (λ x lt.
          within-signal m x (signal_at p x).body (bounded.constants x lt) (rw (code-stretch p s h bounded x lt) at (w x lt)))

      from : highest p.signals ≤ m → (x : ℕ) → x < count p → Within m (code_of (image_of p s h) x) 0 0
      from le x lt =
          rw (code-stretch p s h bounded x lt)
          (signal-within m x (signal_at p x).body (bounded.constants x lt) (omega (arith, highest-above p.signals x lt)))

  -- Expressions nest at most 16 deep.
  pub highest-31 : highest p.signals ≤ 31
  highest-31 =
      highest-least 31 p.signals (λ x lt. omega (arith, body-depth (signal_at p x).body, bounded.depths x lt))

  pub stack-31 : (x : ℕ) → x < count p → Within 31 (code_of (image_of p s h) x) 0 0
  stack-31 = (stack-least 31).1 highest-31
