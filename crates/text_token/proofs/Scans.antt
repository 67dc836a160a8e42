-- Classes of bytes, and the tokens of a text byte by byte. Assumes nothing.
use Rattle.std.specs.Prelude.{Some, None}
use Prim.Native.Nat.{ℕ, suc, ◌+◌, ◌-◌, ◌*◌, ◌^◌, ◌≤◌, ◌<◌, min}
use mathlib.Core.Bool.{Bool, true, false, cond, not, ◌&&◌, ◌||◌}
use mathlib.Core.List.{List, [], ◌∷◌, ◌++◌}
use mathlib.Core.Path.{◌≡◌, refl, sym, ap, ◌∙◌}
use native.Mathlib.Numerals.{add-one}
use native.Mathlib.Omega.{arith}
use borrow.Author.Tests.{eqb-true, ne_eqb, le-leb, lt-leb}
use lib.Dec.{eqb, leb-suc-suc}
use lib.ListN.{length, get_or, take, drop, drop_of_length-le, length-drop}
use lib.Seq.{drop-cons, take-suc, get_or-drop}
use Rattle.model.specs.Rules.TextForm.{
  Class,
  newline,
  blank,
  semicolon,
  other,
  class_of,
  Scan,
  between,
  comment,
  inside,
  scanned,
  finished,
  finished_by,
  token,
  tokens_from,
  number_from,
  number_of,
}
use Rattle.model.specs.Rules.Width.{within}
use Rattle.model.specs.Rules.Word.{byte_at}
use Rattle.text_token.specs.Scanning.{is_other, starts_token, scan_at, comment_after, tokens_at, held_number, has_zero}

-- A comment goes on up to a newline, and starts with a semicolon.
pub comment-in : (b : ℕ) → not (eqb b 10) ≡ comment_after true (class_of b)
unfolding class_of
comment-in b = go (eqb b 10) (eqb b 32 || eqb b 9 || eqb b 13) (eqb b 59)
  where
    go : (x y z : Bool) → not x ≡ comment_after true (cond x newline (cond y blank (cond z semicolon other)))
    go true y z = refl
    go false true z = refl
    go false false true = refl
    go false false false = refl

pub comment-out : (b : ℕ) → eqb b 59 ≡ comment_after false (class_of b)
unfolding class_of
comment-out b = go (eqb b 59) refl
  where
    go : (z : Bool) → eqb b 59 ≡ z →
        z ≡ comment_after false (cond (eqb b 10) newline (cond (eqb b 32 || eqb b 9 || eqb b 13) blank (cond z semicolon other)))
    go true e =
        let p = eqb-true b 59 e in
        rw (
          ne_eqb b 10 (λ q. omega arith),
          ne_eqb b 32 (λ q. omega arith),
          ne_eqb b 9 (λ q. omega arith),
          ne_eqb b 13 (λ q. omega arith),
        ) refl
    go false e = out (eqb b 10) (eqb b 32 || eqb b 9 || eqb b 13)
      where
        out : (x y : Bool) → false ≡ comment_after false (cond x newline (cond y blank other))
        out true y = refl
        out false true = refl
        out false false = refl

-- What starts a token, and where.
pub starts_other : (started : Bool) (c : Class) → starts_token started c ≡ true → (started ≡ false) × (c ≡ other)
starts_other true c e = let z : ◌≡◌ {A = ℕ} 0 1 = cc in absurd (omega arith)
starts_other false newline e = let z : ◌≡◌ {A = ℕ} 0 1 = cc in absurd (omega arith)
starts_other false blank e = let z : ◌≡◌ {A = ℕ} 0 1 = cc in absurd (omega arith)
starts_other false semicolon e = let z : ◌≡◌ {A = ℕ} 0 1 = cc in absurd (omega arith)
starts_other false other e = (refl, refl)

pub is-other : (c : Class) → is_other c ≡ true → c ≡ other
is-other newline e = let z : ◌≡◌ {A = ℕ} 0 1 = cc in absurd (omega arith)
is-other blank e = let z : ◌≡◌ {A = ℕ} 0 1 = cc in absurd (omega arith)
is-other semicolon e = let z : ◌≡◌ {A = ℕ} 0 1 = cc in absurd (omega arith)
is-other other e = refl

-- One byte of a text.
module _ (text : List ℕ) (i : ℕ) where
  abbrev here : ℕ
  here = byte_at text i

  tokens-step : i < length text → (s : Scan) →
      tokens_at text i s ≡ finished_by (class_of here) s ++ tokens_at text (i + 1) (scanned i here (class_of here) s)
  unfolding tokens_from
  tokens-step lt s = rw (drop-cons text i 0 lt, add-one) refl

  tokens-end : length text ≤ i → (s : Scan) → tokens_at text i s ≡ finished s
  unfolding tokens_from
  tokens-end le s = rw (drop_of_length-le {A = ℕ} text le) refl

  -- a byte that starts no token, between tokens or in a comment
  pub scan-on : i < length text → (started : Bool) → starts_token started (class_of here) ≡ false →
      tokens_at text i (scan_at started) ≡ tokens_at text (i + 1) (scan_at (comment_after started (class_of here)))
  scan-on lt started e = tokens-step lt (scan_at started) ∙ go started (class_of here) e
    where
      go : (started : Bool) (c : Class) → starts_token started c ≡ false →
          finished_by c (scan_at started) ++ tokens_at text (i + 1) (scanned i here c (scan_at started)) ≡
          tokens_at text (i + 1) (scan_at (comment_after started c))
      go true newline e = refl
      go true blank e = refl
      go true semicolon e = refl
      go true other e = refl
      go false newline e = refl
      go false blank e = refl
      go false semicolon e = refl
      go false other e = let z : ◌≡◌ {A = ℕ} 0 1 = cc in absurd (omega arith)

  pub scan-none : length text ≤ i → (started : Bool) → tokens_at text i (scan_at started) ≡ tokens_at text i between
  scan-none le true = tokens-end le comment ∙ sym (tokens-end le between)
  scan-none le false = refl

  -- a byte that starts a token, and one that goes on with it
  pub token-starts : i < length text → class_of here ≡ other →
      tokens_at text i between ≡ tokens_at text (i + 1) (inside i (take (i + 1 - i) (drop i text)))
  token-starts lt e =
      let one : i + 1 - i ≡ 1 = omega arith in
      tokens-step lt between ∙ rw (e, one, drop-cons text i 0 lt) refl

  pub token-on : (start : ℕ) → start < i → i < length text → class_of here ≡ other →
      tokens_at text i (inside start (take (i - start) (drop start text))) ≡
      tokens_at text (i + 1) (inside start (take (i + 1 - start) (drop start text)))
  token-on start after lt e =
      let n : i + 1 - start ≡ suc (i - start) = omega arith in
      let m : start + (i - start) ≡ i = omega arith in
      let b : get_or (drop start text) (i - start) 0 ≡ here = get_or-drop start text (i - start) 0 ∙ ap
      (λ (k : ℕ). get_or text k 0) m in
      let w : take (i + 1 - start) (drop start text) ≡ take (i - start) (drop start text) ++ (here ∷ []) =
      ap (λ (k : ℕ). take k (drop start text)) n ∙
      take-suc (drop start text) (i - start) 0 (omega (arith, length-drop start text)) ∙
      ap (λ (c : ℕ). take (i - start) (drop start text) ++ (c ∷ [])) b in
      tokens-step lt (inside start (take (i - start) (drop start text))) ∙ rw (e, w) refl

  -- a byte that ends a token, or the end of the text
  pub token-ends : (start : ℕ) (w : List ℕ) → i < length text → is_other (class_of here) ≡ false →
      tokens_at text i (inside start w) ≡ token start w ∷ tokens_at text i between
  token-ends start w lt e = tokens-step lt (inside start w) ∙ go (class_of here) e ∙ ap (token start w ∷◌)
      (sym (tokens-step lt between))
    where
      go : (c : Class) → is_other c ≡ false →
          finished_by c (inside start w) ++ tokens_at text (i + 1) (scanned i here c (inside start w)) ≡
          token start w ∷ (finished_by c between ++ tokens_at text (i + 1) (scanned i here c between))
      go newline e = refl
      go blank e = refl
      go semicolon e = refl
      go other e = let z : ◌≡◌ {A = ℕ} 0 1 = cc in absurd (omega arith)

  pub token-last : (start : ℕ) (w : List ℕ) → length text ≤ i →
      tokens_at text i (inside start w) ≡ token start w ∷ tokens_at text i between
  token-last start w le = tokens-end le (inside start w) ∙ ap (token start w ∷◌) (sym (tokens-end le between))

-- Digits, held at 2^32.
held-from : (v u : ℕ) (ds : List ℕ) → min v (2 ^ 32) ≡ min u (2 ^ 32) → held_number (number_from v ds) ≡ held_number
    (number_from u ds)
unfolding number_from
held-from v u [] e = ap Some e
held-from v u (d ∷ ds) e = go (within 48 57 d) (held-from (10 * v + (d - 48)) (10 * u + (d - 48)) ds (omega arith))
  where
    go : (b : Bool) → held_number (number_from (10 * v + (d - 48)) ds) ≡ held_number (number_from (10 * u + (d - 48)) ds) →
        held_number (elim b [ true ↦ number_from (10 * v + (d - 48)) ds | false ↦ None ]) ≡
        held_number (elim b [ true ↦ number_from (10 * u + (d - 48)) ds | false ↦ None ])
    go true q = q
    go false q = refl

module _ (token : List ℕ) (v i : ℕ) where
  abbrev digit_here : ℕ
  digit_here = byte_at token i

  digits-by : i < length token → (b : Bool) → within 48 57 digit_here ≡ b →
      number_from v (drop i token) ≡
      elim b [ true ↦ number_from (10 * v + (digit_here - 48)) (drop (i + 1) token) | false ↦ None ]
  unfolding number_from
  digits-by lt true e = rw (drop-cons token i 0 lt, add-one) (rw (e, number_from) refl)
  digits-by lt false e = rw (drop-cons token i 0 lt) (rw (e, number_from) refl)

  pub digits-next : i < length token → 48 ≤ digit_here → digit_here ≤ 57 →
      held_number (number_from v (drop i token)) ≡
      held_number (number_from (min (10 * v + (digit_here - 48)) (2 ^ 32)) (drop (i + 1) token))
  digits-next lt low high =
      ap held_number (digits-by lt true (rw (le-leb 48 digit_here low, le-leb digit_here 57 high) refl)) ∙
      held-from _ _ (drop (i + 1) token) (omega arith)

  pub digits_low : i < length token → digit_here < 48 → held_number (number_from v (drop i token)) ≡ None
  digits_low lt low = ap held_number (digits-by lt false (rw (lt-leb 48 digit_here low) refl))

  pub digits-high : i < length token → 57 < digit_here → held_number (number_from v (drop i token)) ≡ None
  digits-high lt high = ap held_number (digits-by lt false (rw (le-leb 48 digit_here (omega arith), lt-leb digit_here 57 high) refl))

  pub digits-end : length token ≤ i → v ≤ 2 ^ 32 → held_number (number_from v (drop i token)) ≡ Some v
  unfolding number_from
  digits-end le small = rw (drop_of_length-le {A = ℕ} token le) (ap Some (omega arith))

-- A number: no digits, a 0 before other digits, or its digits.
pub number-none : (token : List ℕ) → length token ≡ 0 → held_number (number_of token) ≡ None
unfolding number_of
number-none [] e = refl
number-none (d ∷ ds) e = absurd (omega arith)

pub number-zero : (token : List ℕ) → has_zero token ≡ true → held_number (number_of token) ≡ None
unfolding number_of
number-zero [] e = refl
number-zero (d ∷ ds) e = rw (sym (ap (λ (b : Bool). eqb d 48 && b) (leb-suc-suc 1 (length ds))) ∙ e) refl

pub number_digits : (token : List ℕ) → (length token ≡ 0 → ⊥) → has_zero token ≡ false → number_of token ≡ number_from 0 token
unfolding number_of
number_digits [] some e = absurd (some refl)
number_digits (d ∷ ds) some e = rw (sym (ap (λ (b : Bool). eqb d 48 && b) (leb-suc-suc 1 (length ds))) ∙ e) refl
