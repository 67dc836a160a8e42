-- What is written for one token. Assumes nothing.
use Rattle.std.specs.Prelude.{Option, Some, None, Result, Ok, Err}
use Prim.Native.Nat.{ℕ, zero, suc, ◌+◌, ◌-◌, ◌*◌, ◌^◌, ◌≤◌, ◌<◌}
use mathlib.Core.Bool.{Bool, true, false, cond}
use mathlib.Core.List.{List, [], ◌∷◌, ◌++◌}
use mathlib.Core.Path.{◌≡◌, refl, sym, ◌∙◌}
use native.Mathlib.Omega.{arith}
use borrow.Author.Tests.{eq-eqb, ne_eqb, le-leb, lt-leb}
use lib.ListN.{length, drop, length-append}
use Rattle.model.specs.Rules.Outcome.{Outcome, accepted, refused, refuse}
use Rattle.model.specs.Rules.Search.{first_below}
use Rattle.model.specs.Rules.TextForm.{
  names,
  keywords,
  keyword_at,
  coded,
  size,
  low_at,
  lead,
  number_token,
  operand_token,
  Listed,
  listed_at,
}
use Rattle.model.specs.Rules.Word.{byte_at, AreBytes}
use Rattle.model.specs.Rules.Writing.{Wrote}
use Rattle.model.specs.declared.Fault.{Fault}
use Rattle.model.specs.declared.Operand.{Operand}
use Rattle.model.specs.declared.Operand.TheVariants.{One, Two, Four, Signed, Index, Mode}
use Rattle.model.proofs.Basics.Outcomes.{accepted-then, refused-then, true-provided, false-provided}
use Rattle.model.proofs.Basics.Left.{Parts, wrote-size}
use Rattle.model.proofs.Pairs.Decide.{is-first}
use Rattle.decimal.specs.PutBytes.{PutBytes}
use Rattle.text_keyword.specs.Cells.{letters_of}
use Rattle.text_keyword.proofs.Finding.{letters-more}
use Rattle.text_list.specs.declared.TokenPut.{TokenPut}
use Rattle.text_list.specs.Puts.{lead_by, put_of, Room, PutToken, PutsToken}

-- Letters one by one.
pub letters-parts : (letters : List ℕ) (i : ℕ) → (byte_at letters i ≡ 0 → ⊥) →
    Parts (letters_of (drop i letters)) (byte_at letters i ∷ []) (letters_of (drop (i + 1) letters))
letters-parts letters i some = record { is = letters-more letters i some }

-- A search in which nothing passes.
pub search-none : (n : ℕ) (test : ℕ → Bool) → ((i : ℕ) → i < n → test i ≡ false) → None ≡ first_below n test
search-none n test none = go (first_below n test) refl
  where
    go : (f : Option ℕ) → first_below n test ≡ f → None ≡ f
    go (Some j) e =
        let h = is-first n test (Some j) e in
        let t = sym (none j (omega (arith, h.1))) ∙ h.2 in
        let z : ◌≡◌ {A = ℕ} 0 1 = cc in absurd (omega arith)
    go None e = refl

pub wrote-put : {old new bytes : List ℕ} {at end : ℕ} → PutBytes old at bytes new end → Wrote old at bytes new end
wrote-put p = record { holds = p.holds; ends = p.ends }

-- What separates a token.
pub lead-first : (at opens : ℕ) → at ≡ 0 → lead_by at opens ≡ []
lead-first at opens e = rw (eq-eqb at 0 e) refl

pub lead-space : (at opens : ℕ) → (at ≡ 0 → ⊥) → opens ≡ 0 → lead_by at opens ≡ 32 ∷ []
lead-space at opens later e = rw (ne_eqb at 0 later, eq-eqb opens 0 e) refl

pub lead-line : (at opens : ℕ) → (at ≡ 0 → ⊥) → (opens ≡ 0 → ⊥) → lead_by at opens ≡ 10 ∷ []
lead-line at opens later e = rw (ne_eqb at 0 later, ne_eqb opens 0 e) refl

pub lead-by : (at opens : ℕ) (b : Bool) → opens ≡ cond b 1 0 → lead_by at opens ≡ lead at b
lead-by at opens true e = rw e refl
lead-by at opens false e = rw e refl

-- A number of at most four bytes.
pub low-next : (bytes : List ℕ) (n at i : ℕ) → 0 < i → i ≤ n →
    low_at (n - (i - 1)) bytes (at + (i - 1)) ≡ 256 * low_at (n - i) bytes (at + i) + byte_at bytes (at + (i - 1))
unfolding low_at
low-next bytes n at i some le =
    let e : n - (i - 1) ≡ suc (n - i) = omega arith in
    let f : at + (i - 1) + 1 ≡ at + i = omega arith in
    rw (e, low_at, f) (omega arith)

pub low-none : (bytes : List ℕ) (n at : ℕ) → low_at (n - n) bytes at ≡ 0
unfolding low_at
low-none bytes n at = let e : n - n ≡ 0 = omega arith in rw e refl

pub low_small : (bytes : List ℕ) → AreBytes bytes → (n at : ℕ) → low_at n bytes at < 256 ^ n
unfolding low_at
low_small bytes are zero at = omega arith
low_small bytes are (suc n) at = omega (arith, are at, low_small bytes are n (at + 1))

pub power_small : (n : ℕ) → n ≤ 4 → 256 ^ n ≤ 2 ^ 32
power_small zero le = omega arith
power_small (suc zero) le = omega arith
power_small (suc (suc zero)) le = omega arith
power_small (suc (suc (suc zero))) le = omega arith
power_small (suc (suc (suc (suc zero)))) le = omega arith
power_small (suc (suc (suc (suc (suc n))))) le = absurd (omega arith)

pub size_small : (o : Operand) → size o ≤ 4
size_small One = omega arith
size_small Two = omega arith
size_small Four = omega arith
size_small Signed = omega arith
size_small Index = omega arith
size_small Mode = omega arith

-- The token of an operand, by its names.
pub token-named : (o : Operand) (v i : ℕ) → coded v (names o) ≡ Some i → operand_token o v ≡ (keyword_at (names o) i).spelling
unfolding operand_token
token-named o v i e = rw e refl

pub token-number : (o : Operand) (v : ℕ) → coded v (names o) ≡ None → operand_token o v ≡ number_token o v
unfolding operand_token
token-number o v e = rw e refl

-- What stands at an offset.
abbrev pub keyword_put : ℕ → Listed
keyword_put i =
    let k = keyword_at keywords i in
    record { token = k.spelling; width = 1; pending = k.operands; opens = k.opens }

pub keyword-listed : (bytes : List ℕ) (at i : ℕ) → coded (byte_at bytes at) keywords ≡ Some i → listed_at bytes at [] ≡ accepted
    (keyword_put i)
unfolding listed_at
keyword-listed bytes at i e = rw e refl

pub keyword-unknown : (bytes : List ℕ) (at : ℕ) → coded (byte_at bytes at) keywords ≡ None →
    listed_at bytes at [] ≡ refuse 45 at
unfolding listed_at
keyword-unknown bytes at e = rw e refl

abbrev pub operand_put : Operand → List Operand → ℕ → Listed
operand_put o os v = record { token = operand_token o v; width = size o; pending = os; opens = false }

pub operand-listed : (bytes : List ℕ) (at : ℕ) (o : Operand) (os : List Operand) → at + size o ≤ length bytes →
    listed_at bytes at (o ∷ os) ≡ accepted (operand_put o os (low_at (size o) bytes at))
unfolding listed_at
operand-listed bytes at o os le =
    accepted-then _ _ tt (true-provided _ _ _ (le-leb (at + size o) (length bytes) le))

pub operand-cut : (bytes : List ℕ) (at : ℕ) (o : Operand) (os : List Operand) → length bytes < at + size o →
    listed_at bytes at (o ∷ os) ≡ refuse 46 at
unfolding listed_at
operand-cut bytes at o os lt = refused-then _ _ _ (false-provided _ _ _ (lt-leb (at + size o) (length bytes) lt))

-- Room for what is accepted, and what is put.
pub room-is : {o : Outcome Listed} {x : Listed} → o ≡ accepted x → (at to : ℕ) (out : List ℕ) → Room o at out to →
    to + length (put_of at x) ≤ length out
unfolding Room
room-is e at to out h = rw e at h

pub puts-is : {o : Outcome Listed} {x : Listed} → o ≡ accepted x → {at to : ℕ} {out new : List ℕ} {r : TokenPut} →
    PutToken x at out to new r → PutsToken o at out to new (Ok r)
unfolding PutsToken
puts-is e h = rw e h

pub puts-refused : {o : Outcome Listed} {f : Fault} → o ≡ refused f → (at to : ℕ) (out : List ℕ) (r : Result TokenPut Fault) →
    r ≡ Err f → PutsToken o at out to out r
unfolding PutsToken
puts-refused e at to out r h = rw (e, h) (refl, refl)

-- What separates the token, then the token.
module _ (separator token : List ℕ) (to : ℕ) (out : List ℕ) (fits : to + length (separator ++ token) ≤ length out) where
  pub lead-room : to + length separator ≤ length out
  lead-room = omega (arith, length-append separator token)

  pub token-room : {out₁ : List ℕ} {start : ℕ} → Wrote out to separator out₁ start → start + length token ≤ length out₁
  token-room w = omega (arith, length-append separator token, w.ends, wrote-size w)
