-- A search row by row; letters up to a zero, compared one by one. Assumes nothing.
use Rattle.std.specs.Prelude.{Option, Some, None}
use Rattle.std.specs.Option.{MatchOption}
use Prim.Native.Nat.{ℕ, zero, suc, ◌+◌, ◌-◌, ◌≤◌, ◌<◌}
use mathlib.Core.Bool.{Bool, true, false}
use mathlib.Core.List.{List, [], ◌∷◌}
use mathlib.Core.Path.{◌≡◌, refl, sym, ap, ◌∙◌}
use native.Mathlib.Decide.{dec_lt}
use native.Mathlib.Numerals.{add-one}
use native.Mathlib.Omega.{arith}
use borrow.Author.Tests.{eqb-true, eqb-false, eq-eqb, ne_eqb}
use lib.Dec.{eqb}
use lib.ListN.{length, take, drop, length-drop, drop_of_length-le, get_or-eq_default}
use lib.Seq.{drop-cons, take_all}
use Rattle.model.specs.Rules.Search.{first_from, first_below}
use Rattle.model.specs.Rules.TextForm.{same_bytes}
use Rattle.model.specs.Rules.Word.{byte_at}
use Rattle.text_keyword.specs.Cells.{letters_of}

-- The part of a list from an offset on.
pub part-rest : (l : List ℕ) (at : ℕ) → take (length l - at) (drop at l) ≡ drop at l
part-rest l at = take_all (length l - at) (drop at l) (omega (arith, length-drop at l))

-- The search from i on finds what the whole search finds.
module _ (n : ℕ) (test : ℕ → Bool) where
  abbrev pub Searching : ℕ → Type 0
  Searching i = first_from i (n - i) test ≡ first_below n test

  pub search-starts : Searching 0
  unfolding first_below
  search-starts = let e : n - 0 ≡ n = omega arith in rw e refl

  by-test : (i : ℕ) (b : Bool) → test i ≡ b → (m : ℕ) →
      first_from i (suc m) test ≡ elim b [ true ↦ Some i | false ↦ first_from (suc i) m test ]
  unfolding first_from
  by-test i true e m = rw (e, first_from) refl
  by-test i false e m = rw (e, first_from) refl

  pub search-found : (i : ℕ) → i < n → Searching i → test i ≡ true → Some i ≡ first_below n test
  search-found i lt s t =
      let e : n - i ≡ suc (n - (i + 1)) = omega arith in sym (by-test i true t (n - (i + 1))) ∙ rw (← e) s

  pub search-next : (i : ℕ) → i < n → Searching i → test i ≡ false → Searching (i + 1)
  search-next i lt s t =
      let e : n - i ≡ suc (n - (i + 1)) = omega arith in
      let f : i + 1 ≡ suc i = add-one i in
      ap (λ (k : ℕ). first_from k (n - (i + 1)) test) f ∙ sym (by-test i false t (n - (i + 1))) ∙ rw (← e) s

  pub search-ends : (i : ℕ) → n ≤ i → Searching i → None ≡ first_below n test
  unfolding first_from
  search-ends i le s = let e : n - i ≡ 0 = omega arith in rw e at s

-- What `find` gives over the numbers below n is what the search finds.
search-to : (n : ℕ) (test : ℕ → Bool) (i : ℕ) → i ≤ n → ((k : ℕ) → k < i → test k ≡ false) → Searching n test i
search-to n test zero le misses = search-starts n test
search-to n test (suc i) le misses =
    let e = search-next n test i (omega arith) (search-to n test i (omega arith) (λ k lt. misses k (omega arith)))
    (misses i (omega arith)) in
    rw (add-one i) at e

pub first-found : (n : ℕ) (test : ℕ → Bool) (r : Option ℕ) →
    MatchOption r ((k : ℕ) → 0 ≤ k → k < n → test k ≡ false)
    (λ i. (0 ≤ i) × (i < n) × (test i ≡ true) × ((k : ℕ) → 0 ≤ k → k < i → test k ≡ false)) → r ≡ first_below n test
first-found n test None h =
    search-ends n test n (omega arith) (search-to n test n (omega arith) (λ k lt. h k (omega arith) lt))
first-found n test (Some i) h =
    search-found n test i h.1 (search-to n test i (omega arith) (λ k lt. h.3 k (omega arith) lt)) h.2

-- Letters from i on.
letters-zero : (c : ℕ) (cs : List ℕ) → c ≡ 0 → letters_of (c ∷ cs) ≡ []
unfolding letters_of
letters-zero c cs e = rw (eq-eqb c 0 e) refl

letters-cons : (c : ℕ) (cs : List ℕ) → (c ≡ 0 → ⊥) → letters_of (c ∷ cs) ≡ c ∷ letters_of cs
unfolding letters_of
letters-cons c cs some = rw (ne_eqb c 0 some) refl

letters-none : (cs : List ℕ) → cs ≡ [] → letters_of cs ≡ []
unfolding letters_of
letters-none cs e = rw e refl

module _ (letters : List ℕ) (i : ℕ) where
  pub letters-end : byte_at letters i ≡ 0 → letters_of (drop i letters) ≡ []
  letters-end e = go (dec_lt i (length letters))
    where
      go : Dec (i < length letters) → letters_of (drop i letters) ≡ []
      go (yes lt) = ap letters_of (drop-cons letters i 0 lt) ∙ letters-zero (byte_at letters i) (drop (suc i) letters) e
      go (no ge) = let le : length letters ≤ i = omega arith in letters-none (drop i letters)
          (drop_of_length-le {A = ℕ} letters le)

  pub letters-more : (byte_at letters i ≡ 0 → ⊥) →
      letters_of (drop i letters) ≡ byte_at letters i ∷ letters_of (drop (i + 1) letters)
  letters-more some = go (dec_lt i (length letters))
    where
      go : Dec (i < length letters) → letters_of (drop i letters) ≡ byte_at letters i ∷ letters_of (drop (i + 1) letters)
      go (yes lt) =
          rw (drop-cons letters i 0 lt, letters-cons (byte_at letters i) (drop (suc i) letters) some, add-one) refl
      go (no ge) = let le : length letters ≤ i = omega arith in absurd (some (get_or-eq_default {A = ℕ} letters 0 le))

-- Letters and a token from i on, compared.
pub compare-starts : (letters token : List ℕ) → same_bytes (letters_of (drop 0 letters)) (drop 0 token) ≡ same_bytes
    (letters_of letters) token
compare-starts letters token = refl

module _ (letters token : List ℕ) (i : ℕ) where
  abbrev pub Comparing : Type 0
  Comparing = same_bytes (letters_of (drop i letters)) (drop i token) ≡ same_bytes (letters_of letters) token

  pub compare-ends : Comparing → length token ≤ i → eqb (byte_at letters i) 0 ≡ same_bytes (letters_of letters) token
  unfolding same_bytes
  compare-ends s le = go (eqb (byte_at letters i) 0) refl
    where
      go : (b : Bool) → eqb (byte_at letters i) 0 ≡ b → b ≡ same_bytes (letters_of letters) token
      go true e = rw (letters-end letters i (eqb-true _ _ e), drop_of_length-le {A = ℕ} token le) at s
      go false e = rw (letters-more letters i (eqb-false _ _ e), drop_of_length-le {A = ℕ} token le) at s

  module _ (s : Comparing) (lt : i < length token) where
    pub compare-short : byte_at letters i ≡ 0 → false ≡ same_bytes (letters_of letters) token
    unfolding same_bytes
    compare-short e = rw (letters-end letters i e, drop-cons token i 0 lt) at s

    module _ (some : byte_at letters i ≡ 0 → ⊥) where
      pub compare-other : (byte_at letters i ≡ byte_at token i → ⊥) → false ≡ same_bytes (letters_of letters) token
      unfolding same_bytes
      compare-other e =
          rw (letters-more letters i some, drop-cons token i 0 lt, ne_eqb (byte_at letters i) (byte_at token i) e) at s

      pub compare-next : byte_at letters i ≡ byte_at token i →
          same_bytes (letters_of (drop (i + 1) letters)) (drop (i + 1) token) ≡ same_bytes (letters_of letters) token
      unfolding same_bytes
      compare-next e =
          rw (letters-more letters i some, drop-cons token i 0 lt, eq-eqb (byte_at letters i) (byte_at token i) e, ← add-one i) at s
