-- The text form: what is listed is assembled to the same bytes, and what is assembled is listed. Assumes nothing.
use Rattle.std.specs.Prelude.{Option, Some, None}
use Prim.Native.Nat.{ℕ, zero, suc, ◌+◌, ◌-◌, ◌*◌, ◌^◌, ◌%◌, ◌/◌, ◌≤◌, ◌<◌}
use mathlib.Core.Bool.{Bool, true, false, cond, ◌&&◌}
use mathlib.Core.List.{List, [], ◌∷◌, ◌++◌, map, append_assoc, append-nil}
use mathlib.Core.Logic.{◌↔◌}
use mathlib.Core.Path.{◌≡◌, refl, sym, ap, ap₂, subst, ◌∙◌}
use native.Mathlib.Nat.{mod-eq_of_lt}
use native.Mathlib.Omega.{arith}
use borrow.Author.Tests.{
  ltb-true,
  ltb-false,
  lt-ltb,
  le-ltb,
  leb-true,
  le-leb,
  eqb-true,
  eq-eqb,
  ne_eqb,
}
use lib.Dec.{leb, ltb, eqb}
use lib.IntN.{ℤ, pos, negsuc}
use lib.ListN.{length, get_or, drop, drop_of_length-le, length-append, length-drop}
use lib.Seq.{drop-cons, drop-drop, get_or-drop, drop_at}
use mir.Val.{sel}
use lib.Signed.{mag}
use Rattle.model.specs.Says.Feasible.{All}
use Rattle.model.specs.Rules.Outcome.{Outcome, accepted, ◌▷◌}
use Rattle.model.specs.Rules.Search.{first_from, first_below, all_below, table_from, table}
use Rattle.model.specs.Rules.TextForm.{
  Keyword,
  keywords,
  names,
  same_bytes,
  keyword_at,
  spelled,
  coded,
  size,
  is_signed,
  number_token,
  name_or,
  operand_token,
  Listed,
  listed_keyword,
  listed_at,
  lead,
  list_from,
  listing,
  assembly,
  Class,
  newline,
  blank,
  semicolon,
  other,
  class_of,
  between,
  inside,
  tokens_from,
  low_at,
  low_bytes,
  ended,
  Token,
  number_from,
  number_of,
  ranged,
  signed_of,
  value_or,
  operand_of,
  Assembled,
  assembled_keyword,
  assembled_of,
  assemble_from,
}
use Rattle.model.specs.Rules.Width.{within}
use Rattle.model.specs.Rules.Word.{bits_of, word_of, byte_at, AreBytes}
use Rattle.theorems_trials.proofs.Decimals.{natural-says, decimal-says}
use Rattle.model.specs.declared.Operand.{Operand}
use Rattle.model.specs.declared.Operand.TheVariants.{One, Two, Four, Signed, Index, Mode}
use Rattle.model.proofs.Basics.Outcomes.{
  accepted≢refused,
  accepted-same,
  then-accepted,
  accepted-then,
  provided-true,
  true-provided,
}
use Rattle.model.proofs.Basics.All.{all-at}
use Rattle.model.proofs.Basics.Tests.{never, both}
use Rattle.model.proofs.Pairs.Decide.{is-first, all_true}
use Rattle.theorems_trials.specs.Decimals.{value_of, SaysNumber, SaysWord}
use Rattle.theorems_forms.specs.TextForms.{OperandSays, TokensSay}
use Rattle.theorems_forms.specs.TextStops.{Unnamed, OperandListed, ListedFrom, ListedAs}

pub size-some : (o : Operand) → 0 < size o
size-some One = omega arith
size-some Two = omega arith
size-some Four = omega arith
size-some Signed = omega arith
size-some Index = omega arith
size-some Mode = omega arith

-- Equal lists of bytes.
same-is : (xs ys : List ℕ) → same_bytes xs ys ≡ true → xs ≡ ys
unfolding same_bytes
same-is [] [] e = refl
same-is [] (y ∷ ys) e = never e
same-is (x ∷ xs) [] e = never e
same-is (x ∷ xs) (y ∷ ys) e =
    let h = both (eqb x y) (same_bytes xs ys) e in
    let p : x ≡ y = eqb-true x y h.0 in
    let q : xs ≡ ys = same-is xs ys h.1 in
    cc

-- What a search of a table finds.
pub spelled-found : (w : List ℕ) (ks : List Keyword) (i : ℕ) → spelled w ks ≡ Some i →
    (i < length ks) × ((keyword_at ks i).spelling ≡ w)
unfolding spelled
spelled-found w ks i e =
    let h = is-first (length ks) (λ i. same_bytes (keyword_at ks i).spelling w) (Some i) e in
    (omega arith, same-is _ _ h.2)

pub coded-found : (b : ℕ) (ks : List Keyword) (i : ℕ) → coded b ks ≡ Some i → (i < length ks) × ((keyword_at ks i).byte ≡ b)
unfolding coded
coded-found b ks i e =
    let h = is-first (length ks) (λ i. eqb (keyword_at ks i).byte b) (Some i) e in
    (omega arith, eqb-true _ _ h.2)

-- Each keyword is found by its spelling and by its byte.
abbrev pub is_at : ℕ → Option ℕ → Bool
is_at i (Some j) = eqb j i
is_at i None = false

is-at : (i : ℕ) (f : Option ℕ) → is_at i f ≡ true → f ≡ Some i
is-at i (Some j) e = ap Some (eqb-true j i e)
is-at i None e = never e

abbrev pub spellings_differ : List Keyword → Bool
spellings_differ ks = all_below (length ks) (λ i. is_at i (spelled (keyword_at ks i).spelling ks))

abbrev pub bytes_differ : List Keyword → Bool
bytes_differ ks = all_below (length ks) (λ i. is_at i (coded (keyword_at ks i).byte ks))

pub keywords-differ : spellings_differ keywords ≡ true
unfolding keywords all_below spelled same_bytes first_below first_from table table_from
keywords-differ = refl

pub keyword-bytes-differ : bytes_differ keywords ≡ true
unfolding keywords all_below coded same_bytes first_below first_from table table_from
keyword-bytes-differ = refl

pub names-differ : (o : Operand) → spellings_differ (names o) ≡ true
unfolding names all_below spelled same_bytes first_below first_from table table_from
names-differ One = refl
names-differ Two = refl
names-differ Four = refl
names-differ Signed = refl
names-differ Index = refl
names-differ Mode = refl

pub spelled_at : (ks : List Keyword) → spellings_differ ks ≡ true → (i : ℕ) → i < length ks →
    spelled (keyword_at ks i).spelling ks ≡ Some i
spelled_at ks e i lt =
    is-at i _ (all_true (length ks) (λ i. is_at i (spelled (keyword_at ks i).spelling ks)) e i lt)

pub coded-at : (ks : List Keyword) → bytes_differ ks ≡ true → (i : ℕ) → i < length ks → coded (keyword_at ks i).byte ks ≡ Some i
coded-at ks e i lt = is-at i _ (all_true (length ks) (λ i. is_at i (coded (keyword_at ks i).byte ks)) e i lt)

pub names-bytes-differ : (o : Operand) → bytes_differ (names o) ≡ true
unfolding names all_below coded same_bytes first_below first_from table table_from
names-bytes-differ One = refl
names-bytes-differ Two = refl
names-bytes-differ Four = refl
names-bytes-differ Signed = refl
names-bytes-differ Index = refl
names-bytes-differ Mode = refl

pub found-apart : (x : Option ℕ) (i : ℕ) → x ≡ Some i → x ≡ None → ⊥
found-apart x i p q = let z : ◌≡◌ {A = ℕ} 0 1 = cc in omega arith

pub coded_none : (ks : List Keyword) → bytes_differ ks ≡ true → (b : ℕ) →
    (coded b ks ≡ None) ↔ ((i : ℕ) → i < length ks → ¬ (b ≡ (keyword_at ks i).byte))
coded_none ks d b = (
  λ e i lt q. found-apart (coded b ks) i (ap (λ (n : ℕ). coded n ks) q ∙ coded-at ks d i lt) e,
  λ none. go none (coded b ks) refl,
)
  where
    go : ((i : ℕ) → i < length ks → ¬ (b ≡ (keyword_at ks i).byte)) → (f : Option ℕ) → coded b ks ≡ f → f ≡ None
    go none None p = refl
    go none (Some i) p = let h = coded-found b ks i p in absurd (none i h.0 (sym h.1))

-- No name starts as a number does.
abbrev starts_by : List Keyword → ℕ → Bool
starts_by ks i = ltb 57 (get_or (keyword_at ks i).spelling 0 0)

names-start : (o : Operand) → all_below (length (names o)) (starts_by (names o)) ≡ true
unfolding names all_below table table_from
names-start One = refl
names-start Two = refl
names-start Four = refl
names-start Signed = refl
names-start Index = refl
names-start Mode = refl

pub unnamed : (o : Operand) (w : List ℕ) → get_or w 0 0 ≤ 57 → spelled w (names o) ≡ None
unnamed o w low = go (spelled w (names o)) refl
  where
    go : (f : Option ℕ) → spelled w (names o) ≡ f → f ≡ None
    go None e = refl
    go (Some i) e =
        let h = spelled-found w (names o) i e in
        let s = all_true (length (names o)) (starts_by (names o)) (names-start o) i h.0 in
        absurd (omega (arith, ltb-true 57 (get_or (keyword_at (names o) i).spelling 0 0) s, ap (λ (l : List ℕ). get_or l 0 0) h.1))

-- Numbers: a number is read exactly where its digits say it.
abbrev pub IsDigit : ℕ → Type 0
IsDigit d = (48 ≤ d) × (d ≤ 57)

digit-true : (d : ℕ) → within 48 57 d ≡ true → IsDigit d
digit-true d e = let h = both (leb 48 d) (leb d 57) e in (leb-true 48 d h.0, leb-true d 57 h.1)

true-digit : (d : ℕ) → IsDigit d → within 48 57 d ≡ true
true-digit d h = rw (le-leb 48 d h.0, le-leb d 57 h.1) refl

from-says : (v : ℕ) (ds : List ℕ) (n : ℕ) → number_from v ds ≡ Some n → All IsDigit ds × (value_of v ds ≡ n)
unfolding number_from value_of
from-says v [] n e = let z : v ≡ n = cc in (tt, z)
from-says v (d ∷ ds) n e = go (within 48 57 d) refl e (λ q. from-says (10 * v + (d - 48)) ds n q)
  where
    go : (b : Bool) → within 48 57 d ≡ b →
        elim b [ true ↦ number_from (10 * v + (d - 48)) ds | false ↦ None ] ≡ Some n →
        (number_from (10 * v + (d - 48)) ds ≡ Some n → All IsDigit ds × (value_of (10 * v + (d - 48)) ds ≡ n)) →
        All IsDigit (d ∷ ds) × (value_of (10 * v + (d - 48)) ds ≡ n)
    go true t q ih = let h = ih q in ((digit-true d t, h.0), h.1)
    go false t q ih = let z : ◌≡◌ {A = ℕ} 0 1 = cc in absurd (omega arith)

says-from : (v : ℕ) (ds : List ℕ) → All IsDigit ds → number_from v ds ≡ Some (value_of v ds)
unfolding number_from value_of
says-from v [] h = refl
says-from v (d ∷ ds) h = rw (true-digit d h.0, number_from) (says-from (10 * v + (d - 48)) ds h.1)

pub number-says : (ds : List ℕ) (n : ℕ) → number_of ds ≡ Some n → SaysNumber n ds
unfolding number_of
number-says [] n e = let z : ◌≡◌ {A = ℕ} 0 1 = cc in absurd (omega arith)
number-says (d ∷ ds) n e = go (eqb d 48 && leb 1 (length ds)) refl e
  where
    go : (b : Bool) → (eqb d 48 && leb 1 (length ds)) ≡ b → cond b None (number_from 0 (d ∷ ds)) ≡ Some n → SaysNumber n (d ∷ ds)
    go true t q = let z : ◌≡◌ {A = ℕ} 0 1 = cc in absurd (omega arith)
    go false t q =
        let h = from-says 0 (d ∷ ds) n q in
        record { digits = h.0; some = omega arith; value = h.1; shortest = λ long first. no long first }
      where
        no : 1 < length (d ∷ ds) → d ≡ 48 → ⊥
        no long first = never (sym t ∙ rw (eq-eqb d 48 first, le-leb 1 (length ds) (omega arith)) refl)

pub says-number : (ds : List ℕ) (n : ℕ) → SaysNumber n ds → number_of ds ≡ Some n
unfolding number_of
says-number [] n h = absurd (omega (arith, h.some))
says-number (d ∷ ds) n h = go (eqb d 48 && leb 1 (length ds)) refl
  where
    go : (b : Bool) → (eqb d 48 && leb 1 (length ds)) ≡ b → cond b None (number_from 0 (d ∷ ds)) ≡ Some n
    go true t =
        let g = both (eqb d 48) (leb 1 (length ds)) t in
        absurd (h.shortest (omega (arith, leb-true 1 (length ds) g.1)) (eqb-true d 48 g.0))
    go false t = says-from 0 (d ∷ ds) h.digits ∙ ap Some h.value

-- A range.
ranged-is : (place low limit : ℕ) (f : Option ℕ) (n : ℕ) → ranged place low limit f ≡ accepted n →
    (f ≡ Some n) × (low ≤ n) × (n < limit)
unfolding ranged
ranged-is place low limit (Some m) n e =
    let h = then-accepted _ _ n e in
    let t = both (leb low m) (ltb m limit) (provided-true _ _ _ h.1) in
    let q : m ≡ n = accepted-same m n h.2 in
    (ap Some q, omega (arith, leb-true low m t.0), omega (arith, ltb-true m limit t.1))
ranged-is place low limit None n e = absurd (accepted≢refused _ n _ e refl)

is-ranged : (place low limit n : ℕ) → low ≤ n → n < limit → ranged place low limit (Some n) ≡ accepted n
unfolding ranged
is-ranged place low limit n le lt =
    accepted-then _ _ tt (true-provided _ _ _ (rw (le-leb low n le, lt-ltb n limit lt) refl))

-- A word: its bits are read exactly where its decimal says it.
signed-says : (place : ℕ) (w : List ℕ) (v : ℕ) → signed_of place w ≡ accepted v →
    (z : ℤ) × SaysWord z w × (mag z < 2 ^ 31) × (v ≡ bits_of z)
unfolding bits_of ranged number_of
signed-says place [] v e = absurd (accepted≢refused _ v _ e refl)
signed-says place (d ∷ ds) v e = go (eqb d 45) refl e
  where
    minus : (n : ℕ) → d ≡ 45 → number_of ds ≡ Some n → 1 ≤ n → n < 2 ^ 31 + 1 → 2 ^ 32 - n ≡ v →
        (z : ℤ) × SaysWord z (d ∷ ds) × (mag z < 2 ^ 31) × (v ≡ bits_of z)
    minus zero p q low high r = absurd (omega arith)
    minus (suc n) p q low high r = (
      negsuc n,
      rw p (SaysWord.minus (number-says ds (suc n) q)),
      omega arith,
      sym r ∙ ap (λ (m : ℕ). 2 ^ 32 - suc m) (sym (mod-eq_of_lt (omega arith))),
    )

    go : (b : Bool) → eqb d 45 ≡ b →
        cond b (ranged place 1 (2 ^ 31 + 1) (number_of ds) ▷ λ n. accepted (2 ^ 32 - n))
        (ranged place 0 (2 ^ 31) (number_of (d ∷ ds))) ≡ accepted v →
        (z : ℤ) × SaysWord z (d ∷ ds) × (mag z < 2 ^ 31) × (v ≡ bits_of z)
    go true t q =
        let h = then-accepted _ _ v q in
        let r = ranged-is place 1 (2 ^ 31 + 1) (number_of ds) h.0 h.1 in
        minus h.0 (eqb-true d 45 t) r.0 r.1 r.2 (accepted-same _ _ h.2)
    go false t q =
        let r = ranged-is place 0 (2 ^ 31) (number_of (d ∷ ds)) v q in
        (pos v, SaysWord.plus (number-says (d ∷ ds) v r.0), r.2, sym (mod-eq_of_lt (omega (arith, r.2))))

pub first-digit : (n : ℕ) (w : List ℕ) → SaysNumber n w → IsDigit (get_or w 0 0)
first-digit n w h = all-at IsDigit w 0 h.digits 0 h.some

says-signed : (place : ℕ) {w : List ℕ} {z : ℤ} → SaysWord z w → mag z < 2 ^ 31 → signed_of place w ≡ accepted (bits_of z)
unfolding bits_of
says-signed place (SaysWord.plus {n} {ds} h) lt =
    let f = first-digit n ds h in
    rw (ne_eqb (get_or ds 0 0) 45 (λ q. omega (arith, f.0)), says-number ds n h)
    (is-ranged place 0 (2 ^ 31) n (omega arith) lt ∙ ap accepted (sym (mod-eq_of_lt (omega arith))))
says-signed place (SaysWord.minus {n} {ds} h) lt =
    accepted-then _ _ (suc n)
    (ap (ranged place 1 (2 ^ 31 + 1)) (says-number ds (suc n) h) ∙ is-ranged place 1 (2 ^ 31 + 1) (suc n) (omega arith)
    (omega arith)) ∙
    ap (λ (m : ℕ). accepted (2 ^ 32 - suc m)) (sym (mod-eq_of_lt (omega arith)))

-- An operand's value is read exactly where its token says it.
pub operand-says : (o : Operand) (t : Token) (v : ℕ) → operand_of o t ≡ accepted v → OperandSays o t.spelling v
unfolding operand_of
operand-says o t v e = go (spelled t.spelling (names o)) refl e
  where
    number : Bool → Outcome ℕ
    number b = cond b (signed_of t.place t.spelling) (ranged t.place 0 (256 ^ size o) (number_of t.spelling))

    value : (b : Bool) → is_signed o ≡ b → number b ≡ accepted v → OperandSays o t.spelling v
    value true s q = let h = signed-says t.place t.spelling v q in OperandSays.word h.0 s h.1 h.2 h.3
    value false s q =
        let h = ranged-is t.place 0 (256 ^ size o) (number_of t.spelling) v q in
        OperandSays.number s (number-says t.spelling v h.0) h.2

    go : (f : Option ℕ) → spelled t.spelling (names o) ≡ f → value_or (names o) (number (is_signed o)) f ≡ accepted v →
        OperandSays o t.spelling v
    go (Some i) p q =
        let h = spelled-found t.spelling (names o) i p in OperandSays.named i h.0 (sym h.1) (sym (accepted-same _ _ q))
    go None p q = value (is_signed o) refl q

pub says-operand : (o : Operand) (t : Token) (v : ℕ) → OperandSays o t.spelling v → operand_of o t ≡ accepted v
unfolding operand_of
says-operand o t v (OperandSays.named i lt p q) =
    rw (p, spelled_at (names o) (names-differ o) i lt) (ap accepted (sym q))
says-operand o t v (OperandSays.number s h lt) =
    rw (unnamed o t.spelling (first-digit v t.spelling h).1, s, says-number t.spelling v h)
    (is-ranged t.place 0 (256 ^ size o) v (omega arith) lt)
says-operand o t v (OperandSays.word z s h lt q) =
    rw (unnamed o t.spelling (low h), s) (says-signed t.place h lt ∙ ap accepted (sym q))
  where
    low : {z : ℤ} {w : List ℕ} → SaysWord z w → get_or w 0 0 ≤ 57
    low (SaysWord.plus {n} {ds} h) = (first-digit n ds h).1
    low (SaysWord.minus h) = omega arith

-- Tokens are assembled to the bytes exactly that they say.
abbrev pub spellings : List Token → List (List ℕ)
spellings ts = map (λ (t : Token). t.spelling) ts

pub assemble-says : (end : ℕ) (pending : List Operand) (ts : List Token) (bytes : List ℕ) →
    assemble_from end pending ts ≡ accepted bytes → TokensSay pending (spellings ts) bytes
unfolding assemble_from assembled_of
assemble-says end [] [] bytes e = rw (sym (accepted-same [] bytes e)) TokensSay.nothing
assemble-says end (o ∷ os) [] bytes e = absurd (accepted≢refused _ bytes _ e refl)
assemble-says end [] (t ∷ ts) bytes e =
    let h = then-accepted _ _ bytes e in
    let g = then-accepted _ _ bytes h.2 in
    subst (TokensSay [] (spellings (t ∷ ts))) (accepted-same _ _ g.2)
    (go h.0 g.0 (spelled t.spelling keywords) refl h.1 (assemble-says end h.0.pending ts g.0 g.1))
  where
    go : (x : Assembled) (rest : List ℕ) (f : Option ℕ) → spelled t.spelling keywords ≡ f →
        assembled_keyword t.place f ≡ accepted x → TokensSay x.pending (spellings ts) rest →
        TokensSay [] (t.spelling ∷ spellings ts) (x.bytes ++ rest)
    go x rest (Some i) p q ih =
        let h = spelled-found t.spelling keywords i p in
        subst (λ (y : Assembled). TokensSay y.pending (spellings ts) rest →
        TokensSay [] (t.spelling ∷ spellings ts) (y.bytes ++ rest)) (accepted-same _ _ q)
        (λ g. subst (λ (w : List ℕ). TokensSay [] (w ∷ spellings ts) ((keyword_at keywords i).byte ∷ rest)) h.1
        (TokensSay.keyword i h.0 g)) ih
    go x rest None p q ih = absurd (accepted≢refused _ x _ q refl)
assemble-says end (o ∷ os) (t ∷ ts) bytes e =
    let h = then-accepted _ _ bytes e in
    let g = then-accepted _ _ bytes h.2 in
    let v = then-accepted _ _ h.0 h.1 in
    let x = accepted-same _ _ v.2 in
    subst (TokensSay (o ∷ os) (spellings (t ∷ ts))) (accepted-same _ _ g.2)
    (subst (λ (y : Assembled). TokensSay y.pending (spellings ts) g.0 →
    TokensSay (o ∷ os) (t.spelling ∷ spellings ts) (y.bytes ++ g.0)) x
    (λ ih. TokensSay.operand (operand-says o t v.0 v.1) ih)
    (assemble-says end h.0.pending ts g.0 g.1))

pub says-assemble : (end : ℕ) {pending : List Operand} {tokens : List (List ℕ)} {bytes : List ℕ} →
    TokensSay pending tokens bytes → (ts : List Token) → spellings ts ≡ tokens →
    assemble_from end pending ts ≡ accepted bytes
unfolding assemble_from assembled_of ◌▷◌
says-assemble end TokensSay.nothing [] e = refl
says-assemble end TokensSay.nothing (t ∷ ts) e = absurd (omega (arith, ap length e))
says-assemble end (TokensSay.keyword i lt h) [] e = absurd (omega (arith, ap length e))
says-assemble end (TokensSay.keyword {tokens} {bytes} i lt h) (t ∷ ts) e =
    let p : t.spelling ≡ (keyword_at keywords i).spelling = cc in
    let q : spellings ts ≡ tokens = cc in
    let s = ap (λ (w : List ℕ). spelled w keywords) p ∙ spelled_at keywords keywords-differ i lt in
    rw s (accepted-then _ _ _ (says-assemble end h ts q))
says-assemble end (TokensSay.operand h g) [] e = absurd (omega (arith, ap length e))
says-assemble end (TokensSay.operand {o} {os} {token} {v} {tokens} {bytes} h g) (t ∷ ts) e =
    let p : t.spelling ≡ token = cc in
    let q : spellings ts ≡ tokens = cc in
    accepted-then _ _ (record { bytes = low_bytes (size o) v; pending = os })
    (accepted-then _ _ v (says-operand o t v (rw p h))) ∙
    accepted-then _ _ _ (says-assemble end g ts q)

-- A token stands between blanks: it has bytes, and none is a blank or a semicolon.
pub record Plain (w : List ℕ) : Type 0 where
  pub some : 0 < length w
  pub others : All (λ b. class_of b ≡ other) w

other-is : (b : ℕ) → 32 < b → b < 59 → class_of b ≡ other
unfolding class_of
other-is b low high =
    rw (
      ne_eqb b 10 (λ q. omega arith),
      ne_eqb b 32 (λ q. omega arith),
      ne_eqb b 9 (λ q. omega arith),
      ne_eqb b 13 (λ q. omega arith),
      ne_eqb b 59 (λ q. omega arith),
    ) refl

digits-plain : (ds : List ℕ) → All IsDigit ds → All (λ b. class_of b ≡ other) ds
digits-plain [] h = tt
digits-plain (d ∷ ds) h = (other-is d (omega (arith, h.0.0)) (omega (arith, h.0.1)), digits-plain ds h.1)

number-plain : (n : ℕ) (w : List ℕ) → SaysNumber n w → Plain w
number-plain n w h = record { some = h.some; others = digits-plain w h.digits }

word-plain : {z : ℤ} {w : List ℕ} → SaysWord z w → Plain w
word-plain (SaysWord.plus {n} {ds} h) = number-plain n ds h
word-plain (SaysWord.minus {n} {ds} h) =
    record { some = omega arith; others = (other-is 45 (omega arith) (omega arith), digits-plain ds h.digits) }

-- Every keyword and every name is such a token.
abbrev is_other : Class → Bool
is_other newline = false
is_other blank = false
is_other semicolon = false
is_other other = true

abbrev others_only : List ℕ → Bool
others_only [] = true
others_only (b ∷ bs) = is_other (class_of b) && others_only bs

abbrev is_plain : List Keyword → ℕ → Bool
is_plain ks i = ltb 0 (length (keyword_at ks i).spelling) && others_only (keyword_at ks i).spelling

keywords-plain : all_below (length keywords) (is_plain keywords) ≡ true
unfolding keywords all_below table table_from class_of
keywords-plain = refl

names-plain : (o : Operand) → all_below (length (names o)) (is_plain (names o)) ≡ true
unfolding names all_below table table_from class_of
names-plain One = refl
names-plain Two = refl
names-plain Four = refl
names-plain Signed = refl
names-plain Index = refl
names-plain Mode = refl

others-only : (w : List ℕ) → others_only w ≡ true → All (λ b. class_of b ≡ other) w
others-only [] e = tt
others-only (b ∷ bs) e = let h = both (is_other (class_of b)) (others_only bs) e in (is (class_of b) h.0, others-only bs h.1)
  where
    is : (c : Class) → is_other c ≡ true → c ≡ other
    is newline e = never e
    is blank e = never e
    is semicolon e = never e
    is other e = refl

plain_at : (ks : List Keyword) → all_below (length ks) (is_plain ks) ≡ true → (i : ℕ) → i < length ks →
    Plain (keyword_at ks i).spelling
plain_at ks e i lt =
    let h = both _ _ (all_true (length ks) (is_plain ks) e i lt) in
    record {
      some = ltb-true 0 (length (keyword_at ks i).spelling) h.0;
      others = others-only (keyword_at ks i).spelling
          h.1;
    }

-- The token of an operand says its value.
word-is : (v : ℕ) → v < 2 ^ 32 → (mag (word_of v) < 2 ^ 31) × (v ≡ bits_of (word_of v))
unfolding word_of bits_of
word-is v lt = go (ltb v (2 ^ 31)) refl
  where
    go : (b : Bool) → ltb v (2 ^ 31) ≡ b →
        (mag (sel b (pos v) (negsuc (2 ^ 32 - suc v))) < 2 ^ 31) × (v ≡ bits_of (sel b (pos v) (negsuc (2 ^ 32 - suc v))))
    go true t = let l = ltb-true v (2 ^ 31) t in (l, sym (mod-eq_of_lt lt))
    go false t = let l = ltb-false v (2 ^ 31) t in (omega arith, omega arith)

number-listed : (o : Operand) (v : ℕ) → v < 256 ^ size o → Unnamed o v → OperandListed o v (number_token o v)
number-listed One v lt u = OperandListed.number u refl (natural-says v)
number-listed Two v lt u = OperandListed.number u refl (natural-says v)
number-listed Four v lt u = OperandListed.number u refl (natural-says v)
number-listed Signed v lt u =
    let h = word-is v lt in OperandListed.word (word_of v) u refl (decimal-says (word_of v)) h.0 h.1
number-listed Index v lt u = OperandListed.number u refl (natural-says v)
number-listed Mode v lt u = OperandListed.number u refl (natural-says v)

operand-listed : (o : Operand) (v : ℕ) → v < 256 ^ size o → OperandListed o v (operand_token o v)
unfolding operand_token
operand-listed o v lt = go (coded v (names o)) refl
  where
    go : (f : Option ℕ) → coded v (names o) ≡ f → OperandListed o v (name_or (names o) (number_token o v) f)
    go (Some i) e = let h = coded-found v (names o) i e in OperandListed.named i h.0 (sym h.1)
    go None e = number-listed o v lt ((coded_none (names o) (names-bytes-differ o) v).0 e)

listed-operand : {o : Operand} {v : ℕ} {w : List ℕ} → OperandListed o v w → v < 256 ^ size o → OperandSays o w v × Plain w
listed-operand {o} (OperandListed.named i lt e) small =
    (OperandSays.named i lt refl e, plain_at (names o) (names-plain o) i lt)
listed-operand {v = v} (OperandListed.number {token = w} u s h) small = (OperandSays.number s h small, number-plain v w h)
listed-operand (OperandListed.word z u s h lt e) small = (OperandSays.word z s h lt e, word-plain h)

pub operand-tells : (o : Operand) (v : ℕ) → v < 256 ^ size o → OperandSays o (operand_token o v) v
operand-tells o v lt = (listed-operand (operand-listed o v lt) lt).0

-- A number by its low byte and the rest.
low_byte : (a b : ℕ) → a < 256 → ((a + 256 * b) % 256 ≡ a) × ((a + 256 * b) / 256 ≡ b)
low_byte a b lt = let q : (a + 256 * b) / 256 ≡ b = omega arith in (omega arith, q)

pub next-byte : (bytes : List ℕ) (at n : ℕ) → n ≡ suc at → at < length bytes → drop at bytes ≡ byte_at bytes at ∷ drop n bytes
next-byte bytes at n e lt = drop-cons bytes at 0 lt ∙ ap (λ (m : ℕ). byte_at bytes at ∷ drop m bytes) (sym e)

-- The bytes of an operand are those that stand at its offset.
module _ (bytes : List ℕ) (are : AreBytes bytes) where
  pub low-written : (n at : ℕ) → at + n ≤ length bytes → low_bytes n (low_at n bytes at) ++ drop (at + n) bytes ≡ drop at bytes
  unfolding low_bytes low_at
  low-written zero at le = let e : at + 0 ≡ at = omega arith in rw e refl
  low-written (suc n) at le =
      let p = low_byte (byte_at bytes at) (low_at n bytes (at + 1)) (are at) in
      let e : at + suc n ≡ at + 1 + n = omega arith in
      rw (p.0, p.1, e, low-written n (at + 1) (omega arith)) (sym (next-byte bytes at (at + 1) (omega arith) (omega arith)))

  pub low_small : (n at : ℕ) → low_at n bytes at < 256 ^ n
  unfolding low_at
  low_small zero at = omega arith
  low_small (suc n) at = omega (arith, are at, low_small n (at + 1))

  pub operand-written : (at : ℕ) (o : Operand) → at + size o ≤ length bytes →
      (low_bytes (size o) (low_at (size o) bytes at) ++ drop (at + size o) bytes ≡ drop at bytes) ×
      (low_at (size o) bytes at < 256 ^ size o)
  operand-written at o le = (low-written (size o) at le, low_small (size o) at)

-- Tokens after one blank each, with a newline at the end: the tokens of such a text are these.
data Spaced : List (List ℕ) → List ℕ → Type 0 where
  none : Spaced [] (10 ∷ [])
  next : {tokens : List (List ℕ)} {text : List ℕ} (opens : Bool) (w : List ℕ) → Plain w → Spaced tokens text →
      Spaced (w ∷ tokens) (cond opens 10 32 ∷ (w ++ text))

-- Within a token.
inside-passed : (w rest got : List ℕ) (start at n : ℕ) → All (λ b. class_of b ≡ other) w → n ≡ at + length w →
    tokens_from at (inside start got) (w ++ rest) ≡ tokens_from n (inside start (got ++ w)) rest
unfolding tokens_from
inside-passed [] rest got start at n h e =
    ap₂ (λ (k : ℕ) (l : List ℕ). tokens_from k (inside start l) rest) (omega arith) (sym (append-nil got))
inside-passed (b ∷ w) rest got start at n h e =
    rw h.0
    (inside-passed w rest (got ++ (b ∷ [])) start (suc at) n h.1 (omega arith) ∙
    ap (λ (l : List ℕ). tokens_from n (inside start l) rest) (append_assoc got (b ∷ []) w))

-- A whole token, where the reading stands between tokens.
pub plain-passed : (w rest : List ℕ) → Plain w → (at : ℕ) →
    tokens_from at between (w ++ rest) ≡ tokens_from (at + length w) (inside at w) rest
unfolding tokens_from
plain-passed [] rest h at = absurd (omega (arith, h.some))
plain-passed (b ∷ w) rest h at =
    rw h.others.0 (inside-passed w rest (b ∷ []) at (suc at) (at + length (b ∷ w)) h.others.1 (omega arith))

plain-token : (w text : List ℕ) → Plain w → (tokens : List (List ℕ)) →
    ((start at : ℕ) → spellings (tokens_from at (inside start w) text) ≡ tokens) → (at : ℕ) →
    spellings (tokens_from at between (w ++ text)) ≡ tokens
plain-token w text h tokens ih at = ap spellings (plain-passed w text h at) ∙ ih at (at + length w)

after-token : {tokens : List (List ℕ)} {text : List ℕ} → Spaced tokens text → (start : ℕ) (w : List ℕ) (at : ℕ) →
    spellings (tokens_from at (inside start w) text) ≡ w ∷ tokens
unfolding tokens_from class_of
after-token Spaced.none start w at = refl
after-token (Spaced.next {tokens} {text} true u p h) start w at =
    ap (w ∷◌) (plain-token u text p (u ∷ tokens) (λ s k. after-token h s u k) (suc at))
after-token (Spaced.next {tokens} {text} false u p h) start w at =
    ap (w ∷◌) (plain-token u text p (u ∷ tokens) (λ s k. after-token h s u k) (suc at))

-- A text after its first separator.
after_first : {tokens : List (List ℕ)} {separator : ℕ} {text : List ℕ} → Spaced tokens (separator ∷ text) → (at : ℕ) →
    spellings (tokens_from at between text) ≡ tokens
unfolding tokens_from
after_first Spaced.none at = refl
after_first (Spaced.next {tokens} {text} opens u p h) at =
    plain-token u text p (u ∷ tokens) (λ s k. after-token h s u k) at

-- What is listed has tokens that say the bytes.
listed-tokens : {pending : List Operand} {bytes text : List ℕ} → ListedFrom pending bytes text →
    (tokens : List (List ℕ)) × Spaced tokens text × TokensSay pending tokens bytes
listed-tokens ListedFrom.nothing = ([], Spaced.none, TokensSay.nothing)
listed-tokens (ListedFrom.keyword i lt h) =
    let r = listed-tokens h in
    let k = keyword_at keywords i in (
      k.spelling ∷ r.0,
      Spaced.next k.opens k.spelling (plain_at keywords keywords-plain i lt) r.1,
      TokensSay.keyword i lt r.2,
    )
listed-tokens (ListedFrom.operand {token = w} lt s h) =
    let r = listed-tokens h in
    let t = listed-operand s lt in
    (w ∷ r.0, Spaced.next false w t.1 r.1, TokensSay.operand t.0 r.2)

listed-some : {pending : List Operand} {bytes text : List ℕ} → ListedFrom pending bytes text → 0 < length text
listed-some ListedFrom.nothing = omega arith
listed-some (ListedFrom.keyword i lt h) = omega arith
listed-some (ListedFrom.operand lt s h) = omega arith

pub listed-says : (bytes : List ℕ) {text : List ℕ} → ListedAs bytes text →
    TokensSay [] (spellings (tokens_from 0 between text)) bytes
unfolding tokens_from class_of
listed-says [] (ListedAs.none e) = TokensSay.nothing
listed-says (b ∷ bs) (ListedAs.none e) = absurd (omega arith)
listed-says bytes (ListedAs.some lt h) = let r = listed-tokens h in rw (after_first r.1 0) r.2

-- What stands at an offset is listed by its token.
record Step (bytes : List ℕ) (at : ℕ) (pending : List Operand) (x : Listed) : Type 0 where
  some : 0 < x.width
  lists : (text : List ℕ) → ListedFrom x.pending (drop (at + x.width) bytes) text →
      ListedFrom pending (drop at bytes) (cond x.opens 10 32 ∷ (x.token ++ text))

-- A text whose first separator is left out at offset 0.
abbrev pub unled : ℕ → List ℕ → List ℕ
unled zero text = drop 1 text
unled (suc at) text = text

pub unled-later : (at : ℕ) (text : List ℕ) → 0 < at → unled at text ≡ text
unled-later zero text lt = absurd (omega arith)
unled-later (suc at) text lt = refl

pub led : (at : ℕ) (opens : Bool) (w rest : List ℕ) →
    unled at (cond opens 10 32 ∷ (w ++ (rest ++ (10 ∷ [])))) ≡ (lead at opens ++ (w ++ rest)) ++ (10 ∷ [])
led zero opens w rest = sym (append_assoc w rest (10 ∷ []))
led (suc at) true w rest = rw (ne_eqb (suc at) 0 (λ q. omega arith)) (ap (10 ∷◌) (sym (append_assoc w rest (10 ∷ []))))
led (suc at) false w rest = rw (ne_eqb (suc at) 0 (λ q. omega arith)) (ap (32 ∷◌) (sym (append_assoc w rest (10 ∷ []))))

module _ (bytes : List ℕ) (are : AreBytes bytes) where
  keyword-step : (at : ℕ) → at < length bytes → (x : Listed) (f : Option ℕ) → coded (byte_at bytes at) keywords ≡ f →
      listed_keyword at f ≡ accepted x → Step bytes at [] x
  keyword-step at lt x (Some i) p q =
      let h = coded-found (byte_at bytes at) keywords i p in
      let k = keyword_at keywords i in
      subst (Step bytes at []) (accepted-same _ _ q)
      (record {
        some = omega arith;
        lists = λ text g.
            subst (λ (l : List ℕ). ListedFrom [] l (cond k.opens 10 32 ∷ (k.spelling ++ text)))
            (ap (λ (b : ℕ). b ∷ drop (at + 1) bytes) h.1 ∙ sym (next-byte bytes at (at + 1) (omega arith) lt))
            (ListedFrom.keyword i h.0 g);
      })
  keyword-step at lt x None p q = absurd (accepted≢refused _ x _ q refl)

  step-listed : (at : ℕ) (pending : List Operand) (x : Listed) → at < length bytes → listed_at bytes at pending ≡ accepted x →
      Step bytes at pending x
  unfolding listed_at
  step-listed at [] x lt e = keyword-step at lt x (coded (byte_at bytes at) keywords) refl e
  step-listed at (o ∷ os) x lt e =
      let h = then-accepted _ _ x e in
      let v = low_at (size o) bytes at in
      let w = operand-written bytes are at o (leb-true (at + size o) (length bytes) (provided-true _ _ _ h.1)) in
      subst (Step bytes at (o ∷ os)) (accepted-same _ _ h.2)
      (record {
        some = size-some o;
        lists = λ text g. subst (λ (l : List ℕ). ListedFrom (o ∷ os) l (32 ∷ (operand_token o v ++ text))) w.0
            (ListedFrom.operand w.1 (operand-listed o v w.1) g);
      })

  -- The text from an offset on.
  record ListsFrom (at : ℕ) (pending : List Operand) (text : List ℕ) : Type 0 where
    whole : List ℕ
    listed : ListedFrom pending (drop at bytes) whole
    is : unled at whole ≡ text ++ (10 ∷ [])

  ended-listed : (at : ℕ) (pending : List Operand) (text : List ℕ) → 0 < at → length bytes ≤ at →
      ended 46 at pending ≡ accepted text → ListsFrom at pending text
  ended-listed at [] text later le e =
      subst (ListsFrom at []) (accepted-same _ _ e)
      (record {
        whole = 10 ∷ [];
        listed = rw (drop_of_length-le {A = ℕ} bytes le) ListedFrom.nothing;
        is = unled-later at (10 ∷ []) later;
      })
  ended-listed at (o ∷ os) text later le e = absurd (accepted≢refused _ text _ e refl)

  from-listed : (left at : ℕ) (pending : List Operand) (text : List ℕ) → 0 < at + length bytes → length bytes ≤ left + at →
      list_from left bytes at pending ≡ accepted text → ListsFrom at pending text
  unfolding list_from
  from-listed zero at pending text some enough e = ended-listed at pending text (omega arith) (omega arith) e
  from-listed (suc left) at pending text some enough e =
      go (ltb at (length bytes)) refl e (λ n p t lt le q. from-listed left n p t lt le q)
    where
      go : (b : Bool) → ltb at (length bytes) ≡ b →
          elim b [
            | true ↦
                listed_at bytes at pending ▷ λ x. list_from left bytes (at + x.width) x.pending ▷ λ text.
                accepted (lead at x.opens ++ (x.token ++ text))
            | false ↦ ended 46 at pending
          ] ≡ accepted text →
          ((n : ℕ) (p : List Operand) (t : List ℕ) → 0 < n + length bytes → length bytes ≤ left + n →
          list_from left bytes n p ≡ accepted t → ListsFrom n p t) →
          ListsFrom at pending text
      go true b e ih =
          let h = then-accepted _ _ text e in
          let g = then-accepted _ _ text h.2 in
          let x = h.0 in
          let s = step-listed at pending x (ltb-true at (length bytes) b) h.1 in
          let r = ih (at + x.width) x.pending g.0 (omega arith) (omega (arith, s.some)) g.1 in
          let l = sym (unled-later (at + x.width) r.whole (omega (arith, s.some))) ∙ r.is in
          subst (ListsFrom at pending) (accepted-same _ _ g.2)
          (record {
            whole = cond x.opens 10 32 ∷ (x.token ++ r.whole);
            listed = s.lists r.whole r.listed;
            is =
                ap (λ (t : List ℕ). unled at (cond x.opens 10 32 ∷ (x.token ++ t))) l ∙
                led at x.opens x.token g.0;
          })
      go false b e ih =
          let le = ltb-false at (length bytes) b in ended-listed at pending text (omega arith) le e

  pub listing-listed : (text : List ℕ) → listing bytes ≡ accepted text → ListedAs bytes text
  unfolding listing list_from
  listing-listed text e =
      let h = then-accepted _ _ text e in
      subst (ListedAs bytes) (accepted-same _ _ h.2) (go (ltb 0 (length bytes)) refl h.0 h.1)
    where
      first : (text whole : List ℕ) → 0 < length bytes → ListedFrom [] bytes whole → drop 1 whole ≡ text → ListedAs bytes text
      first text [] lt h e = absurd (omega (arith, listed-some h))
      first text (s ∷ l) lt h e = subst (ListedAs bytes) e (ListedAs.some lt h)

      go : (b : Bool) → ltb 0 (length bytes) ≡ b → (t : List ℕ) → list_from (length bytes) bytes 0 [] ≡ accepted t →
          ListedAs bytes (t ++ (10 ∷ []))
      go true b t q =
          let lt = ltb-true 0 (length bytes) b in
          let r = from-listed (length bytes) 0 [] t (omega arith) (omega arith) q in
          first (t ++ (10 ∷ [])) r.whole lt r.listed r.is
      go false b t q = none t (omega (arith, ltb-false 0 (length bytes) b)) q
        where
          none : (t : List ℕ) → length bytes ≡ 0 → list_from (length bytes) bytes 0 [] ≡ accepted t →
              ListedAs bytes (t ++ (10 ∷ []))
          none t z q =
              let e : list_from (length bytes) bytes 0 [] ≡ accepted [] = ap (λ (n : ℕ). list_from n bytes 0 []) z in
              subst (λ (l : List ℕ). ListedAs bytes (l ++ (10 ∷ []))) (accepted-same _ _ (sym e ∙ q)) (ListedAs.none z)

  listing-says : (text : List ℕ) → listing bytes ≡ accepted text → TokensSay [] (spellings (tokens_from 0 between text)) bytes
  listing-says text e = listed-says bytes (listing-listed text e)

-- What is listed is assembled to the same bytes.
pub assemble-lists : (bytes text : List ℕ) → AreBytes bytes → listing bytes ≡ accepted text → assembly text ≡ accepted bytes
unfolding assembly
assemble-lists bytes text are e = says-assemble (length text) (listing-says bytes are text e) (tokens_from 0 between text) refl

-- Bytes that tokens say are listed.
pub low-length : (n v : ℕ) → length (low_bytes n v) ≡ n
unfolding low_bytes
low-length zero v = refl
low-length (suc n) v = ap suc (low-length n (v / 256))

module _ (bytes : List ℕ) where
  abbrev pub Lists : ℕ → ℕ → List Operand → Type 0
  Lists left at pending = (text : List ℕ) × (list_from left bytes at pending ≡ accepted text)

  list-step : (left at : ℕ) (pending : List Operand) (x : Listed) → at < length bytes → listed_at bytes at pending ≡ accepted x →
      Lists left (at + x.width) x.pending → Lists (suc left) at pending
  unfolding list_from
  list-step left at pending x lt e r = (
    lead at x.opens ++ (x.token ++ r.0),
    rw (lt-ltb at (length bytes) lt, list_from) (accepted-then _ _ x e ∙ accepted-then _ _ r.0 r.1),
  )

  -- the bytes from an offset on
  pub rest-length : (at : ℕ) (rest : List ℕ) → drop at bytes ≡ rest → length bytes - at ≡ length rest
  rest-length at rest e = sym (length-drop at bytes) ∙ ap length e

  pub rest-byte : (at b : ℕ) (rest : List ℕ) → drop at bytes ≡ b ∷ rest → byte_at bytes at ≡ b
  rest-byte at b rest e =
      ap (λ (n : ℕ). get_or bytes n 0) (omega arith) ∙ sym (get_or-drop at bytes 0 0) ∙ ap (λ (l : List ℕ). get_or l 0 0) e

  pub rest-after : (at n : ℕ) (xs rest : List ℕ) → drop at bytes ≡ xs ++ rest → length xs ≡ n → drop (at + n) bytes ≡ rest
  rest-after at n xs rest e q = sym (drop-drop n at bytes) ∙ ap (drop n) e ∙ drop_at xs rest n q

  pub says-list : {pending : List Operand} {tokens : List (List ℕ)} {rest : List ℕ} → TokensSay pending tokens rest →
      (left at : ℕ) → length bytes ≤ left + at → drop at bytes ≡ rest → Lists left at pending
  unfolding list_from listed_at
  says-list TokensSay.nothing zero at enough e = ([], refl)
  says-list TokensSay.nothing (suc left) at enough e =
      ([], rw (le-ltb at (length bytes) (omega (arith, rest-length at [] e)), list_from) refl)
  says-list (TokensSay.keyword {bytes = rest} i lt h) zero at enough e =
      absurd (omega (arith, rest-length at ((keyword_at keywords i).byte ∷ rest) e))
  says-list (TokensSay.keyword {bytes = rest} i lt h) (suc left) at enough e =
      let k = keyword_at keywords i in
      let b = rest-byte at k.byte rest e in
      list-step left at [] (record { token = k.spelling; width = 1; pending = k.operands; opens = k.opens })
      (omega (arith, rest-length at (k.byte ∷ rest) e))
      (ap (listed_keyword at) (ap (λ (n : ℕ). coded n keywords) b ∙ coded-at keywords keyword-bytes-differ i lt))
      (says-list h left (at + 1) (omega arith) (rest-after at 1 (k.byte ∷ []) rest e refl))
  says-list (TokensSay.operand {o} {os} {token} {v} {bytes = rest} s h) zero at enough e =
      absurd (omega (
        arith,
        rest-length at (low_bytes (size o) v ++ rest) e,
        length-append (low_bytes (size o) v) rest,
        low-length (size o) v,
        size-some o,
      ))
  says-list (TokensSay.operand {o} {os} {token} {v} {bytes = rest} s h) (suc left) at enough e =
      let n = low-length (size o) v in
      let m = size-some o in
      let l : length bytes - at ≡ length (low_bytes (size o) v) + length rest =
      rest-length at (low_bytes (size o) v ++ rest) e ∙ length-append (low_bytes (size o) v) rest in
      list-step left at (o ∷ os)
      (record { token = operand_token o (low_at (size o) bytes at); width = size o; pending = os; opens = false }) (omega arith)
      (accepted-then _ _ tt (true-provided _ _ _ (le-leb (at + size o) (length bytes) (omega arith))))
      (says-list h left (at + size o) (omega arith) (rest-after at (size o) (low_bytes (size o) v) rest e n))

-- What tokens say are bytes.
abbrev small_bytes : List Keyword → ℕ → Bool
small_bytes ks i = ltb (keyword_at ks i).byte 256

keywords-small : all_below (length keywords) (small_bytes keywords) ≡ true
unfolding keywords all_below
keywords-small = refl

small_at : (ks : List Keyword) → all_below (length ks) (small_bytes ks) ≡ true → (i : ℕ) → i < length ks →
    (keyword_at ks i).byte < 256
small_at ks e i lt = ltb-true (keyword_at ks i).byte 256 (all_true (length ks) (small_bytes ks) e i lt)

are-cons : (b : ℕ) (bs : List ℕ) → b < 256 → AreBytes bs → AreBytes (b ∷ bs)
are-cons b bs lt are zero = lt
are-cons b bs lt are (suc i) = are i

low-are : (n v : ℕ) (bs : List ℕ) → AreBytes bs → AreBytes (low_bytes n v ++ bs)
unfolding low_bytes
low-are zero v bs are = are
low-are (suc n) v bs are = are-cons (v % 256) (low_bytes n (v / 256) ++ bs) (omega arith) (low-are n (v / 256) bs are)

says-are : {pending : List Operand} {tokens : List (List ℕ)} {bytes : List ℕ} → TokensSay pending tokens bytes → AreBytes bytes
says-are TokensSay.nothing = λ i. omega arith
says-are (TokensSay.keyword {bytes} i lt h) =
    are-cons (keyword_at keywords i).byte bytes (small_at keywords keywords-small i lt) (says-are h)
says-are (TokensSay.operand {o} {os} {token} {v} {tokens} {bytes} s h) = low-are (size o) v bytes (says-are h)

-- What is assembled is listed, and its listing is assembled to the same bytes.
pub list-assembles : (text bytes : List ℕ) → assembly text ≡ accepted bytes →
    (canonical : List ℕ) × (listing bytes ≡ accepted canonical) × (assembly canonical ≡ accepted bytes)
unfolding assembly listing
list-assembles text bytes e =
    let says = assemble-says (length text) [] (tokens_from 0 between text) bytes e in
    let r = says-list bytes says (length bytes) 0 (omega arith) refl in
    let listed : listing bytes ≡ accepted (r.0 ++ (10 ∷ [])) = accepted-then _ _ r.0 r.1 in
    (r.0 ++ (10 ∷ []), listed, assemble-lists bytes (r.0 ++ (10 ∷ [])) (says-are says) listed)

-- Bytes are listed exactly if some tokens say them.
pub listed-exactly : (bytes : List ℕ) → AreBytes bytes →
    ((text : List ℕ) × (listing bytes ≡ accepted text)) ↔ ((tokens : List (List ℕ)) × TokensSay [] tokens bytes)
unfolding listing
listed-exactly bytes are = (
  λ h. (spellings (tokens_from 0 between h.0), listing-says bytes are h.0 h.1),
  λ h. let r = says-list bytes h.1 (length bytes) 0 (omega arith) refl in
      (r.0 ++ (10 ∷ []), accepted-then _ _ r.0 r.1),
)
