-- Bytes are listed, or refused with each number at its place, exactly under the stated conditions. Assumes nothing.
use Rattle.std.specs.Prelude.{Option, Some, None}
use Prim.Native.Nat.{ℕ, zero, suc, ◌+◌, ◌-◌, ◌*◌, ◌/◌, ◌%◌, ◌^◌, ◌≤◌, ◌<◌}
use mathlib.Core.Bool.{Bool, true, false, cond}
use mathlib.Core.List.{List, [], ◌∷◌, ◌++◌, append_assoc, append-nil}
use mathlib.Core.Path.{◌≡◌, refl, sym, ap, ap₂, subst, ◌∙◌}
use native.Mathlib.Omega.{arith}
use borrow.Author.Tests.{leb-true, leb-false, le-leb, lt-leb, ltb-true, ltb-false, lt-ltb, le-ltb, eqb-true, eqb-false}
use lib.Dec.{leb, ltb, eqb}
use lib.IntN.{ℤ}
use lib.ListN.{length, drop, length-append}
use Rattle.model.specs.Says.Feasible.{All}
use Rattle.model.specs.Rules.Decimal.{natural, decimal}
use Rattle.model.specs.Rules.Outcome.{Outcome, accepted, refused, fault, refuse, ◌▷◌, provided}
use Rattle.model.specs.Rules.TextForm.{
  keywords,
  names,
  keyword_at,
  coded,
  size,
  number_token,
  name_or,
  operand_token,
  Listed,
  listed_keyword,
  listed_at,
  lead,
  list_from,
  listing,
  listing_of,
  low_at,
  low_bytes,
  ended,
}
use Rattle.model.specs.Rules.Word.{word_of, byte_at, AreBytes}
use Rattle.model.specs.declared.Fault.{Fault}
use Rattle.model.specs.declared.Operand.{Operand}
use Rattle.model.proofs.Images.Stretches.{word-bits}
use Rattle.model.proofs.Basics.Outcomes.{
  accepted≢refused,
  accepted-same,
  accepted-then,
  refused-then,
  true-provided,
  false-provided,
}
use Rattle.model.proofs.Bench.Decimals.{natural-one, natural-more}
use Rattle.theorems_trials.specs.Decimals.{value_of, SaysNumber, SaysWord}
use Rattle.theorems_calls.specs.Exactness.{Exactly}
use Rattle.theorems_forms.specs.TextStops.{
  OperandListed,
  ListedFrom,
  ListedAs,
  StopsBytes,
  ListsTo,
  ListRefusedAt,
}
use Rattle.theorems_pairs.proofs.Judged.{Judged}
use Rattle.theorems_forms.proofs.Forms.{
  IsDigit,
  size-some,
  coded-found,
  coded-at,
  coded_none,
  keyword-bytes-differ,
  names-bytes-differ,
  unled,
  unled-later,
  led,
  low-length,
  rest-length,
  rest-byte,
  rest-after,
  listing-listed,
}
use Rattle.theorems_forms.proofs.FormStops.{map-refused, refused-same, form-exactly}

-- A number has one decimal.
digits-after : (v : ℕ) (ds : List ℕ) → 0 < v → All IsDigit ds → natural (value_of v ds) ≡ natural v ++ ds
unfolding value_of
digits-after v [] some h = sym (append-nil (natural v))
digits-after v (d ∷ ds) some h =
    let q : (10 * v + (d - 48)) / 10 ≡ v = omega (arith, h.0.0, h.0.1) in
    let r : 48 + (10 * v + (d - 48)) % 10 ≡ d = omega (arith, h.0.0, h.0.1) in
    digits-after (10 * v + (d - 48)) ds (omega arith) h.1 ∙
    ap (λ (l : List ℕ). l ++ ds) (natural-more (10 * v + (d - 48)) (omega arith) ∙
    ap₂ (λ (a b : ℕ). natural a ++ (b ∷ [])) q r) ∙
    append_assoc (natural v) (d ∷ []) ds

number-one : (n : ℕ) (ds : List ℕ) → SaysNumber n ds → natural n ≡ ds
unfolding value_of
number-one n [] h = absurd (omega (arith, h.some))
number-one n (d ∷ ds) h = go (eqb d 48) refl
  where
    low : 48 ≤ d
    low = h.digits.0.0

    high : d ≤ 57
    high = h.digits.0.1

    zero-alone : (ds : List ℕ) → length ds ≡ 0 → d ≡ 48 → value_of 0 (d ∷ ds) ≡ n → natural n ≡ d ∷ ds
    zero-alone [] e z v =
        let m : n ≡ 0 = omega arith in
        ap natural m ∙ natural-one 0 (omega arith) ∙ ap (λ (x : ℕ). x ∷ []) (sym z)
    zero-alone (c ∷ cs) e z v = absurd (omega arith)

    alone : d ≡ 48 → length ds ≡ 0
    alone z = go (ltb 0 (length ds)) refl
      where
        go : (b : Bool) → ltb 0 (length ds) ≡ b → length ds ≡ 0
        go true t = absurd (h.shortest (omega (arith, ltb-true 0 (length ds) t)) z)
        go false t = omega (arith, ltb-false 0 (length ds) t)

    go : (b : Bool) → eqb d 48 ≡ b → natural n ≡ d ∷ ds
    go true t = let z = eqb-true d 48 t in zero-alone ds (alone z) z h.value
    go false t =
        let m = eqb-false d 48 t in
        let v : 10 * 0 + (d - 48) ≡ d - 48 = omega arith in
        let c : 48 + (d - 48) ≡ d = omega arith in
        ap natural (sym h.value ∙ ap (λ (k : ℕ). value_of k ds) v) ∙
        digits-after (d - 48) ds (apart m) h.digits.1 ∙
        ap (λ (l : List ℕ). l ++ ds) (natural-one (d - 48) (omega arith) ∙ ap (λ (x : ℕ). x ∷ []) c)
      where
        apart : ¬ (d ≡ 48) → 0 < d - 48
        apart m = omega arith

word-one : {z : ℤ} {w : List ℕ} → SaysWord z w → decimal z ≡ w
unfolding decimal
word-one (SaysWord.plus {n} {ds} h) = number-one n ds h
word-one (SaysWord.minus {n} {ds} h) = ap (45 ∷◌) (number-one (suc n) ds h)

-- The token of an operand's value is the only one.
token-one : {o : Operand} {v : ℕ} {w : List ℕ} → OperandListed o v w → operand_token o v ≡ w
unfolding operand_token
token-one {o} {v} (OperandListed.named i lt e) =
    ap (name_or (names o) (number_token o v))
    (ap (λ (n : ℕ). coded n (names o)) e ∙ coded-at (names o) (names-bytes-differ o) i lt)
token-one {o} {v} (OperandListed.number {token = w} u s h) =
    ap (name_or (names o) (number_token o v)) ((coded_none (names o) (names-bytes-differ o) v).1 u) ∙ rw s (number-one v w h)
token-one {o} {v} (OperandListed.word z u s h lt e) =
    ap (name_or (names o) (number_token o v)) ((coded_none (names o) (names-bytes-differ o) v).1 u) ∙
    rw s (ap decimal (ap word_of e ∙ word-bits z (record { sfits = lt })) ∙ word-one h)

module _ (bytes : List ℕ) where
  -- A number is read where its bytes stand.
  low_read : (n v at : ℕ) (rest : List ℕ) → drop at bytes ≡ low_bytes n v ++ rest → v < 256 ^ n → low_at n bytes at ≡ v
  unfolding low_at low_bytes
  low_read zero v at rest e lt = omega arith
  low_read (suc n) v at rest e lt =
      let l = low_bytes n (v / 256) ++ rest in
      let b = rest-byte bytes at (v % 256) l e in
      let r = low_read n (v / 256) (at + 1) rest (rest-after bytes at 1 (v % 256 ∷ []) l e refl) (omega arith) in
      rw (b, r) (omega arith)

  -- What is listed by the statement is listed so.
  record Gives (left at : ℕ) (pending : List Operand) (text : List ℕ) : Type 0 where
    got : List ℕ
    is : list_from left bytes at pending ≡ accepted got
    text-is : got ++ (10 ∷ []) ≡ unled at text

  step_gives : (left at : ℕ) (pending : List Operand) (x : Listed) (text : List ℕ) → at < length bytes → 0 < x.width →
      listed_at bytes at pending ≡ accepted x → Gives left (at + x.width) x.pending text →
      Gives (suc left) at pending (cond x.opens 10 32 ∷ (x.token ++ text))
  unfolding list_from
  step_gives left at pending x text lt some e r =
      record {
        got = lead at x.opens ++ (x.token ++ r.got);
        is = rw (lt-ltb at (length bytes) lt, list_from) (accepted-then _ _ x e ∙ accepted-then _ _ r.got r.is);
        text-is =
            sym (led at x.opens x.token r.got) ∙
            ap (λ (t : List ℕ). unled at (cond x.opens 10 32 ∷ (x.token ++ t)))
            (r.text-is ∙ unled-later (at + x.width) text (omega arith));
      }

  listed-gives : {pending : List Operand} {rest text : List ℕ} → ListedFrom pending rest text → (left at : ℕ) →
      0 < at + length bytes → length bytes ≤ left + at → drop at bytes ≡ rest → Gives left at pending text
  unfolding list_from listed_at
  listed-gives ListedFrom.nothing zero at some enough e =
      record { got = []; is = refl; text-is = sym (unled-later at (10 ∷ []) (omega arith)) }
  listed-gives ListedFrom.nothing (suc left) at some enough e =
      let n = rest-length bytes at [] e in
      record {
        got = [];
        is = rw (le-ltb at (length bytes) (omega arith), list_from) refl;
        text-is = sym (unled-later at (10 ∷ []) (omega arith));
      }
  listed-gives (ListedFrom.keyword {bytes = rest} i lt h) zero at some enough e =
      absurd (omega (arith, rest-length bytes at ((keyword_at keywords i).byte ∷ rest) e))
  listed-gives (ListedFrom.keyword {bytes = rest} {text} i lt h) (suc left) at some enough e =
      let k = keyword_at keywords i in
      let b = rest-byte bytes at k.byte rest e in
      step_gives left at [] (record { token = k.spelling; width = 1; pending = k.operands; opens = k.opens }) text
      (omega (arith, rest-length bytes at (k.byte ∷ rest) e)) (omega arith)
      (ap (listed_keyword at) (ap (λ (n : ℕ). coded n keywords) b ∙ coded-at keywords keyword-bytes-differ i lt))
      (listed-gives h left (at + 1) (omega arith) (omega arith) (rest-after bytes at 1 (k.byte ∷ []) rest e refl))
  listed-gives (ListedFrom.operand {o} {os} {v} {token = w} {bytes = rest} {text} lt s h) left at some enough e =
      go left enough (λ left le. listed-gives h left (at + size o) (omega (arith, size-some o)) le
      (rest-after bytes at (size o) (low_bytes (size o) v) rest e (low-length (size o) v)))
    where
      long : length bytes - at ≡ size o + length rest
      long =
          rest-length bytes at (low_bytes (size o) v ++ rest) e ∙ length-append (low_bytes (size o) v) rest ∙
          ap (λ (n : ℕ). n + length rest) (low-length (size o) v)

      token-is : operand_token o (low_at (size o) bytes at) ≡ w
      token-is = ap (operand_token o) (low_read (size o) v at rest e lt) ∙ token-one s

      go : (left : ℕ) → length bytes ≤ left + at →
          ((left : ℕ) → length bytes ≤ left + (at + size o) → Gives left (at + size o) os text) →
          Gives left at (o ∷ os) (32 ∷ (w ++ text))
      go zero le ih = absurd (omega (arith, long, size-some o))
      go (suc left) le ih =
          let m = size-some o in
          subst (λ (l : List ℕ). Gives (suc left) at (o ∷ os) (32 ∷ (l ++ text))) token-is
          (step_gives left at (o ∷ os)
          (record { token = operand_token o (low_at (size o) bytes at); width = size o; pending = os; opens = false }) text
          (omega (arith, long)) m
          (accepted-then _ _ tt (true-provided _ _ _ (le-leb (at + size o) (length bytes) (omega (arith, long)))))
          (ih left (omega arith)))

  as-gives : {text : List ℕ} → ListedAs bytes text → listing bytes ≡ accepted text
  unfolding listing list_from
  as-gives (ListedAs.none z) = accepted-then _ _ [] (ap (λ (n : ℕ). list_from n bytes 0 []) z)
  as-gives (ListedAs.some lt h) =
      let r = listed-gives h (length bytes) 0 (omega arith) (omega arith) refl in
      accepted-then _ _ r.got r.is ∙ ap accepted r.text-is

  -- Listing is refused exactly where the bytes stop.
  ended-stops : (at : ℕ) (pending : List Operand) (f : Fault) → length bytes ≤ at → ended 46 at pending ≡ refused f →
      StopsBytes bytes at pending f
  ended-stops at [] f le e = absurd (accepted≢refused _ _ f refl e)
  ended-stops at (o ∷ os) f le e =
      subst (StopsBytes bytes at (o ∷ os)) (refused-same _ _ e) (StopsBytes.cut (omega (arith, size-some o)))

  -- What follows a token, where the bytes after it stop.
  step-stops : (at : ℕ) (pending : List Operand) (x : Listed) (f : Fault) → at < length bytes →
      listed_at bytes at pending ≡ accepted x →
      (0 < x.width) × (StopsBytes bytes (at + x.width) x.pending f → StopsBytes bytes at pending f)
  unfolding listed_at
  step-stops at [] x f lt e = go (coded (byte_at bytes at) keywords) refl e
    where
      go : (c : Option ℕ) → coded (byte_at bytes at) keywords ≡ c → listed_keyword at c ≡ accepted x →
          (0 < x.width) × (StopsBytes bytes (at + x.width) x.pending f → StopsBytes bytes at [] f)
      go (Some i) p q =
          let h = coded-found (byte_at bytes at) keywords i p in
          subst (λ (y : Listed). (0 < y.width) × (StopsBytes bytes (at + y.width) y.pending f → StopsBytes bytes at [] f))
          (accepted-same _ _ q) (omega arith, λ r. StopsBytes.keyword i lt h.0 (sym h.1) r)
      go None p q = absurd (accepted≢refused _ x _ q refl)
  step-stops at (o ∷ os) x f lt e = go (leb (at + size o) (length bytes)) refl e
    where
      y : Listed
      y = record { token = operand_token o (low_at (size o) bytes at); width = size o; pending = os; opens = false }

      go : (b : Bool) → leb (at + size o) (length bytes) ≡ b → (provided b 46 at ▷ λ _. accepted y) ≡ accepted x →
          (0 < x.width) × (StopsBytes bytes (at + x.width) x.pending f → StopsBytes bytes at (o ∷ os) f)
      go true b q =
          subst (λ (y : Listed). (0 < y.width) × (StopsBytes bytes (at + y.width) y.pending f →
          StopsBytes bytes at (o ∷ os) f))
          (accepted-same _ _ (sym (accepted-then _ _ tt (true-provided true 46 at refl)) ∙ q))
          (size-some o, λ r. StopsBytes.operand (leb-true _ _ b) r)
      go false b q = absurd (accepted≢refused _ x (fault 46 at) q (refused-then _ _ _ (false-provided false 46 at refl)))

  at_stops : (at : ℕ) (pending : List Operand) (f : Fault) → at < length bytes → listed_at bytes at pending ≡ refused f →
      StopsBytes bytes at pending f
  unfolding listed_at
  at_stops at [] f lt e = go (coded (byte_at bytes at) keywords) refl e
    where
      go : (c : Option ℕ) → coded (byte_at bytes at) keywords ≡ c → listed_keyword at c ≡ refused f → StopsBytes bytes at [] f
      go (Some i) p q = absurd (accepted≢refused _ _ f refl q)
      go None p q =
          subst (StopsBytes bytes at []) (refused-same _ _ q)
          (StopsBytes.unknown lt ((coded_none keywords keyword-bytes-differ (byte_at bytes at)).0 p))
  at_stops at (o ∷ os) f lt e = go (leb (at + size o) (length bytes)) refl (map-refused _ _ f e)
    where
      go : (b : Bool) → leb (at + size o) (length bytes) ≡ b → provided b 46 at ≡ refused f → StopsBytes bytes at (o ∷ os) f
      go true b q = absurd (accepted≢refused _ tt f (true-provided true 46 at refl) q)
      go false b q =
          subst (StopsBytes bytes at (o ∷ os)) (refused-same _ _ (sym (false-provided false 46 at refl) ∙ q))
          (StopsBytes.cut (leb-false _ _ b))

  from-stops : (left at : ℕ) (pending : List Operand) (f : Fault) → length bytes ≤ left + at →
      list_from left bytes at pending ≡ refused f → StopsBytes bytes at pending f
  unfolding list_from
  from-stops zero at pending f enough e = ended-stops at pending f (omega arith) e
  from-stops (suc left) at pending f enough e =
      go (ltb at (length bytes)) refl e (λ n p le q. from-stops left n p f le q)
    where
      step : (o : Outcome Listed) → listed_at bytes at pending ≡ o → at < length bytes →
          (o ▷ λ x. list_from left bytes (at + x.width) x.pending ▷ λ text.
          accepted (lead at x.opens ++ (x.token ++ text))) ≡ refused f →
          ((n : ℕ) (p : List Operand) → length bytes ≤ left + n → list_from left bytes n p ≡ refused f → StopsBytes bytes n p f) →
          StopsBytes bytes at pending f
      step (refused g) p lt q ih =
          at_stops at pending f lt (p ∙ ap refused (refused-same g f (sym (refused-then _ _ g refl) ∙ q)))
      step (accepted x) p lt q ih =
          let s = step-stops at pending x f lt p in
          s.1 (ih (at + x.width) x.pending (omega (arith, s.0)) (map-refused _ _ f (sym (accepted-then _ _ x refl) ∙ q)))

      go : (b : Bool) → ltb at (length bytes) ≡ b →
          ◌≡◌ {A = Outcome (List ℕ)}
          (elim b [
            | true ↦
                listed_at bytes at pending ▷ λ x. list_from left bytes (at + x.width) x.pending ▷ λ text.
                accepted (lead at x.opens ++ (x.token ++ text))
            | false ↦ ended 46 at pending
          ]) (refused f) →
          ((n : ℕ) (p : List Operand) → length bytes ≤ left + n → list_from left bytes n p ≡ refused f → StopsBytes bytes n p f) →
          StopsBytes bytes at pending f
      go true b q ih = step (listed_at bytes at pending) refl (ltb-true at (length bytes) b) q ih
      go false b q ih = ended-stops at pending f (ltb-false at (length bytes) b) q

  -- And the other way round.
  step-refused : (left at : ℕ) (pending : List Operand) (f : Fault) → at < length bytes → listed_at bytes at pending ≡ refused f →
      list_from (suc left) bytes at pending ≡ refused f
  unfolding list_from
  step-refused left at pending f lt e = rw (lt-ltb at (length bytes) lt, list_from) (refused-then _ _ f e)

  step-onward : (left at : ℕ) (pending : List Operand) (x : Listed) (f : Fault) → at < length bytes →
      listed_at bytes at pending ≡ accepted x → list_from left bytes (at + x.width) x.pending ≡ refused f →
      list_from (suc left) bytes at pending ≡ refused f
  unfolding list_from
  step-onward left at pending x f lt e r =
      rw (lt-ltb at (length bytes) lt, list_from) (accepted-then _ _ x e ∙ refused-then _ _ f r)

  stops-from : {at : ℕ} {pending : List Operand} {f : Fault} → StopsBytes bytes at pending f → (left : ℕ) →
      length bytes ≤ left + at → list_from left bytes at pending ≡ refused f
  unfolding list_from listed_at
  stops-from (StopsBytes.keyword i lt k b r) zero enough = absurd (omega arith)
  stops-from (StopsBytes.keyword {at} {f} i lt k b r) (suc left) enough =
      let w = keyword_at keywords i in
      step-onward left at [] (record { token = w.spelling; width = 1; pending = w.operands; opens = w.opens }) f lt
      (ap (listed_keyword at) (ap (λ (n : ℕ). coded n keywords) b ∙ coded-at keywords keyword-bytes-differ i k))
      (stops-from r left (omega arith))
  stops-from (StopsBytes.operand {o = o} le r) zero enough = absurd (omega (arith, size-some o))
  stops-from (StopsBytes.operand {at} {o} {os} {f} le r) (suc left) enough =
      let m = size-some o in
      step-onward left at (o ∷ os)
      (record { token = operand_token o (low_at (size o) bytes at); width = size o; pending = os; opens = false }) f (omega arith)
      (accepted-then _ _ tt (true-provided _ _ _ (le-leb (at + size o) (length bytes) le)))
      (stops-from r left (omega arith))
  stops-from (StopsBytes.unknown lt none) zero enough = absurd (omega arith)
  stops-from (StopsBytes.unknown {at} lt none) (suc left) enough =
      step-refused left at [] (fault 45 at) lt
      (ap (listed_keyword at) ((coded_none keywords keyword-bytes-differ (byte_at bytes at)).1 none))
  stops-from (StopsBytes.cut lt) zero enough = refl
  stops-from (StopsBytes.cut {at} {o} {os} lt) (suc left) enough = go (ltb at (length bytes)) refl
    where
      go : (b : Bool) → ltb at (length bytes) ≡ b → list_from (suc left) bytes at (o ∷ os) ≡ refuse 46 at
      go true b =
          step-refused left at (o ∷ os) (fault 46 at) (ltb-true at (length bytes) b)
          (refused-then _ _ _ (false-provided _ _ _ (lt-leb (at + size o) (length bytes) lt)))
      go false b = rw (b, list_from) refl

  list-judged : AreBytes bytes → Judged (ListedAs bytes) (StopsBytes bytes 0 []) (listing bytes)
  unfolding listing
  list-judged are =
      record {
        accepts = λ text. (listing-listed bytes are text, as-gives);
        refuses = λ f. (
          λ e. from-stops (length bytes) 0 [] f (omega arith) (map-refused _ _ f e),
          λ s. refused-then _ _ f (stops-from s (length bytes) (omega arith)),
        );
      }

-- List is done, or refused with each number at its place, exactly under its condition.
pub list-exactly : (bytes buffer : List ℕ) → AreBytes bytes →
    Exactly buffer (ListsTo bytes buffer) (ListRefusedAt bytes buffer) (listing_of bytes buffer)
unfolding listing_of
list-exactly bytes buffer are =
    form-exactly (ListedAs bytes) (StopsBytes bytes 0 []) bytes buffer (listing bytes) (list-judged bytes are)
