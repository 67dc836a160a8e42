-- The text form's refusals, each with its place, and the calls whole. Assumes nothing.
use Rattle.std.specs.Prelude.{Option, Some, None}
use Prim.Native.Nat.{ℕ, ◌+◌, ◌-◌, ◌^◌, ◌≤◌, ◌<◌}
use mathlib.Core.Bool.{Bool, true, false, cond, ◌&&◌}
use mathlib.Core.List.{List, [], ◌∷◌, ◌++◌}
use mathlib.Core.Logic.{◌↔◌, ◌⊎◌, inl, inr}
use mathlib.Core.Path.{◌≡◌, refl, sym, ap, ap₂, subst, ◌∙◌}
use native.Mathlib.Omega.{arith}
use borrow.Author.Tests.{leb-true, leb-false, le-leb, lt-leb, ltb-false, le-ltb, eqb-true, eqb-false, ne_eqb}
use lib.Dec.{leb, ltb, eqb}
use lib.ListN.{length, get_or, drop, length-append}
use Rattle.model.specs.Rules.Machine.{Job, effect}
use Rattle.model.specs.Rules.Outcome.{Outcome, accepted, refused, fault, refuse, ◌▷◌, provided}
use Rattle.model.specs.Rules.TextForm.{
  Keyword,
  keywords,
  names,
  keyword_at,
  spelled,
  is_signed,
  size,
  low_bytes,
  ended,
  Token,
  token,
  between,
  tokens_from,
  number_of,
  ranged,
  signed_of,
  value_or,
  operand_of,
  Assembled,
  assembled_keyword,
  assembled_of,
  assemble_from,
  assembly,
  write_job,
  assemble_of,
}
use Rattle.model.specs.declared.Fault.{Fault}
use Rattle.model.specs.declared.Operand.{Operand}
use Rattle.model.proofs.Basics.Outcomes.{
  accepted≢refused,
  accepted-same,
  then-accepted,
  accepted-then,
  refused-then,
  false-provided,
}
use Rattle.model.proofs.Basics.Tests.{never, first-fails, second-fails}
use Rattle.theorems_trials.specs.Decimals.{SaysNumber}
use Rattle.theorems_calls.specs.Exactness.{Exactly}
use Rattle.theorems_forms.specs.TextForms.{Splits}
use Rattle.theorems_forms.specs.TextStops.{
  NoneOf,
  IsNumber,
  OperandRefused,
  TokenSays,
  TokenRefused,
  FirstToken,
  StopsText,
  FormWrites,
  FormRefusedAt,
  TextSays,
  AssemblesTo,
  AssembleRefusedAt,
}
use Rattle.theorems_calls.proofs.CallsExact.{both_ways, Does, exactly}
use Rattle.theorems_pairs.proofs.Judged.{Judged, Only, provided-judged, Answers, answers-then}
use Rattle.theorems_forms.proofs.Forms.{
  spelled-found,
  spelled_at,
  spellings_differ,
  found-apart,
  keywords-differ,
  names-differ,
  unnamed,
  number-says,
  says-number,
  first-digit,
  operand-says,
  says-operand,
  spellings,
}
use Rattle.theorems_forms.proofs.FormTokens.{tokens-split, split-tokens, first_read, assembled-exactly}

-- A step that only changes the value is refused with the fault of the step before it.
pub map-refused : {A B : Type 0} (o : Outcome A) (g : A → B) (f : Fault) → (o ▷ λ a. accepted (g a)) ≡ refused f → o ≡ refused f
unfolding ◌▷◌
map-refused (accepted a) g f e = absurd (accepted≢refused _ (g a) f refl e)
map-refused (refused h) g f e = let q : h ≡ f = cc in ap refused q

pub refused-same : {A : Type 0} (f g : Fault) → ◌≡◌ {A = Outcome A} (refused f) (refused g) → f ≡ g
refused-same f g e = cc

-- A token is none of a table exactly if it is not found there; a text is no number exactly if none is read.
spelled_none : (ks : List Keyword) → spellings_differ ks ≡ true → (w : List ℕ) → (spelled w ks ≡ None) ↔ NoneOf ks w
spelled_none ks d w = (
  λ e i lt q. found-apart (spelled w ks) i (ap (λ (l : List ℕ). spelled l ks) q ∙ spelled_at ks d i lt) e,
  λ none. go none (spelled w ks) refl,
)
  where
    go : NoneOf ks w → (f : Option ℕ) → spelled w ks ≡ f → f ≡ None
    go none None p = refl
    go none (Some i) p = let h = spelled-found w ks i p in absurd (none i h.0 (sym h.1))

number-none : (w : List ℕ) → ((n : ℕ) → ¬ SaysNumber n w) → number_of w ≡ None
number-none w none = go (number_of w) refl
  where
    go : (f : Option ℕ) → number_of w ≡ f → f ≡ None
    go None p = refl
    go (Some n) p = absurd (none n (number-says w n p))

-- No number, or one outside a range.
data Outside (place low limit : ℕ) : Option ℕ → Fault → Type 0 where
  missing : Outside place low limit None (fault 42 place)
  out : (n : ℕ) → (n < low) ⊎ (limit ≤ n) → Outside place low limit (Some n) (fault 43 place)

module _ (place low limit : ℕ) where
  ranged-outside : (x : Option ℕ) (f : Fault) → ranged place low limit x ≡ refused f → Outside place low limit x f
  unfolding ranged provided ◌▷◌
  ranged-outside None f e = subst (Outside place low limit None) (refused-same _ _ e) Outside.missing
  ranged-outside (Some n) f e = go (leb low n) (ltb n limit) refl refl e
    where
      out : (n < low) ⊎ (limit ≤ n) → ◌≡◌ {A = Outcome ℕ} (refuse 43 place) (refused f) → Outside place low limit (Some n) f
      out h q = subst (Outside place low limit (Some n)) (refused-same _ _ q) (Outside.out n h)

      go : (a b : Bool) → leb low n ≡ a → ltb n limit ≡ b → (provided (a && b) 43 place ▷ λ _. accepted n) ≡ refused f →
          Outside place low limit (Some n) f
      go true true p r q = absurd (accepted≢refused _ n f refl q)
      go true false p r q = out (inr (ltb-false n limit r)) q
      go false b p r q = out (inl (leb-false low n p)) q

  outside-ranged : {x : Option ℕ} {f : Fault} → Outside place low limit x f → ranged place low limit x ≡ refused f
  unfolding ranged
  outside-ranged Outside.missing = refl
  outside-ranged (Outside.out n (inl lt)) =
      refused-then _ (λ u. accepted n) _
      (false-provided _ _ _ (first-fails (leb low n) (ltb n limit) (lt-leb low n lt)))
  outside-ranged (Outside.out n (inr le)) =
      refused-then _ (λ u. accepted n) _
      (false-provided _ _ _ (second-fails (leb low n) (ltb n limit) (le-ltb n limit le)))

-- A fault at a place, with a number of Q.
abbrev FaultAt : ℕ → (ℕ → Type 0) → Fault → Type 0
FaultAt place Q f = (number : ℕ) × Q number × (fault number place ≡ f)

minus-first : (w : List ℕ) → get_or w 0 0 ≡ 45 → 45 ∷ drop 1 w ≡ w
minus-first [] e = absurd (omega arith)
minus-first (d ∷ ds) e = ap (λ (x : ℕ). x ∷ ds) (sym e)

-- An operand is refused exactly if its token says no value of it.
module _ (o : Operand) (place : ℕ) where
  number-refused : (w : List ℕ) → is_signed o ≡ false → NoneOf (names o) w → (x : Option ℕ) → number_of w ≡ x → (f : Fault) →
      Outside place 0 (256 ^ size o) x f → FaultAt place (OperandRefused o w) f
  number-refused w s none x p f Outside.missing = (42, OperandRefused.no_number none (no p), refl)
    where
      no : {w : List ℕ} → number_of w ≡ None → IsNumber o w → ⊥
      no {w} p (IsNumber.plus {n} h) = found-apart _ n (says-number w n h) p
      no p (IsNumber.minus t h) = never (sym s ∙ t)
  number-refused w s none x p f (Outside.out n (inl lt)) = absurd (omega arith)
  number-refused w s none x p f (Outside.out n (inr le)) = (43, OperandRefused.large s (number-says w n p) le, refl)

  plus-refused : (w : List ℕ) → is_signed o ≡ true → NoneOf (names o) w → ¬ (get_or w 0 0 ≡ 45) → (x : Option ℕ) → number_of w ≡ x →
      (f : Fault) → Outside place 0 (2 ^ 31) x f → FaultAt place (OperandRefused o w) f
  plus-refused w s none apart x p f Outside.missing = (42, OperandRefused.no_number none (no apart p), refl)
    where
      no : {w : List ℕ} → ¬ (get_or w 0 0 ≡ 45) → number_of w ≡ None → IsNumber o w → ⊥
      no {w} apart p (IsNumber.plus {n} h) = found-apart _ n (says-number w n h) p
      no apart p (IsNumber.minus t h) = apart refl
  plus-refused w s none apart x p f (Outside.out n (inl lt)) = absurd (omega arith)
  plus-refused w s none apart x p f (Outside.out n (inr le)) = (43, OperandRefused.high s (number-says w n p) le, refl)

  minus-refused : (ds : List ℕ) → is_signed o ≡ true → NoneOf (names o) (45 ∷ ds) → (x : Option ℕ) → number_of ds ≡ x →
      (f : Fault) → Outside place 1 (2 ^ 31 + 1) x f → FaultAt place (OperandRefused o (45 ∷ ds)) f
  minus-refused ds s none x p f Outside.missing = (42, OperandRefused.no_number none (no refl), refl)
    where
      no : {w : List ℕ} → w ≡ 45 ∷ ds → IsNumber o w → ⊥
      no {w} e (IsNumber.plus {n} h) =
          omega (arith, (first-digit n w h).0, ap (λ (l : List ℕ). get_or l 0 0) e)
      no e (IsNumber.minus {n} {ds = es} t h) =
          let q : es ≡ ds = cc in found-apart _ n (says-number ds n (subst (SaysNumber n) q h)) p
  minus-refused ds s none x p f (Outside.out n (inl lt)) =
      let z : n ≡ 0 = omega arith in
      (43, OperandRefused.minus_zero s (subst (λ (m : ℕ). SaysNumber m ds) z (number-says ds n p)), refl)
  minus-refused ds s none x p f (Outside.out n (inr le)) =
      (43, OperandRefused.low s (number-says ds n p) (omega arith), refl)

  operand-refused : (w : List ℕ) (f : Fault) → operand_of o (token place w) ≡ refused f → FaultAt place (OperandRefused o w) f
  unfolding operand_of
  operand-refused w f e = go (spelled w (names o)) refl e
    where
      number : Bool → Outcome ℕ
      number b = cond b (signed_of place w) (ranged place 0 (256 ^ size o) (number_of w))

      word : NoneOf (names o) w → is_signed o ≡ true → (b : Bool) → eqb (get_or w 0 0) 45 ≡ b →
          cond b (ranged place 1 (2 ^ 31 + 1) (number_of (drop 1 w)) ▷ λ n. accepted (2 ^ 32 - n))
          (ranged place 0 (2 ^ 31) (number_of w)) ≡ refused f →
          FaultAt place (OperandRefused o w) f
      word none s true b q =
          let m = minus-first w (eqb-true _ _ b) in
          subst (λ (l : List ℕ). FaultAt place (OperandRefused o l) f) m
          (minus-refused (drop 1 w) s (subst (NoneOf (names o)) (sym m) none) _ refl f
          (ranged-outside place 1 (2 ^ 31 + 1) _ f (map-refused _ _ f q)))
      word none s false b q =
          plus-refused w s none (eqb-false _ _ b) _ refl f (ranged-outside place 0 (2 ^ 31) _ f q)

      value : NoneOf (names o) w → (b : Bool) → is_signed o ≡ b → number b ≡ refused f → FaultAt place (OperandRefused o w) f
      value none true s q = word none s (eqb (get_or w 0 0) 45) refl q
      value none false s q = number-refused w s none _ refl f (ranged-outside place 0 (256 ^ size o) _ f q)

      go : (x : Option ℕ) → spelled w (names o) ≡ x → value_or (names o) (number (is_signed o)) x ≡ refused f →
          FaultAt place (OperandRefused o w) f
      go (Some i) p q = absurd (accepted≢refused _ _ f refl q)
      go None p q = value ((spelled_none (names o) (names-differ o) w).0 p) (is_signed o) refl q

  no_operand : (w : List ℕ) → NoneOf (names o) w → ¬ IsNumber o w → operand_of o (token place w) ≡ refuse 42 place
  unfolding operand_of ranged ◌▷◌
  no_operand w none other =
      rw ((spelled_none (names o) (names-differ o) w).1 none) (value (is_signed o) refl)
    where
      absent : number_of w ≡ None
      absent = number-none w (λ n h. other (IsNumber.plus h))

      word : is_signed o ≡ true → (b : Bool) → eqb (get_or w 0 0) 45 ≡ b →
          cond b (ranged place 1 (2 ^ 31 + 1) (number_of (drop 1 w)) ▷ λ n. accepted (2 ^ 32 - n))
          (ranged place 0 (2 ^ 31) (number_of w)) ≡ refuse 42 place
      word s true b =
          rw (number-none (drop 1 w) (λ n h.
          other (subst (IsNumber o) (minus-first w (eqb-true _ _ b)) (IsNumber.minus s h)))) refl
      word s false b = rw absent refl

      value : (b : Bool) → is_signed o ≡ b →
          cond b (signed_of place w) (ranged place 0 (256 ^ size o) (number_of w)) ≡ refuse 42 place
      value true s = word s (eqb (get_or w 0 0) 45) refl
      value false s = rw absent refl

  refused-operand : {w : List ℕ} {number : ℕ} → OperandRefused o w number → operand_of o (token place w) ≡ refuse number place
  unfolding operand_of
  refused-operand (OperandRefused.no_number {token = w} none other) = no_operand w none other
  refused-operand (OperandRefused.large {n} {ds} s h le) =
      rw (unnamed o ds (first-digit n ds h).1, s, says-number ds n h)
      (outside-ranged place 0 (256 ^ size o) (Outside.out n (inr le)))
  refused-operand (OperandRefused.high {n} {ds} s h le) =
      let d = first-digit n ds h in
      rw (unnamed o ds d.1, s, ne_eqb (get_or ds 0 0) 45 (λ q. omega (arith, d.0)), says-number ds n h)
      (outside-ranged place 0 (2 ^ 31) (Outside.out n (inr le)))
  refused-operand (OperandRefused.low {n} {ds} s h lt) =
      rw (unnamed o (45 ∷ ds) (omega arith), s)
      (refused-then _ _ _ (ap (ranged place 1 (2 ^ 31 + 1)) (says-number ds n h) ∙
      outside-ranged place 1 (2 ^ 31 + 1) (Outside.out n (inr (omega arith)))))
  refused-operand (OperandRefused.minus_zero {ds} s h) =
      rw (unnamed o (45 ∷ ds) (omega arith), s)
      (refused-then _ _ _ (ap (ranged place 1 (2 ^ 31 + 1)) (says-number ds 0 h) ∙
      outside-ranged place 1 (2 ^ 31 + 1) (Outside.out 0 (inl (omega arith)))))

-- A token, where some operands are to follow.
says-token : {pending after : List Operand} {w : List ℕ} → TokenSays pending w after → (place : ℕ) →
    (bytes : List ℕ) × (assembled_of pending (token place w) ≡ accepted (record { bytes = bytes; pending = after }))
unfolding assembled_of
says-token (TokenSays.keyword i lt) place =
    ((keyword_at keywords i).byte ∷ [], rw (spelled_at keywords keywords-differ i lt) refl)
says-token (TokenSays.operand {o} {os} {token = w} {v} h) place =
    (low_bytes (size o) v, accepted-then _ _ v (says-operand o (token place w) v h))

token-says : (pending : List Operand) (place : ℕ) (w : List ℕ) (x : Assembled) →
    assembled_of pending (token place w) ≡ accepted x → TokenSays pending w x.pending
unfolding assembled_of
token-says [] place w x e = go (spelled w keywords) refl e
  where
    go : (f : Option ℕ) → spelled w keywords ≡ f → assembled_keyword place f ≡ accepted x → TokenSays [] w x.pending
    go (Some i) p q =
        let h = spelled-found w keywords i p in
        subst (λ (y : Assembled). TokenSays [] w y.pending) (accepted-same _ _ q)
        (subst (λ (l : List ℕ). TokenSays [] l (keyword_at keywords i).operands) h.1 (TokenSays.keyword i h.0))
    go None p q = absurd (accepted≢refused _ x _ q refl)
token-says (o ∷ os) place w x e =
    let v = then-accepted _ _ x e in
    subst (λ (y : Assembled). TokenSays (o ∷ os) w y.pending) (accepted-same _ _ v.2)
    (TokenSays.operand (operand-says o (token place w) v.0 v.1))

token-refused : (pending : List Operand) (place : ℕ) (w : List ℕ) (f : Fault) →
    assembled_of pending (token place w) ≡ refused f → FaultAt place (TokenRefused pending w) f
unfolding assembled_of
token-refused [] place w f e = go (spelled w keywords) refl e
  where
    go : (x : Option ℕ) → spelled w keywords ≡ x → assembled_keyword place x ≡ refused f → FaultAt place (TokenRefused [] w) f
    go (Some i) p q = absurd (accepted≢refused _ _ f refl q)
    go None p q = (40, TokenRefused.unknown ((spelled_none keywords keywords-differ w).0 p), refused-same _ _ q)
token-refused (o ∷ os) place w f e =
    let r = operand-refused o place w f (map-refused _ _ f e) in (r.0, TokenRefused.operand r.1, r.2)

refused-token : {pending : List Operand} {w : List ℕ} {number : ℕ} → TokenRefused pending w number → (place : ℕ) →
    assembled_of pending (token place w) ≡ refuse number place
unfolding assembled_of
refused-token (TokenRefused.unknown {token = w} none) place = rw ((spelled_none keywords keywords-differ w).1 none) refl
refused-token (TokenRefused.operand {o} r) place = refused-then _ _ _ (refused-operand o place r)

-- A text without tokens.
no-token : {text : List ℕ} → Splits text [] → (at : ℕ) → tokens_from at between text ≡ []
no-token {text} s at = go (tokens_from at between text) (split-tokens s at)
  where
    go : (ts : List Token) → spellings ts ≡ [] → ts ≡ []
    go [] e = refl
    go (t ∷ ts) e = absurd (omega (arith, ap length e))

-- Assembling is refused exactly where the text stops.
three : (gap w rest : List ℕ) → length (gap ++ (w ++ rest)) ≡ length gap + length w + length rest
three gap w rest = simp length-append (omega arith)

ended-stops : {text : List ℕ} (at end : ℕ) (pending : List Operand) (f : Fault) → Splits text [] → end ≡ at + length text →
    ended 41 end pending ≡ refused f → StopsText at pending text f
ended-stops at end [] f s n e = absurd (accepted≢refused _ _ f refl e)
ended-stops {text} at end (o ∷ os) f s n e =
    subst (StopsText at (o ∷ os) text) (ap (fault 41) (sym n) ∙ refused-same _ _ e) (StopsText.missing s)

module _ (end : ℕ) where
  text-stops : {text : List ℕ} {tokens : List (List ℕ)} → Splits text tokens → (at : ℕ) (pending : List Operand) (f : Fault) →
      end ≡ at + length text → assemble_from end pending (tokens_from at between text) ≡ refused f → StopsText at pending text f
  unfolding assemble_from
  text-stops {text} (Splits.ends g) at pending f n e =
      ended-stops at end pending f (Splits.ends g) n
      (ap (assemble_from end pending) (sym (no-token (Splits.ends g) at)) ∙ e)
  text-stops {text} (Splits.comments words g h) at pending f n e =
      ended-stops at end pending f (Splits.comments words g h) n
      (ap (assemble_from end pending) (sym (no-token (Splits.comments words g h) at)) ∙ e)
  text-stops (Splits.next {gap} {rest} w g some h stops s) at pending f n e =
      go (assembled_of pending (token place w)) refl (ap (assemble_from end pending) (sym (first_read first at)) ∙ e)
      (λ p q. text-stops s (place + length w) p f (omega (arith, three gap w rest)) q)
    where
      place : ℕ
      place = at + length gap

      first : FirstToken gap w rest
      first = record { before = g; some = some; inside = h; stops = stops }

      go : (x : Outcome Assembled) → assembled_of pending (token place w) ≡ x →
          (x ▷ λ y. assemble_from end y.pending (tokens_from (place + length w) between rest) ▷ λ bytes.
          accepted (y.bytes ++ bytes)) ≡ refused f →
          ((p : List Operand) → assemble_from end p (tokens_from (place + length w) between rest) ≡ refused f →
          StopsText (place + length w) p rest f) →
          StopsText at pending (gap ++ (w ++ rest)) f
      go (refused u) p q ih =
          let r = token-refused pending place w u p in
          subst (StopsText at pending (gap ++ (w ++ rest))) (r.2 ∙ refused-same _ _ (sym (refused-then _ _ u refl) ∙ q))
          (StopsText.token first r.1)
      go (accepted x) p q ih =
          StopsText.onward first (token-says pending place w x p)
          (ih x.pending (map-refused _ _ f (sym (accepted-then _ _ x refl) ∙ q)))

  stops-text : {at : ℕ} {pending : List Operand} {text : List ℕ} {f : Fault} → StopsText at pending text f →
      end ≡ at + length text → assemble_from end pending (tokens_from at between text) ≡ refused f
  unfolding assemble_from
  stops-text (StopsText.onward {at} {pending} {after} {gap} {token = w} {rest} h s r) n =
      ap (assemble_from end pending) (first_read h at) ∙
      accepted-then _ _ _ (says-token s (at + length gap)).1 ∙
      refused-then _ _ _ (stops-text r (omega (arith, three gap w rest)))
  stops-text (StopsText.token {at} {number} {pending} {gap} h r) n =
      ap (assemble_from end pending) (first_read h at) ∙ refused-then _ _ _ (refused-token r (at + length gap))
  stops-text (StopsText.missing {at} {o} {os} s) n =
      ap (assemble_from end (o ∷ os)) (no-token s at) ∙ ap (refuse 41) n

text-judged : (text : List ℕ) → Judged (TextSays text) (StopsText 0 [] text) (assembly text)
unfolding assembly
text-judged text =
    record {
      accepts = assembled-exactly text;
      refuses = λ f. (
        text-stops (length text) (tokens-split text) 0 [] f (omega arith),
        λ h. stops-text (length text) h (omega arith),
      );
    }

-- A call of at most 2^24 bytes that writes what they stand for.
module _
    (Result : List ℕ → Type 0)
    (Stopped : Fault → Type 0)
    (taken buffer : List ℕ)
    (o : Outcome (List ℕ))
    (judged : Judged Result Stopped o)
  where
    abbrev Done : Job ℕ ℕ → Type 0
    Done = Does (FormWrites Result taken buffer)

    abbrev NotDone : Fault → Type 0
    NotDone = FormRefusedAt Result Stopped taken buffer

    long-judged : Judged (λ u. length taken ≤ 2 ^ 24) (Only 47 0 (2 ^ 24 < length taken))
        (provided (leb (length taken) 16777216) 47 0)
    long-judged =
        provided-judged _ 47 0 (length taken ≤ 2 ^ 24) (2 ^ 24 < length taken) (leb-true _ _, le-leb _ _) (leb-false _ _)
        (λ l h. omega arith)

    space-judged : (l : List ℕ) → Judged (λ u. length l ≤ length buffer) (Only 44 (length l) (length buffer < length l))
        (provided (leb (length l) (length buffer)) 44 (length l))
    space-judged l =
        provided-judged _ 44 (length l) (length l ≤ length buffer) (length buffer < length l) (leb-true _ _, le-leb _ _)
        (leb-false _ _) (λ l h. omega arith)

    answers : Answers Done NotDone (write_job taken o buffer)
    answers =
        answers-then Done NotDone _ _ long-judged (λ g f. long f) (λ u short.
        answers-then Done NotDone _ _ judged (λ g f. FormRefusedAt.stopped short f) (λ l result.
        answers-then Done NotDone _ _ (space-judged l) (λ g f. space short result f) (λ v fits.
        record { short = short; written = l; result = result; is = refl; fits = fits; leaves = refl })))
      where
        long : {f : Fault} → Only 47 0 (2 ^ 24 < length taken) f → NotDone f
        long (Only.only h) = FormRefusedAt.long h

        space : {l : List ℕ} {f : Fault} → length taken ≤ 2 ^ 24 → Result l → Only 44 (length l) (length buffer < length l) f →
            NotDone f
        space short result (Only.only h) = FormRefusedAt.space short result h

    job-done : (j : Job ℕ ℕ) → Done j → write_job taken o buffer ≡ accepted j
    job-done j d =
        let same : length d.written ≡ j.yields = sym d.is in
        accepted-then _ _ _ ((long-judged.accepts tt).1 d.short) ∙
        accepted-then _ _ _ ((judged.accepts d.written).1 d.result) ∙
        accepted-then _ _ _ (((space-judged d.written).accepts tt).1 (omega (arith, d.fits, d.is))) ∙
        ap₂ (λ (n : ℕ) (l : List ℕ). accepted (record { yields = n; leaves = l })) same
        (ap (λ (n : ℕ). d.written ++ drop n buffer) same ∙ sym d.leaves)

    job-refused : (f : Fault) → NotDone f → write_job taken o buffer ≡ refused f
    job-refused f (FormRefusedAt.long h) = refused-then _ _ _ ((long-judged.refuses (fault 47 0)).1 (Only.only h))
    job-refused f (FormRefusedAt.stopped short s) =
        accepted-then _ _ _ ((long-judged.accepts tt).1 short) ∙ refused-then _ _ _ ((judged.refuses _).1 s)
    job-refused f (FormRefusedAt.space {written = l} short result lt) =
        accepted-then _ _ _ ((long-judged.accepts tt).1 short) ∙
        accepted-then _ _ _ ((judged.accepts l).1 result) ∙
        refused-then _ _ _ (((space-judged l).refuses (fault 44 (length l))).1 (Only.only lt))

    pub form-exactly : Exactly buffer (FormWrites Result taken buffer) NotDone (effect buffer (write_job taken o buffer))
    form-exactly = exactly buffer (FormWrites Result taken buffer) NotDone _ (both_ways _ answers job-done job-refused)

-- Assemble is done, or refused with each number at its place, exactly under its condition.
pub assemble-exactly : (text buffer : List ℕ) →
    Exactly buffer (AssemblesTo text buffer) (AssembleRefusedAt text buffer) (assemble_of text buffer)
unfolding assemble_of
assemble-exactly text buffer =
    form-exactly (TextSays text) (StopsText 0 [] text) text buffer (assembly text) (text-judged text)
