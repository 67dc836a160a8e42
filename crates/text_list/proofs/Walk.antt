-- Token after token: what is listed so far, and what the rest is listed as. Assumes nothing.
use Rattle.std.specs.Prelude.{Option, Some, None, Result, Ok, Err, IsOk}
use Prim.Native.Nat.{ℕ, zero, suc, ◌+◌, ◌-◌, ◌*◌, ◌^◌, ◌≤◌, ◌<◌}
use mathlib.Core.Bool.{Bool, true, false, cond}
use mathlib.Core.List.{List, [], ◌∷◌, ◌++◌, append_assoc, append-nil}
use mathlib.Core.Path.{◌≡◌, refl, sym, ap, subst, ◌∙◌}
use native.Mathlib.Omega.{arith}
use borrow.Author.Tests.{ltb-true, ltb-false, lt-ltb, le-ltb, leb-true}
use lib.Dec.{ltb, leb, eqb}
use lib.IntN.{pos, negsuc}
use lib.ListN.{length, length-append}
use lib.Signed.{mag}
use mir.Val.{sel}
use Rattle.model.specs.Rules.Decimal.{natural, decimal}
use Rattle.model.specs.Rules.Outcome.{Outcome, accepted, refused, ◌▷◌}
use Rattle.model.specs.Rules.Search.{all_below, table_from, table}
use Rattle.model.specs.Rules.TextForm.{
  Keyword,
  keywords,
  names,
  keyword_at,
  coded,
  size,
  low_at,
  lead,
  is_signed,
  name_or,
  number_token,
  operand_token,
  ended,
  Listed,
  listed_keyword,
  listed_at,
  list_from,
  listing,
}
use Rattle.model.specs.Rules.Word.{word_of, byte_at, AreBytes}
use Rattle.model.specs.declared.Fault.{Fault}
use Rattle.model.specs.declared.Operand.{Operand}
use Rattle.model.specs.declared.Operand.TheVariants.{One, Two, Four, Signed, Index, Mode}
use Rattle.model.proofs.Basics.Outcomes.{
  accepted≢refused,
  accepted-same,
  then-accepted,
  accepted-then,
  refused-then,
  then-then,
  then_same,
}
use Rattle.model.proofs.Basics.Left.{Left, Parts, starts, room, turn, wrote-size}
use Rattle.model.proofs.Bench.Decimals.{natural-length, decimal-length}
use Rattle.model.proofs.Pairs.Decide.{is-first, all_true}
use Rattle.text_keyword.specs.Cells.{pending_at}
use Rattle.text_keyword.specs.Written.{length_answer, ended_answer, bytes_written, FitsIn}
use Rattle.text_keyword.proofs.Rows.{pending-starts}
use Rattle.text_list.specs.declared.TokenPut.{TokenPut}
use Rattle.text_list.specs.Puts.{put_of, Room, PutToken, PutsToken}
use Rattle.text_list.proofs.Writes.{low_small, power_small, size_small}

-- Tokens are short.
abbrev short_names : List Keyword → ℕ → Bool
short_names ks i = leb (length (keyword_at ks i).spelling) 8

short-at : (ks : List Keyword) → all_below (length ks) (short_names ks) ≡ true → (i : ℕ) → i < length ks →
    length (keyword_at ks i).spelling ≤ 8
short-at ks e i lt = leb-true (length (keyword_at ks i).spelling) 8 (all_true (length ks) (short_names ks) e i lt)

keyword-short : (i : ℕ) → i < length keywords → length (keyword_at keywords i).spelling ≤ 8
unfolding keywords all_below table table_from
keyword-short i lt = short-at keywords refl i lt

name-short : (o : Operand) (i : ℕ) → i < length (names o) → length (keyword_at (names o) i).spelling ≤ 8
unfolding names all_below table table_from
name-short One i lt = short-at (names One) refl i lt
name-short Two i lt = short-at (names Two) refl i lt
name-short Four i lt = short-at (names Four) refl i lt
name-short Signed i lt = short-at (names Signed) refl i lt
name-short Index i lt = short-at (names Index) refl i lt
name-short Mode i lt = short-at (names Mode) refl i lt

word_small : (v : ℕ) → v < 2 ^ 32 → mag (word_of v) < 2 ^ 31
unfolding word_of
word_small v lt = go (ltb v (2 ^ 31)) refl
  where
    go : (b : Bool) → ltb v (2 ^ 31) ≡ b → mag (sel b (pos v) (negsuc (2 ^ 32 - suc v))) < 2 ^ 31
    go true t = ltb-true v (2 ^ 31) t
    go false t = let l = ltb-false v (2 ^ 31) t in omega arith

number_short : (b : Bool) (v : ℕ) → v < 2 ^ 32 → length (cond b (decimal (word_of v)) (natural v)) ≤ 11
number_short true v lt = decimal-length (word_of v) (word_small v lt)
number_short false v lt = omega (arith, natural-length 9 v (omega arith))

coded-inside : (b : ℕ) (ks : List Keyword) (i : ℕ) → coded b ks ≡ Some i → i < length ks
unfolding coded
coded-inside b ks i e =
    let h = is-first (length ks) (λ i. eqb (keyword_at ks i).byte b) (Some i) e in omega (arith, h.1)

operand_short : (o : Operand) (v : ℕ) → v < 2 ^ 32 → length (operand_token o v) ≤ 11
unfolding operand_token
operand_short o v lt = go (coded v (names o)) refl
  where
    go : (f : Option ℕ) → coded v (names o) ≡ f → length (name_or (names o) (number_token o v) f) ≤ 11
    go (Some i) e = omega (arith, name-short o i (coded-inside v (names o) i e))
    go None e = number_short (is_signed o) v lt

lead-short : (at : ℕ) (opens : Bool) → length (lead at opens) ≤ 1
lead-short at opens = go (eqb at 0) opens
  where
    go : (b opens : Bool) → length {A = ℕ} (cond b [] (cond opens (10 ∷ []) (32 ∷ []))) ≤ 1
    go true opens = omega arith
    go false true = omega arith
    go false false = omega arith

size-some : (o : Operand) → 0 < size o
size-some One = omega arith
size-some Two = omega arith
size-some Four = omega arith
size-some Signed = omega arith
size-some Index = omega arith
size-some Mode = omega arith

-- What is listed at an offset is short, and goes on.
pub record Short (at : ℕ) (x : Listed) : Type 0 where
  pub some : 0 < x.width
  pub narrow : x.width ≤ 4
  pub short : length (put_of at x) ≤ 12

module _ (bytes : List ℕ) (are : AreBytes bytes) where
  short : (at : ℕ) (x : Listed) → 0 < x.width → x.width ≤ 4 → length x.token ≤ 11 → Short at x
  short at x some narrow le =
      record {
        some = some;
        narrow = narrow;
        short = omega (arith, length-append (lead at x.opens) x.token, lead-short at x.opens);
      }

  keyword-is-short : (at : ℕ) (x : Listed) (f : Option ℕ) → coded (byte_at bytes at) keywords ≡ f → listed_keyword at f ≡
      accepted x → Short at x
  keyword-is-short at x (Some i) p q =
      subst (Short at) (accepted-same _ _ q)
      (short at _ (omega arith) (omega arith) (omega (arith, keyword-short i (coded-inside (byte_at bytes at) keywords i p))))
  keyword-is-short at x None p q = absurd (accepted≢refused _ x _ q refl)

  pub is-short : (at : ℕ) (pending : List Operand) (x : Listed) → listed_at bytes at pending ≡ accepted x → Short at x
  unfolding listed_at
  is-short at [] x e = keyword-is-short at x (coded (byte_at bytes at) keywords) refl e
  is-short at (o ∷ os) x e =
      let h = then-accepted _ _ x e in
      let small = low_small bytes are (size o) at in
      subst (Short at) (accepted-same _ _ h.2)
      (short at _ (size-some o) (size_small o)
      (operand_short o (low_at (size o) bytes at) (omega (arith, small, power_small (size o) (size_small o)))))

  -- there is room for it in 16 bytes
  pub room-short : (at : ℕ) (pending : List Operand) (out : List ℕ) → 16 ≤ length out → Room (listed_at bytes at pending) at out 0
  unfolding Room
  room-short at pending out le = go (listed_at bytes at pending) refl
    where
      go : (o : Outcome Listed) → listed_at bytes at pending ≡ o → Room o at out 0
      go (accepted x) e = omega (arith, (is-short at pending x e).short)
      go (refused f) e = tt

-- What was put.
pub record Told (o : Outcome Listed) (at : ℕ) (out new : List ℕ) (r : TokenPut) : Type 0 where
  pub x : Listed
  pub listed : o ≡ accepted x
  pub pending : pending_at r.next ≡ x.pending
  pub width : r.width ≡ x.width
  pub end : r.end ≡ length (put_of at x)
  pub same : length new ≡ length out

pub puts-fine : (o : Outcome Listed) (at : ℕ) (out new : List ℕ) (r : TokenPut) → PutsToken o at out 0 new (Ok r) →
    Told o at out new r
unfolding PutsToken
puts-fine (accepted x) at out new r h =
    record {
      x = x;
      listed = refl;
      pending = h.pending;
      width = h.width;
      end = omega (arith, h.wrote.ends);
      same = wrote-size h.wrote;
    }
puts-fine (refused f) at out new r h = absurd h

pub puts-fault : (o : Outcome Listed) (at to : ℕ) (out new : List ℕ) (f : Fault) → PutsToken o at out to new (Err f) →
    o ≡ refused f
unfolding PutsToken
puts-fault (accepted x) at to out new f h = absurd h
puts-fault (refused g) at to out new f h = ap refused (sym h.0)

pub puts-accepted : (o : Outcome Listed) {at to : ℕ} {out new : List ℕ} {r : TokenPut} (x : Listed) →
    PutsToken o at out to new (Ok r) →
    o ≡ accepted x → PutToken x at out to new r
unfolding PutsToken
puts-accepted o x h e = rw e at h

pub puts-ok : (o : Outcome Listed) (at to : ℕ) (out new : List ℕ) (r : Result TokenPut Fault) (x : Listed) →
    PutsToken o at out to new r → o ≡ accepted x → IsOk r
unfolding PutsToken
puts-ok o at to out new (Ok r) x h e = refl
puts-ok o at to out new (Err f) x h e = absurd (rw e at h)

module _ (bytes : List ℕ) where
  abbrev pub rest_of : ℕ → ℕ → ℕ → Outcome (List ℕ)
  rest_of left at pending = list_from left bytes at (pending_at pending)

  rest-by : (left at pending : ℕ) → at < length bytes → length bytes ≤ left + at →
      rest_of left at pending ≡
      (listed_at bytes at (pending_at pending) ▷ λ x. list_from (left - 1) bytes (at + x.width) x.pending ▷ λ text.
      accepted (lead at x.opens ++ (x.token ++ text)))
  unfolding list_from
  rest-by zero at pending lt enough = absurd (omega arith)
  rest-by (suc left) at pending lt enough =
      let e : suc left - 1 ≡ left = omega arith in rw (e, lt-ltb at (length bytes) lt, list_from) refl

  rest-ends : (left at pending : ℕ) → length bytes ≤ at → rest_of left at pending ≡ ended 46 at (pending_at pending)
  unfolding list_from
  rest-ends zero at pending le = refl
  rest-ends (suc left) at pending le = rw (le-ltb at (length bytes) le, list_from) refl

  -- the rest after one token
  rest-next : (left at pending next width : ℕ) (x : Listed) → at < length bytes → length bytes ≤ left + at →
      listed_at bytes at (pending_at pending) ≡ accepted x → pending_at next ≡ x.pending → width ≡ x.width →
      rest_of left at pending ≡ (rest_of (left - 1) (at + width) next ▷ λ text. accepted (put_of at x ++ text))
  rest-next left at pending next width x lt enough e p w =
      rest-by left at pending lt enough ∙ accepted-then _ _ x e ∙
      ap (λ (os : List Operand). list_from (left - 1) bytes (at + x.width) os ▷ λ text. accepted
      (lead at x.opens ++ (x.token ++ text)))
      (sym p) ∙
      ap (λ (n : ℕ). list_from (left - 1) bytes (at + n) (pending_at next) ▷ λ text. accepted
      (lead at x.opens ++ (x.token ++ text)))
      (sym w) ∙
      then_same _ _ _ (λ text. ap accepted (sym (append_assoc (lead at x.opens) x.token text)))

  -- So far measured: a newline is counted from the start.
  pub record Measured (at pending total : ℕ) : Type 0 where
    pub left : ℕ
    pub text : List ℕ
    pub enough : length bytes ≤ left + at
    pub size : length text + 1 ≡ total
    pub low : total ≤ 12 * at + 1
    pub going : listing bytes ≡ (rest_of left at pending ▷ λ rest. accepted ((text ++ rest) ++ (10 ∷ [])))

  pub measured-starts : Measured 0 11 1
  unfolding listing
  measured-starts =
      record {
        left = length bytes;
        text = [];
        enough = omega arith;
        size = refl;
        low = omega arith;
        going = ap (λ (os : List Operand). list_from (length bytes) bytes 0 os ▷ λ rest. accepted (rest ++ (10 ∷ [])))
            (sym pending-starts);
      }

  pub measured-next : (at pending total next width end : ℕ) (x : Listed) → AreBytes bytes → Measured at pending total →
      at < length bytes →
      listed_at bytes at (pending_at pending) ≡ accepted x → pending_at next ≡ x.pending → width ≡ x.width →
      end ≡ length (put_of at x) → Measured (at + width) next (total + end)
  measured-next at pending total next width end x are m lt e p w q =
      let s = is-short bytes are at (pending_at pending) x e in
      record {
        left = m.left - 1;
        text = m.text ++ put_of at x;
        enough = omega (arith, m.enough, s.some, w);
        size = omega (arith, length-append m.text (put_of at x), m.size, q);
        low = omega (arith, m.low, s.some, s.short, w, q);
        going =
            m.going ∙
            ap (λ (o : Outcome (List ℕ)). o ▷ λ rest. accepted ((m.text ++ rest) ++ (10 ∷ [])))
            (rest-next m.left at pending next width x lt m.enough e p w) ∙
            again (rest_of (m.left - 1) (at + width) next);
      }
    where
      again : (o : Outcome (List ℕ)) →
          ((o ▷ λ rest. accepted (put_of at x ++ rest)) ▷ λ rest. accepted ((m.text ++ rest) ++ (10 ∷ []))) ≡
          (o ▷ λ rest. accepted (((m.text ++ put_of at x) ++ rest) ++ (10 ∷ [])))
      again o =
          then-then o _ _ ∙
          then_same o _ _ (λ rest. accepted-then _ _ (put_of at x ++ rest) refl ∙
          ap (λ (l : List ℕ). accepted (l ++ (10 ∷ []))) (sym (append_assoc m.text (put_of at x) rest)))

  pub measured-refused : (at pending total : ℕ) (f : Fault) → Measured at pending total → at < length bytes →
      listed_at bytes at (pending_at pending) ≡ refused f → listing bytes ≡ refused f
  measured-refused at pending total f m lt e =
      m.going ∙ refused-then _ _ f (rest-by m.left at pending lt m.enough ∙ refused-then _ _ f e)

  pub measured-ends : (at pending total : ℕ) → Measured at pending total → length bytes ≤ at →
      length_answer (listing bytes) ≡ ended_answer total (ended 46 at (pending_at pending))
  unfolding ◌▷◌
  measured-ends at pending total m le =
      ap length_answer
      (m.going ∙ ap (λ (o : Outcome (List ℕ)). o ▷ λ rest. accepted ((m.text ++ rest) ++ (10 ∷ [])))
      (rest-ends m.left at pending le)) ∙
      go (pending_at pending)
    where
      whole : length ((m.text ++ []) ++ (10 ∷ [])) ≡ total
      whole = length-append (m.text ++ []) (10 ∷ []) ∙ ap (λ (l : List ℕ). length l + 1) (append-nil m.text) ∙ m.size

      go : (os : List Operand) →
          length_answer (ended 46 at os ▷ λ rest. accepted ((m.text ++ rest) ++ (10 ∷ []))) ≡ ended_answer total (ended 46 at os)
      go [] = ap Ok whole
      go (o ∷ os) = refl

  -- So far written.
  pub record Writing (out₀ : List ℕ) (at pending : ℕ) (out : List ℕ) (to : ℕ) : Type 0 where
    pub left : ℕ
    pub rest : List ℕ
    pub enough : length bytes ≤ left + at
    pub going : rest_of left at pending ≡ accepted rest
    pub remains : Left out₀ 0 (bytes_written (listing bytes)) out to (rest ++ (10 ∷ []))

  pub writing-starts : (out : List ℕ) → FitsIn (listing bytes) out → Writing out 0 11 out 0
  unfolding listing
  writing-starts out f =
      let h = then-accepted _ _ f.written f.done in
      record {
        left = length bytes;
        rest = h.0;
        enough = omega arith;
        going = ap (list_from (length bytes) bytes 0) pending-starts ∙ h.1;
        remains =
            subst (λ (l : List ℕ). Left out 0 (bytes_written (listing bytes)) out 0 l)
            (ap bytes_written f.done ∙ sym (accepted-same _ _ h.2)) starts;
      }

  pub fits-written : (out : List ℕ) → FitsIn (listing bytes) out → 0 + length (bytes_written (listing bytes)) ≤ length out
  fits-written out f = rw f.done (omega (arith, f.fits))

  module _ (out₀ : List ℕ) (at pending : ℕ) (out : List ℕ) (to : ℕ) (m : Writing out₀ at pending out to)
      (lt : at < length bytes) where
    -- the token that is next
    pub record Next : Type 0 where
      pub x : Listed
      pub listed : listed_at bytes at (pending_at pending) ≡ accepted x
      pub rest : List ℕ
      pub going : list_from (m.left - 1) bytes (at + x.width) x.pending ≡ accepted rest
      pub parts : Parts (m.rest ++ (10 ∷ [])) (put_of at x) (rest ++ (10 ∷ []))

    pub next-is : Next
    next-is =
        let a = then-accepted _ _ m.rest (sym (rest-by m.left at pending lt m.enough) ∙ m.going) in
        let b = then-accepted _ _ m.rest a.2 in
        let x = a.0 in
        record {
          x = x;
          listed = a.1;
          rest = b.0;
          going = b.1;
          parts =
              record {
                is =
                    ap (λ (l : List ℕ). l ++ (10 ∷ []))
                    (sym (accepted-same _ _ b.2) ∙ sym (append_assoc (lead at x.opens) x.token b.0)) ∙
                    append_assoc (put_of at x) b.0 (10 ∷ []);
              };
        }

    pub writing-room : FitsIn (listing bytes) out₀ → Room (listed_at bytes at (pending_at pending)) at out to
    unfolding Room
    writing-room f = rw next-is.listed (room next-is.parts m.remains (fits-written out₀ f))

    -- what is put of bytes that are listed is no refusal
    pub writing-puts : (new : List ℕ) (r : Result TokenPut Fault) →
        PutsToken (listed_at bytes at (pending_at pending)) at out to new r → IsOk r
    writing-puts new r h = puts-ok (listed_at bytes at (pending_at pending)) at to out new r next-is.x h next-is.listed

    pub writing-next : (new : List ℕ) (r : TokenPut) → PutsToken (listed_at bytes at (pending_at pending)) at out to new (Ok r) →
        AreBytes bytes → Writing out₀ (at + r.width) r.next new r.end
    writing-next new r h are =
        let n = next-is in
        let p = puts-accepted (listed_at bytes at (pending_at pending)) n.x h n.listed in
        let s = is-short bytes are at (pending_at pending) n.x n.listed in
        record {
          left = m.left - 1;
          rest = n.rest;
          enough = omega (arith, m.enough, s.some, p.width);
          going =
              ap (λ (k : ℕ). list_from (m.left - 1) bytes (at + k) (pending_at r.next)) p.width ∙
              ap (list_from (m.left - 1) bytes (at + n.x.width)) p.pending ∙ n.going;
          remains = turn n.parts m.remains p.wrote;
        }

    pub next-width : (new : List ℕ) (r : TokenPut) → PutsToken (listed_at bytes at (pending_at pending)) at out to new (Ok r) →
        AreBytes bytes → (0 < r.width) × (r.width ≤ 4)
    next-width new r h are =
        let n = next-is in
        let p = puts-accepted (listed_at bytes at (pending_at pending)) n.x h n.listed in
        let s = is-short bytes are at (pending_at pending) n.x n.listed in
        (omega (arith, s.some, p.width), omega (arith, s.narrow, p.width))

  -- the newline is left
  pub writing-last : (out₀ : List ℕ) (at pending : ℕ) (out : List ℕ) (to : ℕ) → Writing out₀ at pending out to →
      length bytes ≤ at →
      Left out₀ 0 (bytes_written (listing bytes)) out to (10 ∷ [])
  writing-last out₀ at pending out to m le = subst (λ (l : List ℕ). Left out₀ 0 (bytes_written (listing bytes)) out to
      (l ++ (10 ∷ []))) none m.remains
    where
      go : (os : List Operand) → ended 46 at os ≡ accepted m.rest → m.rest ≡ []
      go [] q = sym (accepted-same _ _ q)
      go (o ∷ os) q = absurd (accepted≢refused _ m.rest _ q refl)

      none : m.rest ≡ []
      none = go (pending_at pending) (sym (rest-ends m.left at pending le) ∙ m.going)

pub newline-parts : Parts (10 ∷ []) (10 ∷ []) []
newline-parts = record { is = refl }
