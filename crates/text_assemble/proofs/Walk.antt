-- Token after token: what is assembled so far, and what the rest is assembled to. Assumes nothing.
use Rattle.std.specs.Prelude.{Some, None, Result, Ok, Err, IsOk}
use Prim.Native.Nat.{ℕ, zero, suc, ◌+◌, ◌-◌, ◌*◌, ◌%◌, ◌/◌, ◌≤◌, ◌<◌}
use mathlib.Core.List.{List, [], ◌∷◌, ◌++◌, append_assoc, append-nil}
use mathlib.Core.Path.{◌≡◌, refl, sym, ap, ◌∙◌}
use native.Mathlib.Omega.{arith}
use lib.ListN.{length, take, drop, drop_of_length-le, length-append}
use Rattle.model.specs.Rules.Outcome.{Outcome, accepted, refused, refuse, ◌▷◌}
use Rattle.model.specs.Rules.TextForm.{
  Token,
  token,
  other,
  class_of,
  between,
  tokens_from,
  ended,
  keywords,
  keyword_at,
  spelled,
  low_bytes,
  size,
  Assembled,
  assembled_of,
  operand_of,
  assemble_from,
  assembly,
}
use Rattle.model.specs.Rules.Word.{byte_at}
use Rattle.model.specs.declared.Fault.{Fault}
use Rattle.model.specs.declared.Operand.{Operand}
use Rattle.model.specs.declared.Operand.TheVariants.{One, Two, Four, Signed, Index, Mode}
use Rattle.model.proofs.Basics.Outcomes.{
  accepted≢refused,
  accepted-same,
  then-accepted,
  accepted-then,
  refused-then,
  then-then,
  then_same,
}
use Rattle.model.specs.Rules.Writing.{Wrote}
use Rattle.model.proofs.Basics.Left.{Left, Parts, starts, room, turn, done}
use Rattle.text_keyword.specs.Cells.{pending_at}
use Rattle.text_keyword.proofs.Rows.{pending-starts}
use Rattle.text_token.specs.Scanning.{tokens_at, StartsAt, EndsAt}
use Rattle.text_assemble.specs.declared.TokenRead.{TokenRead}
use Rattle.text_assemble.specs.Assembled.{read_of, ReadsAs}
use Rattle.text_keyword.specs.Written.{length_answer, ended_answer, bytes_written, FitsIn}

-- What a keyword and an operand are read as.
pub keyword-read : (place : ℕ) (w : List ℕ) (i : ℕ) → spelled w keywords ≡ Some i →
    assembled_of [] (token place w) ≡
    accepted (record { bytes = (keyword_at keywords i).byte ∷ []; pending = (keyword_at keywords i).operands })
unfolding assembled_of
keyword-read place w i e = rw e refl

pub keyword-refused : (place : ℕ) (w : List ℕ) → spelled w keywords ≡ None → assembled_of [] (token place w) ≡ refuse 40 place
unfolding assembled_of
keyword-refused place w e = rw e refl

pub operand_read : (o : Operand) (os : List Operand) (t : Token) (v : ℕ) → operand_of o t ≡ accepted v →
    assembled_of (o ∷ os) t ≡ accepted (record { bytes = low_bytes (size o) v; pending = os })
unfolding assembled_of
operand_read o os t v e = accepted-then _ _ v e

pub operand-refused : (o : Operand) (os : List Operand) (t : Token) (f : Fault) → operand_of o t ≡ refused f →
    assembled_of (o ∷ os) t ≡ refused f
unfolding assembled_of
operand-refused o os t f e = refused-then _ _ f e

-- The one byte of a keyword.
pub one_byte : (b : ℕ) → b < 256 → low_bytes 1 b ≡ b ∷ []
unfolding low_bytes
one_byte b lt = let e : b % 256 ≡ b = omega arith in rw e refl

pub size_small : (o : Operand) → size o ≤ 4
size_small One = omega arith
size_small Two = omega arith
size_small Four = omega arith
size_small Signed = omega arith
size_small Index = omega arith
size_small Mode = omega arith

-- The low bytes of a value, one by one.
pub low_parts : (left rest : ℕ) → 0 < left → Parts (low_bytes left rest) (rest % 256 ∷ []) (low_bytes (left - 1) (rest / 256))
unfolding low_bytes
low_parts zero rest lt = absurd (omega arith)
low_parts (suc left) rest lt = let e : suc left - 1 ≡ left = omega arith in record { is = rw e refl }

pub low-none : (left rest : ℕ) → left ≤ 0 → low_bytes left rest ≡ []
unfolding low_bytes
low-none zero rest le = refl
low-none (suc left) rest le = absurd (omega arith)

pub low-length : (n v : ℕ) → length (low_bytes n v) ≡ n
unfolding low_bytes
low-length zero v = refl
low-length (suc n) v = ap suc (low-length n (v / 256))

-- What was read.
abbrev pub read_piece : TokenRead → Assembled
read_piece r = record { bytes = low_bytes r.size r.value; pending = pending_at r.next }

pub read-ok : (r : Result TokenRead Fault) (x : Assembled) → read_of r ≡ accepted x → IsOk r
read-ok (Ok t) x e = refl
read-ok (Err f) x e = absurd (accepted≢refused _ x f e refl)

module _ (text : List ℕ) where
  abbrev pub rest_of : ℕ → ℕ → Outcome (List ℕ)
  rest_of start pending = assemble_from (length text) (pending_at pending) (tokens_at text start between)

  -- `done` is assembled of the tokens before `start`.
  abbrev pub Going : ℕ → ℕ → List ℕ → Type 0
  Going start pending done = assembly text ≡ (rest_of start pending ▷ λ bytes. accepted (done ++ bytes))

  all_of : (o : Outcome (List ℕ)) → o ≡ (o ▷ λ bytes. accepted ([] ++ bytes))
  unfolding ◌▷◌
  all_of (accepted bytes) = refl
  all_of (refused f) = refl

  pub rest-starts : (start : ℕ) → StartsAt text 0 start → assembly text ≡ rest_of start 11
  unfolding assembly
  rest-starts start s =
      ap (assemble_from (length text) []) s.same ∙
      ap (λ (os : List Operand). assemble_from (length text) os (tokens_at text start between)) (sym pending-starts)

  pub going-starts : (start : ℕ) → StartsAt text 0 start → Going start 11 []
  going-starts start s = rest-starts start s ∙ all_of (rest_of start 11)

  module _ (start pending end : ℕ) (e : EndsAt text start end) where
    abbrev here : Token
    here = token start (take (end - start) (drop start text))

    rest-by : rest_of start pending ≡
        (assembled_of (pending_at pending) here ▷ λ x. assemble_from (length text) x.pending
        (tokens_at text end between) ▷ λ bytes.
        accepted (x.bytes ++ bytes))
    unfolding assemble_from
    rest-by = rw e.tokens refl

    pub rest-refused : (f : Fault) → assembled_of (pending_at pending) here ≡ refused f → rest_of start pending ≡ refused f
    rest-refused f q = rest-by ∙ refused-then _ _ f q

    pub rest-next : (bytes : List ℕ) (next after : ℕ) → StartsAt text end after →
        assembled_of (pending_at pending) here ≡ accepted (record { bytes = bytes; pending = pending_at next }) →
        rest_of start pending ≡ (rest_of after next ▷ λ rest. accepted (bytes ++ rest))
    rest-next bytes next after s q =
        rest-by ∙ accepted-then _ _ _ q ∙
        ap (λ (ts : List Token). assemble_from (length text) (pending_at next) ts ▷ λ rest. accepted (bytes ++ rest)) s.same

    pub going_next : (done bytes : List ℕ) (next after : ℕ) → StartsAt text end after →
        assembled_of (pending_at pending) here ≡ accepted (record { bytes = bytes; pending = pending_at next }) →
        Going start pending done → Going after next (done ++ bytes)
    going_next done bytes next after s q g =
        g ∙ ap (λ (o : Outcome (List ℕ)). o ▷ λ rest. accepted (done ++ rest)) (rest-next bytes next after s q) ∙
        again (rest_of after next)
      where
        again : (o : Outcome (List ℕ)) →
            ((o ▷ λ rest. accepted (bytes ++ rest)) ▷ λ rest. accepted (done ++ rest)) ≡
            (o ▷ λ rest. accepted ((done ++ bytes) ++ rest))
        again o = then-then o _ _ ∙ then_same o _ _ (λ rest. accepted-then _ _ (bytes ++ rest) refl ∙ ap accepted
            (sym (append_assoc done bytes rest)))

    pub going-refused : (done : List ℕ) (f : Fault) → assembled_of (pending_at pending) here ≡ refused f →
        Going start pending done →
        assembly text ≡ refused f
    going-refused done f q g =
        g ∙ refused-then _ _ f (rest-refused f q)

  pub rest-ends : (start pending : ℕ) → length text ≤ start → rest_of start pending ≡ ended 41 (length text) (pending_at pending)
  unfolding assemble_from tokens_from
  rest-ends start pending le = rw (drop_of_length-le {A = ℕ} text le) refl

  pub going-ends : (start pending : ℕ) (done : List ℕ) → length text ≤ start → Going start pending done →
      length_answer (assembly text) ≡ ended_answer (length done) (ended 41 (length text) (pending_at pending))
  unfolding ◌▷◌
  going-ends start pending done le g =
      ap length_answer (g ∙ ap (λ (o : Outcome (List ℕ)). o ▷ λ rest. accepted (done ++ rest)) (rest-ends start pending le)) ∙
      go (pending_at pending)
    where
      go : (os : List Operand) →
          length_answer (ended 41 (length text) os ▷ λ rest. accepted (done ++ rest)) ≡
          ended_answer (length done) (ended 41 (length text) os)
      go [] = ap (λ (l : List ℕ). length_answer (accepted l)) (append-nil done)
      go (o ∷ os) = refl

  -- A rest that is accepted, token after token.
  pub rest-step : (start pending end : ℕ) (r : TokenRead) (rest : List ℕ) → EndsAt text start end →
      ReadsAs (pending_at pending) start (take (end - start) (drop start text)) (Ok r) → rest_of start pending ≡ accepted rest →
      (rest' : List ℕ) × Parts rest (low_bytes r.size r.value) rest' ×
      ((after : ℕ) → StartsAt text end after → rest_of after r.next ≡ accepted rest')
  rest-step start pending end r rest e h g =
      let a = then-accepted _ _ rest (sym (rest-by start pending end e) ∙ g) in
      let x : read_piece r ≡ a.0 = accepted-same _ _ (h.answer ∙ a.1) in
      let b = then-accepted _ _ rest a.2 in
      let whole : a.0.bytes ++ b.0 ≡ rest = accepted-same _ _ b.2 in (
        b.0,
        record { is = sym whole ∙ ap (λ (y : Assembled). y.bytes ++ b.0) (sym x) },
        λ after s.
            ap (assemble_from (length text) (pending_at r.next)) (sym s.same) ∙
            ap (λ (y : Assembled). assemble_from (length text) y.pending (tokens_at text end between)) x ∙ b.1,
      )

  pub rest-none : (start pending : ℕ) (rest : List ℕ) → length text ≤ start → rest_of start pending ≡ accepted rest → rest ≡ []
  rest-none start pending rest le g = go (pending_at pending) (sym (rest-ends start pending le) ∙ g)
    where
      go : (os : List Operand) → ended 41 (length text) os ≡ accepted rest → rest ≡ []
      go [] q = sym (accepted-same _ _ q)
      go (o ∷ os) q = absurd (accepted≢refused _ rest _ q refl)

-- So far measured.
pub record Measured (text : List ℕ) (start pending total : ℕ) : Type 0 where
  pub bytes : List ℕ
  pub size : length bytes ≡ total
  pub low : total ≤ 4 * start
  pub inside : start ≤ length text
  pub begins : start < length text → class_of (byte_at text start) ≡ other
  pub going : Going text start pending bytes

pub measured-starts : (text : List ℕ) (start : ℕ) → StartsAt text 0 start → Measured text start 11 0
measured-starts text start s =
    record {
      bytes = [];
      size = refl;
      low = omega arith;
      inside = s.inside;
      begins = s.starts;
      going = going-starts text start s;
    }

pub measured-next : (text : List ℕ) (start pending total end after : ℕ) (r : TokenRead) → Measured text start pending total →
    EndsAt text start end → ReadsAs (pending_at pending) start (take (end - start) (drop start text)) (Ok r) →
    StartsAt text end after → Measured text after r.next (total + r.size)
measured-next text start pending total end after r m e h s =
    record {
      bytes = m.bytes ++ low_bytes r.size r.value;
      size = length-append m.bytes _ ∙ sum m.size (low-length r.size r.value);
      low = omega (arith, m.low, h.small, e.after, s.after);
      inside = s.inside;
      begins = s.starts;
      going =
          going_next text start pending end e m.bytes (low_bytes r.size r.value) r.next after s
          (sym h.answer) m.going;
    }
  where
    sum : {a b c d : ℕ} → a ≡ b → c ≡ d → a + c ≡ b + d
    sum p q = omega arith

pub measured-refused : (text : List ℕ) (start pending total end : ℕ) (f : Fault) →
    Measured text start pending total →
    EndsAt text start end → ReadsAs (pending_at pending) start (take (end - start) (drop start text)) (Err f) →
    assembly text ≡ refused f
measured-refused text start pending total end f m e h = going-refused text start pending end e m.bytes f (sym h.answer) m.going

pub measured-ends : (text : List ℕ) (start pending total : ℕ) → Measured text start pending total → length text ≤ start →
    length_answer (assembly text) ≡ ended_answer total (ended 41 (length text) (pending_at pending))
measured-ends text start pending total m le =
    going-ends text start pending m.bytes le m.going ∙
    ap (λ (n : ℕ). ended_answer n (ended 41 (length text) (pending_at pending))) m.size

-- So far written.
pub record Writing (text out₀ : List ℕ) (start pending : ℕ) (out : List ℕ) (to : ℕ) : Type 0 where
  pub rest : List ℕ
  pub going : rest_of text start pending ≡ accepted rest
  pub left : Left out₀ 0 (bytes_written (assembly text)) out to rest
  pub inside : start ≤ length text
  pub begins : start < length text → class_of (byte_at text start) ≡ other

-- What is read of a text that is assembled is no refusal.
pub writing-reads : (text out₀ : List ℕ) (start pending : ℕ) (out : List ℕ) (to end : ℕ) (r : Result TokenRead Fault) →
    Writing text out₀ start pending out to → EndsAt text start end →
    ReadsAs (pending_at pending) start (take (end - start) (drop start text)) r → IsOk r
writing-reads text out₀ start pending out to end r m e h =
    let a = then-accepted _ _ m.rest (sym (rest-by text start pending end e) ∙ m.going) in read-ok r a.0 (h.answer ∙ a.1)

pub writing-starts : (text out : List ℕ) (start : ℕ) → FitsIn (assembly text) out → StartsAt text 0 start →
    Writing text out start 11 out 0
writing-starts text out start f s =
    record {
      rest = f.written;
      going = sym (rest-starts text start s) ∙ f.done;
      left = rw f.done starts;
      inside = s.inside;
      begins = s.starts;
    }

module _ (text out₀ : List ℕ) (start pending : ℕ) (out : List ℕ) (to end : ℕ) (r : TokenRead)
    (m : Writing text out₀ start pending out to)
    (e : EndsAt text start end) (h : ReadsAs (pending_at pending) start (take (end - start) (drop start text)) (Ok r)) where
  abbrev step : (rest' : List ℕ) × Parts m.rest (low_bytes r.size r.value) rest' ×
      ((after : ℕ) → StartsAt text end after → rest_of text after r.next ≡ accepted rest')
  step = rest-step text start pending end r m.rest e h m.going

  pub writing-room : FitsIn (assembly text) out₀ → to + r.size ≤ length out
  writing-room f =
      let fits : 0 + length (bytes_written (assembly text)) ≤ length out₀ = rw f.done (omega (arith, f.fits)) in
      rw (← low-length r.size r.value) (room step.1 m.left fits)

  pub writing-next : (out' : List ℕ) (to' after : ℕ) → Wrote out to (low_bytes r.size r.value) out' to' →
      StartsAt text end after → Writing text out₀ after r.next out' to'
  writing-next out' to' after w s =
      record {
        rest = step.0;
        going = step.2 after s;
        left = turn step.1 m.left w;
        inside = s.inside;
        begins = s.starts;
      }

pub writing-ends : (text out₀ : List ℕ) (start pending : ℕ) (out : List ℕ) (to : ℕ) → Writing text out₀ start pending out to →
    length text ≤ start → Wrote out₀ 0 (bytes_written (assembly text)) out to
writing-ends text out₀ start pending out to m le = done (rest-none text start pending m.rest le m.going) m.left
