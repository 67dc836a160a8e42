-- Laws of reading an expression with its reads kept. Assumes nothing.
use Rattle.std.specs.Prelude.{Result, Ok, Err}
use mathlib.Core.Path.{◌≡◌, refl, ap, subst, ◌∙◌}
use mathlib.Core.List.{List, ◌++◌, map-append, append-nil}
use Prim.Native.Nat.{ℕ, zero, suc, ◌+◌, ◌*◌, ◌≤◌}
use native.Mathlib.Omega.{arith}
use lib.ListN.{length, length-append}
use lib.Seq.{sets, length-sets}
use Rattle.model.specs.Says.Grammar.{Spells}
use Rattle.model.specs.Rules.Image.{expr_code}
use Rattle.model.specs.Rules.Outcome.{Outcome, accepted, refused, ◌▷◌, Parsed, parsed}
use Rattle.model.specs.Rules.Program.{Expr, operator_here, parse_expr, reads_of, unary_lookups, expr_lookups}
use Rattle.model.specs.Rules.Word.{word_bytes, four_bytes}
use Rattle.model.specs.declared.Fault.{Fault}
use Rattle.model.specs.declared.Unary.{Unary}
use Rattle.model.specs.declared.Unary.TheVariants.{Negate, Table}
use Rattle.model.proofs.Texts.Legal.{read-width}
use Rattle.model.proofs.Texts.Commands.{operator-sound}
use Rattle.model.proofs.Texts.Spelled.{spelled}
use Rattle.model.proofs.Texts.Written.{operator-decoded}
use Rattle.model.proofs.Images.Stretches.{sets-append}
use Rattle.text_program.specs.Walks.{
  places_of,
  WalkRoom,
  Moves,
  Outline,
  outline_of,
  followed,
  outlines,
  WalksBy,
  Walks,
  EquationBy,
  WalksEquation,
  deep_of,
}
use Rattle.text_program.specs.declared.Entry.{Entry}
use Rattle.text_program.specs.declared.Step.{Step}
use Rattle.text_program.specs.declared.Walk.{Walk}

pub moves-length : {l l' places : List ℕ} {next code lookups count to looks : ℕ} {w : Walk} →
    Moves next places code lookups l count to looks l' w →
    length l' ≡ length l
moves-length m = ap length m.holds ∙ simp length-sets

-- One move after the other.
pub join : {l l₁ l₂ xs ys : List ℕ} {n₁ n₂ a b c d count to looks : ℕ} {w₁ w₂ : Walk} →
    Moves n₁ xs a c l count to looks l₁ w₁ → Moves n₂ ys b d l₁ w₁.reads w₁.code w₁.lookups l₂ w₂ →
    Moves n₂ (xs ++ ys) (a + b) (c + d) l count to looks l₂ w₂
join {l} {l₁} {l₂} {xs} {ys} {count = count} p q =
    record {
      goes = q.goes;
      counts = rw length-append (omega (arith, p.counts, q.counts));
      codes = omega (arith, p.codes, q.codes);
      looked = omega (arith, p.looked, q.looked);
      holds =
          rw sets-append (q.holds ∙ ap (λ (j : ℕ). sets l₁ j ys) p.counts ∙
          ap (λ (z : List ℕ). sets z (count + length xs) ys) p.holds);
    }

-- Code after it.
pub longer : {l l₁ xs : List ℕ} {n a b count to looks : ℕ} {w : Walk} (k : ℕ) → Moves n xs a b l count to looks l₁ w →
    Moves n xs (a + k) b l count to looks l₁
    (record { at = w.at; reads = w.reads; code = w.code + k; lookups = w.lookups })
longer k p =
    record { goes = p.goes; counts = p.counts; codes = omega (arith, p.codes); looked = p.looked; holds = p.holds }

pub alike : {xs ys : List ℕ} {a b c d n : ℕ} → xs ≡ ys → a ≡ b → c ≡ d →
    ◌≡◌ {A = Outline} (record { places = xs; code = a; lookups = c; next = n })
    (record { places = ys; code = b; lookups = d; next = n })
alike e f g = rw (e, f, g) refl

-- What is refused, and what is passed over.
pub walks-refused : {l l' : List ℕ} {count to looks : ℕ} {r : Result Walk Fault} {f : Fault} (o : Outcome Outline) →
    o ≡ refused f → r ≡ Err f → Walks o l count to looks l' r
unfolding WalksBy
walks-refused o e g = record { by = rw e g }

pub walks-over : {l l' : List ℕ} {count to looks : ℕ} {r : Result Walk Fault} {w : Walk} (o : Outcome Outline) (x : Outline) →
    o ≡ accepted x → r ≡ Ok w → Moves x.next x.places x.code x.lookups l count to looks l' w → Walks o l count to looks l' r
unfolding WalksBy
walks-over {w = w} o x e g m = record { by = rw e (w, g, m) }

-- An expression that is refused is the answer.
stop : (o : Outcome Outline) (k : Outline → Outcome Outline) {l l₁ l' l₂ : List ℕ} {c t k₀ c' t' k₁ : ℕ} {r : Result Walk Fault}
    {f : Fault} →
    Walks o l c t k₀ l₁ r → r ≡ Err f → Walks (o ▷ k) l' c' t' k₁ l₂ r
unfolding ◌▷◌ WalksBy
stop (accepted x) k {r = r} {f = f} w g =
    let e = w.by.1 in
    let z : ◌≡◌ {A = ℕ} 0 1 = cc in
    absurd (omega arith)
stop (refused q) k w g = record { by = w.by }

-- After one that is passed over the rest decides.
passes_on : (o p : Outcome Outline) {l l₁ l₂ : List ℕ} {c t s : ℕ} {r₁ r : Result Walk Fault} {a : Walk}
    (k : ℕ → Outcome Outline) → p ≡ (o ▷ λ x. k x.next ▷ λ y. accepted (followed x y)) → Walks o l c t s l₁ r₁ → r₁ ≡ Ok a →
    Walks (k a.at) l₁ a.reads a.code a.lookups l₂ r → Walks p l c t s l₂ r
unfolding ◌▷◌ WalksBy
passes_on (accepted x) p {l} {l₁} {l₂} {c} {t} {s} {r₁} {r} {a} k e w g v =
    let f = w.by.1 in
    let z : w.by.0 ≡ a = cc in
    let m : Moves x.next x.places x.code x.lookups l c t s l₁ a =
    subst (λ (y : Walk). Moves x.next x.places x.code x.lookups l c t s l₁ y) z w.by.2 in
    rw e (go (k x.next) m (rw m.goes at v))
  where
    go : (q : Outcome Outline) → Moves x.next x.places x.code x.lookups l c t s l₁ a → Walks q l₁ a.reads
        a.code a.lookups l₂ r →
        Walks (q ▷ λ y. accepted (followed x y)) l c t s l₂ r
    go (accepted y) m v = record { by = (v.by.0, v.by.1, join m v.by.2) }
    go (refused f) m v = record { by = v.by }
passes_on (refused f) p {r₁ = r₁} {a = a} k e w g v =
    let h = w.by in
    let z : ◌≡◌ {A = ℕ} 0 1 = cc in absurd (omega arith)

-- Expressions one after another: none, a first one that is refused, and one with others after it.
module _ (sub : ℕ → Outcome (Parsed Expr)) where
  pub walks-none : {l : List ℕ} {count to looks : ℕ} {r : Result Walk Fault} (at : ℕ) →
      r ≡ Ok (record { at = at; reads = count; code = to; lookups = looks }) → Walks (outlines sub 0 at) l count to
      looks l r
  unfolding outlines
  walks-none at e =
      walks-over _ _ refl e (record {
        goes = refl;
        counts = omega arith;
        codes = omega arith;
        looked = omega arith;
        holds = refl;
      })

  pub walks-stop : (n at : ℕ) {l l₁ : List ℕ} {count to looks : ℕ} {r : Result Walk Fault} {f : Fault} →
      Walks (outline_of (sub at)) l count to looks l₁ r → r ≡ Err f → Walks (outlines sub (suc n) at) l count to looks
      l₁ r
  unfolding outlines
  walks-stop n at w e = stop _ _ w e

  pub walks-first : (n at : ℕ) {l l₁ l₂ : List ℕ} {count to looks : ℕ} {r₁ r : Result Walk Fault} {a : Walk} →
      Walks (outline_of (sub at)) l count to looks l₁ r₁ → r₁ ≡ Ok a →
      Walks (outlines sub n a.at) l₁ a.reads a.code a.lookups l₂ r → Walks (outlines sub (suc n) at) l count to
      looks l₂ r
  unfolding outlines
  walks-first n at w e v = passes_on _ _ (outlines sub n) refl w e v

  -- One alone.
  pub one-outline : (at : ℕ) → outlines sub 1 at ≡ outline_of (sub at)
  unfolding outlines ◌▷◌
  one-outline at = go (sub at)
    where
      go : (o : Outcome (Parsed Expr)) →
          (outline_of o ▷ λ a. outlines sub 0 a.next ▷ λ b. accepted (followed a b)) ≡ outline_of o
      go (accepted x) =
          ap {B = Outcome Outline} accepted (alike (append-nil (places_of (reads_of x.value))) (omega arith) (omega arith))
      go (refused f) = refl

-- Where no depth is left.
pub walks-deep : {l : List ℕ} {count to looks : ℕ} {r : Result Walk Fault} (least d : ℕ) (text : List ℕ) (n at : ℕ) → d ≡ 0 →
    r ≡ deep_of at (operator_here text at) → Walks (outlines (parse_expr least d text) (suc n) at) l count to looks l r
unfolding parse_expr deep_of ◌▷◌
walks-deep {l} {count} {to} {looks} {r} least zero text n at z e = go (operator_here text at) refl e
  where
    go : (o : Outcome (Unit {0})) → operator_here text at ≡ o → r ≡ deep_of at o →
        Walks (outlines (parse_expr least 0 text) (suc n) at) l count to looks l r
    go (accepted u) q e = walks-stop (parse_expr least 0 text) n at (walks-refused _ (rw q refl) e) e
    go (refused f) q e = walks-stop (parse_expr least 0 text) n at (walks-refused _ (rw q refl) e) e
walks-deep least (suc d) text n at z e = absurd (omega arith)

-- An expression has two bytes for each read, and one for each byte of its code and for each TABLE.
pub record Spans (size at : ℕ) (e : Expr) (n : ℕ) : Type 0 where
  pub few : at + 2 * length (places_of (reads_of e)) ≤ n
  pub small : at + length (expr_code e) ≤ n
  pub rare : at + expr_lookups e ≤ n
  pub inside : n ≤ size

one-lookup : (operator : Unary) → unary_lookups operator ≤ 1
one-lookup Negate = omega arith
one-lookup Table = omega arith

module _ {text : List ℕ} where
  pub spans : {least at n : ℕ} {e : Expr} → Spells least text at e n → Spans (length text) at e n
  unfolding reads_of expr_code word_bytes four_bytes
  spans (Spells.constants {at = at} e) =
      record {
        few = omega arith;
        small = omega arith;
        rare = omega arith;
        inside = (operator-sound text at _
            (operator-decoded e)).1;
      }
  spans (Spells.reads {at = at} {kind = kind} e a) =
      record {
        few = omega (arith, read-width kind);
        small = omega (arith, read-width kind);
        rare = omega arith;
        inside = (operator-sound text at _ (operator-decoded e)).1;
      }
  spans (Spells.two e u v) =
      let a = spans u in
      let b = spans v in
      record {
        few = simp (map-append, length-append) (omega (arith, a.few, b.few));
        small = simp length-append (omega (arith, a.small, b.small));
        rare = omega (arith, a.rare, b.rare);
        inside = b.inside;
      }
  spans (Spells.one {operator = operator} e u) =
      let a = spans u in
      record {
        few = omega (arith, a.few);
        small = simp length-append (omega (arith, a.small));
        rare = omega (arith, a.rare, one-lookup operator);
        inside = a.inside;
      }
  spans (Spells.three e u v w) =
      let a = spans u in
      let b = spans v in
      let d = spans w in
      record {
        few = simp (map-append, length-append) (omega (arith, a.few, b.few, d.few));
        small = simp length-append (omega (arith, a.small, b.small, d.small));
        rare = omega (arith, a.rare, b.rare, d.rare);
        inside = d.inside;
      }

pub parsed-spans : (least d : ℕ) (text : List ℕ) (at : ℕ) (e : Expr) (n : ℕ) → parse_expr least d text at ≡ parsed e n →
    Spans (length text) at e n
parsed-spans least d text at e n q = spans (spelled least text d at e n q).0

-- There is room for what comes after it.
pub record Ahead (size room : ℕ) (w : Walk) : Type 0 where
  pub left : WalkRoom size w.at w.reads w.code w.lookups room
  pub inside : w.at ≤ size

pub ahead : (least : ℕ) (text : List ℕ) {l l' : List ℕ} {at count to looks : ℕ} {r : Result Walk Fault} {a : Walk} (d : ℕ) →
    WalkRoom (length text) at count to looks (length l) → Walks (outline_of (parse_expr least d text at)) l count to looks l' r →
    r ≡ Ok a →
    Ahead (length text) (length l') a
unfolding WalksBy
ahead least text {l} {l'} {at} {count} {to} {looks} {r} {a} d h w e = go (parse_expr least d text at) refl w
  where
    go : (o : Outcome (Parsed Expr)) → parse_expr least d text at ≡ o → Walks (outline_of o) l count to looks l' r →
        Ahead (length text) (length l') a
    go (accepted x) q w =
        let s = parsed-spans least d text at x.value x.next q in
        let f = w.by.1 in
        let z : w.by.0 ≡ a = cc in
        let m = subst (λ (y : Walk). Moves x.next (places_of (reads_of x.value)) (length (expr_code x.value))
        (expr_lookups x.value) l count to looks l'
        y) z w.by.2 in
        record {
          left =
              record {
                short = h.short;
                table = omega (arith, h.table, moves-length m);
                few = omega (arith, h.few, m.counts, m.goes, s.few);
                small = omega (arith, h.small, m.codes, m.goes, s.small);
                rare = omega (arith, h.rare, m.looked, m.goes, s.rare);
              };
          inside = omega (arith, m.goes, s.inside);
        }
    go (refused f) q w =
        let g = w.by in
        let z : ◌≡◌ {A = ℕ} 0 1 = cc in
        absurd (omega arith)

pub room_after : {size at count to looks room : ℕ} (k : ℕ) → WalkRoom size at count to looks room →
    WalkRoom size (at + k) count to looks room
room_after k h =
    record {
      short = h.short;
      table = h.table;
      few = omega (arith, h.few);
      small = omega (arith, h.small);
      rare = omega (arith, h.rare);
    }

-- The step of an EQ from its expression's answer.
abbrev pub equation_step : Entry → Result Walk Fault → Result Step Fault
equation_step e (Ok a) = Ok (Step.Adds e (record { at = a.at; reads = a.reads; code = a.code + 2; lookups = a.lookups }))
equation_step e (Err f) = Err f

pub equation-walks : (o : Outcome (Parsed Expr)) {l l' : List ℕ} {count to looks : ℕ} {r : Result Walk Fault} →
    Walks (outline_of o) l count to looks l' r → (e : Entry) {s : Result Step Fault} → s ≡ equation_step e r →
    WalksEquation o e l count to looks l' s
unfolding WalksBy EquationBy
equation-walks (accepted x) w e h =
    let a = w.by.0 in
    let more : Walk = record { at = a.at; reads = a.reads; code = a.code + 2; lookups = a.lookups } in
    record { by = (more, h ∙ ap (equation_step e) w.by.1, longer 2 w.by.2) }
equation-walks (refused f) w e h = record { by = h ∙ ap (equation_step e) w.by }
