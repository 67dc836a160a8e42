-- Decoders: a chain of picks by the byte, and operands that may be cut or out of range; which bytes are commands.
-- Assumes nothing.
use Rattle.std.specs.Prelude.{Option, Some, None}
use Prim.Native.Nat.{ℕ, ◌+◌, ◌≤◌, ◌<◌}
use mathlib.Core.Bool.{Bool, true, false, cond, false≢true, and-eq-true_iff}
use mathlib.Core.List.{List}
use mathlib.Core.Logic.{◌↔◌, inl, inr}
use mathlib.Core.Path.{◌≡◌, refl, sym}
use native.Mathlib.Omega.{arith}
use borrow.Author.Tests.{leb-true, leb-false, ltb-true, ltb-false, le-leb, lt-leb, eqb-true, eqb-false}
use lib.Dec.{leb, ltb, eqb}
use lib.ListN.{length, get_or-eq_default}
use Rattle.model.specs.Rules.Command.{whole, plain_read, sampled_read, operator_of, is_operator}
use Rattle.model.specs.Rules.Image.{binary_byte, unary_byte}
use Rattle.model.specs.Rules.Program.{is_allowed}
use Rattle.model.specs.Rules.Width.{within, is_listed, in_expression, read_width}
use Rattle.model.specs.Rules.Word.{byte_at}
use Rattle.model.specs.Says.Grammar.{Allowed, IsSignal}
use Rattle.model.specs.Says.Written.{IsPlain, IsSampled, read_byte, OperatorByte}
use Rattle.model.specs.declared.Binary.{Binary}
use Rattle.model.specs.declared.Binary.TheVariants.{Add, Sub, Mul, Less, Same, Min, Max}
use Rattle.model.specs.declared.Kind.{Kind}
use Rattle.model.specs.declared.Kind.TheVariants.{Now, Last, When, LastWhen, Current}
use Rattle.model.specs.declared.Operator.{Operator}
use Rattle.model.specs.declared.Operator.TheVariants as Operator
use Rattle.model.specs.declared.Sampled.{Sampled}
use Rattle.model.specs.declared.Unary.{Unary}
use Rattle.model.specs.declared.Unary.TheVariants.{Negate, Table}

-- What holds of both sides of a test holds of what it chooses.
module _ {C : Type 0} (Q : C → Type 0) where
  pub chosen-all : (t : Bool) (x y : C) → (t ≡ true → Q x) → (t ≡ false → Q y) → Q (cond t x y)
  chosen-all true x y f g = f refl
  chosen-all false x y f g = g refl

  -- A pick by a byte.
  pub picked : (b c : ℕ) (x y : C) → (b ≡ c → Q x) → (¬ (b ≡ c) → Q y) → Q (cond (eqb b c) x y)
  picked b c x y f g = chosen-all (eqb b c) x y (λ t. f (eqb-true b c t)) (λ t. g (eqb-false b c t))

  -- A command that needs n bytes, and one at an offset.
  pub whole-all : (early : C) (text : List ℕ) (at n : ℕ) (x : C) → (length text < at + n → Q early) →
      (at + n ≤ length text → Q x) → Q (whole early text at n x)
  whole-all early text at n x f g =
      chosen-all (leb (at + n) (length text)) x early (λ t. g (leb-true _ _ t)) (λ t. f (leb-false _ _ t))

  pub here-all : (early : C) (text : List ℕ) (at : ℕ) (x : C) → (length text ≤ at → Q early) → (at < length text → Q x) →
      Q (cond (ltb at (length text)) x early)
  here-all early text at x f g =
      chosen-all (ltb at (length text)) x early (λ t. g (ltb-true _ _ t)) (λ t. f (ltb-false _ _ t))

-- Operands that are there, and that are not.
module _ {C : Type 0} (early : C) (text : List ℕ) (at : ℕ) where
  pub there : (n : ℕ) (c : C) → at + n ≤ length text → whole early text at n c ≡ c
  there n c h = rw (le-leb (at + n) (length text) h)

  pub missing : (n : ℕ) (c : C) → length text < at + n → whole early text at n c ≡ early
  missing n c h = rw (lt-leb (at + n) (length text) h)

-- Past its end a text reads 0.
pub byte_inside : (text : List ℕ) (at : ℕ) → 1 ≤ byte_at text at → at < length text
byte_inside text at some = go (ltb at (length text)) refl
  where
    go : (b : Bool) → ltb at (length text) ≡ b → at < length text
    go true e = ltb-true _ _ e
    go false e = absurd (omega (arith, get_or-eq_default text 0 (ltb-false _ _ e)))

pub signal-inside : (text : List ℕ) (at : ℕ) → IsSignal (byte_at text at) → at < length text
signal-inside text at (inl e) = byte_inside text at (omega arith)
signal-inside text at (inr e) = byte_inside text at (omega arith)

pub read_some : (kind : Kind) → 1 ≤ read_byte kind
read_some Now = omega arith
read_some Last = omega arith
read_some When = omega arith
read_some LastWhen = omega arith
read_some Current = omega arith

binary-some : (operator : Binary) → 1 ≤ binary_byte operator
binary-some Add = omega arith
binary-some Sub = omega arith
binary-some Mul = omega arith
binary-some Less = omega arith
binary-some Same = omega arith
binary-some Min = omega arith
binary-some Max = omega arith

-- Past the end of a text stands no operator.
pub operator-inside : (text : List ℕ) (at : ℕ) → OperatorByte (byte_at text at) → at < length text
operator-inside text at (OperatorByte.constant e) = byte_inside text at (omega arith)
operator-inside text at (OperatorByte.read kind e) = byte_inside text at (omega (arith, read_some kind))
operator-inside text at (OperatorByte.binary operator e) = byte_inside text at (omega (arith, binary-some operator))
operator-inside text at (OperatorByte.unary Negate e) = byte_inside text at (omega arith)
operator-inside text at (OperatorByte.unary Table e) = byte_inside text at (omega arith)
operator-inside text at (OperatorByte.choose e) = byte_inside text at (omega arith)

pub no_read : {b : ℕ} → ¬ (b ≡ 0x21) → ¬ (b ≡ 0x22) → ¬ (b ≡ 0x23) → ¬ (b ≡ 0x24) → ¬ (b ≡ 0x25) → (kind : Kind) →
    ¬ (b ≡ read_byte kind)
no_read n l w m c Now e = n e
no_read n l w m c Last e = l e
no_read n l w m c When e = w e
no_read n l w m c LastWhen e = m e
no_read n l w m c Current e = c e

pub no-binary : {b : ℕ} → ¬ (b ≡ 0x30) → ¬ (b ≡ 0x31) → ¬ (b ≡ 0x32) → ¬ (b ≡ 0x33) → ¬ (b ≡ 0x34) → ¬ (b ≡ 0x35) →
    ¬ (b ≡ 0x36) → (operator : Binary) → ¬ (b ≡ binary_byte operator)
no-binary a s m l q i x Add e = a e
no-binary a s m l q i x Sub e = s e
no-binary a s m l q i x Mul e = m e
no-binary a s m l q i x Less e = l e
no-binary a s m l q i x Same e = q e
no-binary a s m l q i x Min e = i e
no-binary a s m l q i x Max e = x e

-- A byte that is none of the sixteen is no operator's.
pub no-operator : {b : ℕ} → ¬ (b ≡ 0x20) → ((kind : Kind) → ¬ (b ≡ read_byte kind)) →
    ((operator : Binary) → ¬ (b ≡ binary_byte operator)) → ¬ (b ≡ 0x38) → ¬ (b ≡ 0x3A) → ¬ (b ≡ 0x3B) →
    ¬ OperatorByte b
no-operator c r two one i t (OperatorByte.constant e) = c e
no-operator c r two one i t (OperatorByte.read kind e) = r kind e
no-operator c r two one i t (OperatorByte.binary operator e) = two operator e
no-operator c r two one i t (OperatorByte.unary Negate e) = one e
no-operator c r two one i t (OperatorByte.unary Table e) = t e
no-operator c r two one i t (OperatorByte.choose e) = i e

-- The bytes of a read, by its kind.
pub plain-width : (kind : Kind) → IsPlain kind → read_width kind ≡ in_expression 0x21
plain-width Now w = refl
plain-width Last w = refl
plain-width When w = absurd w
plain-width LastWhen w = absurd w
plain-width Current w = absurd w

pub sampled-width : (kind : Kind) → IsSampled kind → read_width kind ≡ in_expression 0x23
sampled-width Now w = absurd w
sampled-width Last w = absurd w
sampled-width When w = refl
sampled-width LastWhen w = refl
sampled-width Current w = refl

-- The test of a factor decides what is said of it.
pub allowed-exactly : (least : ℕ) (kind : Kind) (x : Sampled) → (is_allowed least kind x ≡ true) ↔ Allowed least kind x
allowed-exactly least Now x = (λ e. tt, λ h. refl)
allowed-exactly least Last x = (λ e. tt, λ h. refl)
allowed-exactly least When x = (leb-true least x.factor, le-leb least x.factor)
allowed-exactly least LastWhen x = (leb-true least x.factor, le-leb least x.factor)
allowed-exactly least Current x = (leb-true least x.factor, le-leb least x.factor)

-- A factor that is not allowed is one of the three kinds' and below the least.
pub single-exactly : (least : ℕ) (kind : Kind) (x : Sampled) →
    (is_allowed least kind x ≡ false) ↔ (IsSampled kind × (x.factor < least))
single-exactly least Now x = (λ e. absurd (false≢true (sym e)), λ h. absurd h.0)
single-exactly least Last x = (λ e. absurd (false≢true (sym e)), λ h. absurd h.0)
single-exactly least When x = (λ e. (tt, leb-false least x.factor e), λ h. lt-leb least x.factor h.1)
single-exactly least LastWhen x = (λ e. (tt, leb-false least x.factor e), λ h. lt-leb least x.factor h.1)
single-exactly least Current x = (λ e. (tt, leb-false least x.factor e), λ h. lt-leb least x.factor h.1)

-- What an operator of a byte is.
module _ {b : ℕ} (text : List ℕ) (at : ℕ) where
  pub plain-picked : (kind : Kind) → IsPlain kind → b ≡ read_byte kind →
      operator_of b text at ≡ plain_read kind text at
  unfolding operator_of
  plain-picked Now w e = rw e
  plain-picked Last w e = rw e
  plain-picked When w e = absurd w
  plain-picked LastWhen w e = absurd w
  plain-picked Current w e = absurd w

  pub sampled-picked : (kind : Kind) → IsSampled kind → b ≡ read_byte kind →
      operator_of b text at ≡ sampled_read kind text at
  unfolding operator_of
  sampled-picked Now w e = absurd w
  sampled-picked Last w e = absurd w
  sampled-picked When w e = rw e
  sampled-picked LastWhen w e = rw e
  sampled-picked Current w e = rw e

  pub binary-picked : (operator : Binary) → b ≡ binary_byte operator → operator_of b text at ≡ Operator.Binary operator
  unfolding operator_of
  binary-picked Add e = rw e
  binary-picked Sub e = rw e
  binary-picked Mul e = rw e
  binary-picked Less e = rw e
  binary-picked Same e = rw e
  binary-picked Min e = rw e
  binary-picked Max e = rw e

  pub unary-picked : (operator : Unary) → b ≡ unary_byte operator → operator_of b text at ≡ Operator.Unary operator
  unfolding operator_of
  unary-picked Negate e = rw e
  unary-picked Table e = rw e

-- The test of an operator's byte decides it.
plain_byte : (b : ℕ) → within 0x21 0x22 b ≡ true → OperatorByte b
plain_byte b t = go (eqb b 0x21) refl ((and-eq-true_iff (leb 0x21 b) (leb b 0x22)).0 t)
  where
    go : (u : Bool) → eqb b 0x21 ≡ u → (leb 0x21 b ≡ true) × (leb b 0x22 ≡ true) → OperatorByte b
    go true e h = OperatorByte.read Now (eqb-true b 0x21 e)
    go false e h =
        OperatorByte.read Last (omega (arith, eqb-false b 0x21 e, leb-true 0x21 b h.0, leb-true b 0x22 h.1))

sampled-byte : (b : ℕ) → within 0x23 0x25 b ≡ true → OperatorByte b
sampled-byte b t = go (eqb b 0x23) (eqb b 0x24) refl refl ((and-eq-true_iff (leb 0x23 b) (leb b 0x25)).0 t)
  where
    go : (u v : Bool) → eqb b 0x23 ≡ u → eqb b 0x24 ≡ v → (leb 0x23 b ≡ true) × (leb b 0x25 ≡ true) → OperatorByte b
    go true v e f h = OperatorByte.read When (eqb-true b 0x23 e)
    go false true e f h = OperatorByte.read LastWhen (eqb-true b 0x24 f)
    go false false e f h =
        OperatorByte.read Current
        (omega (arith, eqb-false b 0x23 e, eqb-false b 0x24 f, leb-true 0x23 b h.0, leb-true b 0x25 h.1))

low_byte : (b : ℕ) → 0x30 ≤ b → b ≤ 0x33 → OperatorByte b
low_byte b least most =
    let Q : Option ℕ → Type 0 = λ w. OperatorByte b in
    let x = None in
    picked Q b 0x30 x x (OperatorByte.binary Add) (λ a.
    picked Q b 0x31 x x (OperatorByte.binary Sub) (λ s.
    picked Q b 0x32 x x (OperatorByte.binary Mul) (λ m.
    OperatorByte.binary Less (omega (arith, a, s, m, least, most)))))

high_byte : (b : ℕ) → 0x34 ≤ b → b ≤ 0x36 → OperatorByte b
high_byte b least most =
    let Q : Option ℕ → Type 0 = λ w. OperatorByte b in
    let x = None in
    picked Q b 0x34 x x (OperatorByte.binary Same) (λ s.
    picked Q b 0x35 x x (OperatorByte.binary Min) (λ m.
    OperatorByte.binary Max (omega (arith, s, m, least, most))))

binary-byte : (b : ℕ) → within 0x30 0x36 b ≡ true → OperatorByte b
binary-byte b t =
    let h = (and-eq-true_iff (leb 0x30 b) (leb b 0x36)).0 t in
    let Q : Option ℕ → Type 0 = λ w. OperatorByte b in
    let x = None in
    chosen-all Q (leb b 0x33) x x (λ u. low_byte b (leb-true _ _ h.0) (leb-true _ _ u))
    (λ u. high_byte b (leb-false _ _ u) (leb-true _ _ h.1))

abbrev Listed : ℕ → Option ℕ → Type 0
Listed b w = is_listed w ≡ true → OperatorByte b

pub operator-byte : (b : ℕ) → (is_operator b ≡ true) ↔ OperatorByte b
operator-byte b = (forth, back)
  where
    forth : is_operator b ≡ true → OperatorByte b
    forth =
        picked (Listed b) b 0x20 _ _ (λ e t. OperatorByte.constant e) (λ c.
        chosen-all (Listed b) (within 0x21 0x22 b) _ _ (λ u t. plain_byte b u) (λ p.
        chosen-all (Listed b) (within 0x23 0x25 b) _ _ (λ u t. sampled-byte b u) (λ s.
        chosen-all (Listed b) (within 0x30 0x36 b) _ _ (λ u t. binary-byte b u) (λ m.
        picked (Listed b) b 0x38 _ _ (λ e t. OperatorByte.unary Negate e) (λ n.
        picked (Listed b) b 0x3A _ _ (λ e t. OperatorByte.choose e) (λ i.
        picked (Listed b) b 0x3B _ _ (λ e t. OperatorByte.unary Table e) (λ o t. absurd (false≢true t))))))))

    read_known : (kind : Kind) → b ≡ read_byte kind → is_operator b ≡ true
    read_known Now e = rw e
    read_known Last e = rw e
    read_known When e = rw e
    read_known LastWhen e = rw e
    read_known Current e = rw e

    binary-known : (operator : Binary) → b ≡ binary_byte operator → is_operator b ≡ true
    binary-known Add e = rw e
    binary-known Sub e = rw e
    binary-known Mul e = rw e
    binary-known Less e = rw e
    binary-known Same e = rw e
    binary-known Min e = rw e
    binary-known Max e = rw e

    back : OperatorByte b → is_operator b ≡ true
    back (OperatorByte.constant e) = rw e
    back (OperatorByte.read kind e) = read_known kind e
    back (OperatorByte.binary operator e) = binary-known operator e
    back (OperatorByte.unary Negate e) = rw e
    back (OperatorByte.unary Table e) = rw e
    back (OperatorByte.choose e) = rw e
