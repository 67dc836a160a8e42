-- The operators have the paper's bytes, and give what the paper says. Assumes nothing.
use Prim.Native.Nat.{ℕ, zero, suc, ◌<◌}
use mathlib.Core.Bool.{Bool, true, false, cond, false≢true, true≢false}
use mathlib.Core.List.{List, [], ◌∷◌}
use mathlib.Core.Logic.{◌↔◌, ◌⊎◌, inl, inr}
use mathlib.Core.Path.{◌≡◌, refl, sym, ap, subst, ◌∙◌}
use native.Mathlib.Omega.{arith}
use borrow.Author.Tests.{leb-true, ltb-true, le-leb}
use lib.IntN.{ℤ, pos, negsuc, neg_ℤ, ◌+ℤ◌, ◌-ℤ◌, ◌*ℤ◌}
use lib.ListN.{length}
use lib.Signed.{lt_z, ◌≤ℤ◌, ≤ℤ_refl}
use Rattle.model.specs.Rules.Table.{Row, contains, table_word, row_at, unary_word}
use Rattle.model.specs.Rules.Word.{
  bit_word,
  eq_z,
  add_word,
  sub_word,
  mul_word,
  neg_word,
  less_word,
  same_word,
  min_word,
  max_word,
  if_word,
  binary_word,
}
use Rattle.model.specs.Says.Rows.{Lies}
use Rattle.model.specs.declared.Binary.{Binary}
use Rattle.model.specs.declared.Binary.TheVariants.{Add, Sub, Mul, Less, Same, Min, Max}
use Rattle.model.specs.declared.Unary.{Unary}
use Rattle.model.specs.declared.Unary.TheVariants.{Negate, Table}
use Rattle.model.proofs.Basics.Order.{le-true, true-le, lt-true, true-lt, below_fails}
use Rattle.model.proofs.Basics.Outcomes.{not-true-false}
use Rattle.model.proofs.Rows.Levels.{eq_z-true, true-eq_z, lies-contains, contains-lies}
use Rattle.model.proofs.Rows.Rule.{table-first, table_none}
use Rattle.theorems_images.specs.Operators.{
  OperatorBytes,
  Tests,
  Extreme,
  BinaryGives,
  TableGives,
  UnaryGives,
  IfGives,
  OperatorsGive,
}
use Rattle.theorems_images.proofs.Nearest.{nearest-word}

pub operators-listed : OperatorBytes
operators-listed =
    record {
      add = refl;
      sub = refl;
      mul = refl;
      less = refl;
      same = refl;
      min = refl;
      max = refl;
      neg = refl;
      table = refl;
    }

-- A test as a Bool.
tested : (P : Type 0) (t : Bool) → (t ≡ true) ↔ P → (w : ℤ) → (bit_word t ≡ w) ↔ Tests P w
tested P true d w = (λ e. subst (Tests P) e (Tests.holds (d.0 refl)), back)
  where
    back : {w : ℤ} → Tests P w → pos 1 ≡ w
    back (Tests.holds p) = refl
    back (Tests.fails n) = absurd (n (d.0 refl))
tested P false d w = (λ e. subst (Tests P) e (Tests.fails (λ p. false≢true (d.1 p))), back)
  where
    back : {w : ℤ} → Tests P w → pos 0 ≡ w
    back (Tests.holds p) = absurd (false≢true (d.1 p))
    back (Tests.fails n) = refl

-- One of two, chosen by a test of their order.
module _ (R : ℤ → ℤ → Type 0) (itself : (a : ℤ) → R a a) (same : (a b : ℤ) → R a b → R b a → a ≡ b) where
  chosen-one : (t : Bool) (a b : ℤ) → (t ≡ true → R a b) → (t ≡ false → R b a) → (w : ℤ) → (cond t a b ≡ w) ↔ Extreme R a b w
  chosen-one true a b f g w = (
    λ e. subst (Extreme R a b) e (record { one = inl refl; first = itself a; second = f refl }),
    λ x. back x.one x.first x.second,
  )
    where
      back : (w ≡ a) ⊎ (w ≡ b) → R w a → R w b → a ≡ w
      back (inl e) r s = sym e
      back (inr e) r s = same a w (subst (R a) (sym e) (f refl)) r
  chosen-one false a b f g w = (
    λ e. subst (Extreme R a b) e (record { one = inr refl; first = g refl; second = itself b }),
    λ x. back x.one x.first x.second,
  )
    where
      back : (w ≡ a) ⊎ (w ≡ b) → R w a → R w b → b ≡ w
      back (inl e) r s = same b w (subst (R b) (sym e) (g refl)) s
      back (inr e) r s = sym e

exchanged : {R : ℤ → ℤ → Type 0} {a b w : ℤ} → Extreme R a b w → Extreme R b a w
exchanged {a = a} {b = b} {w = w} x = record { one = go x.one; first = x.second; second = x.first }
  where
    go : (w ≡ a) ⊎ (w ≡ b) → (w ≡ b) ⊎ (w ≡ a)
    go (inl e) = inr e
    go (inr e) = inl e

le_same : (a b : ℤ) → a ≤ℤ b → b ≤ℤ a → a ≡ b
le_same (pos a) (pos b) h k = ap pos (omega (arith, leb-true a b (le-true h), leb-true b a (le-true k)))
le_same (pos a) (negsuc b) h k = absurd h.le
le_same (negsuc a) (pos b) h k = absurd k.le
le_same (negsuc a) (negsuc b) h k = ap negsuc (omega (arith, leb-true b a (le-true h), leb-true a b (le-true k)))

lt-le : (a b : ℤ) → lt_z a b ≡ true → a ≤ℤ b
lt-le (pos a) (pos b) h = true-le (le-leb a b (omega (arith, ltb-true a b h)))
lt-le (pos a) (negsuc b) h = absurd (false≢true h)
lt-le (negsuc a) (pos b) h = true-le refl
lt-le (negsuc a) (negsuc b) h = true-le (le-leb b a (omega (arith, ltb-true b a h)))

binary-gives : (operator : Binary) (a b w : ℤ) → (binary_word operator a b ≡ w) ↔ BinaryGives operator a b w
unfolding add_word sub_word mul_word less_word same_word min_word max_word
binary-gives Add a b w = nearest-word (a +ℤ b) w
binary-gives Sub a b w = nearest-word (a -ℤ b) w
binary-gives Mul a b w = nearest-word (a *ℤ b) w
binary-gives Less a b w = tested _ (lt_z a b) (true-lt, lt-true) w
binary-gives Same a b w = tested _ (eq_z a b) (eq_z-true a b, true-eq_z a b) w
binary-gives Min a b w =
    chosen-one (λ v u. v ≤ℤ u) ≤ℤ_refl le_same (lt_z a b) a b (lt-le a b) (λ e. true-le (below_fails a b e)) w
binary-gives Max a b w =
    let c = chosen-one (λ v u. u ≤ℤ v) ≤ℤ_refl (λ v u h k. le_same v u k h) (lt_z a b) b a (lt-le a b)
    (λ e. true-le (below_fails a b e)) w in
    (λ e. exchanged (c.0 e), λ x. c.1 (exchanged x))

-- The first row that contains the operand, or none.
deeper : {row : Row} {rows : List Row} {a w : ℤ} → contains row a ≡ false → TableGives rows a w → TableGives (row ∷ rows) a w
deeper {row} {rows} {a} out (TableGives.row {n = n} l first) =
    TableGives.row {n = suc n}
    (record { inside = omega (arith, l.inside); from_low = l.from_low; to_high = l.to_high }) earlier
  where
    earlier : (m : ℕ) → m < suc n → ¬ Lies (row ∷ rows) a m
    earlier zero lt k = true≢false (sym (lies-contains k) ∙ out)
    earlier (suc m) lt k =
        first m (omega arith) (record { inside = omega (arith, k.inside); from_low = k.from_low; to_high = k.to_high })
deeper {row} {rows} {a} out (TableGives.none nowhere) = TableGives.none none
  where
    none : (n : ℕ) → ¬ Lies (row ∷ rows) a n
    none zero k = true≢false (sym (lies-contains k) ∙ out)
    none (suc n) k = nowhere n (record { inside = omega (arith, k.inside); from_low = k.from_low; to_high = k.to_high })

looked-up : (rows : List Row) (a : ℤ) → TableGives rows a (table_word rows a)
unfolding table_word
looked-up [] a = TableGives.none (λ n l. omega (arith, l.inside))
looked-up (row ∷ rows) a = go (contains row a) refl (looked-up rows a)
  where
    go : (t : Bool) → contains row a ≡ t → TableGives rows a (table_word rows a) →
        TableGives (row ∷ rows) a (cond t row.result (table_word rows a))
    go true e rest = TableGives.row {n = 0} (contains-lies (row ∷ rows) a 0 (omega arith) e) (λ m lt. absurd (omega arith))
    go false e rest = deeper e rest

looks-up : {rows : List Row} {a w : ℤ} → TableGives rows a w → table_word rows a ≡ w
looks-up {rows} {a} (TableGives.row {n = n} l first) =
    table-first rows a n l.inside (λ k lt. not_in k (omega (arith, l.inside)) (first k lt)) (lies-contains l)
  where
    not_in : (k : ℕ) → k < length rows → ¬ Lies rows a k → contains (row_at rows k) a ≡ false
    not_in k inside out = not-true-false _ (λ e. out (contains-lies rows a k inside e))
looks-up {rows} {a} (TableGives.none nowhere) =
    table_none rows a (λ k inside. not-true-false _ (λ e. nowhere k (contains-lies rows a k inside e)))

unary-gives : (rows : List Row) (operator : Unary) (a w : ℤ) → (unary_word rows operator a ≡ w) ↔ UnaryGives rows operator a w
unfolding neg_word
unary-gives rows Negate a w = nearest-word (neg_ℤ a) w
unary-gives rows Table a w = (λ e. subst (TableGives rows a) e (looked-up rows a), looks-up)

if-gives : (c a b w : ℤ) → (if_word c a b ≡ w) ↔ IfGives c a b w
unfolding if_word
if-gives c a b w = (λ e. subst (IfGives c a b) e (given (eq_z c (pos 0)) refl), takes)
  where
    given : (t : Bool) → eq_z c (pos 0) ≡ t → IfGives c a b (cond t b a)
    given true e = IfGives.third (eq_z-true c (pos 0) e)
    given false e = IfGives.second (λ z. true≢false (sym (true-eq_z c (pos 0) z) ∙ e))

    takes : {w : ℤ} → IfGives c a b w → cond (eq_z c (pos 0)) b a ≡ w
    takes (IfGives.second n) = rw (not-true-false (eq_z c (pos 0)) (λ e. n (eq_z-true c (pos 0) e)))
    takes (IfGives.third z) = rw (true-eq_z c (pos 0) z)

pub operators-give : OperatorsGive
operators-give = record { binary = binary-gives; unary = unary-gives; choose = if-gives }
