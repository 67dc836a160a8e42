-- One turn of the check of a code, by the byte of the command. Assumes nothing.
use mathlib.Core.Path.{◌≡◌, refl, sym, ◌∙◌, subst}
use mathlib.Core.Bool.{Bool, true, false, cond, ◌&&◌}
use mathlib.Core.List.{List}
use Prim.Native.Nat.{ℕ, zero, suc, ◌+◌, ◌-◌, ◌≤◌, ◌<◌}
use native.Mathlib.Omega.{arith}
use native.Mathlib.Numerals.{unary_clauses}
use borrow.Author.Tests.{eqb-true, leb-true, leb-false, ltb-true, ltb-false, le-leb, lt-leb, lt-ltb, le-ltb}
use lib.Dec.{leb, ltb, eqb}
use lib.ListN.{length}
use Rattle.model.specs.Rules.Machine.{operator_code, whole_code, code_at, command_ok, code_ok_from}
use Rattle.model.specs.Rules.Word.{byte_at, word_at}
use Rattle.model.specs.declared.Code.{Code}
use Rattle.model.proofs.Basics.Tests.{by}
use Rattle.image_valid_code.specs.Shape.{shape_of, ceiling_of, command_bytes, height_after, fetch_of, last_of}

-- the command whose byte is b
abbrev pub command_of : ℕ → List ℕ → ℕ → Code
command_of b code at =
    cond (eqb b 0x50) (whole_code code at 5 (Code.Push (word_at code (at + 1))))
    (cond (eqb b 0x51) (whole_code code at 2 (Code.Load (byte_at code (at + 1))))
    (cond (eqb b 0x52) (whole_code code at 2 (Code.Fetch (byte_at code (at + 1))))
    (cond (eqb b 0x5F) (whole_code code at 2 (Code.Store (byte_at code (at + 1))))
    (operator_code b))))

-- a fact of b, by whether b is k
at_byte : (b k : ℕ) (P : ℕ → Type 0) → P k → (eqb b k ≡ false → P b) → P b
at_byte b k P y n = by (eqb b k) (λ e. subst P (sym (eqb-true b k e)) y) n

-- b is the byte of no command
record Other (b : ℕ) : Type 0 where
  leaves : (eqb b 0x50 ≡ false) × (eqb b 0x51 ≡ false) × (eqb b 0x52 ≡ false) × (eqb b 0x5F ≡ false)
  sums : (eqb b 0x30 ≡ false) × (eqb b 0x31 ≡ false) × (eqb b 0x32 ≡ false)
  tests : (eqb b 0x33 ≡ false) × (eqb b 0x34 ≡ false) × (eqb b 0x35 ≡ false) × (eqb b 0x36 ≡ false)
  others : (eqb b 0x38 ≡ false) × (eqb b 0x3A ≡ false) × (eqb b 0x3B ≡ false)

-- a fact of b, by which command it is
by_byte : (b : ℕ) (P : ℕ → Type 0) → P 0x50 → P 0x51 → P 0x52 → P 0x5F
    → (P 0x30) × (P 0x31) × (P 0x32) × (P 0x33) × (P 0x34) × (P 0x35) × (P 0x36) → P 0x38 → P 0x3A → P 0x3B → (Other b → P b) →
    P b
by_byte b P push load fetch store binary negate choose table other =
    at_byte b 0x50 P push λ e1.
    at_byte b 0x51 P load λ e2.
    at_byte b 0x52 P fetch λ e3.
    at_byte b 0x5F P store λ e4.
    at_byte b 0x30 P binary.0 λ e5.
    at_byte b 0x31 P binary.1 λ e6.
    at_byte b 0x32 P binary.2 λ e7.
    at_byte b 0x33 P binary.3 λ e8.
    at_byte b 0x34 P binary.4 λ e9.
    at_byte b 0x35 P binary.5 λ e10.
    at_byte b 0x36 P binary.6 λ e11.
    at_byte b 0x38 P negate λ e12.
    at_byte b 0x3A P choose λ e13.
    at_byte b 0x3B P table λ e14.
    other (record { leaves = (e1, e2, e3, e4); sums = (e5, e6, e7); tests = (e8, e9, e10, e11); others = (e12, e13, e14) })

-- the table has nothing at a byte of no command
no-shape : {b : ℕ} (rows : Bool) → Other b → shape_of rows b ≡ 0
unfolding shape_of
no-shape rows o =
    simp (
      o.leaves.0,
      o.leaves.1,
      o.leaves.2,
      o.leaves.3,
      o.sums.0,
      o.sums.1,
      o.sums.2,
      o.tests.0,
      o.tests.1,
      o.tests.2,
      o.tests.3,
      o.others.0,
      o.others.1,
      o.others.2,
    )

no-command : {b : ℕ} (code : List ℕ) (at : ℕ) → Other b → command_of b code at ≡ Code.Unknown
unfolding operator_code
no-command code at o =
    simp (
      o.leaves.0,
      o.leaves.1,
      o.leaves.2,
      o.leaves.3,
      o.sums.0,
      o.sums.1,
      o.sums.2,
      o.tests.0,
      o.tests.1,
      o.tests.2,
      o.tests.3,
      o.others.0,
      o.others.1,
      o.others.2,
    )

-- how a command is judged
abbrev pub step : Code → ℕ → Bool → List ℕ → ℕ → ℕ → ℕ → ℕ → Bool
step command left rows code at n own h =
    command_ok (λ a k. code_ok_from left rows code n own a k) rows (length code) n own at h command

-- past its end no code is well formed
pub past : (left : ℕ) (rows : Bool) (code : List ℕ) (at n own h : ℕ) → length code ≤ at → code_ok_from left rows code n own at h ≡
    false
unfolding code_ok_from code_at command_ok
past zero rows code at n own h p = refl
past (suc left) rows code at n own h p = rw (le-ltb at (length code) p)

-- one turn, where two bytes are left, the second x
module _ (left : ℕ) (rows : Bool) (code : List ℕ) (at n own h : ℕ) (two : at + 1 < length code) (most : h ≤ 32) (some : 0 < n)
    (small : byte_at code (at + 1) < 256)
  where
    abbrev pub x : ℕ
    x = byte_at code (at + 1)

    abbrev pub after-of : ℕ → ℕ
    after-of b = height_after (shape_of rows b) (ceiling_of n b) x h

    -- what the check says of the command with byte b, and of those after it: where its shape does not let it go on, it is FETCH
    -- or STORE
    abbrev pub Goes : ℕ → Type 0
    Goes b = step (command_of b code at) left rows code at n own h ≡
        cond (leb (after-of b) 32) (code_ok_from left rows code n own (at + command_bytes b) (after-of b))
        (cond (fetch_of b x own h) (code_ok_from left rows code n own (at + 2) (h + 1))
        (last_of b x own h && eqb (at + 2) (length code)))

    whole : leb (at + 2) (length code) ≡ true
    whole = le-leb (at + 2) (length code) (omega arith)

    byte_small : ltb 255 x ≡ false
    byte_small = le-ltb 255 x (omega arith)

    -- a command that pushes a word, allowed or not
    pushed : (allowed : Bool) (len r : ℕ) → r ≡ cond (ltb 96 (h + 65)) 33 (cond allowed (h + 65 - 64) 33) →
        (allowed && ltb h 32 && code_ok_from left rows code n own (at + len) (h + 1)) ≡
        cond (leb r 32) (code_ok_from left rows code n own (at + len) r) false
    pushed false len r e = by (ltb 96 (h + 65)) (λ t. rw (e, t) refl) (λ t. rw (e, t) refl)
    pushed true len r e =
        by (ltb h 32)
        (λ t. let l = ltb-true h 32 t in
        let q : r ≡ h + 1 = e ∙ rw (le-ltb 96 (h + 65) (omega (arith, l))) (omega arith) in
        rw (q, t, le-leb (h + 1) 32 (omega (arith, l))) refl)
        (λ t. let l = ltb-false h 32 t in
        let q : r ≡ 33 = e ∙ rw (lt-ltb 96 (h + 65) (omega (arith, l))) refl in
        rw (q, t) refl)

    -- an operator with k operands
    operated : (k shape r m : ℕ) → shape + k ≡ 65 → m ≡ h + 1 - k → 1 ≤ k →
        r ≡ cond (leb (h + shape) 64) 33 (cond (ltb 96 (h + shape)) 33 (h + shape - 64))
        → (leb k h && code_ok_from left rows code n own (at + 1) m) ≡
        cond (leb r 32) (code_ok_from left rows code n own (at + 1) r) false
    operated k shape r m s o lo e =
        by (leb k h)
        (λ t. let l = leb-true k h t in
        let q : r ≡ m = e ∙
        rw (lt-leb (h + shape) 64 (omega (arith, l, s)), le-ltb 96 (h + shape) (omega (arith, l, s, lo, most)))
        (omega (arith, l, s, o)) in
        rw (q, t, le-leb m 32 (omega (arith, l, o, lo, most))) refl)
        (λ t. let l = leb-false k h t in
        let q : r ≡ 33 = e ∙ rw (le-leb (h + shape) 64 (omega (arith, l, s))) refl in
        rw (q, t) refl)

    none-low : leb (h + 65) 64 ≡ false
    none-low = lt-leb (h + 65) 64 (omega arith)

    push_goes : Goes 0x50
    unfolding shape_of ceiling_of command_bytes height_after fetch_of last_of command_ok
    push_goes =
        by (leb (at + 5) (length code))
        (λ e. rw e (pushed true 5 (after-of 0x50) (rw (none-low, byte_small) refl)))
        (λ e. rw (e, past left rows code (at + 5) n own (after-of 0x50) (omega (arith, leb-false (at + 5) (length code) e)))
        (by (leb (after-of 0x50) 32) (λ t. rw t refl) (λ t. rw t refl)))

    load_goes : Goes 0x51
    unfolding shape_of ceiling_of command_bytes height_after fetch_of last_of command_ok
    load_goes =
        rw whole
        (pushed (ltb x n) 2 (after-of 0x51)
        (by (ltb x n)
        (λ e. rw (e, none-low, le-ltb (n - 1) x (omega (arith, some, ltb-true x n e))) refl)
        (λ e. rw (e, none-low, lt-ltb (n - 1) x (omega (arith, some, ltb-false x n e))) refl)))

    fetch_goes : Goes 0x52
    unfolding shape_of ceiling_of command_bytes height_after fetch_of last_of command_ok
    fetch_goes = rw (whole, le-leb (h + 0) 64 (omega arith)) (by (eqb x own && ltb h 32) (λ e. rw e refl) (λ e. rw e refl))

    store_goes : Goes 0x5F
    unfolding shape_of ceiling_of command_bytes height_after fetch_of last_of command_ok
    store_goes = rw (whole, le-leb (h + 0) 64 (omega arith)) refl

    op-30 : Goes 0x30
    unfolding shape_of ceiling_of command_bytes height_after fetch_of last_of operator_code command_ok
    op-30 = operated 2 63 (after-of 0x30) (h - 1) refl (omega arith) (omega arith) (rw byte_small refl)

    op-31 : Goes 0x31
    unfolding shape_of ceiling_of command_bytes height_after fetch_of last_of operator_code command_ok
    op-31 = operated 2 63 (after-of 0x31) (h - 1) refl (omega arith) (omega arith) (rw byte_small refl)

    op-32 : Goes 0x32
    unfolding shape_of ceiling_of command_bytes height_after fetch_of last_of operator_code command_ok
    op-32 = operated 2 63 (after-of 0x32) (h - 1) refl (omega arith) (omega arith) (rw byte_small refl)

    op-33 : Goes 0x33
    unfolding shape_of ceiling_of command_bytes height_after fetch_of last_of operator_code command_ok
    op-33 = operated 2 63 (after-of 0x33) (h - 1) refl (omega arith) (omega arith) (rw byte_small refl)

    op-34 : Goes 0x34
    unfolding shape_of ceiling_of command_bytes height_after fetch_of last_of operator_code command_ok
    op-34 = operated 2 63 (after-of 0x34) (h - 1) refl (omega arith) (omega arith) (rw byte_small refl)

    op-35 : Goes 0x35
    unfolding shape_of ceiling_of command_bytes height_after fetch_of last_of operator_code command_ok
    op-35 = operated 2 63 (after-of 0x35) (h - 1) refl (omega arith) (omega arith) (rw byte_small refl)

    op-36 : Goes 0x36
    unfolding shape_of ceiling_of command_bytes height_after fetch_of last_of operator_code command_ok
    op-36 = operated 2 63 (after-of 0x36) (h - 1) refl (omega arith) (omega arith) (rw byte_small refl)

    op-38 : Goes 0x38
    unfolding shape_of ceiling_of command_bytes height_after fetch_of last_of operator_code command_ok
    op-38 = operated 1 64 (after-of 0x38) h refl (omega arith) (omega arith) (rw byte_small refl)

    op-3A : Goes 0x3A
    unfolding shape_of ceiling_of command_bytes height_after fetch_of last_of operator_code command_ok
    op-3A = operated 3 62 (after-of 0x3A) (h - 2) refl (omega arith) (omega arith) (rw byte_small refl)

    -- no command
    none-goes : (b : ℕ) → Other b → Goes b
    unfolding height_after fetch_of last_of command_ok
    none-goes b o = rw (no-command code at o, no-shape rows o, le-leb (h + 0) 64 (omega arith), o.leaves.2, o.leaves.3) refl

-- TABLE, which needs rows
table-goes : (left : ℕ) (rows : Bool) (code : List ℕ) (at n own h : ℕ) (two : at + 1 < length code) (most : h ≤ 32)
    (some : 0 < n) (small : byte_at code (at + 1) < 256) → Goes left rows code at n own h two most some small 0x3B
unfolding shape_of ceiling_of command_bytes height_after fetch_of last_of operator_code command_ok
table-goes left true code at n own h two most some small =
    operated left true code at n own h two most some small 1 64 (after-of left true code at n own h two most some small 0x3B) h
    refl (omega arith) (omega arith) (rw (byte_small left true code at n own h two most some small) refl)
table-goes left false code at n own h two most some small = rw (le-leb (h + 0) 64 (omega arith)) refl

module _ (left : ℕ) (rows : Bool) (code : List ℕ) (at n own h : ℕ) (two : at + 1 < length code) (most : h ≤ 32) (some : 0 < n)
    (small : byte_at code (at + 1) < 256)
  where
    pub goes : (b : ℕ) → Goes left rows code at n own h two most some small b
    goes b =
        by_byte b (Goes left rows code at n own h two most some small) (push_goes left rows code at n own h two most some small)
        (load_goes left rows code at n own h two most some small) (fetch_goes left rows code at n own h two most some small)
        (store_goes left rows code at n own h two most some small) (
          op-30 left rows code at n own h two most some small,
          op-31 left rows code at n own h two most some small,
          op-32 left rows code at n own h two most some small,
          op-33 left rows code at n own h two most some small,
          op-34 left rows code at n own h two most some small,
          op-35 left rows code at n own h two most some small,
          op-36 left rows code at n own h two most some small,
        )
        (op-38 left rows code at n own h two most some small) (op-3A left rows code at n own h two most some small)
        (table-goes left rows code at n own h two most some small) (none-goes left rows code at n own h two most some small b)

-- the check of a code from `at` on, by the byte there
pub turn : (left : ℕ) (rows : Bool) (code : List ℕ) (at n own h : ℕ) → at < length code → 0 < left
    → code_ok_from left rows code n own at h ≡ step (command_of (byte_at code at) code at) (left - 1) rows code at n own h
unfolding code_ok_from code_at
turn zero rows code at n own h p q = let z : ⊥ = omega (arith, q) in absurd z
turn (suc left) rows code at n own h p q = simp (lt-ltb at (length code) p, unary_clauses)

-- with fewer than two bytes left no code is well formed
module _ (left : ℕ) (rows : Bool) (code : List ℕ) (at n own h : ℕ) (few : length code ≤ at + 1) where
  Fails : ℕ → Type 0
  Fails b = step (command_of b code at) left rows code at n own h ≡ false

  cut : (m : ℕ) → 2 ≤ m → leb (at + m) (length code) ≡ false
  cut m p = lt-leb (at + m) (length code) (omega (arith, few, p))

  ends : (k m : ℕ) → (leb k h && code_ok_from left rows code n own (at + 1) m) ≡ false
  ends k m = by (leb k h) (λ t. rw t (past left rows code (at + 1) n own m few)) (λ t. rw t refl)

  table-fails : (r : Bool) → (r && leb 1 h && code_ok_from left rows code n own (at + 1) h) ≡ false
  table-fails true = ends 1 h
  table-fails false = refl

  fails : (b : ℕ) → step (command_of b code at) left rows code at n own h ≡ false
  unfolding Fails operator_code command_ok
  fails b =
      by_byte b Fails (rw (cut 5 (omega arith)) refl) (rw (cut 2 (omega arith)) refl) (rw (cut 2 (omega arith)) refl)
      (rw (cut 2 (omega arith)) refl)
      (ends 2 (h - 1), ends 2 (h - 1), ends 2 (h - 1), ends 2 (h - 1), ends 2 (h - 1), ends 2 (h - 1), ends 2 (h - 1)) (ends 1 h)
      (ends 3 (h - 2)) (table-fails rows) (λ o. rw (no-command code at o))

pub short : (left : ℕ) (rows : Bool) (code : List ℕ) (at n own h : ℕ) → length code ≤ at + 1 → code_ok_from left rows code n own
    at h ≡ false
unfolding code_ok_from
short zero rows code at n own h p = refl
short (suc left) rows code at n own h p =
    by (leb (length code) at)
    (λ t. past (suc left) rows code at n own h (leb-true _ _ t))
    (λ t. turn (suc left) rows code at n own h (leb-false _ _ t) (omega arith) ∙
    fails (suc left - 1) rows code at n own h p (byte_at code at))

pub length_some : (b : ℕ) → (1 ≤ command_bytes b) × (command_bytes b ≤ 5)
unfolding command_bytes
length_some b =
    by (eqb b 0x50) (λ e. rw e (omega arith, omega arith))
    (λ e. by (ltb b 0x50) (λ t. rw (e, t) (omega arith, omega arith)) (λ t. rw (e, t) (omega arith, omega arith)))
