-- One command of a well-formed code, by its byte: what the check says of it, and what it does. Assumes nothing.
use mathlib.Core.Path.{◌≡◌, refl, ◌∙◌}
use mathlib.Core.Bool.{Bool, true, false, ◌&&◌}
use mathlib.Core.List.{List, ◌∷◌}
use mathlib.Core.Logic.{◌⊎◌, ⊎_elim, inl, inr}
use Prim.Native.Nat.{ℕ, zero, suc, ◌+◌, ◌-◌, ◌≤◌, ◌<◌}
use native.Mathlib.Omega.{arith}
use borrow.Author.Tests.{ltb-true, ltb-false, leb-true, eqb-true, eqb-false, ne_eqb, lt-ltb, le-ltb, le-leb}
use lib.Dec.{leb, ltb, eqb}
use lib.IntN.{ℤ, pos}
use lib.ListN.{length, get_or}
use Rattle.model.specs.Rules.Machine.{
  operator_code,
  code_at,
  whole_code,
  is_served,
  command_ok,
  code_ok_from,
  run_command,
  run_from,
  count_command,
  count_from,
  on_one,
  on_two,
  on_three,
}
use Rattle.model.specs.Rules.Table.{Row, unary_word}
use Rattle.model.specs.Rules.Word.{byte_at, word_at, binary_word, if_word}
use Rattle.word.specs.OfByte.{binary_of}
use Rattle.word.proofs.OfByte.{each-operator}
use Rattle.run_code.specs.Leaf.{leaf_word, leaf_ok, leaf_length}
use Rattle.model.specs.declared.Binary.{Binary}
use Rattle.model.specs.declared.Code.{Code}
use Rattle.model.specs.declared.Code.TheVariants as Code
use Rattle.model.specs.declared.Unary.{Unary}
use Rattle.model.specs.declared.Unary.TheVariants.{Negate, Table}
use Rattle.model.proofs.Basics.Tests.{never, by, both}

-- The command at an offset within a code, by its byte.
module _ (code : List ℕ) (at : ℕ) (here : at < length code) where
  pub inside : ltb at (length code) ≡ true
  inside = lt-ltb at (length code) here

  pub is-push : byte_at code at ≡ 0x50 → code_at code at ≡ whole_code code at 5 (Code.Push (word_at code (at + 1)))
  unfolding code_at
  is-push e = rw (inside, e)

  pub is-load : byte_at code at ≡ 0x51 → code_at code at ≡ whole_code code at 2 (Code.Load (byte_at code (at + 1)))
  unfolding code_at
  is-load e = rw (inside, e)

  pub is-fetch : byte_at code at ≡ 0x52 → code_at code at ≡ whole_code code at 2 (Code.Fetch (byte_at code (at + 1)))
  unfolding code_at
  is-fetch e = rw (inside, e)

  is_store : byte_at code at ≡ 0x5F → code_at code at ≡ whole_code code at 2 (Code.Store (byte_at code (at + 1)))
  unfolding code_at
  is_store e = rw (inside, e)

  is-negate : byte_at code at ≡ 0x38 → code_at code at ≡ Code.Unary Negate
  unfolding code_at operator_code
  is-negate e = rw (inside, e)

  is-table : byte_at code at ≡ 0x3B → code_at code at ≡ Code.Unary Table
  unfolding code_at operator_code
  is-table e = rw (inside, e)

  is-if : byte_at code at ≡ 0x3A → code_at code at ≡ Code.If
  unfolding code_at operator_code
  is-if e = rw (inside, e)

  is-operator : (byte_at code at ≡ 0x50 → ⊥) → (byte_at code at ≡ 0x51 → ⊥) → (byte_at code at ≡ 0x52 → ⊥) →
      (byte_at code at ≡ 0x5F → ⊥)
      → code_at code at ≡ operator_code (byte_at code at)
  unfolding code_at
  is-operator p l f s = rw (inside, ne_eqb _ _ p, ne_eqb _ _ l, ne_eqb _ _ f, ne_eqb _ _ s)

is-end : (code : List ℕ) (at : ℕ) → length code ≤ at → code_at code at ≡ Code.EndsEarly
unfolding code_at
is-end code at e = rw (le-ltb at (length code) e)

-- no operator with two operands has another byte
is-unknown : (b : ℕ) → (b ≡ 0x38 → ⊥) → (b ≡ 0x3A → ⊥) → (b ≡ 0x3B → ⊥) → (b < 0x30) ⊎ (0x36 < b) → operator_code b ≡ Code.Unknown
unfolding operator_code
is-unknown b not-negate not-if not-IsTable o =
    let no : (k : ℕ) → 0x30 ≤ k → k ≤ 0x36 → eqb b k ≡ false = λ k l h.
    ne_eqb b k (λ e. ⊎_elim (λ p. omega arith) (λ p. omega arith) o) in
    rw (
      no 0x30 (omega arith) (omega arith),
      no 0x31 (omega arith) (omega arith),
      no 0x32 (omega arith) (omega arith),
      no 0x33 (omega arith) (omega arith),
      no 0x34 (omega arith) (omega arith),
      no 0x35 (omega arith) (omega arith),
      no 0x36 (omega arith) (omega arith),
      ne_eqb _ _ not-negate,
      ne_eqb _ _ not-if,
      ne_eqb _ _ not-IsTable,
    )

-- .. and each of these bytes is its operator's
pub operator-code : (b : ℕ) → 0x30 ≤ b → b ≤ 0x36 → operator_code b ≡ Code.Binary (binary_of b)
unfolding operator_code binary_of
operator-code = each-operator (λ c. operator_code c ≡ Code.Binary (binary_of c)) refl refl refl refl refl refl refl

-- The code from `at` on, with so many words on the stack and so many commands at most: how it is judged, and what it stores.
module _ (tabled : Bool) (rows : List Row) (code : List ℕ) (n own : ℕ) (state samples : List ℤ) where
  -- The code is well formed from `at` on, and stores `stored`; `ran` commands have run, and in the end it is `total`.
  pub record Goes (stored : ℤ) (total ran at : ℕ) (stack : List ℤ) (height : ℕ) : Type 0 where
    pub left : ℕ
    pub good : code_ok_from left tabled code n own at height ≡ true
    pub runs : run_from left rows code state samples at stack ≡ stored
    pub counts : ran + count_from left code at ≡ total
    pub most : height ≤ 32

  -- the same, by the command at `at`
  pub record Command (stored : ℤ) (total ran at : ℕ) (stack : List ℤ) (height : ℕ) (command : Code) : Type 0 where
    pub fewer : ℕ
    pub judged : command_ok (λ a h. code_ok_from fewer tabled code n own a h) tabled (length code) n own at height command ≡ true
    pub does : run_command (λ a k. run_from fewer rows code state samples a k) rows state samples at stack command ≡ stored
    pub counted : ran + count_command (λ a. count_from fewer code a) at command ≡ total
    pub few : height ≤ 32

  module _ {stored : ℤ} {total ran at height : ℕ} {stack : List ℤ} where
    taken : (left : ℕ) → code_ok_from left tabled code n own at height ≡ true → run_from left rows code state samples at stack ≡
        stored
        → ran + count_from left code at ≡ total → height ≤ 32 → Command stored total ran at stack height (code_at code at)
    unfolding code_ok_from run_from count_from
    taken zero g r k m = never g
    taken (suc left) g r k m = record { fewer = left; judged = g; does = r; counted = k; few = m }

    pub command : Goes stored total ran at stack height → Command stored total ran at stack height (code_at code at)
    command g = taken g.left g.good g.runs g.counts g.most

    seen : {k l : Code} → k ≡ l → Command stored total ran at stack height k → Command stored total ran at stack height l
    seen e c = rw e at c

    -- a command that stands here is whole
    whole : (size : ℕ) (k : Code) → Command stored total ran at stack height (whole_code code at size k) →
        (at + size ≤ length code) × Command stored total ran at stack height k
    unfolding command_ok
    whole size k c =
        by (leb (at + size) (length code))
        (λ t. (leb-true _ _ t, seen {l = k} (rw t refl) c))
        (λ t. never (seen {l = Code.EndsEarly} (rw t refl) c).judged)

    -- the command by its byte
    module _ (here : at < length code) (g : Goes stored total ran at stack height) where
      pub push : byte_at code at ≡ 0x50 → (at + 5 ≤ length code) ×
          Command stored total ran at stack height (Code.Push (word_at code (at + 1)))
      push e = whole 5 _ (seen (is-push code at here e) (command g))

      pub load : byte_at code at ≡ 0x51 → (at + 2 ≤ length code) ×
          Command stored total ran at stack height (Code.Load (byte_at code (at + 1)))
      load e = whole 2 _ (seen (is-load code at here e) (command g))

      pub fetch : byte_at code at ≡ 0x52 → (at + 2 ≤ length code) ×
          Command stored total ran at stack height (Code.Fetch (byte_at code (at + 1)))
      fetch e = whole 2 _ (seen (is-fetch code at here e) (command g))

      pub store : byte_at code at ≡ 0x5F → (at + 2 ≤ length code) ×
          Command stored total ran at stack height (Code.Store (byte_at code (at + 1)))
      store e = whole 2 _ (seen (is_store code at here e) (command g))

      pub negate : byte_at code at ≡ 0x38 → Command stored total ran at stack height (Code.Unary Negate)
      negate e = seen (is-negate code at here e) (command g)

      pub table : byte_at code at ≡ 0x3B → Command stored total ran at stack height (Code.Unary Table)
      table e = seen (is-table code at here e) (command g)

      pub choose : byte_at code at ≡ 0x3A → Command stored total ran at stack height Code.If
      choose e = seen (is-if code at here e) (command g)

    unknown : {X : Type 0} → Command stored total ran at stack height Code.Unknown → X
    unfolding command_ok
    unknown c = never c.judged

    pub combine : at < length code → Goes stored total ran at stack height
        → (byte_at code at ≡ 0x50 → ⊥) → (byte_at code at ≡ 0x51 → ⊥) → (byte_at code at ≡ 0x52 → ⊥) → (byte_at code at ≡ 0x5F → ⊥)
        → (byte_at code at ≡ 0x38 → ⊥) → (byte_at code at ≡ 0x3A → ⊥) → (byte_at code at ≡ 0x3B → ⊥)
        → (0x30 ≤ byte_at code at) × (byte_at code at ≤ 0x36) ×
        Command stored total ran at stack height (operator_code (byte_at code at))
    combine here g p l f s n i t₀ =
        let b = byte_at code at in
        let c = seen (is-operator code at here p l f s) (command g) in (
          by (ltb b 0x30) (λ t. unknown (seen (is-unknown b n i t₀ (inl (ltb-true b 0x30 t))) c)) (λ t. ltb-false b 0x30 t),
          by (ltb 0x36 b) (λ t. unknown (seen (is-unknown b n i t₀ (inr (ltb-true 0x36 b t))) c)) (λ t. ltb-false 0x36 b t),
          c,
        )

    -- the same with another name for the stack
    pub moved : {next : List ℤ} {high : ℕ} → next ≡ stack → high ≡ height → Goes stored total ran at stack height →
        Goes stored total ran at next high
    moved e h g = rw (e, h) g

    -- and for its place
    pub shifted : {place : ℕ} {next : List ℤ} → place ≡ at → next ≡ stack → Goes stored total ran at stack height →
        Goes stored total ran place next height
    shifted p e g = rw (p, e) g

    -- past its end no code is well formed
    pub ended : {X : Type 0} → length code ≤ at → Goes stored total ran at stack height → X
    unfolding command_ok
    ended e g = never (seen (is-end code at e) (command g)).judged

    -- the next command is there
    pub more : Goes stored total ran at stack height → at < length code
    more g = by (ltb at (length code)) (λ t. ltb-true _ _ t) (λ t. ended (ltb-false at (length code) t) g)

    -- what each command does
    pub pushed : {w : ℤ} → Command stored total ran at stack height (Code.Push w) → (height < 32) ×
        Goes stored total (ran + 1) (at + 5) (w ∷ stack) (height + 1)
    unfolding command_ok run_command count_command
    pushed c = let p = both (ltb height 32) _ c.judged in let l = ltb-true height 32 p.0 in
        (l, record { left = c.fewer; good = p.1; runs = c.does; counts = omega (arith, c.counted); most = omega arith })

    pub loaded : {x : ℕ} → Command stored total ran at stack height (Code.Load x)
        → (x < n) × (height < 32) × Goes stored total (ran + 1) (at + 2) (get_or state (x + 1) (pos 0) ∷ stack) (height + 1)
    unfolding command_ok run_command count_command
    loaded {x} c = let p = both (ltb x n && ltb height 32) _ c.judged in let q = both (ltb x n) (ltb height 32) p.0 in
        let l = ltb-true height 32 q.1 in (
          ltb-true x n q.0,
          l,
          record
              { left = c.fewer; good = p.1; runs = c.does; counts = omega (arith, c.counted); most = omega arith },
        )

    pub fetched : {x : ℕ} → Command stored total ran at stack height (Code.Fetch x)
        → (x ≡ own) × (height < 32) × Goes stored total (ran + 1) (at + 2) (get_or samples x (pos 0) ∷ stack) (height + 1)
    unfolding command_ok run_command count_command
    fetched {x} c = let p = both (eqb x own && ltb height 32) _ c.judged in let q = both (eqb x own) (ltb height 32) p.0 in
        let l = ltb-true height 32 q.1 in (
          eqb-true x own q.0,
          l,
          record
              { left = c.fewer; good = p.1; runs = c.does; counts = omega (arith, c.counted); most = omega arith },
        )

    pub last : {x : ℕ} → Command stored total ran at stack height (Code.Store x) → (height ≡ 1) ×
        (get_or stack 0 (pos 0) ≡ stored) × (ran + 1 ≡ total)
    unfolding command_ok run_command count_command
    last {x} c = let p = both (eqb x own && eqb height 1) _ c.judged in
        (eqb-true height 1 (both (eqb x own) (eqb height 1) p.0).1, c.does, c.counted)

    pub negated : (operator : Unary) → Command stored total ran at stack height (Code.Unary operator) →
        (1 ≤ height) × Goes stored total (ran + 1) (at + 1) (on_one (unary_word rows operator) stack) height
    unfolding command_ok run_command count_command
    negated operator c = let p = both (is_served tabled operator && leb 1 height) _ c.judged in (
      leb-true 1 height (both (is_served tabled operator) (leb 1 height) p.0).1,
      record
          { left = c.fewer; good = p.1; runs = c.does; counts = omega (arith, c.counted); most = c.few },
    )

    pub chosen : Command stored total ran at stack height Code.If → (3 ≤ height) ×
        Goes stored total (ran + 1) (at + 1) (on_three if_word stack) (height - 2)
    unfolding command_ok run_command count_command
    chosen c = let p = both (leb 3 height) _ c.judged in let m = c.few in (
      leb-true 3 height p.0,
      record
          { left = c.fewer; good = p.1; runs = c.does; counts = omega (arith, c.counted); most = omega arith },
    )

    pub combined : {operator : Binary} → Command stored total ran at stack height (Code.Binary operator)
        → (2 ≤ height) × Goes stored total (ran + 1) (at + 1) (on_two (binary_word operator) stack) (height - 1)
    unfolding command_ok run_command count_command
    combined c = let p = both (leb 2 height) _ c.judged in let m = c.few in (
      leb-true 2 height p.0,
      record
          { left = c.fewer; good = p.1; runs = c.does; counts = omega (arith, c.counted); most = omega arith },
    )

  -- a leaf: its word, and what follows it
  pub record Leaf (stored : ℤ) (total ran at : ℕ) (stack : List ℤ) (height : ℕ) : Type 0 where
    pub high : height < 32
    pub reads : leaf_ok state samples (code_at code at) ≡ true
    pub next : Goes stored total (ran + 1) (at + leaf_length (byte_at code at)) (leaf_word state samples (code_at code at) ∷ stack)
        (height + 1)

  module _ {stored : ℤ} {total ran at height : ℕ} {stack : List ℤ} (here : at < length code)
      (g : Goes stored total ran at stack height)
      (long : n < length state) (many : n ≤ length samples) (mine : own < n) where
    named : (x : ℕ) → x < n → (ltb (x + 1) (length state) && ltb x (length samples)) ≡ true
    named x l = rw (lt-ltb (x + 1) (length state) (omega arith), lt-ltb x (length samples) (omega arith))

    at_push : byte_at code at ≡ 0x50 → Leaf stored total ran at stack height
    at_push e =
        let c = push here g e in
        let k : code_at code at ≡ Code.Push (word_at code (at + 1)) = is-push code at here e ∙
        rw (le-leb (at + 5) (length code) c.0) in
        let p = pushed c.1 in
        record { high = p.0; reads = rw k; next = rw (e, k) p.1 }

    at_load : byte_at code at ≡ 0x51 → Leaf stored total ran at stack height
    at_load e =
        let c = load here g e in
        let k : code_at code at ≡ Code.Load (byte_at code (at + 1)) = is-load code at here e ∙
        rw (le-leb (at + 2) (length code) c.0) in
        let p = loaded c.1 in
        record {
          high = p.1;
          reads = rw (k, named (byte_at code (at + 1)) (omega (arith, p.0)));
          next =
              rw (e, k) p.2;
        }

    at-fetch : byte_at code at ≡ 0x52 → Leaf stored total ran at stack height
    at-fetch e =
        let c = fetch here g e in
        let k : code_at code at ≡ Code.Fetch (byte_at code (at + 1)) = is-fetch code at here e ∙
        rw (le-leb (at + 2) (length code) c.0) in
        let p = fetched c.1 in
        record {
          high = p.1;
          reads = rw (k, named (byte_at code (at + 1)) (omega (arith, p.0)));
          next =
              rw (e, k) p.2;
        }

    pub leaf : 0x50 ≤ byte_at code at → byte_at code at ≤ 0x52 → Leaf stored total ran at stack height
    leaf l m =
        let b = byte_at code at in
        by (eqb b 0x50) (λ t. at_push (eqb-true b 0x50 t)) (λ f. by (eqb b 0x51) (λ t. at_load (eqb-true b 0x51 t))
        (λ e. at-fetch (omega (arith, eqb-false b 0x50 f, eqb-false b 0x51 e))))

-- the leaf at an offset, by its byte
module _ (code : List ℕ) (at : ℕ) (state samples : List ℤ) (reads : leaf_ok state samples (code_at code at) ≡ true) where
  pub within : at < length code
  within = by (ltb at (length code)) (λ t. ltb-true _ _ t)
      (λ t. never (rw (is-end code at (ltb-false at (length code) t)) at reads))

  cut : (size : ℕ) (k : Code) → code_at code at ≡ whole_code code at size k → (at + size ≤ length code) × (code_at code at ≡ k)
  cut size k e =
      by (leb (at + size) (length code))
      (λ t. (leb-true _ _ t, e ∙ rw t))
      (λ t. let none : code_at code at ≡ Code.EndsEarly = e ∙ rw t in never (rw none at reads))

  pub push-leaf : byte_at code at ≡ 0x50 → (at + 5 ≤ length code) × (code_at code at ≡ Code.Push (word_at code (at + 1)))
  push-leaf e = cut 5 _ (is-push code at within e)

  abbrev x : ℕ
  x = byte_at code (at + 1)

  abbrev Named : Code → Type 0
  Named k = (at + 2 ≤ length code) × (x + 1 < length state) × (x < length samples) × (code_at code at ≡ k)

  there : {k : Code} → (at + 2 ≤ length code) × (code_at code at ≡ k) →
      (ltb (x + 1) (length state) && ltb x (length samples)) ≡ true → Named k
  there c h = let f = both (ltb (x + 1) (length state)) _ h in (c.0, ltb-true _ _ f.0, ltb-true _ _ f.1, c.1)

  pub load-leaf : byte_at code at ≡ 0x51 → Named (Code.Load x)
  load-leaf e = let c = cut 2 _ (is-load code at within e) in there c (rw c.1 at reads)

  pub fetch-leaf : byte_at code at ≡ 0x52 → Named (Code.Fetch x)
  fetch-leaf e = let c = cut 2 _ (is-fetch code at within e) in there c (rw c.1 at reads)

pub leaf-some : (b : ℕ) → 2 ≤ leaf_length b
leaf-some b = by (eqb b 0x50) (λ t. rw t (omega arith)) (λ t. rw t (omega arith))
