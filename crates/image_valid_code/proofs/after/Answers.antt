-- `image_valid_code::after` meets its contract. Assumes nothing.
use mathlib.Core.Path.{◌≡◌, ap, ◌∙◌}
use Prim.Native.Nat.{ℕ, ◌+◌, ◌≤◌, ◌<◌}
use native.Mathlib.Omega.{arith}
use borrow.Author.Tests.{le-leb, lt-leb, lt-ltb, le-ltb}
use lib.ListN.{get_or}
use Rattle.image_valid_code.specs.Shape.{height_after}
use Rattle.model.specs.Rules.Word.{byte_at}
use Rattle.image_valid_code.proofs.after.Goals as goal
use Rattle.image_valid_code.proofs.after.Goals.{After-from_byte, After-from_byte-2, Start}

abbrev start : After-from_byte → Start
start w = (goal.at.After-from_byte w).Start

abbrev byte : After-from_byte → ℕ
byte w = byte_at (start w).args.code.now (start w).args.at

abbrev Small : After-from_byte → Type 0
Small w = (byte w < 256) × (byte_at (start w).args.code.now ((start w).args.at + 1) < 256)

small : (w : After-from_byte) → Small w
small w =
    let b = w.from_byte-byte.ensures in
    let x = w.from_byte-x.ensures in
    (rw b.0 at b.1, rw x.0 at x.1)

-- the entry of a table for the byte
shape : (w : After-from_byte) → w.from_byte.result ≡ byte_at (start w).args.shapes.now (byte w)
shape w = w.from_byte.ensures.0 ∙
    ap (λ (i : ℕ). get_or (start w).args.shapes.now i 0) w.from_byte-byte.ensures.0

abbrev tables : After-from_byte-2 → After-from_byte
tables l = (goal.at.After-from_byte-2 l).After-from_byte

ceiling : (l : After-from_byte-2) → l.from_byte-2.result ≡ byte_at (start (goal.at.After-from_byte-2 l).After-from_byte).args.ceilings.now (byte (goal.at.After-from_byte-2 l).After-from_byte)
ceiling l = l.from_byte-2.ensures.0 ∙
    ap (λ (i : ℕ). get_or (start (goal.at.After-from_byte-2 l).After-from_byte).args.ceilings.now i 0) (tables l).from_byte-byte.ensures.0

over : {a b m x : ℕ} → a ≡ m → b ≡ x → a < b → m < x
over e f h = omega arith

under : {a b m x : ℕ} → a ≡ m → b ≡ x → b ≤ a → x ≤ m
under e f h = omega arith

pub returns-then-next-le-LEVEL : goal.returns-then-next-le-LEVEL
unfolding height_after
returns-then-next-le-LEVEL c =
    let w = (goal.at.returns-then-next-le-LEVEL c).After-from_byte in
    record { words = simp (le-leb _ _ (rw (shape w) at c.if-next-le-LEVEL.true)); within = tt; bytes = small w }

pub returns-then-next : goal.returns-then-next
unfolding height_after
returns-then-next c =
    let w = (goal.at.returns-then-next c).After-from_byte in
    let few = lt-leb _ _ (rw (shape w) at c.if-next-le-LEVEL.false) in
    record { words = simp (few, lt-ltb _ _ (rw (shape w) at c.if-next.true)); within = tt; bytes = small w }

-- the stack's words are in the range
module _ (l : After-from_byte-2) where
  abbrev w : After-from_byte
  w = (goal.at.After-from_byte-2 l).After-from_byte

  enough : 64 < (start w).args.h + byte_at (start w).args.shapes.now (byte w)
  enough = rw (shape w) at l.if-next-le-LEVEL.false

  most : (start w).args.h + byte_at (start w).args.shapes.now (byte w) ≤ 96
  most = rw (shape w) at l.if-next.false

pub returns-then-from_byte-x : goal.returns-then-from_byte-x
unfolding height_after
returns-then-from_byte-x c =
    let l = (goal.at.returns-then-from_byte-x c).After-from_byte-2 in
    record {
      words = simp (
        lt-leb _ _ (enough l),
        le-ltb _ _ (most l),
        lt-ltb _ _ (over (ceiling l) (tables l).from_byte-x.ensures.0 c.if-from_byte-x.true),
      );
      within = tt;
      bytes = small (goal.at.returns-then-from_byte-x c).After-from_byte;
    }

pub returns : goal.returns
unfolding height_after
returns c =
    let l = (goal.at.returns c).After-from_byte-2 in
    record {
      words = rw (shape (goal.at.returns c).After-from_byte) (simp (
        lt-leb _ _ (enough l),
        le-ltb _ _ (most l),
        le-ltb _ _ (under (ceiling l) (tables l).from_byte-x.ensures.0 c.if-from_byte-x.false),
      ));
      within = omega arith;
      bytes = small (goal.at.returns c).After-from_byte;
    }
