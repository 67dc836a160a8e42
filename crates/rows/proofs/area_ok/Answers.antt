-- `rows::area_ok` meets its contract. Assumes nothing.
use mathlib.Core.Path.{◌≡◌, sym, ap, ◌∙◌}
use mathlib.Core.Bool.{true, false}
use mathlib.Core.List.{List}
use Prim.Native.Nat.{ℕ, ◌+◌, ◌*◌, ◌≤◌, ◌<◌}
use native.Mathlib.Omega.{arith}
use borrow.Author.Rules.{rules}
use borrow.Author.Tests.{le-leb, lt-leb, eq-eqb, ne_eqb}
use lib.ListN.{length}
use Rattle.model.specs.Rules.Word.{byte_at}
use Rattle.model.specs.Rules.Cover.{chained, area_ok}
use Rattle.model.specs.Rules.Table.{rows_from, area_rows}
use Rattle.rows.proofs.area_ok.Goals as goal

-- the definition, test by test
module _ (image : List ℕ) (at : ℕ) where
  outside : length image ≤ at → area_ok image at ≡ false
  unfolding area_ok
  outside h = rw (lt-leb (at + 1) (length image) (omega arith))

  module _ (h : at < length image) where
    many : 32 < byte_at image at → area_ok image at ≡ false
    unfolding area_ok
    many k = rw (le-leb (at + 1) (length image) (omega arith), lt-leb (byte_at image at) 32 k)

    module _ (k : byte_at image at ≤ 32) where
      short : length image < at + 1 + 12 * byte_at image at → area_ok image at ≡ false
      unfolding area_ok
      short l =
          rw (
            le-leb (at + 1) (length image) (omega arith),
            le-leb (byte_at image at) 32 k,
            lt-leb
                (at + 1 + 12 * byte_at image at) (length image) l,
          )

      module _ (l : at + 1 + 12 * byte_at image at ≤ length image) where
        none : byte_at image at ≡ 0 → area_ok image at ≡ true
        unfolding area_ok
        none e =
            rw (
              le-leb (at + 1) (length image) (omega arith),
              le-leb (byte_at image at) 32 k,
              le-leb
                  (at + 1 + 12 * byte_at image at) (length image) l,
              eq-eqb (byte_at image at) 0 e,
            )

        some : (byte_at image at ≡ 0 → ⊥) → area_ok image at ≡ chained (rows_from image (at + 1) (byte_at image at))
        unfolding area_ok area_rows
        some e =
            rw (
              le-leb (at + 1) (length image) (omega arith),
              le-leb (byte_at image at) 32 k,
              le-leb
                  (at + 1 + 12 * byte_at image at) (length image) l,
              ne_eqb (byte_at image at) 0 e,
            )

pub returns-then-image-at : goal.returns-then-image-at
returns-then-image-at c = sym (outside _ _ (omega arith))

pub bounds-image-at : goal.bounds-image-at
bounds-image-at c = search rules

pub from_byte-count-requires : goal.from_byte-count-requires
from_byte-count-requires c = search rules

pub returns-then-count-gt32 : goal.returns-then-count-gt32
returns-then-count-gt32 c =
    let w = c in
    let s = c in
    sym (many s.args.image.now s.args.at (omega (arith, w.if-image-at.false)) (omega (arith, w.from_byte-count.ensures)))

pub overflow_add-start : goal.overflow_add-start
overflow_add-start c = search rules

pub overflow_sub-image : goal.overflow_sub-image
overflow_sub-image c = search rules

pub overflow_mul-count : goal.overflow_mul-count
overflow_mul-count c = search rules

pub returns-then-image-start : goal.returns-then-image-start
returns-then-image-start c =
    let w = c in
    let s = c in
    let h = w.if-image-at.false in
    sym (short s.args.image.now s.args.at (omega arith) (omega (arith, w.from_byte-count.ensures))
    (omega (arith, w.from_byte-count.ensures)))

pub returns-then-count-eq0 : goal.returns-then-count-eq0
returns-then-count-eq0 c =
    let w = c in
    let s = c in
    let h = w.if-image-at.false in
    sym (none s.args.image.now s.args.at (omega arith) (omega (arith, w.from_byte-count.ensures))
    (omega (arith, w.from_byte-count.ensures))
    (omega (arith, w.from_byte-count.ensures)))

pub chain_ok-requires : goal.chain_ok-requires
chain_ok-requires c = search rules

pub returns : goal.returns
returns c =
    let e = c in
    let w = c in
    let s = c in
    let h = w.if-image-at.false in
    c.chain_ok.ensures ∙ ap (λ n. chained (rows_from s.args.image.now (s.args.at + 1) n)) w.from_byte-count.ensures.0
    ∙ sym (some s.args.image.now s.args.at (omega arith) (omega (arith, w.from_byte-count.ensures))
    (omega (arith, w.from_byte-count.ensures))
    (λ q. omega (arith, w.from_byte-count.ensures, e.if-count-eq0.false)))
