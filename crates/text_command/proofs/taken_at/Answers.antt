-- `text_command::taken_at` meets its contract. Assumes nothing.
use Prim.Native.Nat.{ℕ}
use mathlib.Core.List.{List}
use native.Mathlib.Omega.{arith}
use borrow.Author.Rules.{rules}
use Rattle.text_command.specs.Operator.{ReadStands}
use Rattle.text_command.proofs.Shape.{Shape, read-shape, place_inside, read_is}
use Rattle.text_command.proofs.taken_at.Goals as goal

module _ {text : List ℕ} {at : ℕ} (s : ReadStands text at) where
  shape : Shape text at s.kind s.operands
  shape = read-shape text at s.kind s.operands s.is

pub bounds-text-at : goal.bounds-text-at
bounds-text-at c = omega (arith, (shape c.requires).inside)

pub overflow_add-signal : goal.overflow_add-signal
overflow_add-signal c = omega (arith, (shape c.requires).inside)

pub bounds-text-at-2 : goal.bounds-text-at-2
bounds-text-at-2 c = omega (arith, (shape c.requires).inside)

pub overflow_add-place : goal.overflow_add-place
overflow_add-place c =
    let c5 = c in
    omega (arith, place_inside _ _ (shape c5.requires), c.index_place.ensures)

pub bounds-text-place : goal.bounds-text-place
bounds-text-place c =
    let c6 = c in
    omega (arith, place_inside _ _ (shape c6.requires), c.index_place.ensures)

pub overflow_add-place-2 : goal.overflow_add-place-2
overflow_add-place-2 c =
    let c3 = c in
    let c8 = c in
    omega (arith, place_inside _ _ (shape c8.requires), c3.index_place.ensures)

pub bounds-text-place-2 : goal.bounds-text-place-2
bounds-text-place-2 c =
    let c4 = c in
    let c9 = c in
    omega (arith, place_inside _ _ (shape c9.requires), c4.index_place.ensures)

pub returns : goal.returns
returns c =
    let c3 = c in
    let c6 = c in
    record {
      is = λ kind x e.
          let h = read-shape _ _ kind x e in
          rw (
            c.select-factor.ensures,
            c.index_of-index.ensures,
            c3.select.ensures,
            c.index_place.ensures,
            c6.kind_of-kind.ensures,
            h.kind-is,
            read_is _ _ h,
          );
    }
