-- `join_texts::are_lent` meets its contract. Assumes nothing.
use mathlib.Core.Path.{sym, ◌∙◌}
use native.Mathlib.Omega.{arith}
use Rattle.model.proofs.Joining.Lent.{number-inside}
use Rattle.join_texts.proofs.are_lent.Goals as goal

pub overflow_mul-at : goal.overflow_mul-at
overflow_mul-at c =
    let s = c in
    omega (arith, number-inside s.args.numbers.now s.args.k 3 s.requires (omega arith))

pub overflow_add-second : goal.overflow_add-second
overflow_add-second c =
    let s = c in
    omega (arith, number-inside s.args.numbers.now s.args.k 3 s.requires (omega arith))

pub overflow_add-third : goal.overflow_add-third
overflow_add-third c =
    let s = c in
    omega (arith, number-inside s.args.numbers.now s.args.k 3 s.requires (omega arith))

pub overflow_add-fourth : goal.overflow_add-fourth
overflow_add-fourth c =
    let s = c in
    omega (arith, number-inside s.args.numbers.now s.args.k 3 s.requires (omega arith))

pub offset_bounds-numbers-at : goal.offset_bounds-numbers-at
offset_bounds-numbers-at c =
    let s = c in
    omega (arith, number-inside s.args.numbers.now s.args.k 3 s.requires (omega arith))

pub bounds-numbers-at : goal.bounds-numbers-at
bounds-numbers-at c =
    let s = c in
    omega (arith, number-inside s.args.numbers.now s.args.k 0 s.requires (omega arith))

pub offset_bounds-numbers-second : goal.offset_bounds-numbers-second
offset_bounds-numbers-second c =
    let s = c in
    omega (arith, number-inside s.args.numbers.now s.args.k 3 s.requires (omega arith))

pub bounds-numbers-second : goal.bounds-numbers-second
bounds-numbers-second c =
    let s = c in
    omega (arith, number-inside s.args.numbers.now s.args.k 1 s.requires (omega arith))

pub returns-then-not-is_inside : goal.returns-then-not-is_inside
returns-then-not-is_inside c = sym (rw (sym c.is_inside.ensures ∙ c.if-not-is_inside.true))

pub offset_bounds-numbers-third : goal.offset_bounds-numbers-third
offset_bounds-numbers-third c =
    let s = c in
    omega (arith, number-inside s.args.numbers.now s.args.k 3 s.requires (omega arith))

pub bounds-numbers-third : goal.bounds-numbers-third
bounds-numbers-third c =
    let s = c in
    omega (arith, number-inside s.args.numbers.now s.args.k 2 s.requires (omega arith))

pub offset_bounds-numbers-fourth : goal.offset_bounds-numbers-fourth
offset_bounds-numbers-fourth c =
    let s = c in
    omega (arith, number-inside s.args.numbers.now s.args.k 3 s.requires (omega arith))

pub bounds-numbers-fourth : goal.bounds-numbers-fourth
bounds-numbers-fourth c =
    let s = c in
    omega (arith, number-inside s.args.numbers.now s.args.k 3 s.requires (omega arith))

pub returns : goal.returns
returns c =
    let c3 = c in
    rw (sym c3.is_inside.ensures ∙ c3.if-not-is_inside.false) c.is_inside-2.ensures
