use Rattle.model.specs.Rules.Word.{add_word, sub_word, mul_word, less_word, same_word, min_word, max_word}
use Rattle.word.proofs.Locals.{of_two}
use Rattle.word.proofs.binary.Goals as goal

pub returns-in-Add : goal.returns-in-Add
returns-in-Add c =
    let s = c in
    rw c.in-Add.is (of_two add_word s.ranges.a s.ranges.b c.add.type_inv c.add.ensures)

pub returns-in-Sub : goal.returns-in-Sub
returns-in-Sub c =
    let s = c in
    rw c.in-Sub.is (of_two sub_word s.ranges.a s.ranges.b c.sub.type_inv c.sub.ensures)

pub returns-in-Mul : goal.returns-in-Mul
returns-in-Mul c =
    let s = c in
    rw c.in-Mul.is (of_two mul_word s.ranges.a s.ranges.b c.mul.type_inv c.mul.ensures)

pub returns-in-Less : goal.returns-in-Less
returns-in-Less c =
    let s = c in
    rw c.in-Less.is (of_two less_word s.ranges.a s.ranges.b c.less.type_inv c.less.ensures)

pub returns-in-Same : goal.returns-in-Same
returns-in-Same c =
    let s = c in
    rw c.in-Same.is (of_two same_word s.ranges.a s.ranges.b c.same.type_inv c.same.ensures)

pub returns-in-Min : goal.returns-in-Min
returns-in-Min c =
    let s = c in
    rw c.in-Min.is (of_two min_word s.ranges.a s.ranges.b c.least.type_inv c.least.ensures)

pub returns-in-Max : goal.returns-in-Max
returns-in-Max c =
    let s = c in
    rw c.in-Max.is (of_two max_word s.ranges.a s.ranges.b c.greatest.type_inv c.greatest.ensures)
