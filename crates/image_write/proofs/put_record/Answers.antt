-- `image_write::put_record` meets its contract. Assumes nothing.
use Prim.Native.Nat.{◌+◌}
use mathlib.Core.Path.{ap, ◌∙◌}
use native.Mathlib.Omega.{arith}
use lib.IntN.{ℤ}
use lib.Seq.{sets}
use mir.Facts.{to_z-of_z}
use Rattle.model.specs.Rules.Word.{word_at, word_bytes}
use Rattle.image_code.proofs.Operands.{word-length}
use Rattle.model.specs.Rules.Writing.{Wrote}
use Rattle.model.proofs.Basics.Left.{after}
use borrow.Author.Rules.{rules}
use mir.Syntax.{w32}
use Rattle.image_write.proofs.put_record.Goals as goal

pub returns : goal.returns
returns c =
    let c6 = c in
    let c8 = c in
    let c11 = c in
    let a = c11.args in
    let w = word_at a.text.now (a.place + 2) in
    let p : Wrote a.out.now a.to (word_bytes w) c6.put_word.new.out (a.to + 4) =
    record {
      holds = c6.put_word.ensures ∙
          ap (λ (z : ℤ). sets a.out.now a.to (word_bytes z)) (to_z-of_z {w = w32} (search rules) ∙ c8.word_at-initial.ensures);
      ends = omega (arith, word-length w);
    } in
    after p c.put_offset.ensures
