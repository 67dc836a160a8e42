-- `image_code::put_push` meets its contract. Assumes nothing.
use native.Mathlib.Omega.{arith}
use native.Mathlib.Numerals.{add-one}
use mathlib.Core.Path.{refl, ap, ◌∙◌}
use lib.ListN.{length, set, length-set}
use lib.Seq.{sets, length-sets}
use Rattle.image_code.proofs.Operands.{word-length}
use Rattle.model.specs.Rules.Word.{word_bytes}
use Prim.Native.Nat.{ℕ, ◌+◌}
use lib.IntN.{ℤ}
use mir.Facts.{to_z-of_z}
use Rattle.image_code.proofs.put_push.Goals as goal

pub shape_of-out : goal.shape_of-out
shape_of-out c = ap length c.put_word.ensures ∙ simp (length-sets, length-set)

pub returns : goal.returns
returns c =
    let c3 = c in
    let c6 = c in
    let a = c6.args in
    record {
      goes = refl;
      ends = omega (arith, word-length a.w);
      holds =
          c3.put_word.ensures ∙
          ap (λ (z : ℤ). sets (set a.out.now a.to 0x50) (a.to + 1) (word_bytes z)) (to_z-of_z c6.ranges.w) ∙
          ap (λ (j : ℕ). sets (set a.out.now a.to 0x50) j (word_bytes a.w)) (add-one a.to);
    }

pub put_word-requires : goal.put_word-requires
put_word-requires c = simp length-set (omega arith)
