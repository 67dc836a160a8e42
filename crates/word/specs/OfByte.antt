-- Operators with two operands by their byte.
use Rattle.std.specs.Prelude.{ℕ, cond, eqb}
use Rattle.model.specs.declared.Binary.{Binary}

-- The operator of a byte from 30 to 36, in a text and in code.
unfoldable pub binary_of : ℕ → Binary
binary_of b =
    cond (eqb b 0x30) Binary.Add
    (cond (eqb b 0x31) Binary.Sub
    (cond (eqb b 0x32) Binary.Mul
    (cond (eqb b 0x33) Binary.Less
    (cond (eqb b 0x34) Binary.Same (cond (eqb b 0x35) Binary.Min Binary.Max)))))
