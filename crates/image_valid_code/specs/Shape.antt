-- What the check of a code knows of a command by its byte alone.
use Rattle.std.specs.Prelude.{ℕ, ◌+◌, ◌-◌, ◌<◌, ◌≡◌, Bool, cond, ◌&&◌, List, leb, ltb, eqb}
use Rattle.model.specs.Rules.Width.{in_code}
use Rattle.model.specs.Rules.Word.{byte_at}

-- 0: no command, or FETCH and STORE; else 65 less the words that it takes off the stack. In an image with rows, which TABLE
-- needs, or without.
unfoldable pub shape_of : Bool → ℕ → ℕ
shape_of rows b =
    cond (eqb b 0x50) 65
    (cond (eqb b 0x51) 65
    (cond (eqb b 0x52) 0
    (cond (eqb b 0x5F) 0
    (cond (eqb b 0x30) 63
    (cond (eqb b 0x31) 63
    (cond (eqb b 0x32) 63
    (cond (eqb b 0x33) 63
    (cond (eqb b 0x34) 63
    (cond (eqb b 0x35) 63
    (cond (eqb b 0x36) 63
    (cond (eqb b 0x38) 64
    (cond (eqb b 0x3A) 62
    (cond (eqb b 0x3B) (cond rows 64 0) 0)))))))))))))

-- A table of them.
pub record Shapes (rows : Bool) (table : List ℕ) : Type 0 where
  pub entry : (b : ℕ) → b < 256 → byte_at table b ≡ shape_of rows b

-- The greatest byte that may follow byte b, in an image of n signals.
unfoldable pub ceiling_of : ℕ → ℕ → ℕ
ceiling_of n b = cond (eqb b 0x51) (n - 1) 255

-- A table of them.
pub record Ceilings (n : ℕ) (table : List ℕ) : Type 0 where
  pub entry : (b : ℕ) → b < 256 → byte_at table b ≡ ceiling_of n b

-- The bytes of a command that is not STORE.
unfoldable pub command_bytes : ℕ → ℕ
command_bytes b = cond (eqb b 0x50) (in_code 0x50) (cond (ltb b 0x50) (in_code 0x30) (in_code 0x51))

-- The words on the stack after a command of this shape and ceiling and then x, where it held h; 33 where it may not stand there.
unfoldable pub height_after : ℕ → ℕ → ℕ → ℕ → ℕ
height_after shape ceiling x h =
    cond (leb (h + shape) 64) 33 (cond (ltb 96 (h + shape)) 33 (cond (ltb ceiling x) 33 (h + shape - 64)))

-- The same for byte b, by the two tables.
abbrev pub after_of : List ℕ → List ℕ → ℕ → ℕ → ℕ → ℕ
after_of shapes ceilings b x h = height_after (byte_at shapes b) (byte_at ceilings b) x h

-- FETCH of the own signal, where the stack has room for a word.
unfoldable pub fetch_of : ℕ → ℕ → ℕ → ℕ → Bool
fetch_of b x own h = eqb b 0x52 && eqb x own && ltb h 32

-- STORE of the own signal, where the stack holds one word.
unfoldable pub last_of : ℕ → ℕ → ℕ → ℕ → Bool
last_of b x own h = eqb b 0x5F && eqb x own && eqb h 1
