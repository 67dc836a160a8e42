-- Words.
use Rattle.std.specs.Prelude.{ℤ}
use Rattle.std.specs.Int.{w32}
use Rattle.std.proofs.Common.{SFits}

-- A word: a signed 32-bit integer, from −2147483648 to 2147483647. (`SFits`: n is below 2^31 for `pos n`, which is n, and for
-- `negsuc n`, which is −1 − n.)
abbrev pub IsWord : ℤ → Type 0
IsWord w = SFits w32 w
