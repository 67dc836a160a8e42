-- Request g: a sampling factor of 1 goes.
use Rattle.std.specs.Prelude.{ℕ, List, ◌≡◌}
use Rattle.model.specs.Rules.Compile.{Pair}
use Rattle.model.specs.Rules.Outcome.{accepted}
use Rattle.model.specs.Rules.Program.{Program, parse_with, parse_program}
use Rattle.theorems_conversion.specs.Conversion.{earlier_factor, ConvertedText, Converts, ConversionKeeps}
use Rattle.theorems_pairs.specs.Conditions.{LegalPairWith}

pub record RequestG : Type 0 where
  -- A converter rewrites each WHEN and CURRENT with n = 1 as NOW, each such LASTWHEN as LAST, of the same signal, and keeps every
  -- other byte. It yields its result's length, leaves the buffer past it, and refuses by 1 to 6 with n = 1 allowed, and by 17 a
  -- buffer shorter than its result (that length).
  pub convert-exactly : (program buffer : List ℕ) → Converts program buffer
  -- With every schedule that the old program was accepted with under the earlier rule, the rewritten one is accepted and has the
  -- same streams. Its image is the same.
  pub convert-keeps : (old new schedule : List ℕ) (u : Pair) → LegalPairWith earlier_factor old schedule u →
      ConvertedText old new → ConversionKeeps new schedule u
  -- What is converted is read by the rule of today, and converting it again changes nothing.
  pub convert-new : (old new : List ℕ) (p : Program) → parse_with earlier_factor old ≡ accepted p → ConvertedText old new →
      (q : Program) × (parse_program new ≡ accepted q) × ConvertedText new new
