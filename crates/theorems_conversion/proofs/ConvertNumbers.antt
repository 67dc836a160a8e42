-- A conversion: its numbers, its places and what it yields are small. Assumes nothing.
use Prim.Native.Nat.{ℕ, ◌≤◌}
use mathlib.Core.List.{List}
use mathlib.Core.Path.{ap}
use native.Mathlib.Omega.{arith}
use lib.ListN.{length}
use Rattle.model.specs.declared.Fault.{Fault}
use Rattle.theorems_calls.proofs.Numbers.{stops-number}
use Rattle.theorems_calls.proofs.Places.{commands-inside}
use Rattle.theorems_conversion.specs.Conversion.{ConvertsTo, ConvertRefusedAt}
use Rattle.theorems_conversion.proofs.Conversions.{converted-is}
use Rattle.theorems_conversion.proofs.Rewritten.{rewrite-legal}

pub convert_number : {program buffer : List ℕ} {f : Fault} → ConvertRefusedAt program buffer f → 1 ≤ f.number
convert_number (ConvertRefusedAt.long lt) = omega arith
convert_number (ConvertRefusedAt.stopped short s) = stops-number s
convert_number (ConvertRefusedAt.space short legal c lt) = omega arith

pub convert-place : {program buffer : List ℕ} {f : Fault} → ConvertRefusedAt program buffer f → f.place ≤ 8192
convert-place (ConvertRefusedAt.long lt) = omega arith
convert-place {program} (ConvertRefusedAt.stopped short s) = omega (arith, commands-inside program s)
convert-place {program} (ConvertRefusedAt.space {p = p} short legal c lt) =
    omega (arith, (rewrite-legal program p legal).short, ap length (converted-is legal c))

pub convert-most : {program buffer left : List ℕ} {n : ℕ} → ConvertsTo program buffer n left → n ≤ 8192
convert-most {program} c =
    omega (
      arith,
      c.is,
      c.short,
      (rewrite-legal program c.declares c.legal).short,
      ap length (converted-is c.legal c.converted),
    )
