-- Request g. Assumes nothing.
use mathlib.Core.Path.{sym, subst}
use native.Mathlib.Omega.{arith}
use Rattle.model.specs.Rules.Compile.{Pair}
use Rattle.model.specs.Rules.Rewrite.{rewrite}
use Rattle.promises.specs.Conversion.{RequestG}
use Rattle.theorems_conversion.specs.Conversion.{earlier_factor, ConvertedText}
use Rattle.theorems_conversion.proofs.Conversions as Conversions
use Rattle.theorems_conversion.proofs.Converted as Converted
use Rattle.theorems_conversion.proofs.OnText as OnText
use Rattle.theorems_conversion.proofs.Rewritten as Rewritten
use Rattle.theorems_conversion.proofs.Unchanged as Unchanged
use Rattle.theorems_pairs.proofs.Exact as Pairs
use Rattle.model.proofs.Texts.Parses as Parses

pub request-g : RequestG
request-g =
    record {
      convert-exactly = Conversions.convert-exactly;
      convert-keeps = λ old new schedule u l converted.
          let w = Rewritten.rewrite-legal old u.program l.places.rates.legal in
          let c = Converted.renamed-common w.renamed u.schedule in
          let q : Pair = record { program = w.program; schedule = u.schedule; hypercycle = u.hypercycle } in
          rw (Conversions.converted-is l.places.rates.legal converted)
          (record {
            program = w.program;
            accepts =
                (Pairs.accepted-exactly (rewrite old) schedule q).1
                (Converted.renamed-legal old (rewrite old) schedule u w.program l
                (omega (arith, w.short, l.places.rates.short.0)) w.legal w.renamed);
            streams = c.streams;
            image = sym (c.image u.hypercycle);
          });
      convert-new = λ old new p e converted.
          let l = (Parses.with-legal earlier_factor old p).0 e in
          let w = Rewritten.rewrite-legal old p l in
          rw (Conversions.converted-is l converted) (
            w.program,
            (Parses.with-legal _ (rewrite old) w.program).1 w.legal,
            subst (ConvertedText (rewrite old)) (Unchanged.rewrite-twice old p l)
                (OnText.rewrite-converts _ (rewrite old) w.program w.legal),
          );
    }
