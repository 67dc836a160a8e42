-- The converter answers and leaves exactly what its statements say. Assumes nothing.
use Prim.Native.Nat.{ℕ, ◌≤◌, ◌<◌}
use mathlib.Core.List.{List, ◌++◌}
use mathlib.Core.Path.{◌≡◌, refl, sym, ap, ◌∙◌}
use native.Mathlib.Omega.{arith}
use borrow.Author.Tests.{leb-true, leb-false, le-leb}
use lib.Dec.{leb}
use lib.ListN.{length, drop}
use Rattle.model.specs.Says.Grammar.{LegalWith}
use Rattle.model.specs.Rules.Machine.{Job}
use Rattle.model.specs.Rules.Outcome.{Outcome, accepted, refused, fault, ◌▷◌, provided}
use Rattle.model.specs.Rules.Program.{Program, parse_with}
use Rattle.model.specs.Rules.Rewrite.{rewrite, convert_of}
use Rattle.theorems_conversion.specs.Conversion.{earlier_factor, ConvertedText, ConvertsTo, ConvertRefusedAt, Converts}
use Rattle.model.specs.declared.Fault.{Fault}
use Rattle.model.proofs.Basics.Outcomes.{accepted-then, refused-then}
use Rattle.theorems_calls.proofs.CallsExact.{both_ways, Does, exactly}
use Rattle.theorems_conversion.proofs.OnText.{rewrite-converts, converted-one}
use Rattle.theorems_pairs.proofs.Exact.{text-judged}
use Rattle.theorems_pairs.proofs.Judged.{Judged, Only, provided-judged, Answers, answers-then}

-- A legal text is converted to what is written for it, and to nothing else.
pub converted-is : {least : ℕ} {text new : List ℕ} {p : Program} → LegalWith least text p → ConvertedText text new →
    new ≡ rewrite text
converted-is {least} {text} {p = p} legal c = converted-one c (rewrite-converts least text p legal)

module _ (program buffer : List ℕ) where
  abbrev size : ℕ
  size = length (rewrite program)

  -- What the call does, as the definition has it.
  abbrev job : Outcome (Job ℕ ℕ)
  job =
      provided (leb (length program) 8192) 1 0 ▷ λ _.
      parse_with earlier_factor program ▷ λ p.
      provided (leb size (length buffer)) 17 size ▷ λ _.
      accepted (record { yields = size; leaves = rewrite program ++ drop size buffer })

  abbrev Done : Job ℕ ℕ → Type 0
  Done = Does (ConvertsTo program buffer)

  abbrev NotDone : Fault → Type 0
  NotDone = ConvertRefusedAt program buffer

  long-judged : Judged (λ u. length program ≤ 8192) (Only 1 0 (8192 < length program)) (provided (leb (length program) 8192) 1 0)
  long-judged =
      provided-judged _ 1 0 (length program ≤ 8192) (8192 < length program) (leb-true _ _, le-leb _ _) (leb-false _ _)
      (λ l h. omega arith)

  space-judged : Judged (λ u. size ≤ length buffer) (Only 17 size (length buffer < size))
      (provided (leb size (length buffer)) 17 size)
  space-judged =
      provided-judged _ 17 size (size ≤ length buffer) (length buffer < size) (leb-true _ _, le-leb _ _) (leb-false _ _)
      (λ l h. omega arith)

  answers : Answers Done NotDone job
  answers =
      answers-then Done NotDone _ _ long-judged (λ g f. long f) (λ u short.
      answers-then Done NotDone _ _ (text-judged earlier_factor program) (λ g f. ConvertRefusedAt.stopped short f) (λ p legal.
      answers-then Done NotDone _ _ space-judged (λ g f. space short legal f) (λ v fits.
      record {
        short = short;
        declares = p;
        legal = legal;
        result = rewrite program;
        converted = rewrite-converts earlier_factor program p legal;
        is = refl;
        fits = fits;
        leaves = refl;
      })))
    where
      long : {f : Fault} → Only 1 0 (8192 < length program) f → ConvertRefusedAt program buffer f
      long (Only.only h) = ConvertRefusedAt.long h

      space : {p : Program} {f : Fault} → length program ≤ 8192 → LegalWith earlier_factor program p →
          Only 17 size (length buffer < size) f → ConvertRefusedAt program buffer f
      space {p} short legal (Only.only h) =
          ConvertRefusedAt.space short legal (rewrite-converts earlier_factor program p legal) h

  -- And the other way round.
  job-done : (j : Job ℕ ℕ) → Done j → job ≡ accepted j
  job-done j c =
      let new : c.result ≡ rewrite program = converted-is c.legal c.converted in
      let n : size ≡ j.yields = sym (ap length new) ∙ sym c.is in
      let left : rewrite program ++ drop size buffer ≡ j.leaves =
      ap (λ l. l ++ drop size buffer) (sym new) ∙ ap (λ m. c.result ++ drop m buffer) n ∙ sym c.leaves in
      accepted-then _ _ _ ((long-judged.accepts tt).1 c.short) ∙
      accepted-then _ _ _ (((text-judged earlier_factor program).accepts c.declares).1 c.legal) ∙
      accepted-then _ _ _ ((space-judged.accepts tt).1 (omega (arith, c.fits))) ∙
      ap accepted (λ i. record { yields = n i; leaves = left i })

  job-refused : (f : Fault) → NotDone f → job ≡ refused f
  job-refused f (ConvertRefusedAt.long h) = refused-then _ _ _ ((long-judged.refuses (fault 1 0)).1 (Only.only h))
  job-refused f (ConvertRefusedAt.stopped short s) =
      accepted-then _ _ _ ((long-judged.accepts tt).1 short) ∙
      refused-then _ _ _ (((text-judged earlier_factor program).refuses _).1 s)
  job-refused f (ConvertRefusedAt.space {p = p} short legal c lt) =
      let new = ap length (converted-is legal c) in
      accepted-then _ _ _ ((long-judged.accepts tt).1 short) ∙
      accepted-then _ _ _ (((text-judged earlier_factor program).accepts p).1 legal) ∙
      refused-then _ _ _ ((space-judged.refuses (fault 17 size)).1 (Only.only (omega arith))) ∙
      ap (λ n. refused (fault 17 n)) (sym new)

-- A conversion is done, or refused with each number at its place, exactly under its condition.
pub convert-exactly : (program buffer : List ℕ) → Converts program buffer
unfolding convert_of
convert-exactly program buffer =
    exactly buffer (ConvertsTo program buffer) (ConvertRefusedAt program buffer) (job program buffer)
    (both_ways (job program buffer) (answers program buffer) (job-done program buffer) (job-refused program buffer))
