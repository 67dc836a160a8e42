-- Request a. Assumes nothing.
use Prim.Native.Nat.{ℕ, ◌^◌, ◌<◌}
use mathlib.Core.Bool.{Bool, true, false}
use mathlib.Core.List.{List}
use mathlib.Core.Logic.{◌↔◌}
use mathlib.Core.Path.{◌≡◌, refl, sym, ap, ◌∙◌}
use native.Mathlib.Omega.{arith}
use lib.Dec.{leb, ltb}
use lib.IntN.{ℤ, pos}
use lib.ListN.{length, get_or}
use Rattle.model.specs.Rules.Compile.{Pair, pair_of}
use Rattle.model.specs.Rules.Image.{length_of, image_of, written_of, written_length}
use Rattle.model.specs.Rules.Machine.{
  hyper_of,
  count_of,
  image_part,
  lent_ok,
  is_position,
  cycle_words,
  cycle_count,
  Effect,
  effect,
  cycle_of,
}
use Rattle.model.specs.Rules.Outcome.{Outcome, accepted, refused, ◌▷◌, provided}
use Rattle.model.specs.Rules.Report.{highest, needs_of, report_job, report_of}
use Rattle.model.specs.Rules.Word.{AreBytes}
use Rattle.model.specs.declared.Fault.{Fault}
use Rattle.model.specs.declared.Sizes.{Sizes}
use Rattle.promises.specs.Reports.{RequestA}
use Rattle.model.proofs.Images.Counts.{counts-length, counts-at, counts_past}
use Rattle.model.proofs.Images.Stretches.{image-length}
use Rattle.model.proofs.Images.Tails.{lent-formed, written-length}
use Rattle.model.proofs.Pairs.Verdict.{pair-accepted, pair-bounded}
use Rattle.theorems_images.proofs.Counted.{cycle-count, count_fits}
use Rattle.theorems_images.proofs.Heights.{stack-least}
use Rattle.theorems_images.proofs.Ran.{cycle-is}
use Rattle.theorems_streams.proofs.Refused as Refused
use Rattle.theorems_streams.proofs.Tailed.{part_bytes}

-- What a report tells, by the pair's answer.
module _ (counts : List ℕ) where
  abbrev told : Outcome Pair → Effect Sizes ℕ
  told o = effect counts (o ▷ λ q. accepted (needs_of q))

  refuses : (o : Outcome Pair) (f : Fault) → ((told o).answer ≡ refused f) ↔ (o ≡ refused f)
  unfolding ◌▷◌
  refuses (accepted q) f =
      ((λ e. let z : ◌≡◌ {A = ℕ} 0 1 = cc in absurd (omega arith)), (λ e. let z : ◌≡◌ {A = ℕ} 0 1 = cc in absurd (omega arith)))
  refuses (refused g) f = ((λ e. let same : g ≡ f = cc in ap refused same), (λ e. let same : g ≡ f = cc in ap refused same))

  tells : (o : Outcome Pair) (sizes : Sizes) → (told o).answer ≡ accepted sizes → (q : Pair) × (o ≡ accepted q) ×
      (sizes.length ≡ length (image_of q.program q.schedule q.hypercycle)) ×
      (sizes.written ≡ length (written_of q.program q.schedule q.hypercycle))
  unfolding ◌▷◌
  tells (accepted q) sizes e =
      let p = q.program in
      let s = q.schedule in
      let h = q.hypercycle in
      let told : Sizes =
      record { length = length_of p s h; written = written_length p s h; stack = highest p.signals } in
      let same : told ≡ sizes = cc in (
        q,
        refl,
        ap (λ x. x.length) (sym same) ∙ sym (image-length p s h),
        ap (λ x. x.written) (sym same) ∙ sym (written-length p s h),
      )
  tells (refused g) sizes e = let z : ◌≡◌ {A = ℕ} 0 1 = cc in absurd (omega arith)

-- The count of a cycle, by its four tests.
module _ (lent : List ℕ) (state samples : List ℤ) (bytes : AreBytes lent) (n : ℕ) where
  counts-few : (a b c d : Bool) → lent_ok lent ≡ a →
      (effect state
      (provided a 20 0 ▷ λ _.
      provided b 21 0 ▷ λ _.
      provided c 22 0 ▷ λ _.
      provided d 23 0 ▷ λ _.
      accepted (record { yields = cycle_count (image_part lent) state; leaves = cycle_words (image_part lent) state samples }))
      ).answer ≡ accepted n → n < 2 ^ 32
  unfolding ◌▷◌ provided
  counts-few true true true true w e =
      let same : cycle_count (image_part lent) state ≡ n = cc in
      omega (arith, count_fits (image_part lent) state (part_bytes lent bytes) (lent-formed lent w))
  counts-few true true true false w e = let z : ◌≡◌ {A = ℕ} 0 1 = cc in absurd (omega arith)
  counts-few true true false d w e = let z : ◌≡◌ {A = ℕ} 0 1 = cc in absurd (omega arith)
  counts-few true false c d w e = let z : ◌≡◌ {A = ℕ} 0 1 = cc in absurd (omega arith)
  counts-few false b c d w e = let z : ◌≡◌ {A = ℕ} 0 1 = cc in absurd (omega arith)

pub request-a : RequestA
request-a =
    record {
      report-exactly = λ program schedule counts.
          unfold report_of in
          (record {
            refuses = refuses counts (pair_of program schedule);
            tells = tells counts (pair_of program schedule);
            keeps = λ f e. Refused.refused-left counts (report_job program schedule) f e;
          });
      one-report = λ program schedule bytes p s h e.
          let accepts = pair-accepted program schedule _ e in
          let bounded = pair-bounded program schedule _ e bytes in
          unfold report_of ◌▷◌ in
          (record {
            told = λ counts. rw (e, image-length p s h);
            stack = stack-least p s h bounded;
            size = counts-length p s h bounded.hyper;
            counted = λ c lt n state samples left r.
                counts-at p s h c lt ∙ sym (cycle-count p s h bounded accepts.ordered.only c lt) ∙
                sym (cycle-is (image_of p s h) c state samples r).1;
            past = counts_past p s h;
          });
      count_small = λ lent state samples bytes n e.
          let image = image_part lent in
          unfold cycle_of in
          (counts-few lent state samples bytes n (lent_ok lent) (ltb (count_of image) (length state))
          (is_position (hyper_of image) (get_or state 0 (pos 0))) (leb (count_of image) (length samples)) refl e);
    }
