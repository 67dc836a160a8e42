-- What texts that are lent keep. Assumes nothing.
use Prim.Native.Nat.{ℕ, ◌+◌, ◌≤◌, ◌<◌}
use mathlib.Core.Bool.{true, and-eq-true_iff}
use mathlib.Core.List.{List}
use mathlib.Core.Path.{◌≡◌}
use borrow.Author.Tests.{leb-true}
use lib.Dec.{leb}
use lib.ListN.{length}
use Rattle.model.specs.Rules.Join.{parts_in, texts_at, program_total, are_lent, lent}
use Rattle.model.specs.Rules.Outcome.{accepted, provided}
use Rattle.model.specs.Rules.Search.{all_below}
use Rattle.model.proofs.Basics.Outcomes.{then-accepted, provided-true}
use Rattle.model.proofs.Pairs.Decide.{all_true}

pub record Kept (texts numbers : List ℕ) : Type 0 where
  pub total : program_total numbers ≤ 8192
  pub few : parts_in numbers ≤ 8
  pub programs : (k : ℕ) → k < parts_in numbers → (texts_at numbers k).program + (texts_at numbers k).program_length ≤ length texts
  pub schedules : (k : ℕ) → k < parts_in numbers → (texts_at numbers k).schedule + (texts_at numbers k).schedule_length ≤ length texts

pub kept : (texts numbers : List ℕ) → lent texts numbers ≡ accepted tt → Kept texts numbers
unfolding lent
kept texts numbers e =
    let a = then-accepted (provided (leb (program_total numbers) 8192) 1 0) _ tt e in
    let b = then-accepted (provided (leb (parts_in numbers) 8) 4 0) _ tt a.2 in
    let t = provided-true (all_below (parts_in numbers) (λ k. are_lent texts (texts_at numbers k))) 27 0 b.2 in
    record {
      total = leb-true (program_total numbers) 8192 (provided-true (leb (program_total numbers) 8192) 1 0 a.1);
      few = leb-true (parts_in numbers) 8 (provided-true (leb (parts_in numbers) 8) 4 0 b.1);
      programs = λ k lt. leb-true _ _ (both t k lt).0;
      schedules = λ k lt. leb-true _ _ (both t k lt).1;
    }
  where
    both : all_below (parts_in numbers) (λ k. are_lent texts (texts_at numbers k)) ≡ true → (k : ℕ) → k < parts_in numbers →
        (leb ((texts_at numbers k).program + (texts_at numbers k).program_length) (length texts) ≡ true) ×
        (leb ((texts_at numbers k).schedule + (texts_at numbers k).schedule_length) (length texts) ≡ true)
    both t k lt =
        (and-eq-true_iff (leb ((texts_at numbers k).program + (texts_at numbers k).program_length) (length texts))
        (leb ((texts_at numbers k).schedule + (texts_at numbers k).schedule_length) (length texts))).0
        (all_true (parts_in numbers) (λ k. are_lent texts (texts_at numbers k)) t k lt)
