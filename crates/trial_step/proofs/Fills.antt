-- A block that is filled step by step. Assumes nothing.
use Rattle.std.specs.Prelude.{Some, None}
use Prim.Native.Nat.{ℕ, zero, suc, ◌+◌, ◌-◌, ◌≤◌, ◌<◌}
use mathlib.Core.Bool.{Bool, true, false}
use mathlib.Core.List.{List, ◌++◌}
use mathlib.Core.Path.{◌≡◌, refl, sym, ap, ◌∙◌}
use native.Mathlib.Omega.{arith}
use borrow.Author.Tests.{le-leb, lt-leb}
use lib.IntN.{ℤ}
use lib.ListN.{length, take, drop, length-append}
use Rattle.model.specs.Rules.Decimal.{line_of}
use Rattle.model.specs.Rules.Machine.{cycle_words}
use Rattle.model.specs.Rules.Trial.{signals_of}
use Rattle.trial_step.specs.Underway.{next_cycle, step_to, Step, step_of, Stepped, Fill, fill_to, fill_next, fill_from}
use Rattle.trial_step.specs.Underway.{Next}
use Rattle.trial_step.specs.declared.Progress.{Progress}
use Rattle.trial_step.specs.Underway.{Sought}

-- A line has a byte at least.
line-some : (j : ℕ) (words : List ℤ) → 0 < length (line_of j words)
unfolding line_of
line-some j words = simp length-append (omega arith)

module _ (image text : List ℕ) (p : Progress) (samples state : List ℤ) (line : List ℕ) where
  pub step-some : {samples' state' : List ℤ} {line' : List ℕ} {k : ℕ} {q : Progress} →
      Stepped (step_of image text p samples state line) samples' state' line' (Some (k, q)) → 0 < k
  unfolding step_of
  step-some {k = k} {q = q} s =
      let n = next_cycle text p samples in go n.sought n.samples s.next-is
    where
      go : (r : Sought) (kept : List ℤ) → Some (k, q) ≡ (step_to image p state line (record { sought = r; samples = kept })
          ).next →
          0 < k
      go (Some (at, left)) kept e =
          let after = cycle_words image state kept in
          let both : ◌≡◌ {A = ℕ × Progress} (k, q)
          (length (line_of p.line (signals_of image after)), record { at = at; left = left; line = p.line + 1 }) = cc in
          let same : k ≡ length (line_of p.line (signals_of image after)) = ap (λ (x : ℕ × Progress). x.0) both in
          omega (arith, line-some p.line (signals_of image after))
      go None kept e = let z : ◌≡◌ {A = ℕ} 0 1 = cc in absurd (omega arith)

module _ (image text : List ℕ) (p : Progress) (samples state : List ℤ) (block : List ℕ) (size : ℕ) where
  abbrev step : Step
  step = step_of image text p samples state (drop size block)

  abbrev At : List ℤ → List ℤ → List ℕ → Next → Type 0
  At = Stepped step

  -- By the test for space.
  abbrev filled : ℕ → Bool → Fill
  filled n room =
      elim room [
        | true ↦ fill_next (λ q s t b m. fill_from n image text q s t b m) p block size step step.next
        | false ↦ fill_to p size false samples state block
      ]

  -- One line more.
  pub fill-line : {samples' state' : List ℤ} {line' : List ℕ} {k : ℕ} {q : Progress} (n : ℕ) → length block < n + size →
      size ≤ length block → 1024 ≤ length block - size → At samples' state' line' (Some (k, q)) →
      (m : ℕ) × (length block < m + (size + k)) ×
      (fill_from n image text p samples state block size ≡
      fill_from m image text q samples' state' (take size block ++ line') (size + k))
  unfolding fill_from fill_next
  fill-line zero enough fits room s = absurd (omega arith)
  fill-line (suc n) enough fits room s = (
    n,
    omega (arith, step-some image text p samples state (drop size block) s),
    ap (filled n) (le-leb 1024 (length block - size) room) ∙
        ap (fill_next (λ q s t b m. fill_from n image text q s t b m) p block size step) (sym s.next-is) ∙
        rw (s.samples-is, s.state-is, s.line-is),
  )

  -- None is left.
  pub fill-ended : {samples' state' : List ℤ} {line' : List ℕ} (n : ℕ) → length block < n + size → size ≤ length block →
      1024 ≤ length block - size → At samples' state' line' None →
      fill_from n image text p samples state block size ≡ fill_to p size true samples' state' (take size block ++ line')
  unfolding fill_from fill_next
  fill-ended zero enough fits room s = absurd (omega arith)
  fill-ended (suc n) enough fits room s =
      ap (filled n) (le-leb 1024 (length block - size) room) ∙
      ap (fill_next (λ q s t b m. fill_from n image text q s t b m) p block size step) (sym s.next-is) ∙
      rw (s.samples-is, s.state-is, s.line-is)

  -- There is no space for another.
  pub fill-full : (n : ℕ) → length block - size < 1024 →
      fill_from n image text p samples state block size ≡ fill_to p size false samples state block
  unfolding fill_from
  fill-full zero h = refl
  fill-full (suc n) h = ap (filled n) (lt-leb 1024 (length block - size) h)
