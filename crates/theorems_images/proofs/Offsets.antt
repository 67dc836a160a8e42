-- Every offset in the image of an accepted pair fits its two bytes: nothing of it is cut. Assumes nothing.
use Prim.Native.Nat.{ℕ, ◌≤◌}
use mathlib.Core.Path.{◌≡◌, sym, ◌∙◌}
use native.Mathlib.Omega.{arith}
use Rattle.model.specs.Rules.Image.{codes, run_lists, lists_at, codes_at, rows_at, length_of, image_of}
use Rattle.model.specs.Rules.Program.{Program, count}
use Rattle.model.specs.Rules.Schedule.{Schedule}
use Rattle.theorems_images.specs.Images.{OffsetFits, OffsetsFit}
use Rattle.model.proofs.Images.Bounds.{Bounded}
use Rattle.model.proofs.Images.Stretches.{
  parts-most,
  offset_at,
  codes-length,
  lists_length,
  image-length,
  list-offset,
  code-offset,
}

module _ (p : Program) (s : Schedule) (h : ℕ) (bounded : Bounded p s h) where
  fits : {given start layout : ℕ} → given ≡ start → layout ≡ start → start ≤ length_of p s h →
      OffsetFits (image_of p s h) given layout
  fits e f le =
      record {
        exact = e ∙ sym f;
        bound = omega (arith, bounded.size);
        inside = omega (arith, image-length p s h);
      }

  pub offsets-fit : OffsetsFit p s h
  unfolding length_of codes_at rows_at
  offsets-fit =
      record {
        code_offsets = λ x lt.
            fits (code-offset p s h bounded x (omega arith))
            (offset_at (codes_at p s h) (codes p) x (omega (arith, codes-length p)))
            (omega (arith, parts-most (codes p) x));
        list_offsets = λ c le.
            fits (list-offset p s h bounded c le)
            (offset_at (lists_at (count p) h) (run_lists p s h) c (omega (arith, lists_length p s h)))
            (omega (arith, parts-most (run_lists p s h) c));
      }
