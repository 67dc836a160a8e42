-- An image and then its tail, written into a buffer that has space for both. Assumes nothing.
use Prim.Native.Nat.{ℕ, ◌+◌, ◌≤◌}
use mathlib.Core.List.{List, ◌++◌}
use mathlib.Core.Path.{◌≡◌, sym, ap, ap₂, ◌∙◌}
use native.Mathlib.Omega.{arith}
use lib.ListN.{length, take, drop, length-append, length-drop}
use lib.Seq.{sets, sets-eq, take-append_seam, drop-append-add, drop-drop}
use Rattle.model.specs.Rules.Image.{length_of, image_of, tail_of, written_of, written_length}
use Rattle.model.specs.Rules.Program.{Program}
use Rattle.model.specs.Rules.Schedule.{Schedule}
use Rattle.model.proofs.Images.Stretches.{image-length}
use Rattle.model.proofs.Images.Tails.{tail-length, written-length}

-- An image that is written from the first byte on.
pub image-first : (p : Program) (s : Schedule) (h : ℕ) (buffer : List ℕ) → length_of p s h ≤ length buffer →
    sets buffer 0 (image_of p s h) ≡ image_of p s h ++ drop (length_of p s h) buffer
image-first p s h buffer le =
    let e : 0 + length (image_of p s h) ≡ length_of p s h = omega (arith, image-length p s h) in
    sets-eq (image_of p s h) buffer 0 (omega arith) ∙ ap (λ (k : ℕ). image_of p s h ++ drop k buffer) e

-- An image that with its tail has n bytes.
module _ (p : Program) (s : Schedule) (h n : ℕ) (buffer : List ℕ) (size : n ≡ written_length p s h) where
  pub long : length (written_of p s h) ≡ n
  long = written-length p s h ∙ sym size

  -- The image is written.
  abbrev pub emitted : List ℕ
  emitted = image_of p s h ++ drop (length_of p s h) buffer

  emitted-length : n ≤ length buffer → length emitted ≡ length buffer
  emitted-length le =
      let l = length_of p s h in
      omega (arith, length-append (image_of p s h) (drop l buffer), length-drop l buffer, image-length p s h)

  both-written : n ≤ length buffer → sets emitted (length_of p s h) (tail_of p s) ≡ written_of p s h ++ drop n buffer
  unfolding written_of
  both-written le =
      let l = length_of p s h in
      let image = image_of p s h in
      let tail = tail_of p s in
      let l-is : l ≡ length image = sym (image-length p s h) in
      let tail-is = tail-length p s in
      let n-is : l + length tail ≡ n = omega arith in
      sets-eq tail emitted l (omega (arith, emitted-length le)) ∙
      ap₂ (λ (x y : List ℕ). x ++ tail ++ y)
      (ap (λ (k : ℕ). take k emitted) l-is ∙ take-append_seam image (drop l buffer))
      (ap (λ (k : ℕ). drop (k + length tail) emitted) l-is ∙ drop-append-add image (drop l buffer) (length tail) ∙
      drop-drop (length tail) l buffer ∙ ap (λ (k : ℕ). drop k buffer) n-is)

  -- Then its tail after it.
  module _ {out tail : List ℕ} {end : ℕ} (le : n ≤ length buffer) (out-is : out ≡ emitted) (end_is : end ≡ length_of p s h)
      (tail-is : tail ≡ tail_of p s) where
    pub tail-room : end + length tail ≤ length out
    tail-room = omega (arith, ap length out-is, emitted-length le, ap length tail-is, tail-length p s)

    pub all-written : {after : List ℕ} → after ≡ sets out end tail → after ≡ written_of p s h ++ drop n buffer
    all-written e = e ∙ (rw (out-is, end_is, tail-is) (both-written le))
