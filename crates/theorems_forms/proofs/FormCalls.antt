-- The two calls are inverse: what list writes, assemble writes back. Assumes nothing.
use Prim.Native.Nat.{ℕ, ◌≤◌}
use mathlib.Core.List.{List, ◌++◌}
use mathlib.Core.Path.{◌≡◌, refl, sym, ap, ◌∙◌}
use native.Mathlib.Omega.{arith}
use lib.ListN.{length, take, drop}
use lib.Seq.{take_at}
use Rattle.model.specs.Rules.Outcome.{accepted}
use Rattle.model.specs.Rules.TextForm.{between, tokens_from, assemble_of, listing_of}
use Rattle.model.specs.Rules.Word.{AreBytes}
use Rattle.theorems_forms.proofs.FormLists.{list-exactly}
use Rattle.theorems_forms.proofs.Forms.{spellings, listed-says}
use Rattle.theorems_forms.proofs.FormStops.{assemble-exactly}
use Rattle.theorems_forms.proofs.FormTokens.{tokens-split}

-- What list has written, assembled into a buffer that holds the bytes.
pub calls-inverse : (bytes text buffer : List ℕ) (n : ℕ) → AreBytes bytes → (listing_of bytes text).answer ≡ accepted n →
    n ≤ 16777216 → length bytes ≤ length buffer →
    ((assemble_of (take n (listing_of bytes text).left) buffer).answer ≡ accepted (length bytes)) ×
    (take (length bytes) (assemble_of (take n (listing_of bytes text).left) buffer).left ≡ bytes)
calls-inverse bytes text buffer n are e small fits =
    let d = ((list-exactly bytes text are).done n (listing_of bytes text).left).0 (e, refl) in
    let l = d.written in
    let w : take n (listing_of bytes text).left ≡ l = ap (take n) d.leaves ∙ take_at l (drop n text) n (sym d.is) in
    let r = ((assemble-exactly l buffer).done (length bytes) (bytes ++ drop (length bytes) buffer)).1
    (record {
      short = omega (arith, d.is);
      written = bytes;
      result = (spellings (tokens_from 0 between l), tokens-split l, listed-says bytes d.result);
      is = refl;
      fits = fits;
      leaves = refl;
    }) in
    rw w (r.0, ap (take (length bytes)) r.1 ∙ take_at bytes (drop (length bytes) buffer) (length bytes) refl)
