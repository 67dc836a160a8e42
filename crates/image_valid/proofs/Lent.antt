-- The image in what is lent. Assumes nothing.
use Prim.Native.Nat.{ℕ, ◌+◌, ◌*◌, ◌<◌}
use mathlib.Core.Bool.{Bool, true, false, ◌&&◌, ◌||◌}
use mathlib.Core.List.{List, []}
use mathlib.Core.Path.{◌≡◌, refl, sym, ap, ◌∙◌}
use native.Mathlib.Omega.{arith}
use borrow.Author.Tests.{eq-eqb, ne_eqb}
use lib.Dec.{eqb}
use lib.ListN.{length, take, length-take}
use Rattle.model.specs.Rules.Image.{with_tail}
use Rattle.model.specs.Rules.Machine.{count_of, stated_length, head_ok, well_formed, image_part, length_ok, lent_ok}
use Rattle.model.proofs.Images.Tails.{headed, lent-formed}
use Rattle.image_valid.specs.Lends.{Lends}
use Rattle.model.proofs.Basics.Tests.{never, by}
use Rattle.image_valid.proofs.Parts.{without-head}

empty-formed : well_formed [] ≡ false
unfolding head_ok
empty-formed = without-head [] refl

module _ (lent : List ℕ) where
  -- What is not accepted lends no bytes.
  lends_none : lent_ok lent ≡ false → Lends lent (take 0 lent)
  lends_none e = record { judged = e ∙ sym empty-formed; part = λ t. never (sym empty-formed ∙ t) }

  -- It has no head.
  pub lends-short : length lent < 4 → Lends lent (take 0 lent)
  unfolding image_part
  lends-short lt =
      lends_none (by (lent_ok lent)
      (λ t.
      let four = (headed (image_part lent) (lent-formed lent t)).four in
      let none : ⊥ = omega (arith, length-take (stated_length lent) lent) in absurd none)
      (λ f. f))

  -- Its length is L, or L + 4N, or neither.
  module _ (l n : ℕ) (l-is : l ≡ stated_length lent) (n-is : n ≡ count_of lent) where
    lends_part : length_ok lent ≡ true → Lends lent (take l lent)
    unfolding lent_ok image_part
    lends_part e = rw l-is (record { judged = ap (λ (b : Bool). b && well_formed (image_part lent)) e; part = λ t. refl })

    pub lends-all : length lent ≡ l → Lends lent (take l lent)
    lends-all e = lends_part (rw (eq-eqb (length lent) (stated_length lent) (e ∙ l-is)))

    pub lends_first : length lent ≡ l + 4 * n → Lends lent (take l lent)
    lends_first e =
        lends_part
        (second (eqb (length lent) (stated_length lent)) _
        (eq-eqb (length lent) (with_tail (stated_length lent) (count_of lent)) (omega (arith, l-is, n-is))))
      where
        second : (a b : Bool) → b ≡ true → (a || b) ≡ true
        second true b h = refl
        second false b h = h

    pub lends-neither : (length lent ≡ l → ⊥) → (length lent ≡ l + 4 * n → ⊥) → Lends lent (take 0 lent)
    unfolding lent_ok
    lends-neither f g =
        lends_none
        (rw (
          ne_eqb (length lent) (stated_length lent) (λ e. f (e ∙ sym l-is)),
          ne_eqb (length lent) (with_tail (stated_length lent) (count_of lent)) (λ e. g (omega (arith, l-is, n-is))),
        ))
