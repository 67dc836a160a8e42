-- What the tail's reader answers, by its test. Assumes nothing.
use Prim.Native.Nat.{ℕ, ◌-◌, ◌≤◌}
use mathlib.Core.Bool.{Bool, true, false}
use mathlib.Core.List.{List, []}
use mathlib.Core.Path.{◌≡◌, refl, sym, ap, ◌∙◌}
use native.Mathlib.Omega.{arith}
use lib.ListN.{length, drop, length-append, length-take, length-drop}
use Rattle.model.specs.Rules.Machine.{stated_length, well_formed, image_part, lent_ok}
use Rattle.model.specs.Rules.Outcome.{Outcome, accepted, refused, refuse, ◌▷◌, provided}
use Rattle.model.specs.Rules.Tail.{tail_in, length_of_tail, stretch_in}
use Rattle.model.proofs.Images.Tails.{lent-formed, lent-bears, stated-length}
use Rattle.model.specs.declared.Fault.{Fault}
use Rattle.image_valid.specs.Lends.{Lends}

module _ {lent image : List ℕ} (l : Lends lent image) where
  -- An image that is not well formed.
  pub refused-is : well_formed image ≡ false → tail_in lent ≡ refuse 20 0
  unfolding tail_in provided ◌▷◌
  refused-is f = rw (l.judged ∙ f)

  -- One that is, the first L bytes of what is lent.
  module _ (f : well_formed image ≡ true) where
    rest-is : tail_in lent ≡ accepted (drop (stated_length lent) lent)
    unfolding tail_in provided ◌▷◌
    rest-is = rw (l.judged ∙ f)

    length-is : length image ≡ stated_length lent
    length-is =
        let e = l.judged ∙ f in
        ap length (l.part f) ∙ sym (stated-length (lent-formed lent e) (lent-bears lent e))

    pub rest_from : tail_in lent ≡ accepted (drop (length image) lent)
    rest_from = rest-is ∙ ap (λ (k : ℕ). accepted (drop k lent)) (sym length-is)

    pub inside : length image ≤ length lent
    unfolding image_part
    inside = omega (arith, ap length (l.part f), length-take (stated_length lent) lent)

    pub length_rest : length_of_tail (tail_in lent) ≡ accepted (length lent - length image)
    length_rest =
        ap length_of_tail rest-is ∙
        ap accepted (length-drop (stated_length lent) lent ∙ ap (λ (k : ℕ). length lent - k) (sym length-is))

-- What the length says of the stretch.
module _ (lent : List ℕ) where
  -- n bytes, the last of what is lent, from L on.
  pub record LastBytes (n : ℕ) : Type 0 where
    pub inside : n ≤ length lent
    pub from : length lent - n ≡ stated_length lent
    pub accepts : tail_in lent ≡ accepted (drop (stated_length lent) lent)
    pub stretch : drop (length lent - n) lent ≡ stretch_in (tail_in lent)

  pub last-bytes : {n : ℕ} → accepted n ≡ length_of_tail (tail_in lent) → LastBytes n
  unfolding tail_in provided ◌▷◌ image_part
  last-bytes {n} e = go (lent_ok lent) refl e
    where
      go : (b : Bool) → lent_ok lent ≡ b →
          accepted n ≡ length_of_tail (provided b 20 0 ▷ λ _. accepted (drop (stated_length lent) lent)) → LastBytes n
      go true o q =
          let size : n ≡ length (drop (stated_length lent) lent) = cc in
          let bears = lent-bears lent o in
          let long : stated_length lent ≤ length lent =
          omega (
            arith,
            stated-length (lent-formed lent o) bears,
            ap length bears.whole,
            length-append (image_part lent) (drop (stated_length lent) lent),
          ) in
          let from : length lent - n ≡ stated_length lent = omega (arith, length-drop (stated_length lent) lent) in
          record {
            inside = omega (arith, length-drop (stated_length lent) lent);
            from = from;
            accepts = rw o;
            stretch = rw (o, from);
          }
      go false o q = let z : ◌≡◌ {A = ℕ} 0 1 = cc in absurd (omega arith)

  pub none_read : {f : Fault} → refused f ≡ length_of_tail (tail_in lent) → tail_in lent ≡ refused f
  none_read {f} e = go (tail_in lent) e
    where
      go : (o : Outcome (List ℕ)) → refused f ≡ length_of_tail o → o ≡ refused f
      go (accepted tail) q = let z : ◌≡◌ {A = ℕ} 0 1 = cc in absurd (omega arith)
      go (refused g) q = let same : g ≡ f = cc in ap refused same

  pub no_bytes : {f : Fault} → refused f ≡ length_of_tail (tail_in lent) → stretch_in (tail_in lent) ≡ []
  no_bytes e = ap stretch_in (none_read e)
