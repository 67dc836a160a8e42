-- Request f. Assumes nothing.
use Prim.Native.Nat.{ℕ}
use mathlib.Core.Bool.{Bool, true, false}
use mathlib.Core.List.{List}
use mathlib.Core.Path.{◌≡◌, refl, sym, ◌∙◌}
use native.Mathlib.Omega.{arith}
use lib.ListN.{drop}
use Rattle.model.specs.Rules.Machine.{stated_length, well_formed, image_part, lent_ok}
use Rattle.model.specs.Rules.Outcome.{Outcome, accepted, refused, fault, refuse, ◌▷◌, provided}
use Rattle.model.specs.Rules.Tail.{tail_in, Bears}
use Rattle.model.specs.declared.Fault.{Fault}
use Rattle.promises.specs.Tails.{RequestF}
use Rattle.model.proofs.Basics.Outcomes.{accepted≢refused}
use Rattle.model.proofs.Images.Tails.{lent-formed}
use Rattle.model.proofs.Images.Tails as Images
use Rattle.theorems_streams.proofs.Tailed

-- What the tail's reader answers, by the test of what it is lent.
module _ (lent : List ℕ) where
  abbrev read : Bool → Outcome (List ℕ)
  read b = provided b 20 0 ▷ λ _. accepted (drop (stated_length lent) lent)

  refuses : (b : Bool) → lent_ok lent ≡ b → ((image tail : List ℕ) → well_formed image ≡ true → Bears image tail lent → ⊥) →
      read b ≡ refuse 20 0
  unfolding ◌▷◌ provided
  refuses true q none = absurd (none _ _ (lent-formed lent q) (Images.lent-bears lent q))
  refuses false q none = refl

  alone : (b : Bool) (f : Fault) → read b ≡ refused f → f ≡ fault 20 0
  unfolding ◌▷◌ provided
  alone true f e = let z : ◌≡◌ {A = ℕ} 0 1 = cc in absurd (omega arith)
  alone false f e = cc

pub request-f : RequestF
request-f =
    record {
      lent-exactly = λ lent. (
        λ h. (image_part lent, drop (stated_length lent) lent, lent-formed lent h, Images.lent-bears lent h),
        λ (i, t, f, b). Images.lent-ok f b,
      );
      tail-alike = λ image tail tail' lent lent' formed b b' state c.
          Tailed.call-alike formed b state c ∙ sym (Tailed.call-alike formed b' state c);
      tail-exactly = λ lent.
          record {
            returns = Tailed.tail-exactly lent;
            refuses = (
              λ e image tail f b. accepted≢refused _ tail (fault 20 0) ((Tailed.tail-exactly lent tail).1 (image, f, b)) e,
              unfold tail_in in (refuses lent (lent_ok lent) refl),
            );
            alone = unfold tail_in in (alone lent (lent_ok lent));
          };
    }
