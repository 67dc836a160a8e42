-- The steps of a join's verdict. Assumes nothing.
use Rattle.std.specs.Prelude.{Option, Some, None, Result, Ok, Err, IsErrAnd}
use Rattle.std.proofs.lemmas.Result.{err_from_is_err_and}
use Prim.Native.Nat.{ℕ, zero, suc, ◌+◌, ◌*◌, ◌<◌}
use mathlib.Core.Bool.{Bool, true, false, cond, not, ◌&&◌, false≢true, true≢false}
use mathlib.Core.List.{List, []}
use mathlib.Core.Path.{◌≡◌, refl, sym, ap, subst, ◌∙◌}
use native.Mathlib.Nat.{zero-add}
use native.Mathlib.Omega.{arith}
use borrow.Author.Tests.{not-false, le-ltb}
use lib.Dec.{ltb}
use lib.ListN.{length, replicate, length-replicate, get_or-replicate}
use Rattle.model.specs.Rules.Join.{
  parts_in,
  texts_at,
  lent,
  part_pair,
  parts_from,
  is_refused,
  links_in,
  is_declared,
  is_right,
  named_of,
  named,
  named_after,
  part_named,
}
use Rattle.model.specs.Rules.Outcome.{Outcome, accepted, refused}
use Rattle.model.specs.Rules.Parts.{Part, part_at}
use Rattle.model.specs.Rules.Program.{count, is_input}
use Rattle.model.specs.Rules.Search.{first_below, all_below}
use Rattle.model.specs.declared.Fault.{Fault}
use Rattle.model.specs.declared.JoinFault.{JoinFault}
use Rattle.model.proofs.Basics.Outcomes.{then-accepted, accepted≢refused}
use Rattle.model.proofs.Pairs.Decide.{is-first}
use Rattle.join_links.specs.ByPart.{signal_in, input_in, FreeInputs}
use Rattle.model.proofs.Joining.Lent.{link-in}
use Rattle.join_gather.specs.Gathering.{Taken, GatheredAs}
use Rattle.join_gather.specs.Rates.{RatesBy}
use Rattle.join_gather.specs.declared.Gathered.{Gathered}

-- What a `?` hands on, of any error.
pub handed : {B E : Type 0} {e : E} (r : Result B E) → IsErrAnd r (λ g. g ≡ e) → r ≡ Err e
handed r h = let p = err_from_is_err_and r h in p.1 ∙ ap Err p.2

ok≢err : {B E : Type 0} (r : Result B E) (b : B) (e : E) → r ≡ Ok b → r ≡ Err e → ⊥
ok≢err r b e p q = let z : ◌≡◌ {A = ℕ} 0 1 = cc in omega arith

none-declared : (k x : ℕ) → is_declared [] k x ≡ false
none-declared k x = ap (λ (b : Bool). b && ltb x (count (part_at [] k).program)) (le-ltb k 0 (omega arith))

-- Before any part.
pub rates-none : RatesBy [] (replicate 512 0) (replicate 512 false)
rates-none =
    record {
      periods-are =
          record {
            few = omega arith;
            small = λ k lt. absurd (omega arith);
            positive = λ k x e. absurd (false≢true (sym (none-declared k x) ∙ e));
            each = λ k x lk lx.
                get_or-replicate {A = ℕ} 512 (64 * k + x) 0 0 (omega arith) ∙
                sym (ap (λ (b : Bool). cond b (signal_in [] k x).period 0) (none-declared k x));
          };
      room = length-replicate {A = ℕ} 512 0;
      long = length-replicate {A = Bool} 512 false;
      inputs_are = λ k x lk lx.
          get_or-replicate {A = Bool} 512 (64 * k + x) false false (omega arith) ∙
          sym (ap (λ (b : Bool). cond b (is_input (signal_in [] k x).body) false) (none-declared k x));
    }

-- The part named.
pub none_lent : (texts numbers : List ℕ) (f : Fault) → lent texts numbers ≡ refused f → part_named texts numbers ≡ None
unfolding part_named
none_lent texts numbers f e =
    ap (λ (o : Outcome (Unit {0})).
    named_after o (first_below (parts_in numbers) (λ k. is_refused (part_pair texts (texts_at numbers k))))) e

all-passed : (texts numbers : List ℕ) (k n : ℕ) (parts : List Part) → parts_from texts numbers k n ≡ accepted parts →
    (i : ℕ) → i < n → is_refused (part_pair texts (texts_at numbers (k + i))) ≡ false
unfolding parts_from
all-passed texts numbers k zero parts e i lt = absurd (omega arith)
all-passed texts numbers k (suc n) parts e zero lt =
    let a = then-accepted (part_pair texts (texts_at numbers k)) _ parts e in
    let z : k + 0 ≡ k = omega arith in
    rw z (ap is_refused a.1)
all-passed texts numbers k (suc n) parts e (suc i) lt =
    let a = then-accepted (part_pair texts (texts_at numbers k)) _ parts e in
    let b = then-accepted (parts_from texts numbers (suc k) n) _ parts a.2 in
    let z : k + suc i ≡ suc k + i = omega arith in
    rw z (all-passed texts numbers (suc k) n b.0 b.1 i (omega arith))

pub none-parts : (texts numbers : List ℕ) (parts : List Part) → lent texts numbers ≡ accepted tt →
    parts_from texts numbers 0 (parts_in numbers) ≡ accepted parts → part_named texts numbers ≡ None
unfolding part_named
none-parts texts numbers parts l e =
    ap (λ (o : Outcome (Unit {0})).
    named_after o (first_below (parts_in numbers) (λ k. is_refused (part_pair texts (texts_at numbers k))))) l ∙
    go (first_below (parts_in numbers) (λ k. is_refused (part_pair texts (texts_at numbers k)))) refl
  where
    go : (f : Option ℕ) → first_below (parts_in numbers) (λ k. is_refused (part_pair texts (texts_at numbers k))) ≡ f → f ≡ None
    go None q = refl
    go (Some k) q =
        let h = is-first (parts_in numbers) (λ k. is_refused (part_pair texts (texts_at numbers k))) (Some k) q in
        let p = all-passed texts numbers 0 (parts_in numbers) parts e k (omega arith) in
        absurd (true≢false (sym h.2 ∙ ap (λ (n : ℕ). is_refused (part_pair texts (texts_at numbers n))) (sym (zero-add k)) ∙ p))

-- What gathering finds.
module _ (texts numbers : List ℕ) (periods : List ℕ) (inputs : List Bool) (r : Result Gathered JoinFault) where
  pub gathered-fine : (o : Outcome (List Part)) (g : Gathered) → GatheredAs texts numbers o periods inputs r → r ≡ Ok g →
      (parts : List Part) × (o ≡ accepted parts) × Taken numbers periods inputs g parts
  unfolding GatheredAs
  gathered-fine (accepted parts) g h e =
      let same : h.0 ≡ g = cc h.1 in
      (parts, refl, subst (λ (x : Gathered). Taken numbers periods inputs x parts) same h.2)
  gathered-fine (refused f) g h e = absurd (ok≢err r g _ e h.1)

  pub gathered-refused : (o : Outcome (List Part)) (e : JoinFault) → GatheredAs texts numbers o periods inputs r → r ≡ Err e →
      (o ≡ refused e.fault) × (part_named texts numbers ≡ e.part)
  unfolding GatheredAs
  gathered-refused (accepted parts) e h q = absurd (ok≢err r h.0 e h.1 q)
  gathered-refused (refused f) e h q =
      let same : record { fault = f; part = Some h.0 } ≡ e = cc h.1 in
      (ap (λ (x : JoinFault). refused x.fault) same, h.2 ∙ ap (λ (x : JoinFault). x.part) same)

pub free-none : (parts : List Part) (periods links : List ℕ) (inputs : List Bool) → RatesBy parts periods inputs →
    FreeInputs parts links 0 inputs
unfolding all_below
free-none parts periods links inputs r =
    record { long = r.long; each = λ k x lk lx. r.inputs_are k x lk lx ∙ both (input_in parts k x) }
  where
    both : (b : Bool) → b ≡ b && true
    both true = refl
    both false = refl

-- Links that are passed are right.
pub all_right : (parts : List Part) (links : List ℕ) → named parts links ≡ accepted tt → (i : ℕ) → 4 * i < length links →
    is_right parts links i ≡ true
unfolding named
all_right parts links e i lt = go (first_below (links_in links) (λ i. not (is_right parts links i))) refl e
  where
    go : (f : Option ℕ) → first_below (links_in links) (λ i. not (is_right parts links i)) ≡ f → named_of parts f ≡ accepted tt →
        is_right parts links i ≡ true
    go (Some k) q n = absurd (accepted≢refused _ tt _ n refl)
    go None q n =
        not-false _
        (is-first (links_in links) (λ i. not (is_right parts links i)) None q i (omega arith)
        (omega (arith, link-in links i lt)))
