-- `join_links::judge_links` meets its contract. Assumes nothing.
use Rattle.std.specs.Prelude.{Option, Some, Result}
use Prim.Native.Nat.{ℕ, suc, ◌+◌, ◌-◌, ◌*◌, ◌<◌}
use mathlib.Core.Bool.{Bool, false, not}
use mathlib.Core.List.{List}
use mathlib.Core.Path.{◌≡◌, refl, sym, ap, subst, ◌∙◌}
use native.Mathlib.Nat.{sub-zero}
use native.Mathlib.Omega.{arith}
use lib.ListN.{length, set}
use Rattle.model.specs.Rules.Join.{links_in, is_right, named_of, named}
use Rattle.model.specs.Rules.Parts.{Part}
use Rattle.model.specs.Rules.Search.{first_from, first_below}
use Rattle.basics.specs.Judgement.{judgement_of}
use Rattle.model.specs.declared.Fault.{Fault}
use Rattle.read_rule.proofs.Searches.{search-none, search-here, search-next}
use Rattle.join_links.specs.ByPart.{FreeInputs, passed_of, passed}
use Rattle.model.proofs.Joining.Lent.{link-in}
use Rattle.join_links.proofs.Right.{free-next, cut-wrong}
use Rattle.join_links.proofs.judge_links.Invariants.{bad, Passed}
use Rattle.join_links.proofs.judge_links.Goals as goal
use Rattle.join_links.proofs.judge_links.Goals.{In-loop-i}

pub loop-i-init : goal.loop-i-init
unfolding first_below
loop-i-init c = λ parts t f. record { free = f; first = rw sub-zero }

-- The link at which the loop is, whole or cut.
some : (c : In-loop-i) → 4 * c.loop-i.i < length c.args.links.now
some c = omega (arith, c.loop-i-test.true)

-- a wrong link, the first
wrong : (parts : List Part) (links : List ℕ) (i : ℕ) (inputs : List Bool) (r : Result (Unit {0}) Fault) → 4 * i < length links →
    Passed parts links i inputs → is_right parts links i ≡ false → r ≡ judgement_of (named_of parts (Some i)) →
    (r ≡ judgement_of (named parts links)) × FreeInputs parts links (passed parts links) inputs
unfolding named
wrong parts links i inputs r lt p w is =
    let first = p.first ∙ search-here (bad parts links) i (links_in links) (link-in links i lt) (ap not w) in (
      is ∙ sym (ap (λ (f : Option ℕ). judgement_of (named_of parts f)) first),
      subst (λ (n : ℕ). FreeInputs parts links n inputs) (sym (ap (passed_of (links_in links)) first)) p.free,
    )

pub returns-then-links-at-lt4 : goal.returns-then-links-at-lt4
unfolding judgement_of
returns-then-links-at-lt4 c =
    let lt = some (goal.at.returns-then-links-at-lt4 c).In-loop-i in
    λ parts t f.
    wrong parts c.args.links.now c.loop-i.i c.loop-i.inputs _ lt (c.loop-i.invariant parts t f)
    (cut-wrong parts c.args.links.now c.loop-i.i (omega (arith, c.if-links-at-lt4.true, lt)))
    c.refuse.ensures

pub is_right-requires : goal.is_right-requires
is_right-requires c = omega (arith, c.if-links-at-lt4.false, some (goal.at.is_right-requires c).In-loop-i)

pub returns-then-not-is_right : goal.returns-then-not-is_right
unfolding judgement_of
returns-then-not-is_right c = λ parts t f.
    let p = c.loop-i.invariant parts t f in
    wrong parts c.args.links.now c.loop-i.i c.loop-i.inputs _ (some (goal.at.returns-then-not-is_right c).In-loop-i) p
    (sym (c.is_right.ensures.value parts c.loop-i.i refl t p.free) ∙ c.if-not-is_right.true)
    c.refuse-then-not-is_right.ensures

pub bounds-inputs-entry : goal.bounds-inputs-entry
bounds-inputs-entry c =
    let h = c.is_right.ensures.inside c.if-not-is_right.false in
    omega (arith, h.0, h.1, c.from_byte-in-loop-i.ensures.0, c.from_byte.ensures.0)

pub loop-i-preserved : goal.loop-i-preserved
loop-i-preserved c =
    let i = c.loop-i.i in
    let links = c.args.links.now in
    let h = c.is_right.ensures.inside c.if-not-is_right.false in
    let next : suc i ≡ i + 1 = omega arith in
    λ parts t f.
    let p = c.loop-i.invariant parts t f in
    let right = sym (c.is_right.ensures.value parts i refl t p.free) ∙ c.if-not-is_right.false in
    rw (sym next)
    (record {
      free =
          subst (λ (n : ℕ). FreeInputs parts links (suc i) (set c.loop-i.inputs n false))
          (omega (arith, c.from_byte-in-loop-i.ensures.0, c.from_byte.ensures.0))
          (free-next parts links i (4 * i) c.loop-i.inputs refl p.free h.0 h.1);
      first =
          p.first ∙
          search-next (bad parts links) i (links_in links)
          (link-in links i (some (goal.at.loop-i-preserved c).In-loop-i)) (ap not right) ∙
          ap (λ (n : ℕ). first_from n (links_in links - n) (bad parts links)) (omega arith);
    })

pub returns : goal.returns
unfolding named judgement_of
returns c =
    let l = c.loop-i in
    let links = c.args.links.now in
    let all : links_in links ≡ l.i = omega (arith, l.auto.i-end, c.loop-i-test.false) in
    λ parts t f.
    let p = l.invariant parts t f in
    let none = p.first ∙ search-none (bad parts links) l.i (links_in links) (omega arith) in (
      sym (ap (λ g. judgement_of (named_of parts g)) none),
      subst (λ (n : ℕ). FreeInputs parts links n l.inputs) (sym (ap (passed_of (links_in links)) none ∙ all)) p.free,
    )

pub overflow_mul-entry : goal.overflow_mul-entry
overflow_mul-entry c = omega (arith, c.from_byte.ensures.1)

pub overflow_add-entry : goal.overflow_add-entry
overflow_add-entry c = omega (arith, c.from_byte-in-loop-i.ensures.1, c.from_byte.ensures.1)
