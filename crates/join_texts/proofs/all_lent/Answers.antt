-- `join_texts::all_lent` meets its contract. Assumes nothing.
use Prim.Native.Nat.{ℕ, ◌+◌, ◌<◌}
use mathlib.Core.Bool.{true}
use mathlib.Core.Path.{◌≡◌, refl, sym, subst, ◌∙◌}
use native.Mathlib.Decide.{dec_lt}
use native.Mathlib.Omega.{arith}
use Rattle.model.specs.Rules.Join.{texts_at, are_lent}
use Rattle.model.proofs.Pairs.Decide.{true-all, all-fails}
use Rattle.join_texts.proofs.all_lent.Goals as goal

none : (y : ℕ) → y < 0 → ⊥
none y h = omega arith

pub loop-k-init : goal.loop-k-init
loop-k-init c = (refl, omega arith, λ j lt. absurd (none j lt))

pub are_lent-requires : goal.are_lent-requires
are_lent-requires c = omega (arith, c.loop-k.invariant.0, c.loop-k-test.true)

pub returns-then-not-are_lent : goal.returns-then-not-are_lent
returns-then-not-are_lent c =
    let l = c.loop-k in
    sym (all-fails _ _ l.k (omega (arith, l.invariant.0)) (sym c.are_lent.ensures ∙ c.if-not-are_lent.true))

pub loop-k-preserved : goal.loop-k-preserved
loop-k-preserved c =
    let l = c.loop-k in
    let a = c.args in
    (l.invariant.0, omega arith, λ j lt. go j lt (dec_lt j l.k))
  where
    go : (j : ℕ) → j < c.loop-k.k + 1 → Dec (j < c.loop-k.k) →
        are_lent c.args.texts.now
        (texts_at c.args.numbers.now j) ≡
        true
    go j lt (yes h) = c.loop-k.invariant.2 j h
    go j lt (no h) =
        let e : c.loop-k.k ≡ j = omega arith in
        subst (λ (i : ℕ).
        are_lent c.args.texts.now
        (texts_at c.args.numbers.now i) ≡
        true) e (sym c.are_lent.ensures ∙ c.if-not-are_lent.false)

pub returns : goal.returns
returns c =
    let l = c.loop-k in
    sym (true-all _ _ (λ j lt. l.invariant.2 j (omega (arith, l.invariant.0, l.invariant.1))))
