-- `image_valid::past_own` meets its contract. Assumes nothing.
use mathlib.Core.Path.{refl, sym, ◌∙◌}
use Rattle.image_valid.specs.Walk.{past_own}
use Rattle.image_valid.proofs.past_own.Goals as goal

pub returns-then-is_fetch : goal.returns-then-is_fetch
unfolding past_own
returns-then-is_fetch c = rw (sym c.is_fetch.ensures ∙ c.if-is_fetch.true) refl

pub returns-then-is_end : goal.returns-then-is_end
unfolding past_own
returns-then-is_end c =
    let e = c in
    rw (sym e.is_fetch.ensures ∙ e.if-is_fetch.false, sym c.is_end.ensures ∙ c.if-is_end.true) refl

pub returns : goal.returns
unfolding past_own
returns c =
    let e = c in
    rw (sym e.is_fetch.ensures ∙ e.if-is_fetch.false, sym c.is_end.ensures ∙ c.if-is_end.false) refl
