-- `moves::list_phase` meets its contract. Assumes nothing.
use mathlib.Core.Bool.{true, false, false≢true}
use mathlib.Core.Logic.{inl, inr}
use mathlib.Core.Path.{refl, sym, ◌∙◌}
use borrow.Author.Rules.{rules}
use borrow.Author.Tests.{not-true, not-false}
use Rattle.moves.proofs.list_phase.Goals as goal

pub returns-then-not-fits : goal.returns-then-not-fits
returns-then-not-fits c =
    inr (λ q. false≢true (sym c.if-not-fits.true ∙ c.fits.ensures.1 q), refl, refl)

pub returns : goal.returns
returns c =
    inl (c.fits.ensures.0 c.if-not-fits.false, c.put_entry.ensures, refl)
