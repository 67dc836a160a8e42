-- `moves::fits` meets its contract. Assumes nothing.
use Prim.Native.Nat.{◌+◌}
use mathlib.Core.Bool.{true, false}
use mathlib.Core.Logic.{inl, inr}
use mathlib.Core.Path.{◌≡◌, refl, sym, ap, subst, ◌∙◌}
use borrow.Author.Rules.{rules}
use borrow.Author.Tests.{not-true, not-false}
use lib.ListN.{get_or}
use Rattle.model.specs.Rules.Load.{is_over}
use Rattle.model.specs.Rules.Reads.{Rate}
use Rattle.text_program.specs.Tables.{cap_of}
use Rattle.moves.specs.Listing.{Spare, FitsAt}
use Rattle.moves.proofs.fits.Goals as goal
use Rattle.moves.proofs.fits.Goals.{After-has_room}

pub returns-in_default : goal.returns-in_default
returns-in_default c =
    let a = c.args in
    (λ e. inr (λ k lt d. ap (λ b. is_over (cap_of b) (get_or a.loads.now k 0 + a.weight)) c.in_default.is), λ h. refl)

pub returns-then-phase-from_byte : goal.returns-then-phase-from_byte
returns-then-phase-from_byte c = (λ e. inl (c.if-phase-from_byte.true ∙ c.from_byte.ensures.0), λ h. refl)

pub returns : goal.returns
returns c =
    let a = c.args in
    let rate : Rate = record { period = a.period; phase = a.phase } in (
      λ t. inr (subst (λ b. Spare a.loads.now b rate a.weight a.h) (sym c.in-Some.is) (c.has_room.ensures.0 t)),
      λ h. room (goal.at.returns c).After-has_room h,
    )
  where
    room : (c : After-has_room) → let a = c.args in
        FitsAt a.loads.now a.cap a.period a.weight a.present a.h a.phase → c.has_room.result ≡ true
    room c (inl q) = absurd (c.if-phase-from_byte.false (q ∙ sym c.from_byte.ensures.0))
    room c (inr h) =
        let a = c.args in
        let rate : Rate = record { period = a.period; phase = a.phase } in
        c.has_room.ensures.1 (subst (λ b. Spare a.loads.now b rate a.weight a.h) c.in-Some.is h)
