-- `board::reset_place` meets its contract. Assumes nothing.
use mathlib.Core.Path.{refl, ap, ◌∙◌}
use Prim.Native.Nat.{ℕ}
use lib.IntN.{ℤ}
use Rattle.std.proofs.lemmas.Result.{err_from_is_err_and}
use Rattle.model.specs.Rules.Machine.{Effect, reset_of}
use Rattle.board.proofs.Stretch.{gives-effect, outside-27, inside-runs}
use Rattle.board.proofs.reset_place.Goals as goal

pub returns-in_err-lent : goal.returns-in_err-lent
returns-in_err-lent c =
    let p = err_from_is_err_and c.from_residual.result c.from_residual.ensures.1 in
    let e = c.in_err-lent.ensures.err in
    rw (p.1, p.2, e.1) (gives-effect (outside-27 _ _ _ _ _ e.0) refl refl)

pub returns : goal.returns
returns c =
    let s = c.in_ok-lent.ensures.ok in
    let there = ap (λ lent. reset_of lent c.args.words.now) s.1 in
    gives-effect (inside-runs _ _ _ _ _ s.0) (c.reset.ensures.0 ∙ ap (λ (e : Effect ℕ ℤ). e.answer) there)
    (c.reset.ensures.1 ∙ ap (λ (e : Effect ℕ ℤ). e.left) there)
