-- `text_list::list_with` meets its contract. Assumes nothing.
use Prim.Native.Nat.{ℕ}
use mathlib.Core.List.{List}
use mathlib.Core.Path.{◌≡◌, ap, ◌∙◌}
use native.Mathlib.Omega.{arith}
use lib.ListN.{length}
use Rattle.std.proofs.lemmas.Result.{err_from_is_err_and}
use Rattle.model.specs.Rules.Outcome.{yielded_of, accepted}
use Rattle.model.specs.Rules.TextForm.{listing, listing_of}
use Rattle.text_keyword.proofs.Answered.{length-refused, length-done, answered-refused, answered-short, answered-done}
use Rattle.text_list.proofs.list_with.Goals as goal
use Rattle.text_list.proofs.list_with.Goals.{In_ok-n}

-- what was measured
measured : (c : In_ok-n) → (l : List ℕ) × (listing c.args.bytes.now ≡ accepted l) × (length l ≡ c.in_ok-n.n)
measured c = length-done (listing c.args.bytes.now) _ c.in_ok-n.ensures

pub returns-in_err-n : goal.returns-in_err-n
unfolding listing_of
returns-in_err-n c =
    let o = listing c.args.bytes.now in
    let g = answered-refused c.args.bytes.now o c.args.text.now c.requires _ (length-refused o _ c.in_err-n.ensures) in
    let p = err_from_is_err_and c.from_residual.result c.from_residual.ensures.1 in
    rw (p.1, p.2) g

pub returns-then-text-n : goal.returns-then-text-n
unfolding listing_of
returns-then-text-n c =
    let l = measured (goal.at.returns-then-text-n c).In_ok-n in
    let g = answered-short c.args.bytes.now (listing c.args.bytes.now) c.args.text.now c.requires l.0 l.1 _
    l.2 c.if-text-n.true in
    (ap yielded_of c.refuse.ensures ∙ g.0, g.1)

pub write_listing-end-requires : goal.write_listing-end-requires
write_listing-end-requires c =
    let l = measured (goal.at.write_listing-end-requires c).In_ok-n in
    record { written = l.0; done = l.1; fits = omega (arith, l.2, c.if-text-n.false) }

pub returns : goal.returns
unfolding listing_of
returns c =
    let l = measured (goal.at.returns c).In_ok-n in
    answered-done c.args.bytes.now (listing c.args.bytes.now) c.args.text.now c.requires l.0 l.1 _ _
    (omega (arith, l.2, c.if-text-n.false)) (rw l.1 at c.write_listing-end.ensures)
