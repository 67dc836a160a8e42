-- `text_assemble::assemble_with` meets its contract. Assumes nothing.
use Prim.Native.Nat.{ℕ}
use mathlib.Core.List.{List}
use mathlib.Core.Path.{◌≡◌, ap, ◌∙◌}
use native.Mathlib.Omega.{arith}
use lib.ListN.{length}
use Rattle.std.proofs.lemmas.Result.{err_from_is_err_and}
use Rattle.model.specs.Rules.Outcome.{yielded_of, accepted}
use Rattle.model.specs.Rules.TextForm.{assembly, assemble_of}
use Rattle.text_keyword.proofs.Answered.{length-refused, length-done, answered-refused, answered-short, answered-done}
use Rattle.text_assemble.proofs.assemble_with.Goals as goal
use Rattle.text_assemble.proofs.assemble_with.Goals.{In_ok-n}

-- what was measured
measured : (c : In_ok-n) → (l : List ℕ) × (assembly c.args.text.now ≡ accepted l) × (length l ≡ c.in_ok-n.n)
measured c = length-done (assembly c.args.text.now) _ c.in_ok-n.ensures

pub returns-in_err-n : goal.returns-in_err-n
unfolding assemble_of
returns-in_err-n c =
    let o = assembly c.args.text.now in
    let g = answered-refused c.args.text.now o c.args.bytes.now c.requires _ (length-refused o _ c.in_err-n.ensures) in
    let p = err_from_is_err_and c.from_residual.result c.from_residual.ensures.1 in
    rw (p.1, p.2) g

pub returns-then-bytes-n : goal.returns-then-bytes-n
unfolding assemble_of
returns-then-bytes-n c =
    let l = measured (goal.at.returns-then-bytes-n c).In_ok-n in
    let g = answered-short c.args.text.now (assembly c.args.text.now) c.args.bytes.now c.requires l.0 l.1 _
    l.2 c.if-bytes-n.true in
    (ap yielded_of c.refuse.ensures ∙ g.0, g.1)

pub write_assembly-end-requires : goal.write_assembly-end-requires
write_assembly-end-requires c =
    let l = measured (goal.at.write_assembly-end-requires c).In_ok-n in
    record { written = l.0; done = l.1; fits = omega (arith, l.2, c.if-bytes-n.false) }

pub returns : goal.returns
unfolding assemble_of
returns c =
    let l = measured (goal.at.returns c).In_ok-n in
    answered-done c.args.text.now (assembly c.args.text.now) c.args.bytes.now c.requires l.0 l.1 _ _
    (omega (arith, l.2, c.if-bytes-n.false)) (rw l.1 at c.write_assembly-end.ensures)
