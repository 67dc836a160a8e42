-- `text_convert::convert_with` meets its contract. Assumes nothing.
use mathlib.Core.Path.{◌≡◌, ap, ◌∙◌}
use Rattle.basics.proofs.Judgements.{handed-on}
use Rattle.model.specs.Rules.Outcome.{yielded_of, accepted}
use Rattle.model.specs.Rules.Program.{Program, parse_with}
use Rattle.text_convert.proofs.Walk.{convert-refused, convert-short, convert-done, read-refused, read-fine}
use Rattle.text_convert.proofs.convert_with.Goals as goal
use Rattle.text_convert.proofs.convert_with.Goals.{In_ok-read_program}

-- what is read of the text, before its length is taken
fine : (e : In_ok-read_program) → (p : Program) × (parse_with 1 e.args.program.now ≡ accepted p)
fine e = read-fine _ _ _ _ e.read_program.ensures e.in_ok-read_program.was

pub returns-in_err-read_program : goal.returns-in_err-read_program
returns-in_err-read_program c =
    rw (handed-on _ c.from_residual.ensures.1) (convert-refused _ _ c.requires.0 _
    (read-refused _ _ _ _ c.read_program.ensures c.in_err-read_program.was))

pub returns-then-res-length : goal.returns-then-res-length
returns-then-res-length c =
    let k = fine (goal.at.returns-then-res-length c).In_ok-read_program in
    let g = convert-short _ _ c.requires.0 k.0 k.1 _ c.rewritten_length-length.ensures c.if-res-length.true in
    (ap yielded_of c.refuse.ensures ∙ g.0, g.1)

pub returns : goal.returns
returns c =
    let k = fine (goal.at.returns c).In_ok-read_program in
    convert-done _ _ c.requires.0 k.0 k.1 _ c.rewritten_length-length.ensures _ _ c.if-res-length.false
    c.write-end.ensures
