use mathlib.Core.Bool.{Bool, cond}
use mathlib.Core.Path.{sym, ap, ◌∙◌}
use lib.IntN.{pos}
use mir.Facts.{to_z-of_z, sfits_lit}
use Rattle.model.specs.Rules.Word.{if_word}
use Rattle.word.proofs.Locals.{test-same, test-other}
use Rattle.word.proofs.choose.Goals as goal

pub returns-then-c-eq0 : goal.returns-then-c-eq0
unfolding if_word
returns-then-c-eq0 c =
    let s = c in
    let zero = test-same {b = pos 0} s.ranges.c (sfits_lit tt) c.if-c-eq0.true in
    to_z-of_z s.ranges.b ∙ sym (ap (λ (t : Bool). cond t s.args.b s.args.a) zero)

pub returns-else-c-eq0 : goal.returns-else-c-eq0
unfolding if_word
returns-else-c-eq0 c =
    let s = c in
    let other = test-other s.args.c (pos 0) c.if-c-eq0.false in
    to_z-of_z s.ranges.a ∙ sym (ap (λ (t : Bool). cond t s.args.b s.args.a) other)
