-- `image_valid::is_end` meets its contract. Assumes nothing.
use mathlib.Core.Path.{sym, ap, ◌∙◌}
use Prim.Native.Nat.{ℕ, ◌+◌}
use Rattle.model.specs.Rules.Machine.{code_offset}
use Rattle.image_valid.specs.Walk.{ends_code}
use Rattle.image_valid.proofs.is_end.Goals as goal
use Rattle.image_valid.proofs.is_end.Goals.{After-from_byte-2, Start}

pub returns-then-not-is_last : goal.returns-then-not-is_last
unfolding ends_code
returns-then-not-is_last c = rw (sym c.is_last.ensures ∙ c.if-not-is_last.true)

abbrev start : After-from_byte-2 → Start
start w = (goal.at.After-from_byte-2 w).Start

pub code_offset-requires : goal.code_offset-requires
code_offset-requires c = ((start c).requires.0, c.from_byte.ensures.0 ∙ (start c).requires.1)

pub returns : goal.returns
unfolding ends_code
returns c =
    let w = (goal.at.returns c).After-from_byte-2 in
    let e = c in
    rw (
      sym e.is_last.ensures ∙ e.if-not-is_last.false,
      c.code_offset.ensures ∙ ap (λ (k : ℕ). code_offset (start w).args.image.now (k + 1)) w.from_byte-2.ensures.0,
    )
