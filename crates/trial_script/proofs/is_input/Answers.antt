-- `trial_script::is_input` meets its contract. Assumes nothing.
use Rattle.trial_script.proofs.Walk.{code-starts}
use Rattle.trial_script.specs.Inputs.{fetches}
use Rattle.image_valid.proofs.Parts.{head, formed}
use Rattle.model.specs.Rules.Word.{byte_at}
use Rattle.model.specs.Rules.Machine.{count_of, code_offset}
use lib.Dec.{eqb}
use borrow.Author.Tests.{lt-ltb, le-ltb}
use Prim.Native.Nat.{ℕ, ◌<◌}
use mathlib.Core.Path.{ap, ◌∙◌}
use native.Mathlib.Omega.{arith}
use Rattle.trial_script.proofs.is_input.Goals as goal
use Rattle.trial_script.proofs.is_input.Goals.{Else-n-own, Start}

abbrev start : Else-n-own → Start
start e = (goal.at.Else-n-own e).Start

below : (e : Else-n-own) → (start e).args.x < count_of (start e).args.image.now
below e = omega (arith, e.from_byte-own.ensures.0, e.from_byte-n.ensures.0, e.if-n-own.false)

pub bounds-image-1 : goal.bounds-image-1
bounds-image-1 c = omega (arith, (head _ (formed _ c.requires).good).four)

pub returns-then-n-own : goal.returns-then-n-own
unfolding fetches
returns-then-n-own c =
    rw (le-ltb c.args.x (count_of c.args.image.now)
    (omega (arith, c.from_byte-own.ensures.0, c.from_byte-n.ensures.0)))

pub code_offset-at-requires : goal.code_offset-at-requires
code_offset-at-requires c = ((formed _ c.requires).good, c.from_byte-n.ensures.0)

pub bounds-image-at : goal.bounds-image-at
bounds-image-at c = let e = (goal.at.bounds-image-at c).Else-n-own in let s = c in
    omega (
      arith,
      c.code_offset-at.ensures ∙ ap (code_offset s.args.image.now)
          e.from_byte-own.ensures.0,
      code-starts s.args.image.now s.args.x s.requires (below e),
    )

pub returns : goal.returns
unfolding fetches
returns c = let e = (goal.at.returns c).Else-n-own in let s = c in
    rw (lt-ltb s.args.x (count_of s.args.image.now) (below e))
    (ap (λ (k : ℕ). eqb (byte_at s.args.image.now k) 82)
    (c.code_offset-at.ensures ∙ ap (code_offset s.args.image.now) e.from_byte-own.ensures.0))
