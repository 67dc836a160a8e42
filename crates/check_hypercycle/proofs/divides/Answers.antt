-- `check_hypercycle::divides` meets its contract. Assumes nothing.
use Prim.Native.Nat.{◌%◌}
use mathlib.Core.Path.{◌≡◌, sym, ap, ◌∙◌}
use native.Mathlib.Nat.{mod-zero}
use lib.Dec.{eqb}
use borrow.Author.Rules.{rules}
use Rattle.check_hypercycle.proofs.divides.Goals as goal

pub returns-then-d-eq0 : goal.returns-then-d-eq0
returns-then-d-eq0 c =
    let z : c.args.period ≡ 0 = sym c.from_byte-d.ensures.0 ∙ c.if-d-eq0.true in
    sym (ap (λ d. eqb (c.args.h % d) 0) z ∙ ap (λ m. eqb m 0) (mod-zero c.args.h))

pub returns : goal.returns
returns c = ap (λ d. eqb (c.args.h % d) 0) c.from_byte-d.ensures.0
