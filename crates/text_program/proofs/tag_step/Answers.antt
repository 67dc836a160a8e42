-- `text_program::tag_step` meets its contract. Assumes nothing.
use Prim.Native.Nat.{ℕ, ◌+◌}
use mathlib.Core.Bool.{true, false}
use mathlib.Core.List.{List}
use mathlib.Core.Path.{◌≡◌, sym, ◌∙◌}
use native.Mathlib.Omega.{arith}
use Rattle.model.specs.Rules.Command.{is_signal}
use Rattle.model.specs.Rules.Word.{byte_at}
use Rattle.text_program.proofs.Parts.{tag-ends, tag-by}
use Rattle.text_program.proofs.tag_step.Goals as goal
use Rattle.text_program.proofs.tag_step.Goals.{After-is_signal}

-- where the byte after the TAG is judged
module _ (c : After-is_signal) where
  abbrev text : List ℕ
  text = c.args.text.now

  abbrev at : ℕ
  at = c.args.walk.at

  width : c.in_program.result ≡ 3
  width = c.in_program.ensures

  told : c.is_signal.result ≡ is_signal (byte_at text (at + 3))
  told = rw width at c.is_signal.ensures

pub returns-then-text-next : goal.returns-then-text-next
returns-then-text-next c = c.refuse.ensures ∙ tag-ends _ _ _ _ _ _ (omega arith)

pub returns-then-not-is_signal : goal.returns-then-not-is_signal
returns-then-not-is_signal c =
    let k = (goal.at.returns-then-not-is_signal c).After-is_signal in
    c.refuse-then-not-is_signal.ensures ∙
    tag-by (text k) (at k) _ _ _ _ false (omega arith) (sym (told k) ∙ c.if-not-is_signal.true)

pub returns : goal.returns
returns c =
    let k = (goal.at.returns c).After-is_signal in
    rw (width k) at c.adds.ensures ∙
    tag-by (text k) (at k) _ _ _ _ true (omega arith) (sym (told k) ∙ c.if-not-is_signal.false)
