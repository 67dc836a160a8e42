-- `text_token::token_end` meets its contract. Assumes nothing.
use Prim.Native.Nat.{ℕ, ◌-◌}
use mathlib.Core.List.{◌∷◌}
use mathlib.Core.Path.{◌≡◌, sym, ap, ◌∙◌}
use native.Mathlib.Omega.{arith}
use lib.ListN.{length, take, drop}
use Rattle.model.specs.Rules.TextForm.{between, token}
use Rattle.text_token.specs.Scanning.{tokens_at}
use Rattle.text_token.proofs.Scans.{token-starts, token-on, token-ends, token-last, is-other}
use Rattle.text_token.proofs.token_end.Goals as goal

pub loop-i-init : goal.loop-i-init
loop-i-init c = token-starts c.args.text.now c.args.start c.requires.0 c.requires.1

pub returns-then-not-is_other : goal.returns-then-not-is_other
returns-then-not-is_other c =
    let a = c.args in
    record {
      after = omega arith;
      inside = omega arith;
      tokens =
          c.loop-i.invariant ∙
          token-ends a.text.now c.loop-i.i a.start _ (omega arith) (sym c.is_other.ensures ∙ c.if-not-is_other.true);
    }

pub loop-i-preserved : goal.loop-i-preserved
loop-i-preserved c =
    let a = c.args in
    c.loop-i.invariant ∙
    token-on a.text.now c.loop-i.i a.start (omega arith) (omega arith)
    (is-other _ (sym c.is_other.ensures ∙ c.if-not-is_other.false))

pub returns : goal.returns
returns c =
    let text = c.args.text.now in
    let start = c.args.start in
    let e : c.loop-i.i ≡ length text = omega (arith, c.requires.0) in
    record {
      after = omega (arith, c.requires.0);
      inside = omega arith;
      tokens =
          c.loop-i.invariant ∙ token-last text c.loop-i.i start _ (omega arith) ∙
          ap (λ (i : ℕ). token start (take (i - start) (drop start text)) ∷ tokens_at text i between) e;
    }
