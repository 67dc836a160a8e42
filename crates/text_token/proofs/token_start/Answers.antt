-- `text_token::token_start` meets its contract. Assumes nothing.
use Prim.Native.Nat.{ℕ, ◌+◌}
use mathlib.Core.Bool.{Bool}
use mathlib.Core.Path.{◌≡◌, sym, ap, ◌∙◌}
use native.Mathlib.Omega.{arith}
use lib.ListN.{length}
use Rattle.model.specs.Rules.TextForm.{between}
use Rattle.text_token.specs.Scanning.{scan_at, tokens_at}
use Rattle.text_token.proofs.Scans.{scan-on, scan-none, starts_other}
use Rattle.text_token.proofs.token_start.Goals as goal

pub returns-then-starts_token : goal.returns-then-starts_token
returns-then-starts_token c =
    let h = starts_other c.loop-i.comment _ (sym c.starts_token.ensures ∙ c.if-starts_token.true) in
    record {
      after = omega arith;
      inside = omega arith;
      same = c.loop-i.invariant ∙ ap (λ (b : Bool). tokens_at c.args.text.now c.loop-i.i (scan_at b)) h.0;
      starts = λ lt. h.1;
    }

pub loop-i-preserved : goal.loop-i-preserved
loop-i-preserved c =
    c.loop-i.invariant ∙
    scan-on c.args.text.now c.loop-i.i (omega arith) c.loop-i.comment
    (sym c.starts_token.ensures ∙ c.if-starts_token.false) ∙
    ap (λ (b : Bool). tokens_at c.args.text.now (c.loop-i.i + 1) (scan_at b))
    (sym c.comment_after-comment.ensures)

pub returns : goal.returns
returns c =
    let text = c.args.text.now in
    let e : c.loop-i.i ≡ length text = omega arith in
    record {
      after = omega arith;
      inside = omega arith;
      same =
          c.loop-i.invariant ∙ scan-none text c.loop-i.i (omega arith) c.loop-i.comment ∙
          ap (λ (i : ℕ). tokens_at text i between) e;
      starts = λ lt. absurd (omega arith);
    }
