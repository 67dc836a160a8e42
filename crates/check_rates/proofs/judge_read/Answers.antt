-- `check_rates::judge_read` meets its contract. Assumes nothing.
use mathlib.Core.Path.{◌∙◌}
use Rattle.check_rates.specs.Rates.{read_judged}
use borrow.Author.Rules.{rules}
use Rattle.check_rates.proofs.judge_read.Goals as goal

pub returns : goal.returns
unfolding read_judged
returns c =
    let r = c in
    c.judge_rate.ensures ∙
    rw (
      r.period_rule-kept.ensures,
      r.period_at-w.ensures,
      r.period_at-r.ensures,
      r.from_byte-signal.ensures.0,
    )
