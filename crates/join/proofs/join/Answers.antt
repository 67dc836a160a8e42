-- `join::join` meets its contract. Assumes nothing.
use Rattle.std.specs.Prelude.{None}
use mathlib.Core.Path.{◌≡◌, sym, ap, ◌∙◌}
use Rattle.model.specs.Rules.Join.{joined_of, without_part, part_in, part_named}
use Rattle.model.specs.Rules.Outcome.{yielded_of}
use Rattle.basics.proofs.Judgements.{answers-ok, answers-refused}
use Rattle.join_verdict.proofs.InOrder.{handed, none-parts}
use Rattle.join.specs.Ready.{JoinReady}
use Rattle.join.proofs.Joining.{join-refused}
use Rattle.join.proofs.Written.{lents}
use Rattle.join.proofs.join.Goals as goal
use Rattle.join.proofs.join.Goals.{In_ok-verdict}

pub returns-in_err-verdict : goal.returns-in_err-verdict
returns-in_err-verdict c =
    let v = c.check_join.ensures in
    let h = handed _ c.from_residual.ensures.1 in
    let g = join-refused _ _ _ _ _ (answers-refused _ _ _ _ v.answer (ap without_part c.in_err-verdict.was)) in
    record {
      answer = ap joined_of h ∙ g.0;
      left = g.1;
      part = ap part_in h ∙ sym (ap part_in c.in_err-verdict.was) ∙ sym v.part;
    }

-- The verdict is fine, and names no part.
ready : (e : In_ok-verdict) → JoinReady e.args.texts.now e.args.numbers.now e.args.links.now e.in_ok-verdict.verdict
ready e =
    let q = answers-ok _ _ _ _ e.check_join.ensures.answer (ap without_part e.in_ok-verdict.was) in
    record { pair = q.0; accepts = q.1; checks = q.2 }

none : (e : In_ok-verdict) → None ≡ part_named e.args.texts.now e.args.numbers.now
none e = let r = ready e in sym (none-parts _ _ r.checks.parts (lents r) r.checks.checked)

pub write-requires : goal.write-requires
write-requires c = ready (goal.at.write-requires c).In_ok-verdict

pub returns-in_err-written : goal.returns-in_err-written
returns-in_err-written c =
    let w = c.write.ensures in
    let h = handed _ c.from_residual-in_err-written.ensures.1 in
    record {
      answer = ap joined_of h ∙ sym (ap yielded_of c.in_err-written.was) ∙ w.answer;
      left = w.left;
      part = ap part_in h ∙ none (goal.at.returns-in_err-written c).In_ok-verdict;
    }

pub returns : goal.returns
returns c =
    let w = c.write.ensures in
    record {
      answer = sym (ap yielded_of c.in_ok-written.was) ∙ w.answer;
      left = w.left;
      part = none (goal.at.returns c).In_ok-verdict;
    }
