-- `join_verdict::check_join` meets its contract. Assumes nothing.
use Rattle.std.specs.Prelude.{None}
use Prim.Native.Nat.{ℕ}
use mathlib.Core.List.{List}
use mathlib.Core.Path.{◌≡◌, refl, sym, ap, ◌∙◌}
use Rattle.model.specs.Rules.Join.{parts_in, program_total, lent, parts_from, named, one_table, joined_pair_of, without_part, part_in, part_named}
use Rattle.model.specs.Rules.Outcome.{accepted}
use Rattle.model.specs.Rules.Parts.{Part}
use Rattle.basics.proofs.Judgements.{
  judgement-fine,
  judgement-refused,
  answers-ok,
  answers-refused,
  answers-then,
  answers-stop,
  answers-gives,
  answers-accepted,
}
use Rattle.join_gather.specs.Gathering.{Taken}
use Rattle.join_links.specs.ByPart.{FreeInputs}
use Rattle.join_whole.specs.Whole.{Joining}
use Rattle.join_verdict.proofs.InOrder.{
  handed,
  rates-none,
  none_lent,
  none-parts,
  gathered-fine,
  gathered-refused,
  free-none,
  all_right,
}
use Rattle.join_verdict.proofs.check_join.Goals as goal
use Rattle.join_verdict.proofs.check_join.Goals.{In_ok-check_texts, In_ok-gathered, In_ok-judge_links, In_ok-one_table}

-- What is known after each check that is passed: the texts are lent,
passed : (i : In_ok-check_texts) → lent i.args.texts.now i.args.numbers.now ≡ accepted tt
passed i = judgement-fine _ _ i.check_texts.ensures i.in_ok-check_texts.was

-- the parts are accepted,
module _ (e : In_ok-gathered) where
  abbrev texts : List ℕ
  texts = e.args.texts.now

  abbrev numbers : List ℕ
  numbers = e.args.numbers.now

  abbrev links : List ℕ
  links = e.args.links.now

  lent-at : lent texts numbers ≡ accepted tt
  lent-at = passed (goal.at.In_ok-gathered e).In_ok-check_texts

  gathered : (parts : List Part) × (parts_from texts numbers 0 (parts_in numbers) ≡ accepted parts) ×
      Taken numbers e.gather.new.periods e.gather.new.inputs e.in_ok-gathered.gathered parts
  gathered = gathered-fine texts numbers _ _ _ _ _ (e.gather.ensures rates-none) e.in_ok-gathered.was

  abbrev parts : List Part
  parts = gathered.0

  none : part_named texts numbers ≡ None
  none = none-parts texts numbers parts lent-at gathered.1

  free : FreeInputs parts links 0 e.gather.new.inputs
  free = free-none parts _ links _ gathered.2.rates

-- the links are right,
right : (l : In_ok-judge_links) → let e = (goal.at.In_ok-judge_links l).In_ok-gathered in named (parts e) (links e) ≡ accepted tt
right l =
    let e = (goal.at.In_ok-judge_links l).In_ok-gathered in
    judgement-fine _ _ (l.judge_links.ensures (parts e) (gathered e).2.rates.periods-are (free e)).0 l.in_ok-judge_links.was

joining : (l : In_ok-judge_links) → let e = (goal.at.In_ok-judge_links l).In_ok-gathered in
    Joining (parts e) (program_total (numbers e)) (links e) e.in_ok-gathered.gathered.joint
joining l =
    let e = (goal.at.In_ok-judge_links l).In_ok-gathered in
    record {
      few = (gathered e).2.rates.periods-are.few;
      joint-of = (gathered e).2.joint-of;
      right = all_right (parts e) (links e) (right l);
    }

-- rows stand in one part only
one : (o : In_ok-one_table) → let e = (goal.at.In_ok-one_table o).In_ok-gathered in one_table (parts e) ≡ accepted tt
one o =
    let e = (goal.at.In_ok-one_table o).In_ok-gathered in
    judgement-fine _ _ (o.one_table.ensures (parts e) (gathered e).2.table_of) o.in_ok-one_table.was

pub returns-in_err-check_texts : goal.returns-in_err-check_texts
unfolding joined_pair_of
returns-in_err-check_texts c =
    let e = judgement-refused _ _ _ c.check_texts.ensures c.in_err-check_texts.was in
    let h = handed _ c.from_residual.ensures.1 in
    record {
      answer = answers-stop _ _ _ _ _ e (ap without_part h);
      part = none_lent _ _ _ e ∙ sym (ap part_in h);
    }

pub gather-requires : goal.gather-requires
gather-requires c = passed (goal.at.gather-requires c).In_ok-check_texts

pub returns-in_err-gathered : goal.returns-in_err-gathered
unfolding joined_pair_of
returns-in_err-gathered c =
    let r = gathered-refused _ _ _ _ _ _ _ (c.gather.ensures rates-none) c.in_err-gathered.was in
    let h = handed _ c.from_residual-in_err-gathered.ensures.1 in
    record {
      answer =
          answers-then _ _ _ _ _ (passed (goal.at.returns-in_err-gathered c).In_ok-check_texts)
          (answers-stop _ _ _ _ _ r.0 (ap without_part h));
      part = r.1 ∙ sym (ap part_in h);
    }

pub returns-in_err-judge_links : goal.returns-in_err-judge_links
unfolding joined_pair_of
returns-in_err-judge_links c =
    let e = (goal.at.returns-in_err-judge_links c).In_ok-gathered in
    let h = handed _ c.from_residual-in_err-judge_links.ensures.1 in
    record {
      answer =
          answers-then _ _ _ _ _ (lent-at e)
          (answers-then _ _ _ _ _ (gathered e).1
          (answers-stop _ _ _ _ _
          (judgement-refused _ _ _ (c.judge_links.ensures (parts e) (gathered e).2.rates.periods-are (free e)).0
          c.in_err-judge_links.was)
          (ap without_part h)));
      part = none e ∙ sym (ap part_in h);
    }

pub returns-in_err-one_table : goal.returns-in_err-one_table
unfolding joined_pair_of
returns-in_err-one_table c =
    let e = (goal.at.returns-in_err-one_table c).In_ok-gathered in
    let h = handed _ c.from_residual-in_err-one_table.ensures.1 in
    record {
      answer =
          answers-then _ _ _ _ _ (lent-at e)
          (answers-then _ _ _ _ _ (gathered e).1
          (answers-then _ _ _ _ _ (right (goal.at.returns-in_err-one_table c).In_ok-judge_links)
          (answers-stop _ _ _ _ _
          (judgement-refused _ _ _ (c.one_table.ensures (parts e) (gathered e).2.table_of) c.in_err-one_table.was)
          (ap without_part h))));
      part = none e ∙ sym (ap part_in h);
    }

pub check_joint-requires : goal.check_joint-requires
check_joint-requires c = (_, _, joining (goal.at.check_joint-requires c).In_ok-judge_links)

pub returns-in_err-hypercycle : goal.returns-in_err-hypercycle
unfolding joined_pair_of
returns-in_err-hypercycle c =
    let e = (goal.at.returns-in_err-hypercycle c).In_ok-gathered in
    let l = (goal.at.returns-in_err-hypercycle c).In_ok-judge_links in
    let h = handed _ c.from_residual-in_err-hypercycle.ensures.1 in
    record {
      answer =
          answers-then _ _ _ _ _ (lent-at e)
          (answers-then _ _ _ _ _ (gathered e).1
          (answers-then _ _ _ _ _ (right l)
          (answers-then _ _ _ _ _ (one (goal.at.returns-in_err-hypercycle c).In_ok-one_table)
          (answers-gives _ _ _ _
          (answers-refused _ _ _ _ (c.check_joint.ensures _ _ (joining l)) c.in_err-hypercycle.was)
          (ap without_part h)))));
      part = none e ∙ sym (ap part_in h);
    }

pub returns : goal.returns
unfolding joined_pair_of
returns c =
    let e = (goal.at.returns c).In_ok-gathered in
    let l = (goal.at.returns c).In_ok-judge_links in
    let o = (goal.at.returns c).In_ok-one_table in
    let v = answers-ok _ _ _ _ (c.check_joint.ensures _ _ (joining l)) c.in_ok-hypercycle.was in
    record {
      answer =
          answers-then _ _ _ _ _ (lent-at e)
          (answers-then _ _ _ _ _ (gathered e).1
          (answers-then _ _ _ _ _ (right l)
          (answers-then _ _ _ _ _ (one o)
          (answers-accepted _ _ _ _ _ v.1 refl
          (record {
            parts = parts e;
            checked = (gathered e).1;
            joining = joining l;
            table = (gathered e).2.table_of;
            one = one o;
            joined = v.1;
            hyper = v.2;
          })))));
      part = none e;
    }
