-- `timetable::of_pair` meets its contract. Assumes nothing.
use mathlib.Core.Path.{◌≡◌, refl}
use Rattle.model.specs.Rules.Compile.{Pair, pair_of}
use Rattle.model.specs.Rules.Outcome.{accepted}
use Rattle.check_pair.specs.Checked.{Checks}
use Rattle.basics.proofs.Judgements.{answers-ok, answers-refused, answers-gives, answers-accepted, handed-on}
use Rattle.text_program.proofs.ByIndex.{few-signals}
use Rattle.text_schedule.proofs.Arranged.{short-hypercycle, phases-below}
use Rattle.timetable.proofs.Tabled.{tabled}
use Rattle.timetable.proofs.of_pair.Goals as goal
use Rattle.timetable.proofs.of_pair.Goals.{In_ok-pair}

-- the pair that the checks have accepted
pair : (e : In_ok-pair) → (q : Pair) × (pair_of e.args.program.now e.args.schedule.now ≡ accepted q) ×
    Checks e.args.program.now e.check_pair.ensures.0 e.in_ok-pair.pair q
pair e = answers-ok _ _ _ _ e.check_pair.ensures.1 e.in_ok-pair.was

pub returns-in_err-pair : goal.returns-in_err-pair
returns-in_err-pair c =
    answers-gives _ _ _ _ (answers-refused _ _ _ _ c.check_pair.ensures.1 c.in_err-pair.was) (handed-on _ c.from_residual.ensures.1)

pub loads_of-loads-requires : goal.loads_of-loads-requires
loads_of-loads-requires c =
    let g = (pair (goal.at.loads_of-loads-requires c).In_ok-pair).2.arranged in
    (few-signals _ _ _ g.stands.declares g.stands.tables-are, short-hypercycle g, phases-below g)

pub returns : goal.returns
returns c =
    let k = pair (goal.at.returns c).In_ok-pair in
    answers-accepted _ _ _ _ _ k.1 refl (tabled _ _ _ k.0 _ _ k.2 c.loads_of-loads.ensures (
    record {
      signals = refl;
      hypercycle = refl;
      periods = refl;
      phases = refl;
      labels = refl;
      cap = refl;
      loads-are = refl;
    }))
