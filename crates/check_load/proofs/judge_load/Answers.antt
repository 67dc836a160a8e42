-- `check_load::judge_load` meets its contract. Assumes nothing.
use Rattle.std.specs.Prelude.{ℕ, Option}
use mathlib.Core.Path.{◌≡◌, sym, ap, ◌∙◌}
use borrow.Author.Rules.{rules}
use borrow.Author.Tests.{not-true, not-false}
use Rattle.model.specs.Rules.Load.{loaded}
use Rattle.model.specs.Rules.Program.{Program, count}
use Rattle.model.specs.Rules.Schedule.{Schedule}
use Rattle.basics.specs.Judgement.{judgement_of}
use Rattle.text_program.specs.Tables.{PeriodsOf, WeightsOf, cap_of}
use Rattle.check_load.specs.Load.{PhasesOf}
use Rattle.check_load.proofs.Loads.{judged_at, judged-capped, judged-uncapped}
use Rattle.check_load.proofs.judge_load.Goals as goal
use Rattle.check_load.proofs.judge_load.Goals.{After-first_over-over, Start}

abbrev start : After-first_over-over → Start
start f = (goal.at.After-first_over-over f).Start

-- what the search over the cycles says of the load
judged : (f : After-first_over-over) (found : Option ℕ) → f.first_over-over.result ≡ found →
    let a = (start f).args in
    (p : Program) (s : Schedule) → count p ≡ a.signals → PeriodsOf p a.periods.now → WeightsOf p a.weights.now →
    PhasesOf p s a.phases.now → p.cap ≡ cap_of a.cap →
    judged_at found ≡ judgement_of (loaded p s a.hypercycle)
judged f found e p s n hp hw hf cap =
    let a = (start f).args in
    judged-capped p s a.periods.now a.phases.now a.weights.now f.loads_of-loads.result a.signals
    a.hypercycle f.in-Some.limit found
    n hp hw hf (cap ∙ ap cap_of f.in-Some.is) f.loads_of-loads.ensures
    (sym f.first_over-over.ensures ∙ e)

pub returns-in_default : goal.returns-in_default
returns-in_default c p s n hp hw hf cap = judged-uncapped p s c.args.hypercycle (cap ∙ ap cap_of c.in_default.is)

pub returns-in-Some-over : goal.returns-in-Some-over
returns-in-Some-over c p s n hp hw hf cap =
    c.refuse.ensures ∙ judged (goal.at.returns-in-Some-over c).After-first_over-over _ c.in-Some-over.is p s n hp hw hf cap

pub returns-in-None : goal.returns-in-None
returns-in-None c = judged (goal.at.returns-in-None c).After-first_over-over _ c.in-None.is
