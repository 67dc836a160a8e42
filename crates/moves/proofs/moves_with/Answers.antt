-- `moves::moves_with` meets its contract. Assumes nothing.
use mathlib.Core.Path.{◌≡◌, ap, ◌∙◌}
use Rattle.model.specs.Rules.Compile.{Pair, pair_of}
use Rattle.model.specs.Rules.Outcome.{accepted, yielded_of}
use Rattle.text_program.specs.Tables.{filled}
use Rattle.basics.proofs.Judgements.{answers-ok, answers-refused, handed-on}
use Rattle.moves.specs.Listing.{AcceptedBy}
use Rattle.moves.proofs.Tables.{moves-refused, moves-done}
use Rattle.moves.proofs.moves_with.Goals as goal
use Rattle.moves.proofs.moves_with.Goals.{In_ok-check_tables}

-- the pair that the checks have accepted
pair : (e : In_ok-check_tables) → (q : Pair) × (pair_of e.args.program.now e.args.schedule.now ≡ accepted q) ×
    AcceptedBy e.args.program.now e.check_tables.new.reads e.args.schedule.now e.check_tables.new.pair q
pair e =
    let a = answers-ok _ _ _ _ e.check_tables.ensures (ap (filled _) e.in_ok-check_tables.was) in
    (a.0, a.1, record { pair_is = a.1; arranged = a.2.arranged; hyper = a.2.hyper })

pub returns-in_err-check_tables : goal.returns-in_err-check_tables
returns-in_err-check_tables c =
    let g = moves-refused _ _ _ _ (answers-refused _ _ _ _ c.check_tables.ensures (ap (filled _) c.in_err-check_tables.was)) in
    (ap yielded_of (handed-on _ c.from_residual.ensures.1) ∙ g.0, g.1)

pub list_moves-requires : goal.list_moves-requires
list_moves-requires c =
    let a = pair (goal.at.list_moves-requires c).In_ok-check_tables in
    record {
      schedule = c.args.schedule.now;
      pair = a.0;
      known = a.2;
    }

pub returns : goal.returns
returns c =
    let a = pair (goal.at.returns c).In_ok-check_tables in
    moves-done _ _ _ a.0 _ _ a.1 (c.list_moves.ensures _ a.0 a.2)
