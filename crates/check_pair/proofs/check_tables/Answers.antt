-- `check_pair::check_tables` meets its contract. Assumes nothing.
use Rattle.std.specs.Prelude.{Result}
use Prim.Native.Nat.{ℕ, ◌≤◌}
use mathlib.Core.List.{List}
use mathlib.Core.Path.{◌≡◌, refl, sym, ap, ◌∙◌}
use borrow.Author.Rules.{rules}
use Rattle.model.specs.Rules.Compile.{short_enough, Pair, pair_of}
use Rattle.model.specs.Rules.Latency.{timely}
use Rattle.model.specs.Rules.Load.{loaded}
use Rattle.model.specs.Rules.Outcome.{yielded_of, accepted, ◌▷◌}
use Rattle.model.specs.Rules.Program.{Program, parse_program}
use Rattle.model.specs.Rules.Reads.{met}
use Rattle.model.specs.Rules.Schedule.{Schedule}
use Rattle.model.specs.declared.Fault.{Fault}
use Rattle.basics.specs.Judgement.{Answers}
use Rattle.basics.proofs.Judgements.{
  judgement-fine,
  judgement-refused,
  answers-ok,
  answers-refused,
  answers-then,
  answers-stop,
  answers-accepted,
  handed-on,
}
use Rattle.text_program.specs.Tables.{Stands, filled}
use Rattle.text_program.specs.declared.Tables.{Tables}
use Rattle.text_program.proofs.ByIndex.{few-signals}
use Rattle.text_schedule.specs.Arranged.{Arranged}
use Rattle.text_schedule.specs.Slots.{ScheduledAs}
use Rattle.text_schedule.specs.declared.PairTables.{PairTables}
use Rattle.check_pair.specs.Groups.{rates_of, schedule_for, steps_of}
use Rattle.check_pair.proofs.Verdicts.{
  program-answers,
  program-read,
  rates-passed,
  schedule-passed,
  short-program,
  short-schedule,
  pair-steps,
}
use Rattle.check_pair.proofs.check_tables.Goals as goal
use Rattle.check_pair.proofs.check_tables.Goals.{
  In_ok-check_lengths,
  In_ok-read_tables,
  In_ok-hypercycle,
  In_ok-slots,
  In_ok-check_reads,
  In_ok-check_load,
  After-check_puts,
}

-- What is known after each check that is passed.
short : (e : In_ok-check_lengths) → short_enough e.args.program.now e.args.schedule.now ≡ accepted tt
short e = judgement-fine _ _ e.check_lengths.ensures e.in_ok-check_lengths.was

read : (e : In_ok-read_tables) → (p : Program) × (parse_program e.args.program.now ≡ accepted p) ×
    Stands e.args.program.now e.read_tables.new.reads e.read_tables.new.tables p
read e = program-read _ _ _ _ e.read_tables.ensures (ap (filled _) e.in_ok-read_tables.was)

rated : (e : In_ok-hypercycle) → let p = (read (goal.at.In_ok-hypercycle e).In_ok-read_tables).0 in
    rates_of p ≡ accepted e.in_ok-hypercycle.hypercycle
rated e =
    let g = read (goal.at.In_ok-hypercycle e).In_ok-read_tables in
    sym (e.check_program.ensures g.0 g.2) ∙ ap yielded_of e.in_ok-hypercycle.was

scheduled : (d : After-check_puts) → let p = (read (goal.at.After-check_puts d).In_ok-read_tables).0 in
    ScheduledAs p (schedule_for p d.args.schedule.now) d.check_puts.result
scheduled d =
    let g = read (goal.at.After-check_puts d).In_ok-read_tables in
    d.check_puts.ensures g.0 g.2.tables-are.counts.signals-are g.2.tables-are.periods

-- where the schedule is placed
module _ (e : In_ok-slots) where
  abbrev text : In_ok-read_tables
  text = (goal.at.In_ok-slots e).In_ok-read_tables

  abbrev found : In_ok-hypercycle
  found = (goal.at.In_ok-slots e).In_ok-hypercycle

  abbrev program : Program
  program = (read text).0

  abbrev pair : PairTables
  pair =
      record {
        tables = e.read_tables.new.tables;
        slots = e.in_ok-slots.slots;
        hypercycle = e.in_ok-hypercycle.hypercycle;
      }

  arranged : (s : Schedule) × (schedule_for program e.args.schedule.now ≡ accepted s) ×
      Arranged e.args.program.now e.read_tables.new.reads pair program s
  arranged =
      let r = rates-passed _ _ (rated found) in
      let a = answers-ok _ _ _ _ (scheduled (goal.at.In_ok-slots e).After-check_puts) e.in_ok-slots.was in
      let q = schedule-passed _ _ _ a.1 in (
        a.0,
        a.1,
        record {
          stands = (read text).2;
          rated = r.0;
          hyper = r.1;
          links = r.2;
          covered = r.3;
          puts = q.0;
          places = q.2;
          slots-are = a.2.1;
        },
      )

  abbrev schedule : Schedule
  schedule = arranged.0

  passed : (Q : Pair → PairTables → Type 0) (r : Result PairTables Fault) →
      Answers Q
      (met program schedule ▷ λ _.
      loaded program schedule pair.hypercycle ▷ λ _.
      timely program schedule pair.hypercycle ▷ λ _.
      accepted (record { program = program; schedule = schedule; hypercycle = pair.hypercycle }))
      r →
      Answers Q (pair_of e.args.program.now e.args.schedule.now) r
  unfolding steps_of
  passed Q r w =
      rw (pair-steps _ _)
      (answers-then _ _ _ _ _ (short (goal.at.In_ok-read_tables text).In_ok-check_lengths)
      (answers-then _ _ _ _ _ (read text).1
      (answers-then _ _ _ _ _ (rated found)
      (answers-then _ _ _ _ _ arranged.1 w))))

-- where the reads are met, and where the load fits
reads-met : (f : In_ok-check_reads) → let e = (goal.at.In_ok-check_reads f).In_ok-slots in met (program e) (schedule e) ≡ accepted tt
reads-met f =
    judgement-fine _ _ (f.check_reads.ensures _ _ (arranged (goal.at.In_ok-check_reads f).In_ok-slots).2) f.in_ok-check_reads.was

loads-fit : (f : In_ok-check_load) → let e = (goal.at.In_ok-check_load f).In_ok-slots in
    loaded (program e) (schedule e) (pair e).hypercycle ≡ accepted tt
loads-fit f =
    judgement-fine _ _ (f.check_load.ensures _ _ _ _ (arranged (goal.at.In_ok-check_load f).In_ok-slots).2) f.in_ok-check_load.was

pub read_tables-requires : goal.read_tables-requires
read_tables-requires c =
    let l = short-program _ _ (short (goal.at.read_tables-requires c).In_ok-check_lengths) in
    (l, c.requires.0 l, c.requires.1)

pub check_program-requires : goal.check_program-requires
check_program-requires c = let g = read (goal.at.check_program-requires c).In_ok-read_tables in (g.0, g.2)

pub check_puts-requires : goal.check_puts-requires
check_puts-requires c =
    let x = (goal.at.check_puts-requires c).In_ok-read_tables in
    let g = (read x).2 in
    (few-signals _ _ _ g.declares g.tables-are, short-schedule _ _ (short (goal.at.In_ok-read_tables x).In_ok-check_lengths))

pub check_reads-requires : goal.check_reads-requires
check_reads-requires c = let e = (goal.at.check_reads-requires c).In_ok-slots in (program e, schedule e, (arranged e).2)

pub check_load-requires : goal.check_load-requires
check_load-requires c =
    let e = (goal.at.check_load-requires c).In_ok-slots in (_, _, (program e, schedule e, (arranged e).2))

pub check_latency-requires : goal.check_latency-requires
check_latency-requires c =
    let e = (goal.at.check_latency-requires c).In_ok-slots in
    (program e, schedule e, (arranged e).2, reads-met (goal.at.check_latency-requires c).In_ok-check_reads)

pub returns-in_err-check_lengths : goal.returns-in_err-check_lengths
unfolding steps_of
returns-in_err-check_lengths c =
    rw (pair-steps _ _)
    (answers-stop _ _ _ _ _ (judgement-refused _ _ _ c.check_lengths.ensures c.in_err-check_lengths.was)
    (ap (filled _) (handed-on _ c.from_residual.ensures.1)))

pub returns-in_err-read_tables : goal.returns-in_err-read_tables
unfolding steps_of
returns-in_err-read_tables c =
    rw (pair-steps _ _)
    (answers-then _ _ _ _ _ (short (goal.at.returns-in_err-read_tables c).In_ok-check_lengths)
    (answers-stop _ _ _ _ _ (answers-refused _ _ _ _ (program-answers _ _ _ c.read_tables.ensures) (ap (filled _) c.in_err-read_tables.was))
    (ap (filled _) (handed-on _ c.from_residual-in_err-read_tables.ensures.1))))

pub returns-in_err-hypercycle : goal.returns-in_err-hypercycle
unfolding steps_of
returns-in_err-hypercycle c =
    let x = (goal.at.returns-in_err-hypercycle c).In_ok-read_tables in
    let g = read x in
    rw (pair-steps _ _)
    (answers-then _ _ _ _ _ (short (goal.at.In_ok-read_tables x).In_ok-check_lengths)
    (answers-then _ _ _ _ _ g.1
    (answers-stop _ _ _ _ _ (sym (c.check_program.ensures g.0 g.2) ∙ ap yielded_of c.in_err-hypercycle.was)
    (ap (filled _) (handed-on _ c.from_residual-in_err-hypercycle.ensures.1)))))

pub returns-in_err-slots : goal.returns-in_err-slots
unfolding steps_of
returns-in_err-slots c =
    let x = (goal.at.returns-in_err-slots c).In_ok-read_tables in
    rw (pair-steps _ _)
    (answers-then _ _ _ _ _ (short (goal.at.In_ok-read_tables x).In_ok-check_lengths)
    (answers-then _ _ _ _ _ (read x).1
    (answers-then _ _ _ _ _ (rated (goal.at.returns-in_err-slots c).In_ok-hypercycle)
    (answers-stop _ _ _ _ _
    (answers-refused _ _ _ _ (scheduled (goal.at.returns-in_err-slots c).After-check_puts) c.in_err-slots.was)
    (ap (filled _) (handed-on _ c.from_residual-in_err-slots.ensures.1))))))

pub returns-in_err-check_reads : goal.returns-in_err-check_reads
returns-in_err-check_reads c =
    let e = (goal.at.returns-in_err-check_reads c).In_ok-slots in
    passed e _ _
    (answers-stop _ _ _ _ _ (judgement-refused _ _ _ (c.check_reads.ensures _ _ (arranged e).2) c.in_err-check_reads.was)
    (ap (filled _) (handed-on _ c.from_residual-in_err-check_reads.ensures.1)))

pub returns-in_err-check_load : goal.returns-in_err-check_load
returns-in_err-check_load c =
    let e = (goal.at.returns-in_err-check_load c).In_ok-slots in
    passed e _ _
    (answers-then _ _ _ _ _ (reads-met (goal.at.returns-in_err-check_load c).In_ok-check_reads)
    (answers-stop _ _ _ _ _ (judgement-refused _ _ _ (c.check_load.ensures _ _ _ _ (arranged e).2) c.in_err-check_load.was)
    (ap (filled _) (handed-on _ c.from_residual-in_err-check_load.ensures.1))))

pub returns-in_err-check_latency : goal.returns-in_err-check_latency
returns-in_err-check_latency c =
    let e = (goal.at.returns-in_err-check_latency c).In_ok-slots in
    let m = reads-met (goal.at.returns-in_err-check_latency c).In_ok-check_reads in
    passed e _ _
    (answers-then _ _ _ _ _ m
    (answers-then _ _ _ _ _ (loads-fit (goal.at.returns-in_err-check_latency c).In_ok-check_load)
    (answers-stop _ _ _ _ _
    (judgement-refused _ _ _ (c.check_latency.ensures _ _ (arranged e).2 m) c.in_err-check_latency.was)
    (ap (filled _) (handed-on _ c.from_residual-in_err-check_latency.ensures.1)))))

pub returns : goal.returns
returns c =
    let e = (goal.at.returns c).In_ok-slots in
    let g = (arranged e).2 in
    let m = reads-met (goal.at.returns c).In_ok-check_reads in
    passed e _ _
    (answers-then _ _ _ _ _ m
    (answers-then _ _ _ _ _ (loads-fit (goal.at.returns c).In_ok-check_load)
    (answers-then _ _ _ _ _ (judgement-fine _ _ (c.check_latency.ensures _ _ g m) c.in_ok-check_latency.was)
    (answers-accepted _ _ _ _ _ refl refl (record { hyper = refl; arranged = g })))))
