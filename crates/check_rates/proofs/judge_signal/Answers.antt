-- `check_rates::judge_signal` meets its contract. Assumes nothing.
use Prim.Native.Nat.{ℕ, ◌+◌, ◌-◌, ◌≤◌, ◌<◌}
use mathlib.Core.List.{List, [], ◌∷◌}
use mathlib.Core.Path.{◌≡◌, refl, sym, subst, ◌∙◌}
use native.Mathlib.Omega.{arith}
use lib.ListN.{length, get_or}
use borrow.Author.Rules.{rules}
use Rattle.basics.proofs.Judgements.{handed-on}
use Rattle.model.specs.Rules.Outcome.{lowest}
use Rattle.model.specs.Rules.Program.{Program, Read, signal_at, body_reads}
use Rattle.model.specs.Rules.Rates.{read_faults}
use Rattle.basics.specs.Judgement.{judgement_of}
use Rattle.text_command.specs.Operator.{ReadStands}
use Rattle.text_program.specs.Tables.{PeriodsOf, Indexes, Indexed}
use Rattle.text_program.proofs.ByIndex.{no_read, read_at, all_seen, seen, in_table, read-stands, rises-at}
use Rattle.text_program.proofs.InTurn.{Left, check-starts, check-passes, check-refuses, check-ends, reads-in-turn}
use Rattle.check_rates.specs.Rates.{signal_rates}
use Rattle.check_rates.proofs.Judging.{read-at, one-read}
use Rattle.check_rates.proofs.judge_signal.Invariants.{Claim, Rest}
use Rattle.check_rates.proofs.judge_signal.Goals as goal
use Rattle.check_rates.proofs.judge_signal.Goals.{After-judge_read, In-loop-i, Start}

-- where a read is left
module _ (b : In-loop-i) where
  abbrev start : Start
  start = (goal.at.In-loop-i b).Start

  abbrev firsts : List ℕ
  firsts = start.args.firsts.now

  abbrev x : ℕ
  x = start.args.reader

  abbrev i : ℕ
  i = b.loop-i.i

  abbrev ix : Indexed start.args.text.now start.args.reads.now firsts start.args.count
  ix = start.requires.2

  abbrev low : get_or firsts x 0 ≤ i
  low = b.loop-i.invariant.0

  high : i < get_or firsts (x + 1) 0
  high = omega (arith, b.loop-i-test.true, b.from_entry-end.ensures.0)

pub offset_bounds-firsts-reader : goal.offset_bounds-firsts-reader
offset_bounds-firsts-reader c = let a = c in omega (arith, a.requires.0, a.requires.1)

pub bounds-firsts-reader : goal.bounds-firsts-reader
bounds-firsts-reader c = let a = c in omega (arith, a.requires.0, a.requires.1)

pub overflow_add-reader : goal.overflow_add-reader
overflow_add-reader c = let a = c in omega (arith, a.requires.0, a.requires.1)

pub offset_bounds-firsts-reader-2 : goal.offset_bounds-firsts-reader-2
offset_bounds-firsts-reader-2 c = let a = c in omega (arith, a.requires.0, a.requires.1)

pub bounds-firsts-reader-2 : goal.bounds-firsts-reader-2
bounds-firsts-reader-2 c = let a = c in omega (arith, a.requires.0, a.requires.1)

pub loop-i-init : goal.loop-i-init
loop-i-init c =
    let a = c in
    let f = c.from_entry-i.ensures.0 in (
      omega (arith, f),
      omega (arith, f, c.from_entry-end.ensures.0, rises-at a.requires.2.1 a.args.reader a.requires.0),
      λ p e t.
          let r = reads-in-turn _ p e.declares a.args.reader (omega (arith, a.requires.0, e.count-is)) in
          subst (Rest p a.args.reader) (omega (arith, f)) (check-starts _ _ _ _ r.0 r.1 r.2 refl),
    )

pub offset_bounds-reads-i : goal.offset_bounds-reads-i
offset_bounds-reads-i c = omega (arith, c.loop-i-test.true, c.from_entry-end.ensures.1)

pub bounds-reads-i : goal.bounds-reads-i
bounds-reads-i c =
    let b = (goal.at.bounds-reads-i c).In-loop-i in in_table (ix b).1 (x b) (i b) (start b).requires.0 (low b) (high b)

pub taken_at-taken-requires : goal.taken_at-taken-requires
taken_at-taken-requires c =
    let b = (goal.at.taken_at-taken-requires c).In-loop-i in
    subst (ReadStands _) (sym c.from_entry-at.ensures.0)
    (read-stands (ix b).1 (x b) (i b) (start b).requires.0 (low b) (high b))

-- The read is judged as the definition does.
module _ (j : After-judge_read) (p : Program) where
  abbrev b : In-loop-i
  b = (goal.at.After-judge_read j).In-loop-i

  module _ (e : Indexes (start b).args.text.now (start b).args.reads.now (firsts b) (start b).args.count p) where
    left : i b - get_or (firsts b) (x b) 0 < length (body_reads (signal_at p (x b)).body)
    left = seen e (x b) (i b) (start b).requires.0 (low b) (high b)

    judged : PeriodsOf p (start b).args.periods.now → j.judge_read.result ≡
        judgement_of (lowest (read_faults p (signal_at p (x b)) (read_at p (x b) (i b - get_or (firsts b) (x b) 0))))
    judged m =
        one-read e _ (start b).requires.1 m (x b) (i b) (start b).requires.0 (low b) (high b) _ _ _
        j.from_entry-at.ensures.0 j.taken_at-taken.ensures j.judge_read.ensures

pub returns-in_err-judge_read : goal.returns-in_err-judge_read
returns-in_err-judge_read c =
    let j = (goal.at.returns-in_err-judge_read c).After-judge_read in
    λ p e m.
    handed-on _ c.from_residual.ensures.1 ∙ sym c.in_err-judge_read.was ∙ check-refuses _ _ _ _ _ no_read (left j p e) ((b j p).loop-i.invariant.2 p e m) _ (judged j p e m)
    (read-at p (signal_at p (x (goal.at.After-judge_read j).In-loop-i))) _ c.in_err-judge_read.was

pub loop-i-preserved : goal.loop-i-preserved
loop-i-preserved c =
    let j = (goal.at.loop-i-preserved c).After-judge_read in
    let l = (goal.at.loop-i-preserved c).In-loop-i in (
      omega (arith, low l),
      omega (arith, l.loop-i-test.true),
      λ p e m.
          subst (Rest p (x l)) (omega (arith, low l))
          (check-passes _ _ _ _ _ no_read (left j p e) (l.loop-i.invariant.2 p e m) _ (judged j p e m)
          c.in_ok-judge_read.was),
    )

pub returns : goal.returns
returns c =
    let l = c.loop-i in
    let a = c in
    let f : get_or a.args.firsts.now (a.args.reader + 1) 0 ≡ l.i =
    omega (arith, l.invariant.1, c.loop-i-test.false, c.from_entry-end.ensures.0) in
    λ p e m.
    check-ends _ _ _ _ _
    (omega (arith, all_seen e a.args.reader l.i a.requires.0 l.invariant.0 f)) (l.invariant.2 p e m)
