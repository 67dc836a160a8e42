-- `check_reads::signal_met` meets its contract. Assumes nothing.
use Prim.Native.Nat.{ℕ, ◌+◌, ◌-◌, ◌≤◌, ◌<◌}
use mathlib.Core.List.{List, [], ◌∷◌}
use mathlib.Core.Path.{◌≡◌, refl, sym, subst, ◌∙◌}
use native.Mathlib.Omega.{arith}
use lib.ListN.{length, get_or}
use borrow.Author.Rules.{rules}
use Rattle.basics.proofs.Judgements.{handed-on}
use Rattle.model.specs.Rules.Outcome.{accepted, lowest}
use Rattle.model.specs.Rules.Program.{Program, Read, signal_at, body_reads}
use Rattle.model.specs.Rules.Rates.{declared_and_rated}
use Rattle.model.specs.Rules.Schedule.{Schedule}
use Rattle.basics.specs.Judgement.{judgement_of}
use Rattle.text_command.specs.Operator.{ReadStands}
use Rattle.text_program.specs.Tables.{PeriodsOf, SlotsOf, Indexes, Indexed}
use Rattle.text_program.proofs.ByIndex.{no_read, read_at, all_seen, seen, in_table, read-stands, rises-at}
use Rattle.text_program.proofs.InTurn.{Left, check-starts, check-passes, check-refuses, check-ends, reads-in-turn}
use Rattle.check_reads.specs.Met.{unmet}
use Rattle.check_reads.proofs.Judging.{read_fault, read-at, one-read}
use Rattle.check_reads.proofs.signal_met.Invariants.{Claim, Rest}
use Rattle.check_reads.proofs.signal_met.Goals as goal
use Rattle.check_reads.proofs.signal_met.Goals.{After-read_met, In-loop-i, Start}

-- where a read is left
module _ (b : In-loop-i) where
  abbrev start : Start
  start = (goal.at.In-loop-i b).Start

  abbrev firsts : List ℕ
  firsts = start.args.firsts.now

  abbrev x : ℕ
  x = start.args.reader

  abbrev i : ℕ
  i = b.loop-i.i

  abbrev ix : Indexed start.args.text.now start.args.reads.now firsts start.args.signals
  ix = start.requires.3

  abbrev low : get_or firsts x 0 ≤ i
  low = b.loop-i.invariant.0

  high : i < get_or firsts (x + 1) 0
  high = omega (arith, b.loop-i-test.true, b.from_entry-end.ensures.0)

pub offset_bounds-firsts-reader : goal.offset_bounds-firsts-reader
offset_bounds-firsts-reader c = let a = c in omega (arith, a.requires.0, a.requires.1)

pub bounds-firsts-reader : goal.bounds-firsts-reader
bounds-firsts-reader c = let a = c in omega (arith, a.requires.0, a.requires.1)

pub overflow_add-reader : goal.overflow_add-reader
overflow_add-reader c = let a = c in omega (arith, a.requires.0, a.requires.1)

pub offset_bounds-firsts-reader-2 : goal.offset_bounds-firsts-reader-2
offset_bounds-firsts-reader-2 c = let a = c in omega (arith, a.requires.0, a.requires.1)

pub bounds-firsts-reader-2 : goal.bounds-firsts-reader-2
bounds-firsts-reader-2 c = let a = c in omega (arith, a.requires.0, a.requires.1)

pub loop-i-init : goal.loop-i-init
loop-i-init c =
    let a = c in
    let f = c.from_entry-i.ensures.0 in (
      omega (arith, f),
      omega (arith, f, c.from_entry-end.ensures.0, rises-at a.requires.3.1 a.args.reader a.requires.0),
      λ p e s order q t o.
          let r = reads-in-turn _ p e.declares a.args.reader (omega (arith, a.requires.0, e.count-is)) in
          subst (Rest p s a.args.reader) (omega (arith, f)) (check-starts _ _ _ _ r.0 r.1 r.2 refl),
    )

pub offset_bounds-reads-i : goal.offset_bounds-reads-i
offset_bounds-reads-i c = omega (arith, c.loop-i-test.true, c.from_entry-end.ensures.1)

pub bounds-reads-i : goal.bounds-reads-i
bounds-reads-i c =
    let b = (goal.at.bounds-reads-i c).In-loop-i in in_table (ix b).1 (x b) (i b) (start b).requires.0 (low b) (high b)

pub taken_at-taken-requires : goal.taken_at-taken-requires
taken_at-taken-requires c =
    let b = (goal.at.taken_at-taken-requires c).In-loop-i in
    subst (ReadStands _) (sym c.from_entry-at.ensures.0)
    (read-stands (ix b).1 (x b) (i b) (start b).requires.0 (low b) (high b))

-- The read is judged as the definition does.
module _ (j : After-read_met) (p : Program) where
  abbrev b : In-loop-i
  b = (goal.at.After-read_met j).In-loop-i

  module _ (e : Indexes (start b).args.text.now (start b).args.reads.now (firsts b) (start b).args.signals p) where
    left : i b - get_or (firsts b) (x b) 0 < length (body_reads (signal_at p (x b)).body)
    left = seen e (x b) (i b) (start b).requires.0 (low b) (high b)

    judged : (s : Schedule) (order : List ℕ) → declared_and_rated p ≡ accepted tt → PeriodsOf p (start b).args.periods.now →
        SlotsOf p s order (start b).args.phases.now (start b).args.ranks.now →
        j.read_met.result ≡ judgement_of (lowest (read_fault p s (x b) (read_at p (x b) (i b - get_or (firsts b) (x b) 0))))
    judged s order q t o =
        one-read e s order _ _ _ q t o (start b).requires.2 (x b) (i b) (start b).requires.0 (low b) (high b) _ _ _
        j.from_entry-at.ensures.0 j.taken_at-taken.ensures j.read_met.ensures

pub returns-in_err-read_met : goal.returns-in_err-read_met
returns-in_err-read_met c =
    let j = (goal.at.returns-in_err-read_met c).After-read_met in
    λ p e s order q t o.
    handed-on _ c.from_residual.ensures.1 ∙ sym c.in_err-read_met.was ∙ check-refuses _ _ _ _ _ no_read (left j p e) ((b j p).loop-i.invariant.2 p e s order q t o) _ (judged j p e s order q t o)
    (read-at p s (x (goal.at.After-read_met j).In-loop-i)) _ c.in_err-read_met.was

pub loop-i-preserved : goal.loop-i-preserved
loop-i-preserved c =
    let j = (goal.at.loop-i-preserved c).After-read_met in
    let l = (goal.at.loop-i-preserved c).In-loop-i in (
      omega (arith, low l),
      omega (arith, l.loop-i-test.true),
      λ p e s order q t o.
          subst (Rest p s (x l)) (omega (arith, low l))
          (check-passes _ _ _ _ _ no_read (left j p e) (l.loop-i.invariant.2 p e s order q t o) _
          (judged j p e s order q t o) c.in_ok-read_met.was),
    )

pub returns : goal.returns
returns c =
    let l = c.loop-i in
    let a = c in
    let f : get_or a.args.firsts.now (a.args.reader + 1) 0 ≡ l.i =
    omega (arith, l.invariant.1, c.loop-i-test.false, c.from_entry-end.ensures.0) in
    λ p e s order q t o.
    check-ends _ _ _ _ _
    (omega (arith, all_seen e a.args.reader l.i a.requires.0 l.invariant.0 f)) (l.invariant.2 p e s order q t o)
