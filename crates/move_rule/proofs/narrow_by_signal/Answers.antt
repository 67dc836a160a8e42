-- `move_rule::narrow_by_signal` meets its contract. Assumes nothing.
use Prim.Native.Nat.{ℕ, ◌+◌, ◌-◌, ◌≤◌, ◌<◌}
use mathlib.Core.List.{List}
use mathlib.Core.Path.{◌≡◌, sym, ap, subst}
use native.Mathlib.Omega.{arith}
use lib.ListN.{get_or}
use borrow.Author.Rules.{rules}
use Rattle.model.specs.Rules.Program.{Program, Read, count, signal_at, body_reads}
use Rattle.model.specs.Rules.Schedule.{Schedule}
use Rattle.model.specs.Says.Feasible.{Met}
use Rattle.model.proofs.Basics.All.{all-at, at_all}
use Rattle.text_command.specs.Operator.{ReadStands, ReadTaken}
use Rattle.text_command.specs.declared.Taken.{Taken}
use Rattle.text_program.specs.Tables.{Indexes}
use Rattle.text_program.proofs.ByIndex.{no_read, read_at, all_seen, seen, in_table, read-stands, taken_is, rises-at}
use Rattle.move_rule.specs.Ranges.{ReadStays}
use Rattle.move_rule.specs.Narrowing.{Long, Narrowed, MetTables, Reading, Claim}
use Rattle.move_rule.proofs.Narrowings.{narrowed_none, narrowed-next, narrowed-as}
use Rattle.move_rule.proofs.narrow_by_signal.Invariants.{FirstStay}
use Rattle.move_rule.proofs.narrow_by_signal.Goals as goal
use Rattle.move_rule.proofs.narrow_by_signal.Goals.{After-taken_at-taken, In-loop-i, Start}

-- where a read is left
module _ (b : In-loop-i) where
  abbrev start : Start
  start = (goal.at.In-loop-i b).Start

  abbrev firsts : List ℕ
  firsts = start.args.firsts.now

  abbrev x : ℕ
  x = start.args.reader

  abbrev i : ℕ
  i = b.loop-i.i

  abbrev known : Reading start.args.text.now start.args.reads.now firsts start.args.periods.now
      start.args.phases.now start.args.ranks.now
  known = start.requires.1.0

  abbrev ix : Indexes start.args.text.now start.args.reads.now firsts (count known.program) known.program
  ix = known.reading.indexes

  abbrev lt : x < count known.program
  lt = start.requires.1.1

  abbrev low : get_or firsts x 0 ≤ i
  low = b.loop-i.invariant.0

  high : i < get_or firsts (x + 1) 0
  high = omega (arith, b.loop-i-test.true, b.from_entry-end.ensures.0)

small : (a : Start) → a.args.reader < 64
small a = omega (arith, a.requires.1.1, a.requires.1.0.reading.tabled.few)

pub loop-i-init : goal.loop-i-init
loop-i-init c =
    let a = c in
    let f = c.from_entry-i.ensures.0 in
    let k = a.requires.1.0 in (
      omega (arith, f),
      omega (arith, f, c.from_entry-end.ensures.0, rises-at k.reading.indexes a.args.reader a.requires.1.1),
      a.requires.0,
      λ p s e lr.
          subst (λ n. Narrowed p (FirstStay p s a.args.reader n) a.args.lows.now a.args.highs.now a.args.lows.now
          a.args.highs.now) (omega (arith, f))
          (narrowed_none (λ j x f. ReadStays p s x f a.args.reader (read_at p a.args.reader j)) a.requires.0),
    )

pub taken_at-taken-requires : goal.taken_at-taken-requires
taken_at-taken-requires c =
    let b = (goal.at.taken_at-taken-requires c).In-loop-i in
    subst (ReadStands _) (sym c.from_entry-at.ensures.0)
    (read-stands (ix b) (x b) (i b) (lt b) (low b) (high b))

-- The read that is taken.
module _ (t : After-taken_at-taken) (p : Program) where
  abbrev b : In-loop-i
  b = (goal.at.After-taken_at-taken t).In-loop-i

  module _ (e : Indexes (start b).args.text.now (start b).args.reads.now (firsts b) (count p) p)
      (lr : x b < count p) where
    abbrev ρ : Read
    ρ = read_at p (x b) (i b - get_or (firsts b) (x b) 0)

    taken : t.taken_at-taken.result ≡ record { kind = ρ.kind; operands = ρ.operands }
    taken =
        taken_is e (x b) (i b) lr (low b) (high b) t.taken_at-taken.result
        (subst (λ (k : ℕ). ReadTaken (start b).args.text.now k t.taken_at-taken.result) t.from_entry-at.ensures.0
        t.taken_at-taken.ensures)

    met : (s : Schedule) → MetTables (start b).args.periods.now (start b).args.phases.now (start b).args.ranks.now p
        s →
        Met p s (x b) ρ
    met s k =
        all-at (Met p s (x b)) (body_reads (signal_at p (x b)).body) no_read (k.feasible.met (x b) lr)
        (i b - get_or (firsts b) (x b) 0) (seen e (x b) (i b) lr (low b) (high b))

pub narrow_by_read-requires : goal.narrow_by_read-requires
narrow_by_read-requires c =
    let t = (goal.at.narrow_by_read-requires c).After-taken_at-taken in
    let b = (goal.at.narrow_by_read-requires c).In-loop-i in
    let k = known b in
    let e = k.reading.indexes in
    let signal = ap (λ (y : Taken). y.operands.signal) (taken t k.program e (lt b)) in
    let tabled = k.reading.tabled in (
      small (start b),
      omega (arith, signal, (met t k.program e (lt b) k.schedule tabled).declared, tabled.few),
      c.loop-i.invariant.2,
    )

pub loop-i-preserved : goal.loop-i-preserved
loop-i-preserved c =
    let b = (goal.at.loop-i-preserved c).In-loop-i in
    let t = (goal.at.loop-i-preserved c).After-taken_at-taken in
    let k = known b in (
      omega (arith, low b),
      omega (arith, b.loop-i-test.true),
      (c.narrow_by_read.ensures k.program k.schedule (ρ t k.program (ix b) (lt b)) k.reading.tabled (lt b)
          (ap (λ (y : Taken). y.kind) (taken t k.program (ix b) (lt b)))
          (ap (λ (y : Taken). y.operands) (taken t k.program (ix b) (lt b)))
          (met t k.program (ix b) (lt b) k.schedule k.reading.tabled)).long,
      λ p s r lr.
          let e = r.indexes in
          narrowed-next (λ j y f. ReadStays p s y f (x b) (read_at p (x b) j)) (i b - get_or (firsts b) (x b) 0) _ (omega (
            arith,
            low b,
          ))
          (b.loop-i.invariant.3 p s r lr)
          (c.narrow_by_read.ensures p s (ρ t p e lr) r.tabled lr
          (ap (λ (y : Taken). y.kind) (taken t p e lr)) (ap (λ (y : Taken). y.operands) (taken t p e lr))
          (met t p e lr s r.tabled)),
    )

pub returns : goal.returns
returns c =
    let l = c.loop-i in
    let a = c in
    let f : get_or a.args.firsts.now (a.args.reader + 1) 0 ≡ l.i =
    omega (arith, l.invariant.1, c.loop-i-test.false, c.from_entry-end.ensures.0) in (
      l.invariant.2,
      λ p s r lr.
          let n = all_seen r.indexes a.args.reader l.i lr l.invariant.0 f in
          let ρs = body_reads (signal_at p a.args.reader).body in
          narrowed-as (l.invariant.3 p s r lr) (λ x y lt below. (
            λ h. at_all (ReadStays p s x y a.args.reader) ρs no_read (λ j q. h j (omega (arith, n))),
            λ h j q. all-at (ReadStays p s x y a.args.reader) ρs no_read h j (omega (arith, n)),
          )),
    )

pub offset_bounds-firsts-reader : goal.offset_bounds-firsts-reader
offset_bounds-firsts-reader c = omega (arith, small (goal.at.offset_bounds-firsts-reader c).Start)

pub bounds-firsts-reader : goal.bounds-firsts-reader
bounds-firsts-reader c = omega (arith, small (goal.at.bounds-firsts-reader c).Start)

pub overflow_add-reader : goal.overflow_add-reader
overflow_add-reader c = omega (arith, small (goal.at.overflow_add-reader c).Start)

pub offset_bounds-firsts-reader-2 : goal.offset_bounds-firsts-reader-2
offset_bounds-firsts-reader-2 c = omega (arith, small (goal.at.offset_bounds-firsts-reader-2 c).Start)

pub bounds-firsts-reader-2 : goal.bounds-firsts-reader-2
bounds-firsts-reader-2 c = omega (
  arith,
  small
      (goal.at.bounds-firsts-reader-2 c).Start,
)

pub offset_bounds-reads-i : goal.offset_bounds-reads-i
offset_bounds-reads-i c = omega (arith, c.loop-i-test.true, c.from_entry-end.ensures.1)

pub bounds-reads-i : goal.bounds-reads-i
bounds-reads-i c = let b = (goal.at.bounds-reads-i c).In-loop-i in in_table (ix b) (x b) (i b) (lt b) (low b) (high b)
