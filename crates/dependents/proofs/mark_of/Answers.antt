-- `dependents::mark_of` meets its contract. Assumes nothing.
use Prim.Native.Nat.{ℕ, ◌+◌, ◌-◌, ◌≤◌, ◌<◌}
use mathlib.Core.Bool.{Bool, true, false}
use mathlib.Core.List.{List}
use mathlib.Core.Path.{◌≡◌, refl, sym, ap, subst, ◌∙◌}
use native.Mathlib.Omega.{arith}
use lib.Dec.{eqb}
use lib.ListN.{get_or}
use borrow.Author.Rules.{rules}
use borrow.Author.Tests.{eqb-true, eqb-false}
use Rattle.model.specs.Rules.Dependents.{mark_byte}
use Rattle.model.specs.Rules.Program.{Program, Read, signal_at, body_reads}
use Rattle.model.proofs.Basics.All.{all-at}
use Rattle.text_command.specs.Operator.{ReadStands, ReadTaken}
use Rattle.text_command.specs.declared.Taken.{Taken}
use Rattle.text_program.specs.Tables.{Indexes, Indexed}
use Rattle.text_program.proofs.ByIndex.{no_read, read_at, all_seen, seen, in_table, read-stands, taken_is, rises-at}
use Rattle.dependents.specs.Marks.{is_marked}
use Rattle.dependents.proofs.Marks.{any_at, none_any}
use Rattle.dependents.proofs.mark_of.Invariants.{NoneMarked}
use Rattle.dependents.proofs.mark_of.Goals as goal
use Rattle.dependents.proofs.mark_of.Goals.{After-from_byte-signal, In-loop-i, Start}

one_more : (f : ℕ → Bool) (n m : ℕ) → m ≡ n + 1 → ((j : ℕ) → j < n → f j ≡ false) → f n ≡ false →
    (j : ℕ) → j < m → f j ≡ false
one_more f n m e h here j lt = go (eqb j n) refl
  where
    go : (b : Bool) → eqb j n ≡ b → f j ≡ false
    go true q = ap f (eqb-true j n q) ∙ here
    go false q = let d = eqb-false j n q in h j (omega arith)

small : (a : Start) → a.args.reader < 64
small a = omega (arith, a.requires.1, a.requires.2.few)

-- where a read is left
module _ (b : In-loop-i) where
  abbrev start : Start
  start = (goal.at.In-loop-i b).Start

  abbrev text : List ℕ
  text = start.args.text.now

  abbrev firsts : List ℕ
  firsts = start.args.firsts.now

  abbrev x : ℕ
  x = start.args.reader

  abbrev i : ℕ
  i = b.loop-i.i

  abbrev ix : Indexed text start.args.reads.now firsts start.requires.0
  ix = start.requires.2.indexed

  abbrev lt : x < start.requires.0
  lt = start.requires.1

  abbrev low : get_or firsts x 0 ≤ i
  low = b.loop-i.invariant.0

  high : i < get_or firsts (x + 1) 0
  high = omega (arith, b.loop-i-test.true, b.from_entry-end.ensures.0)

  abbrev passed : ℕ
  passed = i - get_or firsts x 0

pub loop-i-init : goal.loop-i-init
loop-i-init c =
    let a = c in
    let f = c.from_entry-i.ensures.0 in (
      omega (arith, f),
      omega (arith, f, c.from_entry-end.ensures.0, rises-at a.requires.2.indexed.1 a.args.reader a.requires.1),
      λ p m e r j l. absurd (omega (arith, f)),
    )

pub taken_at-taken-requires : goal.taken_at-taken-requires
taken_at-taken-requires c =
    let b = (goal.at.taken_at-taken-requires c).In-loop-i in
    subst (ReadStands _) (sym c.from_entry-at.ensures.0)
    (read-stands (ix b).1 (x b) (i b) (lt b) (low b) (high b))

-- The signal that is read.
module _ (w : After-from_byte-signal) where
  abbrev b : In-loop-i
  b = (goal.at.After-from_byte-signal w).In-loop-i

  module _ (p : Program) (m : ℕ) (e : Indexes (text b) (start b).args.reads.now (firsts b) m p) (r : x b < m) where
    signal-is : w.from_byte-signal.result ≡ (read_at p (x b) (passed b)).operands.signal
    signal-is =
        let t = w in
        w.from_byte-signal.ensures.0 ∙
        ap (λ (y : Taken). y.operands.signal)
        (taken_is e (x b) (i b) r (low b) (high b) t.taken_at-taken.result
        (subst (λ (k : ℕ). ReadTaken (text b) k t.taken_at-taken.result) t.from_entry-at.ensures.0
        t.taken_at-taken.ensures))

  signal-small : w.from_byte-signal.result < 64
  signal-small =
      let p = (ix b).0 in
      let e = (ix b).1 in
      let d = all-at (λ (ρ : Read). ρ.operands.signal < (start b).requires.0) (body_reads (signal_at p (x b)).body) no_read
      ((start b).requires.2.declared (x b) (lt b)) (passed b) (seen e (x b) (i b) (lt b) (low b) (high b)) in
      omega (arith, signal-is p _ e (lt b), d, (start b).requires.2.few)

pub returns-then-is_marked : goal.returns-then-is_marked
returns-then-is_marked c =
    let w = (goal.at.returns-then-is_marked c).After-from_byte-signal in
    let l = (goal.at.returns-then-is_marked c).In-loop-i in
    λ p m e r.
    sym (ap mark_byte (any_at (is_marked (start l).args.marks.now (start l).args.input) (body_reads (signal_at p (x l)).body)
    (passed l) (seen e (x l) (i l) r (low l) (high l))
    (ap (is_marked (start l).args.marks.now (start l).args.input) (sym (signal-is w p m e r)) ∙
    sym c.is_marked.ensures ∙ c.if-is_marked.true)))

pub loop-i-preserved : goal.loop-i-preserved
loop-i-preserved c =
    let w = (goal.at.loop-i-preserved c).After-from_byte-signal in
    let l = (goal.at.loop-i-preserved c).In-loop-i in
    let marked = is_marked (start l).args.marks.now (start l).args.input in (
      omega (arith, low l),
      omega (arith, l.loop-i-test.true),
      λ p m e r.
          one_more (λ k. marked (read_at p (x l) k).operands.signal) (passed l) _ (omega (arith, low l))
          (l.loop-i.invariant.2 p m e r)
          (ap marked (sym (signal-is w p m e r)) ∙ sym c.is_marked.ensures ∙ c.if-is_marked.false),
    )

pub returns : goal.returns
returns c =
    let l = c.loop-i in
    let a = c in
    let f : get_or a.args.firsts.now (a.args.reader + 1) 0 ≡ l.i =
    omega (arith, l.invariant.1, c.loop-i-test.false, c.from_entry-end.ensures.0) in
    λ p m e r.
    let n = all_seen e a.args.reader l.i r l.invariant.0 f in
    sym (ap mark_byte (none_any (is_marked a.args.marks.now a.args.input)
    (body_reads (signal_at p a.args.reader).body)
    (λ j lj. l.invariant.2 p m e r j (omega (arith, n)))))

pub offset_bounds-firsts-reader : goal.offset_bounds-firsts-reader
offset_bounds-firsts-reader c = omega (arith, small (goal.at.offset_bounds-firsts-reader c).Start)

pub bounds-firsts-reader : goal.bounds-firsts-reader
bounds-firsts-reader c = omega (arith, small (goal.at.bounds-firsts-reader c).Start)

pub overflow_add-reader : goal.overflow_add-reader
overflow_add-reader c = omega (arith, small (goal.at.overflow_add-reader c).Start)

pub offset_bounds-firsts-reader-2 : goal.offset_bounds-firsts-reader-2
offset_bounds-firsts-reader-2 c = omega (arith, small (goal.at.offset_bounds-firsts-reader-2 c).Start)

pub bounds-firsts-reader-2 : goal.bounds-firsts-reader-2
bounds-firsts-reader-2 c = omega (arith, small (goal.at.bounds-firsts-reader-2 c).Start)

pub offset_bounds-reads-i : goal.offset_bounds-reads-i
offset_bounds-reads-i c = omega (arith, c.loop-i-test.true, c.from_entry-end.ensures.1)

pub bounds-reads-i : goal.bounds-reads-i
bounds-reads-i c = let b = (goal.at.bounds-reads-i c).In-loop-i in in_table (ix b).1 (x b) (i b) (lt b) (low b) (high b)

pub is_marked-requires : goal.is_marked-requires
is_marked-requires c = signal-small c
