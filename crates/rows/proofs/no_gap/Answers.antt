-- `rows::no_gap` meets its contract. Assumes nothing.
use mathlib.Core.Path.{◌≡◌, sym, ap, ◌∙◌}
use mathlib.Core.Bool.{Bool, true, false}
use mathlib.Core.List.{List}
use Prim.Native.Nat.{ℕ, ◌-◌, ◌≤◌, ◌<◌}
use native.Mathlib.Omega.{arith}
use borrow.Author.Tests.{not-true, not-false}
use lib.ListN.{length}
use Rattle.model.specs.Rules.Search.{is_found, all_below}
use Rattle.model.specs.Rules.Cover.{starting_at, continues, no_gap, least_word}
use Rattle.model.specs.Rules.Table.{Row, row_at}
use Rattle.rows.specs.Rows.{text_rows}
use Rattle.model.proofs.Pairs.Decide.{all_none, all_more, all-fails}
use Rattle.rows.proofs.Loops.{text-length, text_at}
use Rattle.rows.proofs.no_gap.Invariants.{test}
use Rattle.rows.proofs.no_gap.Goals as goal
use Rattle.rows.proofs.no_gap.Goals.{After-continued, Else-not-starts, Start}

-- the definition, test by test
module _ (rows : List Row) where
  late : is_found (starting_at rows least_word) ≡ false → no_gap rows ≡ false
  unfolding no_gap
  late e = rw e

  open-end : is_found (starting_at rows least_word) ≡ true → (n : ℕ) → n < length rows → test rows n ≡ false → no_gap rows ≡ false
  unfolding no_gap
  open-end s n l e = rw (s, all-fails (length rows) (test rows) n l e)

  none : is_found (starting_at rows least_word) ≡ true → all_below (length rows) (test rows) ≡ true → no_gap rows ≡ true
  unfolding no_gap
  none s e = rw (s, e)

abbrev rows : Start → List Row
rows s = text_rows s.args.text.now s.args.offsets.now s.args.count

-- a row starts at the least_word word
first : (e : Else-not-starts) → is_found (starting_at (rows (goal.at.Else-not-starts e).Start) least_word) ≡ true
first e = sym e.starts.ensures ∙ e.if-not-starts.false

-- what `joined` says of row n
continued-is : (j : After-continued) →
    test (rows (goal.at.After-continued j).Start) j.loop-n.n ≡ j.continued.result
continued-is j =
    let l = j in
    let s = j in
    let t = j.loop-n-test.true in
    ap (λ (r : Row). continues (rows (goal.at.After-continued s).Start) r.high) (text_at s.args.text.now s.args.offsets.now s.args.count
    l.loop-n.n (omega arith))
    ∙ sym j.continued.ensures

pub starts-requires : goal.starts-requires
starts-requires c = c.requires

pub returns-then-not-starts : goal.returns-then-not-starts
returns-then-not-starts c =
    let a = c in sym (late (rows (goal.at.returns-then-not-starts a).Start)
    (sym a.starts.ensures ∙ c.if-not-starts.true))

pub loop-n-init : goal.loop-n-init
loop-n-init c = (omega arith, all_none _)

pub continued-requires : goal.continued-requires
continued-requires c = (c.requires, omega (arith, c.loop-n-test.true))

pub returns-then-not-continued : goal.returns-then-not-continued
returns-then-not-continued c =
    let j = c in
    let l = c in
    let s = c in
    let t = j.loop-n-test.true in
    let k = text-length s.args.text.now s.args.offsets.now s.args.count in
    sym (open-end (rows (goal.at.returns-then-not-continued s).Start) (first (goal.at.returns-then-not-continued l).Else-not-starts) l.loop-n.n (omega arith)
    (continued-is (goal.at.returns-then-not-continued j).After-continued ∙ c.if-not-continued.true))

pub loop-n-preserved : goal.loop-n-preserved
loop-n-preserved c =
    let j = c in
    let l = c in
    let s = c in
    let t = j.loop-n-test.true in (
      omega arith,
      all_more l.loop-n.n (test (rows (goal.at.loop-n-preserved s).Start)) l.loop-n.invariant.1
          (continued-is (goal.at.loop-n-preserved j).After-continued ∙ c.if-not-continued.false),
    )

pub returns : goal.returns
returns c =
    let l = c in
    let s = c in
    let t = c.loop-n-test.false in
    let k = text-length s.args.text.now s.args.offsets.now s.args.count in
    let e : length (rows (goal.at.returns s).Start) ≡ l.loop-n.n = omega arith in
    sym (none (rows (goal.at.returns s).Start) (first (goal.at.returns l).Else-not-starts) (ap (λ n. all_below n (test (rows (goal.at.returns s).Start))) e ∙ l.loop-n.invariant.1))
