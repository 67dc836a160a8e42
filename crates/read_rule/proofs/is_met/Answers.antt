-- `read_rule::is_met` meets its contract. Assumes nothing.
use Rattle.std.specs.Prelude.{ℕ, Option}
use Prim.Native.Nat.{◌+◌, ◌-◌}
use mathlib.Core.Bool.{beq}
use mathlib.Core.Path.{◌≡◌, sym, ap, ◌∙◌}
use native.Mathlib.Omega.{arith}
use borrow.Author.Rules.{rules}
use borrow.Author.Tests.{eq-eqb, ne_eqb}
use lib.Dec.{eqb}
use Rattle.model.specs.Rules.Reads.{line_holds, share, ordered}
use Rattle.model.specs.Rules.Search.{is_found}
use Rattle.read_rule.specs.Lines.{number_at, Paced}
use Rattle.read_rule.specs.Reads.{rate_in, index_by, met_by}
use Rattle.read_rule.specs.declared.Line.{Line}
use Rattle.read_rule.proofs.Searches.{search-below, found-holds}
use Rattle.read_rule.proofs.Lines.{found-is, index-line, share-is}
use Rattle.read_rule.proofs.is_met.Goals as goal
use Rattle.read_rule.proofs.is_met.Goals.{After-number_at-number, After-settle-found}

-- what the search finds is the index of the read
found-index : (c : After-settle-found) →
    let a = c.args in
    c.settle-found.result ≡ index_by a.kind (rate_in a.w) (rate_in a.r) a.sampled.factor a.sampled.index
found-index c =
    let l = c.line_of-line in
    let a = c.args in
    c.settle-found.ensures ∙ c.candidates_of-among.ensures.finds ∙
    rw l.ensures.is
    (found-is a.w a.r l.ensures.read_byte l.ensures.reader-byte a.kind a.sampled.factor a.sampled.index)

line-found : (c : After-settle-found) (f : Option ℕ) → c.settle-found.result ≡ f →
    let a = c.args in
    line_holds a.kind (rate_in a.w) (rate_in a.r) a.sampled.factor a.sampled.index ≡ is_found f
line-found c f e =
    let a = c.args in
    sym (found-holds a.kind (rate_in a.w) (rate_in a.r) a.sampled.factor a.sampled.index) ∙
    ap is_found (sym (found-index c) ∙ e)

-- runs share a cycle where the number found says so
shared : (c : After-number_at-number) →
    let s = c.before.before.before.before in
    let l = s.line_of-line.result in
    let a = s.args in
    Paced a.kind a.sampled a.w a.r →
    eqb c.number_at-number.result (l.cycle + l.ahead) ≡ share (rate_in a.w) (rate_in a.r)
shared c q =
    let s = c in
    let l = s.line_of-line in
    let a = s.args in
    let i = c.in-Some.i in
    ap (λ x. eqb x (l.result.cycle + l.result.ahead)) c.number_at-number.ensures ∙
    ap (λ (k : Line). eqb (number_at k i) (k.cycle + k.ahead)) l.ensures.is ∙
    share-is a.w a.r q.read_below q.reader-below a.kind a.sampled.factor i q.positive q.rule
    (index-line a.kind (rate_in a.w) (rate_in a.r) a.sampled.factor i a.sampled.index (sym (found-index s.before.before) ∙ c.in-Some.is))

pub returns-in_default : goal.returns-in_default
unfolding met_by
returns-in_default c = λ q. rw (line-found c.before _ c.in_default.is)

pub number_at-number-requires : goal.number_at-number-requires
number_at-number-requires c =
    let t = c in
    let n = t.candidates_of-among in (
      t.line_of-line.ensures.small,
      omega (
        arith,
        n.ensures.few,
        search-below _ n.result.from n.result.to _ (sym t.settle-found.ensures ∙ c.in-Some.is),
      ),
    )

pub returns-then-number-line : goal.returns-then-number-line
unfolding met_by ordered
returns-then-number-line c = λ q.
    let n = c in
    let f = n in
    rw (line-found f.before.before.before.before.before _ f.in-Some.is, sym (shared n.before.before.before q) ∙ eq-eqb _ _ c.if-number-line.true)
    (ap (beq f.args.before) c.wants_first.ensures)

pub returns : goal.returns
unfolding met_by ordered
returns c = λ q.
    let n = c in
    let f = n in
    rw (line-found f.before.before.before.before _ f.in-Some.is, sym (shared n.before.before q) ∙ ne_eqb _ _ c.if-number-line.false)
