-- `join_gather::gather` meets its contract. Assumes nothing.
use Rattle.std.specs.Prelude.{Some, Result, Ok, Err, IsErrAnd}
use Rattle.std.specs.Result.{MatchResult}
use Rattle.std.proofs.lemmas.Result.{err_from_is_err_and}
use Prim.Native.Nat.{ℕ, ◌≤◌}
use mathlib.Core.List.{List, [], ◌∷◌, ◌++◌}
use mathlib.Core.Path.{◌≡◌, refl, ap, subst, ◌∙◌}
use native.Mathlib.Omega.{arith}
use borrow.Author.Rules.{rules}
use Rattle.model.specs.Rules.Compile.{Pair}
use Rattle.model.specs.Rules.Join.{parts_in, texts_at, program_total, program_text, part_pair}
use Rattle.model.specs.Rules.Outcome.{accepted}
use Rattle.model.specs.Rules.Search.{sum, table}
use Rattle.model.specs.declared.Fault.{Fault}
use Rattle.model.specs.declared.JoinFault.{JoinFault}
use Rattle.check_pair.specs.Checked.{Checks}
use Rattle.basics.proofs.Judgements.{answers-ok, answers-refused}
use Rattle.join_gather.specs.Gathering.{GatheredAs}
use Rattle.join_gather.specs.Joint.{JointOf}
use Rattle.join_gather.proofs.Gathers.{as_part, part-tables, part-ordered, part-rates, part-within, part_small, gather-start, gather-next, onward-refused, named-refused, onward-all, counts-next, text-length, within-total}
use Rattle.join_texts.proofs.Lent.{kept}
use Rattle.join_gather.proofs.Rows.{table_none}
use Rattle.join_gather.proofs.gather.Goals as goal
use Rattle.join_gather.proofs.gather.Goals.{In_ok-pair, In-loop-k}

pub loop-k-init : goal.loop-k-init
loop-k-init c = (
  c.requires,
  [],
  gather-start c.args.texts.now c.args.numbers.now c.new-joint.result c.new-joint.ensures,
  (λ r. r),
  table_none c.new-table.result c.new-table.ensures,
)

pub check_part-requires : goal.check_part-requires
check_part-requires c = (c.loop-k-test.true, c.requires)

-- What a `?` hands on.
handed : {B E : Type 0} {e : E} (r : Result B E) → IsErrAnd r (λ g. g ≡ e) → r ≡ Err e
handed r h = let p = err_from_is_err_and r h in p.1 ∙ ap Err p.2

-- What `map_err` leaves of an answer, and what it makes of a refusal.
mapped-ok : {A : Type 0} (r : Result A Fault) (m : Result A JoinFault) (P : Fault → JoinFault → Type 0) →
    MatchResult r (λ x. m ≡ Ok x) (λ f. IsErrAnd m (P f)) → (a : A) → m ≡ Ok a → r ≡ Ok a
mapped-ok (Ok x) m P h a e = let same : x ≡ a = cc (h, e) in ap Ok same
mapped-ok (Err f) m P h a e =
    let p = err_from_is_err_and m h in
    let z : ◌≡◌ {A = ℕ} 0 1 = cc (p.1, e) in absurd (omega arith)

mapped-err : {A : Type 0} (r : Result A Fault) (m : Result A JoinFault) (P : Fault → JoinFault → Type 0) →
    MatchResult r (λ x. m ≡ Ok x) (λ f. IsErrAnd m (P f)) → (e : JoinFault) → m ≡ Err e → (f : Fault) × (r ≡ Err f) × P f e
mapped-err (Ok x) m P h d e = let z : ◌≡◌ {A = ℕ} 0 1 = cc (h, e) in absurd (omega arith)
mapped-err (Err f) m P h d e =
    let p = err_from_is_err_and m h in
    let same : p.0 ≡ d = cc (p.1, e) in
    (f, refl, subst (P f) same p.2)

-- a part that is refused
pub returns-in_err-pair : goal.returns-in_err-pair
unfolding GatheredAs
returns-in_err-pair c =
    let l = c.loop-k in
    let k = l.k-counter in
    let done = l.invariant.1 in
    let g = l.invariant.2 in
    let m = mapped-err _ _ _ c.map_err.ensures.cases _ c.in_err-pair.was in
    let named : c.in_err-pair.field-0.0 ≡ record { fault = m.0; part = Some k } = search (rules, m.2) in
    let e = answers-refused _ _ _ _ c.check_part.ensures.1 m.1 in
    λ rates.
    rw (onward-refused c.args.texts.now c.args.numbers.now done k l.joint g c.loop-k-test.true _ e) (
      k,
      handed _ c.from_residual.ensures.1 ∙ ap Err named,
      named-refused c.args.texts.now c.args.numbers.now done k l.joint g c.loop-k-test.true _ e c.requires,
      record { parts = done; checked = g.checked; rates = l.invariant.3 rates },
    )

-- a part that is accepted
module _ (e : In_ok-pair) where
  abbrev texts : List ℕ
  texts = e.args.texts.now

  abbrev numbers : List ℕ
  numbers = e.args.numbers.now

  abbrev k : ℕ
  k = e.loop-k.k-counter

  pair : (q : Pair) × (part_pair texts (texts_at numbers k) ≡ accepted q) ×
      Checks (program_text texts (texts_at numbers k)) e.check_part.ensures.0 e.in_ok-pair.pair q
  pair = answers-ok _ _ _ _ e.check_part.ensures.1 (mapped-ok _ _ _ e.map_err.ensures.cases _ e.in_ok-pair.was)

  few : parts_in numbers ≤ 8
  few = (kept texts numbers e.requires).few

pub keep_rates-requires : goal.keep_rates-requires
unfolding part_pair
keep_rates-requires c =
    let p = pair (goal.at.keep_rates-requires c).In_ok-pair in
    (c.loop-k-test.true, c.requires, (as_part p.0, part-rates _ _ p.0 p.1 _ _ p.2))

pub add_part-requires : goal.add_part-requires
unfolding part_pair
add_part-requires c =
    let d = (goal.at.add_part-requires c).In_ok-pair in
    let p = pair d in
    let g = c.loop-k.invariant.2 in
    let lt = c.loop-k-test.true in
    let small = part_small _ _ p.0 p.1 _ _ p.2 in (
      g.joint-of.space,
      omega (arith, g.joint-of.counted, g.count-is, few d, lt),
      omega (arith, g.signals, few d, lt),
      omega (arith, g.chains, few d, lt),
      small.0,
      small.1,
    )

pub add_rows-requires : goal.add_rows-requires
add_rows-requires c =
    let i = c.loop-k.invariant in
    omega (arith, i.4.few, i.2.count-is, c.loop-k-test.true, few (goal.at.add_rows-requires c).In_ok-pair)

pub loop-k-preserved : goal.loop-k-preserved
unfolding part_pair
loop-k-preserved c =
    let d = (goal.at.loop-k-preserved c).In_ok-pair in
    let p = pair d in
    let l = c.loop-k in
    let done = l.invariant.1 in
    let g = l.invariant.2 in
    let lt = c.loop-k-test.true in
    let keeps = kept (texts d) (numbers d) c.requires in
    let tables = part-tables _ _ p.0 p.1 _ _ p.2 in
    let small = part_small _ _ p.0 p.1 _ _ p.2 in
    let within = part-within _ _ p.0 p.1 _ _ p.2 in
    let j =
    c.add_part.ensures done (as_part p.0) (sum (table (k d) (λ j. (texts_at (numbers d) j).program_length)))
    (texts_at (numbers d) (k d)).program_length g.joint-of tables (part-ordered _ _ p.0 p.1 _ _ p.2)
    (omega (arith, within, text-length (texts d) (numbers d) (k d) keeps lt))
    (within-total (texts d) (numbers d) (k d) keeps lt) in
    let counts = counts-next done (as_part p.0) _ _ l.joint _ _ _ g.joint-of j tables in (
      l.invariant.0,
      done ++ (as_part p.0 ∷ []),
      gather-next (texts d) (numbers d) done (k d) l.joint g lt p.0 p.1 _ j
          (omega (arith, counts.0, g.signals, small.0)) (omega (arith, counts.1, g.chains, small.1)),
      (λ rates.
          c.keep_rates.ensures done (as_part p.0) (part-rates _ _ p.0 p.1 _ _ p.2) g.count-is
          (l.invariant.3 rates)),
      c.add_rows.ensures done (as_part p.0) g.count-is tables.tables-are l.invariant.4,
    )

-- all parts are accepted
pub returns : goal.returns
unfolding GatheredAs program_total
returns c =
    let l = c.loop-k in
    let texts = c.args.texts.now in
    let numbers = c.args.numbers.now in
    let done = l.invariant.1 in
    let g = l.invariant.2 in
    let e : l.k-counter ≡ parts_in numbers = omega (arith, l.auto.k-counter-end, c.loop-k-test.false) in
    λ rates.
    rw (onward-all texts numbers done l.k-counter l.joint g e) (
      _,
      refl,
      record {
        joint-of =
            subst (λ (n : ℕ). JointOf done (sum (table n (λ j. (texts_at numbers j).program_length))) l.joint) e g.joint-of;
        rates = l.invariant.3 rates;
        table_of = l.invariant.4;
      },
    )
