-- `join_links::is_right` meets its contract. Assumes nothing.
use Prim.Native.Nat.{ℕ, zero, ◌+◌, ◌<◌}
use mathlib.Core.Bool.{Bool, false, cond, ◌&&◌, false≢true, true≢false}
use mathlib.Core.Path.{sym, ap, ◌∙◌}
use native.Mathlib.Omega.{arith}
use borrow.Author.Tests.{eq-eqb, ne_eqb}
use lib.ListN.{get_or}
use Rattle.model.specs.Rules.Program.{is_input}
use Rattle.join_links.specs.ByPart.{signal_in, is_free}
use Rattle.join_links.proofs.Right.{
  none-period,
  some-period,
  declared-period,
  Pieces,
  right_is,
  link_from,
  right-at,
  right-not,
}
use Rattle.join_links.proofs.is_right.Goals as goal
use Rattle.join_links.proofs.is_right.Goals.{After-from_byte-2, After-period_of-period, Else-period-eq0, Start}

-- there is no such IN
pub returns-then-period-eq0 : goal.returns-then-period-eq0
returns-then-period-eq0 c =
    let s = c in
    let p = c.period_of-period in record {
      inside = (λ e. absurd (false≢true e));
      value = (λ parts i e t f.
          sym (right-not parts s.args.links.now i s.args.at e (λ q.
          true≢false (sym q.reader ∙ none-period parts _ t _ _ (sym (p.ensures.value parts t) ∙ c.if-period-eq0.true)))));
    }

-- both are of one part
pub returns-then-part-other : goal.returns-then-part-other
returns-then-part-other c =
    let s = c in record {
      inside = (λ e. absurd (false≢true e));
      value = (λ parts i e t f.
          sym (right-not parts s.args.links.now i s.args.at e (λ q.
          true≢false (sym (eq-eqb _ _ c.if-part-other.true) ∙ q.other))));
    }

-- the periods differ
pub returns-then-period-source : goal.returns-then-period-source
returns-then-period-source c =
    let c6 = c in
    let s = c in record {
      inside = (λ e. absurd (false≢true e));
      value = (λ parts i e t f.
          sym (right-not parts s.args.links.now i s.args.at e (λ q.
          c.if-period-source.true
          (c6.period_of-period.ensures.value parts t ∙ declared-period parts _ _ q.reader ∙ q.periods ∙
          sym (declared-period parts _ _ q.source) ∙ sym (c.period_of-source.ensures.value parts t)))));
    }

-- the entry of the IN
module _ (c : After-from_byte-2) where
  abbrev declared : Else-period-eq0
  declared = (goal.at.After-from_byte-2 c).Else-period-eq0

  abbrev found : After-period_of-period
  found = (goal.at.After-from_byte-2 c).After-period_of-period

  abbrev start : Start
  start = (goal.at.After-from_byte-2 c).Start

  inside :
      (get_or start.args.links.now start.args.at 0 < 8) × (get_or start.args.links.now (start.args.at + 1) 0 < 64)
  inside = found.period_of-period.ensures.inside (omega (arith, declared.if-period-eq0.false))

pub bounds-inputs-entry : goal.bounds-inputs-entry
bounds-inputs-entry c =
    omega (arith, (inside (goal.at.bounds-inputs-entry c).After-from_byte-2).0, (inside (goal.at.bounds-inputs-entry c).After-from_byte-2).1, c.from_byte-2.ensures.0, c.from_byte.ensures.0)

pub returns : goal.returns
returns c =
    let w = c in
    let s = c in
    let links = s.args.links.now in
    let some : zero < (found (goal.at.returns w).After-from_byte-2).period_of-period.result = omega (arith, (declared (goal.at.returns w).After-from_byte-2).if-period-eq0.false) in record {
      inside = (λ e. inside (goal.at.returns w).After-from_byte-2);
      value = (λ parts i e t f.
          let one = (found (goal.at.returns w).After-from_byte-2).period_of-period.ensures.value parts t in
          let two = w.period_of-source.ensures.value parts t in
          let same = w.if-period-source.false in
          let reader =
          some-period parts (get_or links s.args.at 0) (get_or links (s.args.at + 1) 0) (omega (arith, one, some)) in
          let source =
          some-period parts (get_or links (s.args.at + 2) 0) (get_or links (s.args.at + 3) 0) (omega (arith, two, same, some)) in
          let pieces : Pieces parts links i (link_from links i s.args.at) =
          record {
            reader = reader;
            source = source;
            other = ne_eqb _ _ w.if-part-other.false;
            periods =
                sym (declared-period parts _ _ reader) ∙ sym one ∙ same ∙ two ∙ declared-period parts _ _ source;
          } in
          ap (λ (n : ℕ). get_or s.args.inputs.now n false)
          (omega (arith, w.from_byte-2.ensures.0, w.from_byte.ensures.0)) ∙
          f.each (get_or links s.args.at 0) (get_or links (s.args.at + 1) 0) (inside (goal.at.returns w).After-from_byte-2).0 (inside (goal.at.returns w).After-from_byte-2).1 ∙
          ap (λ (b : Bool).
          cond b (is_input (signal_in parts (get_or links s.args.at 0) (get_or links (s.args.at + 1) 0)).body) false &&
          is_free links i (get_or links s.args.at 0) (get_or links (s.args.at + 1) 0))
          reader ∙
          sym (right_is parts links i (link_from links i s.args.at) (omega (arith, s.requires, e)) pieces) ∙
          sym (right-at parts links i s.args.at e));
    }
