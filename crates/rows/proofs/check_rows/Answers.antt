-- `rows::check_rows` meets its contract. Assumes nothing.
use Rattle.std.specs.Prelude.{Option, Some, None, Ok, Err}
use mathlib.Core.Path.{◌≡◌, refl, sym, ap, ◌∙◌}
use mathlib.Core.Bool.{Bool, true, false}
use mathlib.Core.List.{List}
use Prim.Native.Nat.{ℕ, ◌<◌}
use native.Mathlib.Omega.{arith}
use borrow.Author.Rules.{rules}
use lib.ListN.{get_or}
use Rattle.model.specs.Rules.Search.{first_below}
use Rattle.model.proofs.Pairs.Decide.{is-first}
use Rattle.basics.specs.Judgement.{judgement_of}
use Rattle.model.specs.Rules.Cover.{meets_earlier, meeting_of, no_gap, covering}
use Rattle.model.specs.Rules.Outcome.{◌▷◌, provided}
use Rattle.model.specs.Rules.Table.{Row}
use Rattle.rows.specs.Rows.{text_rows}
use Rattle.rows.proofs.Loops.{text-length, text_at}
use Rattle.rows.proofs.check_rows.Goals as goal

-- the definition, by what the search finds
module _ (text offsets : List ℕ) (count : ℕ) where
  abbrev search_is : Option ℕ → Type 0
  search_is f = f ≡ first_below count (meets_earlier (text_rows text offsets count))

  judged : (f : Option ℕ) → search_is f → (t : Bool) → t ≡ no_gap (text_rows text offsets count) →
      judgement_of (covering (text_rows text offsets count)) ≡
      judgement_of (meeting_of (text_rows text offsets count) f ▷ λ _. provided t 30 0)
  unfolding covering
  judged f e t g = rw (text-length text offsets count, ← e, ← g)

  inside : (n : ℕ) → search_is (Some n) → n < count
  inside n e = let h = is-first count (meets_earlier (text_rows text offsets count)) (Some n) (sym e) in omega arith

  twice : (n place : ℕ) → search_is (Some n) → place ≡ get_or offsets n 0 →
      Err (record { number = 29; place = place }) ≡ judgement_of (covering (text_rows text offsets count))
  unfolding judgement_of ◌▷◌
  twice n place e p =
      ap (λ (k : ℕ). Err (record { number = 29; place = k }))
      (p ∙ sym (ap (λ (r : Row). r.place) (text_at text offsets count n (inside n e)))) ∙
      sym (judged (Some n) e (no_gap (text_rows text offsets count)) refl)

  fine : search_is None → true ≡ no_gap (text_rows text offsets count) → (Ok tt) ≡ judgement_of
      (covering (text_rows text offsets count))
  unfolding judgement_of ◌▷◌ provided
  fine e g = sym (judged None e true g)

  missing : search_is None → false ≡ no_gap (text_rows text offsets count) →
      Err (record { number = 30; place = 0 }) ≡ judgement_of (covering (text_rows text offsets count))
  unfolding judgement_of ◌▷◌ provided
  missing e g = sym (judged None e false g)

pub offset_of-requires : goal.offset_of-requires
offset_of-requires c =
    let f = c in
    let s = c in
    let l = inside s.args.text.now s.args.offsets.now s.args.count _
    (sym c.in-Some.is ∙ f.first_meeting-found.ensures) in
    omega (arith, s.requires.0)

pub returns-in-Some : goal.returns-in-Some
returns-in-Some c =
    let o = c in
    let k = c in
    let f = c in
    let s = c in
    c.refuse.ensures ∙
    twice s.args.text.now s.args.offsets.now s.args.count _ o.offset_of.result
    (sym k.in-Some.is ∙ f.first_meeting-found.ensures) o.offset_of.ensures

pub returns-then-no_gap : goal.returns-then-no_gap
returns-then-no_gap c =
    let g = c in
    let f = c in
    let s = c in
    fine s.args.text.now s.args.offsets.now s.args.count
    (sym g.in-None.is ∙ f.first_meeting-found.ensures) (sym c.if-no_gap.true ∙ g.no_gap.ensures)

pub returns-else-no_gap : goal.returns-else-no_gap
returns-else-no_gap c =
    let e = c in
    let g = c in
    let f = c in
    let s = c in
    c.refuse-else-no_gap.ensures ∙
    missing s.args.text.now s.args.offsets.now s.args.count
    (sym g.in-None.is ∙ f.first_meeting-found.ensures) (sym e.if-no_gap.false ∙ g.no_gap.ensures)
