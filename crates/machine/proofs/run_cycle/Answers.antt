-- `machine::run_cycle` meets its contract. Assumes nothing.
use mathlib.Core.Path.{◌≡◌, refl, sym, ap, ap₂, ◌∙◌}
use mathlib.Core.List.{List}
use Prim.Native.Nat.{ℕ, ◌≤◌, ◌<◌}
use native.Mathlib.Omega.{arith}
use borrow.Author.Tests.{ltb-true}
use lib.IntN.{ℤ, pos, nat_abs}
use lib.ListN.{length, get_or, set}
use mir.Syntax.{w32}
use mir.Val.{to_z, of_z}
use Rattle.model.specs.Rules.Machine.{hyper_of, list_of, run_signals, count_signals, position_of, next_position, cycle_words, cycle_count}
use Rattle.model.proofs.Images.Counts.{image-short, lists-inside}
use Rattle.word.proofs.Locals.{kept}
use Rattle.image_valid.proofs.Parts.{head, lists, entries, formed}
use Rattle.machine.proofs.Lists.{Position, stands_at}
use Rattle.machine.proofs.run_cycle.Goals as goal
use Rattle.machine.proofs.run_cycle.Goals.{After-position-1, After-run_list, After-run_signals-total, Start}

abbrev start : After-position-1 → Start
start q = (goal.at.After-position-1 q).Start

abbrev image : After-position-1 → List ℕ
image q = (start q).args.image.now

abbrev word : After-position-1 → ℤ
word q = get_or (start q).args.state.now 0 (pos 0)

here : (q : After-position-1) → Position (word q)
here q = stands_at (word q) (hyper_of (image q)) q.position-1.given (start q).requires.position

below : (q : After-position-1) → position_of (word q) < hyper_of (image q)
below q = ltb-true _ _ (sym ((here q).test (hyper_of (image q))) ∙ (start q).requires.position)

place : (q : After-position-1) → nat_abs (to_z w32 (of_z w32 (word q))) ≡ position_of (word q)
place q = ap nat_abs (here q).back

hyper : (q : After-position-1) → q.from_byte-h.result ≡ hyper_of (image q)
hyper q = q.from_byte-h.ensures.0

-- before the table and the list are taken
abbrev stood : After-run_list → After-position-1
stood r = (goal.at.After-run_list r).After-position-1

list-is : (r : After-run_list) → r.run_list.result.now ≡ list_of (image (goal.at.After-run_list r).After-position-1) (position_of (word (goal.at.After-run_list r).After-position-1))
list-is r = r.run_list.ensures ∙ ap (list_of (image (goal.at.After-run_list r).After-position-1)) (place (goal.at.After-run_list r).After-position-1)

left : (g : After-run_signals-total) → let q = (goal.at.After-run_signals-total g).After-position-1 in let a = (start q).args in
    g.run_signals-total.new.state ≡
    run_signals (image q) (list_of (image q) (position_of (word q))) a.samples.now a.state.now
left g =
    let r = (goal.at.After-run_signals-total g).After-run_list in
    let q = (goal.at.After-run_signals-total g).After-position-1 in
    let a = (start q).args in
    g.run_signals-total.ensures.left ∙ ap (λ (l : List ℕ). run_signals (image q) l a.samples.now a.state.now) (list-is r)

-- its commands, by the definition
counted : (g : After-run_signals-total) → let q = (goal.at.After-run_signals-total g).After-position-1 in
    g.run_signals-total.result ≡ cycle_count (image q) (start q).args.state.now
unfolding cycle_count
counted g = let r = (goal.at.After-run_signals-total g).After-run_list in g.run_signals-total.ensures.count ∙ ap (count_signals (image (goal.at.After-run_list r).After-position-1)) (list-is r)

-- no image is longer than two bytes can say, and no list than the image
short : (q : After-position-1) → length (image q) ≤ 65535
short q = image-short (image q) (λ i. (q.shared_slice_known-1.given i).fits) (start q).requires.formed

inside : (r : After-run_list) → length r.run_list.result.now ≤ length (image (goal.at.After-run_list r).After-position-1)
inside r =
    let e : length r.run_list.result.now ≡ length (list_of (image (goal.at.After-run_list r).After-position-1) (position_of (word (goal.at.After-run_list r).After-position-1))) = ap length
    (list-is r) in
    omega (arith, e, lists-inside (image (goal.at.After-run_list r).After-position-1) (position_of (word (goal.at.After-run_list r).After-position-1)))

pub bounds-image-0 : goal.bounds-image-0
bounds-image-0 c = omega (arith, (head _ (formed _ c.requires.formed).good).four)

pub bounds-image-1 : goal.bounds-image-1
bounds-image-1 c = omega (arith, (head _ (formed _ c.requires.formed).good).four)

pub overflow_cast-c : goal.overflow_cast-c
overflow_cast-c c = rw (here c).back (tt, record { fits = omega (arith, (here c).small) })

pub run_signals-total-requires : goal.run_signals-total-requires
run_signals-total-requires c =
    let r = (goal.at.run_signals-total-requires c).After-run_list in
    let q = (goal.at.run_signals-total-requires c).After-position-1 in
    let s = c in
    let f = formed _ s.requires.formed in record {
      image_value = (s.requires.formed, refl, r.table_of-table.ensures);
      by_index = λ k l. rw (list-is r) (entries _ (lists _ f.listed) f.entered _ (below q) k (rw (list-is r) at l));
      n_in_bounds = (s.requires.long, s.requires.enough, short q, inside r);
    }

pub next_position-next-requires : goal.next_position-next-requires
next_position-next-requires c =
    let q = (goal.at.next_position-next-requires c).After-position-1 in (
      omega (arith, place q, hyper q, below q),
      omega (arith, hyper q, (head _ (formed _ (start q).requires.formed).good).hyper),
    )

pub returns : goal.returns
unfolding cycle_words
returns c =
    let g = (goal.at.returns c).After-run_signals-total in
    let q = (goal.at.returns c).After-position-1 in
    let next : to_z w32 (of_z w32 c.next_position-next.result) ≡ pos (next_position (hyper_of (image q)) (position_of (word q))) =
    kept _ c.next_position-next.type_inv ∙ c.next_position-next.ensures ∙ ap₂ (λ (h p : ℕ). pos (next_position h p)) (hyper q) (place q) in
    record {
      count = counted g;
      left = ap₂ (λ (l : List ℤ) (w : ℤ). set l 0 w) (left g) next;
    }

pub table_of-table-requires : goal.table_of-table-requires
table_of-table-requires c = (start c).requires.formed

pub run_list-requires : goal.run_list-requires
run_list-requires c = ((start (goal.at.run_list-requires c).After-position-1).requires.formed, rw (place (goal.at.run_list-requires c).After-position-1) (below (goal.at.run_list-requires c).After-position-1))
