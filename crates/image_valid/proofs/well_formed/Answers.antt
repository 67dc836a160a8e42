-- `image_valid::well_formed` meets its contract. Assumes nothing.
use Prim.Native.Nat.{ℕ}
use mathlib.Core.Path.{◌≡◌, refl, sym, ap, ◌∙◌}
use lib.Dec.{ltb}
use lib.ListN.{get_or}
use mathlib.Core.Bool.{true}
use native.Mathlib.Omega.{arith}
use Rattle.model.specs.Rules.Machine.{head_ok, lists_ok, table_ok}
use Rattle.image_valid.proofs.Parts.{head, table, without-head, without-lists, without-table, with-table}
use Rattle.image_valid.proofs.well_formed.Goals as goal
use Rattle.image_valid.proofs.well_formed.Goals.{Else-not-head_ok, Else-not-lists_ok, Else-not-table_ok}

good : (e : Else-not-head_ok) → head_ok e.args.image.now ≡ true
good e = sym e.head_ok.ensures ∙ e.if-not-head_ok.false

listed : (e : Else-not-lists_ok) →
    let e5 = e in
    lists_ok e5.args.image.now ≡ true
listed e = sym e.lists_ok.ensures ∙ e.if-not-lists_ok.false

pub returns-then-not-head_ok : goal.returns-then-not-head_ok
returns-then-not-head_ok c = sym (without-head _ (sym c.head_ok.ensures ∙ c.if-not-head_ok.true))

pub bounds-image-1 : goal.bounds-image-1
bounds-image-1 c = omega (arith, (head _ (good (goal.at.bounds-image-1 c).Else-not-head_ok)).four)

pub lists_ok-requires : goal.lists_ok-requires
lists_ok-requires c = let w = c in (good (goal.at.lists_ok-requires w).Else-not-head_ok, c.from_byte-count.ensures.0, w.from_byte-h.ensures.0)

pub returns-then-not-lists_ok : goal.returns-then-not-lists_ok
returns-then-not-lists_ok c = let l = c in
    sym (without-lists _ (good (goal.at.returns-then-not-lists_ok l).Else-not-head_ok)
    (sym l.lists_ok.ensures ∙ c.if-not-lists_ok.true))

-- where the lists are judged
abbrev judged : Else-not-lists_ok → Else-not-head_ok
judged e = (goal.at.Else-not-lists_ok e).Else-not-head_ok

pub table_offset-table-requires : goal.table_offset-table-requires
table_offset-table-requires c =
    (good (goal.at.table_offset-table-requires c).Else-not-head_ok, c.from_byte-count.ensures.0, c.from_byte-h.ensures.0)

pub table_ok-requires : goal.table_ok-requires
table_ok-requires c =
    (good (goal.at.table_ok-requires c).Else-not-head_ok, c.from_byte-count.ensures.0, c.table_offset-table.ensures)

pub returns-then-not-table_ok : goal.returns-then-not-table_ok
returns-then-not-table_ok c =
    let t = c in
    let e = (goal.at.returns-then-not-table_ok c).Else-not-lists_ok in
    sym (without-table _ (good (goal.at.Else-not-lists_ok e).Else-not-head_ok) (listed e) (sym t.table_ok.ensures ∙ c.if-not-table_ok.true))

-- where the table is judged
abbrev lists : Else-not-table_ok → Else-not-lists_ok
lists e = (goal.at.Else-not-table_ok e).Else-not-lists_ok

tabled : (e : Else-not-table_ok) → table_ok (judged (goal.at.Else-not-table_ok e).Else-not-lists_ok).args.image.now ≡ true
tabled e = sym e.table_ok.ensures ∙ e.if-not-table_ok.false

pub entries_ok-requires : goal.entries_ok-requires
entries_ok-requires c =
    let e = (goal.at.entries_ok-requires c).Else-not-lists_ok in (
      good (goal.at.Else-not-lists_ok e).Else-not-head_ok,
      listed e,
      refl,
      e.from_byte-h.ensures.0,
      c.table_offset-table.ensures,
    )

pub returns-then-not-entries_ok : goal.returns-then-not-entries_ok
returns-then-not-entries_ok c =
    let e = (goal.at.returns-then-not-entries_ok c).Else-not-table_ok in
    let l = (goal.at.returns-then-not-entries_ok c).Else-not-lists_ok in
    sym (with-table _ (good (goal.at.Else-not-lists_ok l).Else-not-head_ok) (listed l) (tabled e) ∙
    rw (sym c.entries_ok.ensures ∙ c.if-not-entries_ok.true))

pub bounds-image-table : goal.bounds-image-table
bounds-image-table c =
    let e = (goal.at.bounds-image-table c).Else-not-table_ok in
    omega (arith, (table _ (tabled e)).inside, e.table_offset-table.ensures)

pub codes_ok-requires : goal.codes_ok-requires
codes_ok-requires c =
    let e = (goal.at.codes_ok-requires c).Else-not-table_ok in
    let l = (goal.at.codes_ok-requires c).Else-not-lists_ok in
    let s = c in (
      good (goal.at.Else-not-lists_ok l).Else-not-head_ok,
      refl,
      ap (λ (at : ℕ). ltb 0 (get_or s.args.image.now at 0)) e.table_offset-table.ensures,
    )

pub returns : goal.returns
returns c =
    let n = c in
    let e = (goal.at.returns c).Else-not-table_ok in
    let l = (goal.at.returns c).Else-not-lists_ok in
    c.codes_ok.ensures
    ∙ sym (with-table _ (good (goal.at.Else-not-lists_ok l).Else-not-head_ok) (listed l) (tabled e) ∙
    rw (sym n.entries_ok.ensures ∙ n.if-not-entries_ok.false))

pub bounds-image-0 : goal.bounds-image-0
bounds-image-0 c = omega (arith, (head _ (good (goal.at.bounds-image-0 c).Else-not-head_ok)).four)
