-- The image and the tail by the tables of a text are those of its program and schedule. Assumes nothing.
use Prim.Native.Nat.{ℕ, ◌+◌, ◌*◌, ◌≤◌}
use mathlib.Core.List.{List, ◌++◌}
use mathlib.Core.Path.{◌≡◌, sym, ap, ap₂, subst, ◌∙◌}
use native.Mathlib.Omega.{arith}
use lib.ListN.{length, get_or, drop}
use lib.Seq.{sets}
use Rattle.model.specs.Rules.Image.{codes, run_list, joined, lists_at, codes_at, length_of, image_of, tail_of}
use Rattle.model.specs.Rules.Program.{Program, count}
use Rattle.model.specs.Rules.Schedule.{Schedule}
use Rattle.model.specs.Rules.Table.{Row, by_low, table_bytes}
use Rattle.model.specs.Rules.Word.{AreBytes}
use Rattle.model.specs.Rules.Writing.{Wrote}
use Rattle.model.specs.Says.Rows.{AllUpright, Covers}
use Rattle.model.proofs.Images.Stretches.{image-length}
use Rattle.model.proofs.Pairs.Verdict.{tabled-covering}
use Rattle.model.proofs.Rows.Area.{sorted-bytes}
use Rattle.model.proofs.Rows.Decided.{judged-covers}
use Rattle.model.proofs.Rows.Spelled.{rows_inside, rows-spelled}
use Rattle.model.proofs.Texts.Legal.{stands, signal-spelled, row-upright}
use Rattle.model.proofs.Texts.Parses.{program-legal}
use Rattle.rows.specs.Rows.{text_rows}
use Rattle.text_program.specs.declared.Tables.{Tables}
use Rattle.text_schedule.specs.Arranged.{Arranged}
use Rattle.text_schedule.specs.declared.PairTables.{PairTables}
use Rattle.text_schedule.proofs.Arranged.{ordered}
use Rattle.image_write.specs.Codes.{signals_in, declared_by, codes_from, Declared, CodesAt}
use Rattle.image_write.specs.Lists.{list_by, lists_by, HasPeriods, Phased}
use Rattle.image_write.specs.Rows.{table_by, TableStands}
use Rattle.image_write.specs.Tail.{tail_by}
use Rattle.image_write.proofs.Coded.{code_sum, codes-by, codes-end}
use Rattle.image_write.proofs.Timed.{codes_by, length_by, image_by, TimedBy}
use Rattle.image_write.proofs.Timed as timedly
use Rattle.image_write.proofs.Written.{image-first}

module _ {text reads : List ℕ} {pair : PairTables} {p : Program} {s : Schedule} (r : Arranged text reads pair p s) where
  abbrev t : Tables
  t = pair.tables

  abbrev periods : List ℕ
  periods = t.periods

  abbrev order : List ℕ
  order = pair.slots.order

  abbrev phases : List ℕ
  phases = pair.slots.phases

  pub count-is : count p ≡ t.signals
  count-is = r.stands.tables-are.counts.signals-are

  pub signals-are : p.signals ≡ declared_by text
  unfolding declared_by
  signals-are = sym (ap signals_in ((program-legal text p).1 r.stands.declares))

  codes-are : codes p ≡ codes_from 0 (declared_by text)
  unfolding codes codes_from
  codes-are = ap (codes_from 0) signals-are

  pub declared : Declared text t.places t.signals
  declared =
      let l = stands text p r.stands.declares in
      let n = count-is in
      record {
        few = omega (arith, l.1.few_signals);
        count-is = ap length (sym signals-are) ∙ n;
        stands = λ x lt. rw (← signals-are) (sym (r.stands.tables-are.places x (omega arith)));
        spelled = λ x lt. rw (← signals-are) (signal-spelled l.1 x (omega arith));
        short = rw (← codes-are) (omega (arith, l.1.code, l.2));
      }

  -- The rows.
  rows_are : text_rows text t.offsets t.rows ≡ p.rows
  unfolding text_rows
  rows_are =
      rw (← r.stands.tables-are.counts.rows_are)
      (rows-spelled (stands text p r.stands.declares).1 t.offsets r.stands.tables-are.offsets)

  table_is : table_bytes (by_low p.rows) ≡ table_by text t.offsets t.rows
  table_is = ap (λ (rows : List Row). table_bytes (by_low rows)) (sym rows_are)

  pub table-size : length (table_by text t.offsets t.rows) ≡ 1 + 12 * t.rows
  table-size =
      ap length (sym table_is) ∙ omega (arith, sorted-bytes p.rows, r.stands.tables-are.counts.rows_are)

  pub few-rows : t.rows ≤ 32
  few-rows = omega (arith, (stands text p r.stands.declares).1.few_rows, r.stands.tables-are.counts.rows_are)

  pub table-stands : AreBytes text → TableStands text t.offsets t.rows
  table-stands bytes =
      let l = (stands text p r.stands.declares).1 in
      let n = r.stands.tables-are.counts.rows_are in
      let up : AllUpright p.rows = λ k lt. row-upright l k lt in
      record {
        placed = (few-rows, λ k lt. rows_inside l t.offsets r.stands.tables-are.offsets k (omega arith));
        upright = subst AllUpright (sym rows_are) up;
        covers = λ some. subst Covers (sym rows_are) (judged-covers p.rows up (tabled-covering p r.covered (omega arith)));
      }

  pub codes-at : (start : ℕ) → CodesAt start (declared_by text) t.codes
  codes-at start = rw (← signals-are) (codes-by p t.codes r.stands.tables-are.codes start)

  pub code-size : get_or t.codes t.signals 0 ≡ length (joined (codes_from 0 (declared_by text)))
  code-size =
      let n = count-is in
      rw (← signals-are)
      (omega (
        arith,
        code_sum p t.codes r.stands.tables-are.codes t.signals (omega arith),
        ap length (codes-end p.signals t.signals (omega arith)),
      ))

  pub timed-by : TimedBy periods order phases t.signals p s
  timed-by =
      record {
        count-is = count-is;
        few = declared.few;
        periods-are = r.stands.tables-are.periods;
        ranks = pair.slots.ranks;
        slots = r.slots-are;
        ordered = ordered r;
      }

  pub timed : HasPeriods periods order t.signals
  timed = timedly.timed timed-by

  pub phased : Phased periods order phases t.signals
  phased = timedly.phased timed-by

  pub list-is : (c : ℕ) → run_list p s c ≡ list_by periods order phases t.signals c
  list-is = timedly.list-is timed-by

  pub tail-by : tail_by t.labels periods phases t.signals ≡ tail_of p s
  tail-by = timedly.tail-by timed-by t.labels r.stands.tables-are.labels

  abbrev h : ℕ
  h = pair.hypercycle

  abbrev lists : List (List ℕ)
  lists = lists_by periods order phases t.signals h

  abbrev rows : List ℕ
  rows = table_by text t.offsets t.rows

  image-by : image_of p s h ≡ image_by h t.signals (declared_by text) lists rows (codes_from 0 (declared_by text))
  image-by =
      timedly.image-by timed-by h ∙
      ap (λ (l : List ℕ). image_by h t.signals p.signals lists l (codes p)) table_is ∙
      ap₂ (λ g cs. image_by h t.signals g lists rows cs) signals-are codes-are

  pub lists-by : lists_at (count p) h ≡ lists_at t.signals h
  lists-by = ap (λ (n : ℕ). lists_at n h) count-is

  pub code_by : codes_at p s h ≡ codes_by h t.signals lists rows
  code_by = timedly.code_by timed-by h ∙ ap (codes_by h t.signals lists) table_is

  pub length-by : length_of p s h ≡ length_by h t.signals lists rows (codes_from 0 (declared_by text))
  unfolding length_of
  length-by = ap₂ (λ (at : ℕ) cs. at + length (joined cs)) code_by codes-are

  pub image-size : length (image_by h t.signals (declared_by text) lists rows (codes_from 0 (declared_by text))) ≡ length_of p s h
  image-size = rw (← image-by) (image-length p s h)

  -- What is written from the first byte on is the image, and the rest stays.
  pub image-written : {l l' : List ℕ} {end : ℕ} → length_of p s h ≤ length l →
      Wrote l 0 (image_by h t.signals (declared_by text) lists rows (codes_from 0 (declared_by text))) l' end →
      l' ≡ image_of p s h ++ drop (length_of p s h) l
  image-written {l} le w = w.holds ∙ ap (sets l 0) (sym image-by) ∙ image-first p s h l le
