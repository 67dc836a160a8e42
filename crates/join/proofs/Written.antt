-- The image by the tables of an accepted join is that of its pair. Assumes nothing.
use Rattle.std.specs.Prelude.{Option}
use Prim.Native.Nat.{ℕ, ◌+◌, ◌*◌, ◌≤◌}
use mathlib.Core.Bool.{◌&&◌, and-eq-true_iff}
use mathlib.Core.List.{List, ◌∷◌, ◌++◌, map, append_assoc}
use mathlib.Core.Path.{◌≡◌, sym, ap, ap₂, subst, ◌∙◌}
use native.Mathlib.Omega.{arith}
use borrow.Author.Tests.{leb-true}
use lib.Dec.{leb}
use lib.ListN.{length, get_or}
use Rattle.model.specs.Rules.Compile.{Pair}
use Rattle.model.specs.Rules.Image.{joined, codes, records, offsets, lists_at, length_of, image_of, tail_of, written_of}
use Rattle.model.specs.Rules.Join.{
  program_total,
  lent,
  links_of,
  one_table,
  links_met,
  joined_verdict,
  joined_pair_of,
}
use Rattle.model.specs.Rules.Load.{loaded}
use Rattle.model.specs.Rules.Outcome.{accepted, provided}
use Rattle.model.specs.Rules.Parts.{Part, tabled_parts, PartLink, Wire, wire_of, wired_with, joined_pair}
use Rattle.model.specs.Rules.Program.{Program, count}
use Rattle.model.specs.Rules.Rates.{hypercycle}
use Rattle.model.specs.Rules.Schedule.{Schedule}
use Rattle.model.specs.Rules.Table.{by_low, table_bytes}
use Rattle.model.specs.Rules.Word.{two_bytes}
use Rattle.model.proofs.Basics.Outcomes.{then-accepted, provided-true, accepted-same}
use Rattle.model.proofs.Images.Stretches.{image-length}
use Rattle.model.proofs.Pairs.Hypercycle.{hypercycle-least}
use Rattle.text_program.specs.Tables.{Sums, code_in}
use Rattle.image_write.specs.Lists.{pairs}
use Rattle.image_write.specs.Layout.{LaidOut, LaidOutBy}
use Rattle.image_write.specs.Tail.{tail_by}
use Rattle.image_write.specs.declared.Layout.{Layout}
use Rattle.image_write.proofs.Timed.{codes_by, image_by, TimedBy, timed, phased, code_by, image-by, tail-by}
use Rattle.join_gather.specs.declared.Joint.{Joint}
use Rattle.join_whole.specs.Whole.{Joining}
use Rattle.join_whole.proofs.Wired.{
  wired-count,
  linked-inputs,
  wired-periods,
  wired-labels,
  wired-slots,
  wired-ordered,
}
use Rattle.join_rows.specs.Rows.{RowsReady, rows_by}
use Rattle.join_rows.proofs.Stand.{rows-by, bytes-long}
use Rattle.join_emit.specs.Image.{JointTimed, joint_lists, joint_codes, joint_codes_at, joint_records, joint_image, JointFits}
use Rattle.join_emit.specs.Sources.{wires_by, SourcesBy}
use Rattle.join_emit.proofs.Declares.{parts-declared, sums_kept, code-size, codes-are, records-are}
use Rattle.join_verdict.specs.declared.Verdict.{Verdict}
use Rattle.join.specs.Ready.{JoinReady, LaidOutJoin}
use Rattle.join.proofs.Wires.{wires-are, wires-near}

-- The texts of an accepted join are lent.
texts-lent : (texts numbers links : List ℕ) (q : Pair) → joined_pair_of texts numbers links ≡ accepted q →
    lent texts numbers ≡ accepted tt
unfolding joined_pair_of
texts-lent texts numbers links q e = (then-accepted (lent texts numbers) _ q e).1

-- Rows stand in one part at most.
rows-one : (parts : List Part) → one_table parts ≡ accepted tt → tabled_parts parts ≤ 1
unfolding one_table
rows-one parts e = leb-true _ _ (provided-true (leb (tabled_parts parts) 1) 31 0 e)

-- What the joined verdict accepts.
pub record WholeOf (parts : List Part) (links : List PartLink) (q : Pair) : Type 0 where
  pub program : q.program ≡ (joined_pair parts links).program
  pub schedule : q.schedule ≡ (joined_pair parts links).schedule
  pub few : count (joined_pair parts links).program ≤ 64
  pub hyper : q.hypercycle ≤ 240

whole_of : (parts : List Part) (links : List PartLink) (q : Pair) → joined_verdict parts links ≡ accepted q →
    WholeOf parts links q
unfolding joined_verdict
whole_of parts links q e =
    let p = joined_pair parts links in
    let test = leb (count p.program) 64 && leb (length p.program.chains) 16 in
    let a = then-accepted (provided test 4 0) _ q e in
    let b = then-accepted (hypercycle p.program) _ q a.2 in
    let c = then-accepted (links_met parts links) _ q b.2 in
    let d = then-accepted (loaded p.program p.schedule b.0) _ q c.2 in
    let s : record { program = p.program; schedule = p.schedule; hypercycle = b.0 } ≡ q = accepted-same _ _ d.2 in
    let two =
    (and-eq-true_iff (leb (count p.program) 64) (leb (length p.program.chains) 16)).0
    (provided-true test 4 0 a.1) in
    record {
      program = sym (ap (λ (r : Pair). r.program) s);
      schedule = sym (ap (λ (r : Pair). r.schedule) s);
      few = leb-true _ _ two.0;
      hyper =
          omega (arith, ((hypercycle-least p.program b.0).0 b.1).bound, ap (λ (r : Pair). r.hypercycle) s);
    }

-- An accepted join, its joined pair and the tables of it.
module _ {texts numbers links : List ℕ} {r : Verdict} (ready : JoinReady texts numbers links r) where
  abbrev parts : List Part
  parts = ready.checks.parts

  abbrev pub joined_program : Program
  joined_program = (joined_pair parts (links_of links)).program

  abbrev pub joined_schedule : Schedule
  joined_schedule = (joined_pair parts (links_of links)).schedule

  abbrev p : Program
  p = joined_program

  abbrev s : Schedule
  s = joined_schedule

  abbrev t : Joint
  t = r.joint

  abbrev h : ℕ
  h = r.hypercycle

  pub joining : Joining parts (program_total numbers) links t
  joining = ready.checks.joining

  pub lents : lent texts numbers ≡ accepted tt
  lents = texts-lent texts numbers links ready.pair ready.accepts

  accepts : WholeOf parts (links_of links) ready.pair
  accepts = whole_of parts (links_of links) ready.pair ready.checks.joined

  pub few : t.signals ≤ 64
  few = omega (arith, accepts.few, wired-count joining)

  -- What is to be written is the image and the tail of the joined pair.
  pub written_is : written_of ready.pair.program ready.pair.schedule ready.pair.hypercycle ≡ written_of p s h
  written_is =
      ap₂ (λ (x : Program) (y : Schedule). written_of x y ready.pair.hypercycle) accepts.program accepts.schedule ∙
      ap (written_of p s) (sym ready.checks.hyper)

  timed-by : TimedBy t.periods t.order t.phases t.signals p s
  timed-by =
      record {
        count-is = wired-count joining;
        few = few;
        periods-are = wired-periods joining few;
        ranks = t.ranks;
        slots = wired-slots joining few;
        ordered = wired-ordered joining few;
      }

  pub times : JointTimed t h
  times =
      record {
        timed = timed timed-by;
        phased = phased timed-by;
        hyper = omega (arith, accepts.hyper, ready.checks.hyper);
      }

  pub tail-is : tail_by t.labels t.periods t.phases t.signals ≡ tail_of p s
  tail-is = tail-by timed-by t.labels (wired-labels joining few)

  pub rows-ready : RowsReady texts numbers r.table
  rows-ready =
      record {
        lent-texts = lents;
        parts = parts;
        checked = ready.checks.checked;
        table = ready.checks.table;
        one = omega (arith, rows-one parts ready.checks.one, ready.checks.table.tabled);
      }

  rows_are : rows_by texts numbers r.table ≡ table_bytes (by_low p.rows)
  unfolding joined_pair wired_with rows-ready
  rows_are = rows-by texts numbers r.table rows-ready

  rows-size : length (table_bytes (by_low p.rows)) ≡ 1 + 12 * r.table.rows
  rows-size = ap length (sym rows_are) ∙ bytes-long texts numbers r.table rows-ready

  -- The length of the code.
  abbrev wires : List Wire
  wires = map (wire_of parts) (links_of links)

  sums : Sums code_in p t.codes
  unfolding joined_pair
  sums =
      sums_kept texts numbers lents ready.checks.checked joining.joint-of few wires (λ x lt. linked-inputs joining x)

  code-long : get_or t.codes t.signals 0 ≡ length (joined (codes p))
  code-long = ap (λ (n : ℕ). get_or t.codes n 0) (sym (wired-count joining)) ∙ code-size p t.codes sums

  -- The layout by the tables is that of the joined pair.
  module _ {l : Layout} (by : LaidOutJoin r l) where
    pub laid_out : LaidOut p s h l
    unfolding length_of
    laid_out =
        let n = wired-count joining in
        let c = code_by timed-by h in
        record {
          lists-at = omega (arith, by.lists-at, n);
          code_at = omega (arith, by.code_at, c, rows-size);
          ends = omega (arith, by.code_at, by.ends, c, rows-size, code-long);
          tail-ends = omega (arith, by.code_at, by.ends, by.tail-ends, c, rows-size, code-long, n);
        }

    -- With the sources of the linked INs.
    module _ (sources : List (Option ℕ)) (sourced : SourcesBy (wires_by links t.bases) sources) where
      by-wires : SourcesBy wires sources
      by-wires = subst (λ (ws : List Wire). SourcesBy ws sources) (sym (wires-are joining few)) sourced

      abbrev starts : ℕ
      starts = joint_codes_at texts numbers t r.table sources h

      coded : joint_codes texts numbers t sources ≡ joined (codes p)
      unfolding joined_pair
      coded =
          codes-are texts numbers lents ready.checks.checked joining.joint-of few wires (wires-near joining few)
          sources by-wires

      recorded : joint_records texts numbers t r.table sources h ≡ records p.signals (offsets starts (codes p))
      unfolding joined_pair
      recorded =
          records-are texts numbers lents ready.checks.checked joining.joint-of few wires (wires-near joining few)
          sources by-wires starts sums

      pub image-is : joint_image texts numbers t r.table sources h ≡ image_of p s h
      unfolding image_by
      image-is =
          ap (λ (z : List ℕ).
          (h ∷ t.signals ∷ two_bytes (starts + length (joint_codes texts numbers t sources))) ++
          (joint_records texts numbers t r.table sources h ++ z))
          (append_assoc (pairs (offsets (lists_at t.signals h) lists)) (joined lists) _) ∙
          ap₂ (form (rows_by texts numbers r.table)) coded recorded ∙
          ap (λ (rows : List ℕ).
          form rows (joined (codes p)) (records p.signals (offsets (codes_by h t.signals lists rows) (codes p)))) rows_are ∙
          sym (image-by timed-by h)
        where
          lists : List (List ℕ)
          lists = joint_lists t h

          form : List ℕ → List ℕ → List ℕ → List ℕ
          form rows code recs =
              (h ∷ t.signals ∷ two_bytes (codes_by h t.signals lists rows + length code)) ++
              (recs ++ (pairs (offsets (lists_at t.signals h) lists) ++ (joined lists ++ (rows ++ code))))

      pub fits : {n : ℕ} → l.written ≤ n → JointFits texts numbers t r.table sources h l n
      fits {n} le =
          record {
            times = times;
            declared = parts-declared texts numbers lents ready.checks.checked joining.joint-of few;
            rows-ready = rows-ready;
            laid_out =
                subst (λ (k : ℕ). LaidOutBy t.periods t.order t.phases t.signals h k r.table.rows l)
                (code-long ∙ ap length (sym coded)) by;
            size = ap length image-is ∙ image-length p s h ∙ sym laid_out.ends;
            room = omega (arith, by.tail-ends);
          }
