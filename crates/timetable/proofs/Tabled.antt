-- A timetable made of the tables of an accepted pair is that pair's. Assumes nothing.
use Prim.Native.Nat.{ℕ, ◌<◌}
use mathlib.Core.List.{List}
use mathlib.Core.Path.{◌≡◌, sym, ap, subst, ◌∙◌}
use Rattle.model.specs.Rules.Compile.{Pair}
use Rattle.check_load.specs.Load.{load_in, LoadsOf}
use Rattle.check_load.proofs.Loads.{load_is}
use Rattle.check_pair.specs.Checked.{Checks}
use Rattle.text_schedule.specs.declared.PairTables.{PairTables}
use Rattle.timetable.specs.Timetable.{TimetableOf}
use Rattle.timetable.specs.declared.Timetable.{Timetable}

-- The fields of a timetable are those of the tables.
pub record Made (t : PairTables) (loads : List ℕ) (r : Timetable) : Type 0 where
  pub signals : r.signals ≡ t.tables.signals
  pub hypercycle : r.hypercycle ≡ t.hypercycle
  pub periods : r.periods ≡ t.tables.periods
  pub phases : r.phases ≡ t.slots.phases
  pub labels : r.labels ≡ t.tables.labels
  pub cap : r.cap ≡ t.tables.cap
  pub loads-are : r.loads ≡ loads

pub tabled : (text reads : List ℕ) (t : PairTables) (q : Pair) (loads : List ℕ) (r : Timetable) → Checks text reads t q →
    LoadsOf t.tables.periods t.slots.phases t.tables.weights t.tables.signals t.hypercycle loads →
    Made t loads r → TimetableOf r q
tabled text reads t q loads r k l m =
    let g = k.arranged in
    let n = g.stands.tables-are.counts.signals-are in
    record {
      signals = m.signals ∙ sym n;
      hypercycle = m.hypercycle ∙ k.hyper;
      periods = rw m.periods g.stands.tables-are.periods;
      phases = rw m.phases g.slots-are.phases-are;
      labels = rw m.labels g.stands.tables-are.labels;
      cap = rw m.cap g.stands.tables-are.cap;
      loads = λ c lt.
          rw m.loads-are
          (l c (subst (λ (h : ℕ). c < h) (sym k.hyper) lt) ∙
          ap (λ (x : ℕ). load_in t.tables.periods t.slots.phases t.tables.weights x c) (sym n) ∙
          sym (load_is _ _ _ _ _ g.stands.tables-are.periods g.stands.tables-are.weights g.slots-are.phases-are c));
    }
