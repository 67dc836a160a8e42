-- An accepted pair by its tables: what is known where its moves are listed. Assumes nothing.
use Prim.Native.Nat.{ℕ, ◌+◌, ◌<◌}
use mathlib.Core.Bool.{true}
use mathlib.Core.List.{List}
use mathlib.Core.Logic.{◌↔◌, inl, inr}
use mathlib.Core.Path.{◌≡◌, refl, sym, ap, ◌∙◌}
use native.Mathlib.Omega.{arith}
use lib.ListN.{get_or}
use Rattle.model.specs.Rules.Compile.{Pair, pair_of}
use Rattle.model.specs.Rules.Latency.{timely}
use Rattle.model.specs.Rules.Load.{load, is_over}
use Rattle.model.specs.Rules.Outcome.{accepted, refused, ◌▷◌}
use Rattle.model.specs.declared.Fault.{Fault}
use Rattle.model.specs.Rules.Program.{Program, count, signal_at, weight_of}
use Rattle.model.specs.Rules.Reads.{rate_of, due}
use Rattle.model.specs.Rules.Schedule.{Schedule}
use Rattle.model.proofs.Pairs.Verdict.{pair-passed, pair-accepted, pair-multiple}
use Rattle.model.proofs.Texts.Legal.{stands, signal-period}
use Rattle.text_program.specs.Tables.{cap_of}
use Rattle.text_schedule.specs.declared.PairTables.{PairTables}
use Rattle.text_schedule.proofs.Arranged.{short-hypercycle}
use Rattle.read_rule.specs.Reads.{at_phase}
use Rattle.check_load.specs.Load.{LoadsOf, load_in}
use Rattle.check_load.proofs.Loads.{load_is}
use Rattle.check_latency.specs.Timely.{Timed}
use Rattle.move_rule.specs.Ranges.{ReadsStay, ChainsStay, Room}
use Rattle.move_rule.specs.Narrowing.{IsLeft, Narrowed, MetTables, ReadingOf}
use Rattle.model.specs.Rules.Moves.{may_take, entries_of, all_entries, moves_of}
use Rattle.model.specs.Rules.Search.{join_below}
use Rattle.moves.specs.Listing.{FitsAt, TellsMoves, passing, Written, AcceptedBy, NarrowedBy}
use Rattle.move_rule.proofs.Narrowings.{narrowed-both}
use Rattle.moves.proofs.Decides.{take-decides}
use Rattle.moves.proofs.Entries.{join-same}

module _ {text reads schedule : List ℕ} {t : PairTables} {q : Pair} (k : AcceptedBy text reads schedule t q) where
  abbrev p : Program
  p = q.program

  abbrev s : Schedule
  s = q.schedule

  abbrev periods : List ℕ
  periods = t.tables.periods

  abbrev phases : List ℕ
  phases = t.slots.phases

  abbrev weights : List ℕ
  weights = t.tables.weights

  abbrev signals : ℕ
  signals = t.tables.signals

  pub counted : count p ≡ signals
  counted = k.arranged.stands.tables-are.counts.signals-are

  pub tabled : MetTables periods phases t.slots.ranks p s
  tabled =
      record {
        periods-are = k.arranged.stands.tables-are.periods;
        order = t.slots.order;
        slots-are = k.arranged.slots-are;
        feasible = pair-accepted text schedule q k.pair_is;
        short = λ x lt. (signal-period (stands text p k.arranged.stands.declares).1 x lt).1;
        few = (stands text p k.arranged.stands.declares).1.few_signals;
      }

  abbrev pub reading : ReadingOf text reads t.tables.firsts periods phases t.slots.ranks p s
  reading =
      let known = k.arranged.stands in
      record {
        indexes = record { declares = known.declares; count-is = refl; reads-are = known.reads-are };
        tabled = tabled;
      }

  pub timed : Timed text reads t.tables periods phases t.hypercycle p s
  timed =
      record {
        joined =
            record {
              known =
                  record {
                    stands = k.arranged.stands;
                    periods-are = k.arranged.stands.tables-are.periods;
                    phases-are = k.arranged.slots-are.phases-are;
                  };
              rated = k.arranged.rated;
              links = k.arranged.links;
            };
        accepted = pair-accepted text schedule q k.pair_is;
        multiple = rw k.hyper (pair-multiple text schedule q k.pair_is);
        hyper = short-hypercycle k.arranged;
      }

  pub times : timely p s t.hypercycle ≡ accepted tt
  times = ap (timely p s) k.hyper ∙ (pair-passed text schedule q k.pair_is).times

  -- A signal fits where there is room for it.
  module _ (loads : List ℕ) (l : LoadsOf periods phases weights signals t.hypercycle loads) (x f : ℕ) (lt : x < count p) where
    period-is : get_or periods x 0 ≡ (signal_at p x).period
    period-is = k.arranged.stands.tables-are.periods x lt

    load_here : (c : ℕ) → c < t.hypercycle →
        is_over (cap_of t.tables.cap) (get_or loads c 0 + get_or weights x 0) ≡
        is_over p.cap (load p s c + weight_of (signal_at p x).body)
    load_here c lc =
        let a = l c lc ∙ ap (λ n. load_in periods phases weights n c) (sym counted) ∙
        sym (load_is p s periods phases weights k.arranged.stands.tables-are.periods
        k.arranged.stands.tables-are.weights
        k.arranged.slots-are.phases-are c) in
        let w = k.arranged.stands.tables-are.weights x lt in
        let cap = sym k.arranged.stands.tables-are.cap in
        λ i. is_over (cap i) (a i + w i)

    due-here : (c : ℕ) → due (record { period = get_or periods x 0; phase = f }) c ≡ due (at_phase (rate_of p s x) f) c
    due-here c = ap (λ m. due (record { period = m; phase = f }) c) period-is

    fits-room : FitsAt loads t.tables.cap (get_or periods x 0) (get_or weights x 0) (get_or phases x 0)
        t.hypercycle f ↔ Room p s t.hypercycle x f
    fits-room = (there, back)
      where
        there : FitsAt loads t.tables.cap (get_or periods x 0) (get_or weights x 0) (get_or phases x 0)
            t.hypercycle f → Room p s t.hypercycle x f
        there (inl e) = inl (e ∙ k.arranged.slots-are.phases-are x lt)
        there (inr h) = inr (λ c lc d. sym (load_here c lc) ∙ h c lc (due-here c ∙ d))

        back : Room p s t.hypercycle x f →
            FitsAt loads t.tables.cap (get_or periods x 0) (get_or weights x 0) (get_or phases x 0)
            t.hypercycle f
        back (inl e) = inl (e ∙ sym (k.arranged.slots-are.phases-are x lt))
        back (inr h) = inr (λ c lc d. load_here c lc ∙ h c lc (sym (due-here c) ∙ d))

  decides : (x f : ℕ) → x < count p → f < (signal_at p x).period →
      (may_take text schedule q x f ≡ true) ↔
      (ReadsStay p s x f × ChainsStay p s t.hypercycle x f × Room p s t.hypercycle x f)
  decides x f lt below = rw k.hyper (take-decides text schedule q k.pair_is x f lt below)

  -- What the reads leave, and of that the chains.
  pub narrowed-by : {lows highs l₁ h₁ l₂ h₂ : List ℕ} → Narrowed p (ReadsStay p s) lows highs l₁ h₁ →
      Narrowed p (ChainsStay p s t.hypercycle) l₁ h₁ l₂ h₂ → NarrowedBy q t.hypercycle lows highs l₂ h₂
  narrowed-by a b = narrowed-both a b (λ x f lt below. (λ h. h, λ h. h))

  -- The ranges that reads and chains leave, and the loads, tell all moves.
  pub tells : (lows highs l₁ h₁ loads : List ℕ) → ((x : ℕ) → x < 64 → get_or lows x 0 ≡ 0) →
      ((x : ℕ) → x < 64 → get_or highs x 0 ≡ get_or periods x 0) → NarrowedBy q t.hypercycle lows highs l₁ h₁ →
      LoadsOf periods phases weights signals t.hypercycle loads →
      TellsMoves (may_take text schedule q) signals l₁ h₁ loads t.tables.cap periods weights phases
      t.hypercycle
  tells lows highs l₁ h₁ loads zero-low all-high a l x f lx lf =
      let lt : x < count p = omega (arith, counted) in
      let small : x < 64 = omega (arith, tabled.few) in
      let below : f < (signal_at p x).period = omega (arith, period-is loads l x f lt) in
      let d = decides x f lt below in
      let room = fits-room loads l x f lt in
      let u = a.left x f lt below in (
        λ e. let g = d.0 e in
            (u.1 ((omega (arith, zero-low x small), omega (arith, all-high x small)), (g.0, g.1)), room.1 g.2),
        λ (w, fit). let y = (u.0 w).1 in d.1 (y.0, y.1, room.0 fit),
      )

  -- No phase is left that is not below its period.
  pub inside : (lows highs l₁ h₁ : List ℕ) → ((x : ℕ) → x < 64 → get_or highs x 0 ≡ get_or periods x 0) →
      NarrowedBy q t.hypercycle lows highs l₁ h₁ → (x f : ℕ) → x < signals → IsLeft l₁ h₁ x f → f < get_or periods x 0
  inside lows highs l₁ h₁ all-high a x f lt w =
      let v = a.inside x f w in omega (arith, v.1, all-high x (omega (arith, counted, tabled.few)))

  -- All entries.
  pub entries-are : join_below signals (λ x. passing x (get_or periods x 0) (may_take text schedule q x)) ≡ all_entries text schedule q
  unfolding all_entries entries_of
  entries-are =
      ap (λ n. join_below n (λ x. passing x (get_or periods x 0) (may_take text schedule q x))) (sym counted) ∙
      join-same (count p) _ _ (λ x lt. ap (λ n. passing x n (may_take text schedule q x))
      (k.arranged.stands.tables-are.periods x lt))

-- What moves answers and leaves.
module _ (program schedule list : List ℕ) where
  pub moves-refused : (f : Fault) → pair_of program schedule ≡ refused f →
      (refused f ≡ (moves_of program schedule list).answer) × (list ≡ (moves_of program schedule list).left)
  unfolding moves_of ◌▷◌
  moves-refused f e = rw e (refl, refl)

  pub moves-done : (q : Pair) (after : List ℕ) (n : ℕ) → pair_of program schedule ≡ accepted q →
      Written (all_entries program schedule q) list after n →
      (accepted n ≡ (moves_of program schedule list).answer) × (after ≡ (moves_of program schedule list).left)
  unfolding moves_of ◌▷◌
  moves-done q after n e w = rw e (ap accepted w.count-is, w.list-is)
