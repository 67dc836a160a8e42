-- The checks of a pair: 14 to 16 decide the statements over all runs and all cycles, and refuse with the fault that the paper
-- gives. Assumes nothing.
use Rattle.std.specs.Prelude.{Option, Some, None}
use Prim.Native.Nat.{ℕ, zero, suc, ◌+◌, ◌%◌, ◌≤◌, ◌<◌}
use mathlib.Core.Bool.{Bool, true, false, cond, false≢true}
use mathlib.Core.List.{List, [], ◌∷◌}
use mathlib.Core.Logic.{◌↔◌}
use mathlib.Core.Path.{◌≡◌, refl, sym, ap, ◌∙◌}
use native.Mathlib.Decide.{dec_lt}
use native.Mathlib.Nat.{mod-lt, mod-le, mod-mod_of_dvd, zero-add}
use native.Mathlib.Omega.{arith}
use borrow.Author.Tests.{ltb-true, lt-ltb}
use lib.Dec.{eqb}
use lib.ListN.{get_or}
use Rattle.model.specs.Says.Feasible.{Met, Feasible, Multiple, Ordered}
use Rattle.model.specs.Rules.Latency.{no_read, keeps, timely}
use Rattle.model.specs.Rules.Load.{load, is_over, loaded_of, loaded}
use Rattle.model.specs.Rules.Outcome.{Outcome, accepted, refused, fault, lowest}
use Rattle.model.specs.Rules.Program.{
  Program,
  Signal,
  Read,
  Chain,
  Limit,
  unlimited,
  limit,
  no_signal,
  count,
  signal_at,
  body_reads,
  weight_of,
}
use Rattle.model.specs.Rules.Reads.{rate_of, due, is_met, met}
use Rattle.model.specs.Rules.Schedule.{Schedule}
use Rattle.model.specs.Rules.Search.{first_below, sum, table_from, table, join_from}
use Rattle.theorems_pairs.specs.Conditions.{◌among◌, ReadIn, LegalPlaces, Over, KeepsTime}
use Rattle.theorems_pairs.specs.Refusals.{LowestFault, MetFault, LoadFault, ChainFault}
use Rattle.model.specs.declared.Fault.{Fault}
use Rattle.model.proofs.Pairs.Decide.{is-first, met-true, true-met}
use Rattle.model.proofs.Texts.Legal.{read-sound}
use Rattle.model.proofs.Basics.Outcomes.{not-true-false, accepted≢refused}
use Rattle.model.proofs.Texts.Puts.{placed-ordered}
use Rattle.theorems_pairs.proofs.Faults.{
  among-at,
  at-among,
  among-all,
  among-cond,
  cond-among,
  among-join,
  join-among,
  fault-none,
}
use Rattle.theorems_pairs.proofs.Judged.{Judged, lowest-judged, read-spelled, chains-judged, linked-decides}
use Rattle.theorems_pairs.proofs.JudgedPuts.{placed-judged}
use Rattle.theorems_pairs.proofs.Window.{keeps-decides}

-- 14.
module _ (program schedule : List ℕ) (p : Program) (h : ℕ) (s : Schedule) (c : LegalPlaces program schedule p h s) where
  pub ordered : Ordered p s
  ordered =
      (placed-ordered p c.puts s (((placed-judged p schedule c.puts c.legal).accepts s).1 c.placed)).0

  decides : (r : ℕ) (ρ : Read) → ReadIn p r ρ → (is_met p s r ρ ≡ true) ↔ Met p s r ρ
  decides r ρ i =
      let declared = c.rates.rated.reads r ρ i in (
        met-true p s r ρ declared (ordered.put ρ.operands.signal declared) (ordered.put r i.0)
            (read-sound program ρ (read-spelled program p c.rates.legal r ρ i)).range (c.rates.rated.periods r ρ i),
        true-met p s r ρ (ordered.phases ρ.operands.signal declared) (ordered.phases r i.0),
      )

  -- The faults that are collected.
  unmet_of : ℕ → ℕ → Read → List Fault
  unmet_of r i ρ = cond (is_met p s r ρ) [] (fault 14 ρ.place ∷ [])

  reads_of : ℕ → Signal → List Fault
  reads_of r x = join_from 0 (unmet_of r) (body_reads x.body)

  met-sound : (f : Fault) → f among join_from 0 reads_of p.signals → MetFault p s f
  unfolding reads_of unmet_of
  met-sound f m =
      let a = among-join reads_of 0 p.signals no_signal f m in
      let r = a.0 in
      let ρs = body_reads (signal_at p r).body in
      let b = among-join (unmet_of r) 0 ρs no_read f (rw (zero-add r) at a.2) in
      let ρ = get_or ρs b.0 no_read in
      let i : ReadIn p r ρ = (a.1, at-among ρs no_read b.0 b.1) in
      let g = among-cond (is_met p s r ρ) f (fault 14 ρ.place) b.2 in
      rw g.1 (MetFault.unmet r ρ i (λ k. false≢true (sym g.0 ∙ (decides r ρ i).1 k)))

  met-complete : (f : Fault) → MetFault p s f → f among join_from 0 reads_of p.signals
  unfolding reads_of unmet_of
  met-complete f (MetFault.unmet r ρ i u) =
      let ρs = body_reads (signal_at p r).body in
      let a = among-at ρ ρs no_read i.1 in
      let t = not-true-false (is_met p s r ρ) (λ e. u ((decides r ρ i).0 e)) in
      join-among reads_of 0 p.signals no_signal (fault 14 ρ.place) r i.0
      (rw (zero-add r)
      (join-among (unmet_of r) 0 ρs no_read (fault 14 ρ.place) a.0 a.1
      (rw a.2 (cond-among (is_met p s r ρ) (fault 14 ρ.place) t))))

  met-single : (f g : Fault) → MetFault p s f → MetFault p s g → f.place ≡ g.place → f.number ≡ g.number
  met-single f g (MetFault.unmet r ρ i u) (MetFault.unmet q σ j v) e = refl

  met-none : ((r : ℕ) (ρ : Read) → ReadIn p r ρ → Met p s r ρ) → (f : Fault) → ¬ MetFault p s f
  met-none g f (MetFault.unmet r ρ i u) = u (g r ρ i)

  met_holds : lowest (join_from 0 reads_of p.signals) ≡ accepted tt → (r : ℕ) (ρ : Read) → ReadIn p r ρ → Met p s r ρ
  met_holds e r ρ i = go (is_met p s r ρ) refl
    where
      go : (b : Bool) → is_met p s r ρ ≡ b → Met p s r ρ
      go true t = (decides r ρ i).0 t
      go false t =
          absurd (fault-none (join_from 0 reads_of p.signals) (MetFault p s) met-sound met-complete e (fault 14 ρ.place)
          (MetFault.unmet r ρ i (λ k. false≢true (sym t ∙ (decides r ρ i).1 k))))

  pub met-judged : Judged (λ u. (r : ℕ) (ρ : Read) → ReadIn p r ρ → Met p s r ρ) (LowestFault (MetFault p s)) (met p s)
  unfolding met reads_of unmet_of
  met-judged =
      lowest-judged (join_from 0 reads_of p.signals) (MetFault p s) ((r : ℕ) (ρ : Read) → ReadIn p r ρ → Met p s r ρ)
      met-sound met-complete met-single met-none met_holds

  -- The statements over all runs that the latency rests on.
  pub places-accepted : ((r : ℕ) (ρ : Read) → ReadIn p r ρ → Met p s r ρ) → Feasible p s
  places-accepted g =
      record {
        ordered = ordered;
        met = λ x lt. among-all (Met p s x) (body_reads (signal_at p x).body) (λ ρ i. g x ρ (lt, i));
      }

  -- 16.
  pub timely-judged : ((r : ℕ) (ρ : Read) → ReadIn p r ρ → Met p s r ρ) →
      Judged (λ u. (a : Chain) → a among p.chains → KeepsTime p s a) (LowestFault (ChainFault p (KeepsTime p s) 16))
      (timely p s h)
  unfolding timely
  timely-judged g =
      chains-judged p (KeepsTime p s) 16 (keeps p s h) (λ a i.
      keeps-decides p s (places-accepted g) h c.rates.hypercycle.multiple a
      ((linked-decides p a).1 (c.rates.linked a i))
      (among-all (λ l. l.signal < count p) a.links (λ l j. c.rates.rated.links l (a, i, j))))

-- 15. The load repeats with the hypercycle.
table_from-same : {A : Type 0} (f g : ℕ → A) (i n : ℕ) → ((x : ℕ) → x < i + n → f x ≡ g x) → table_from i n f ≡ table_from i n g
unfolding table_from
table_from-same f g i zero h = refl
table_from-same f g i (suc n) h =
    rw (h i (omega arith), table_from-same f g (suc i) n (λ x lt. h x (omega arith)))

pub load-repeats : (p : Program) (s : Schedule) (h : ℕ) → Multiple p h → (c : ℕ) → load p s (c % h) ≡ load p s c
unfolding load table due
load-repeats p s h whole c =
    ap sum (table_from-same _ _ 0 (count p) (λ x lt.
    let e = mod-mod_of_dvd _ c (whole.divides x (omega arith)) in
    ap (λ n. cond (eqb n (rate_of p s x).phase) (weight_of (signal_at p x).body) 0) e))

over-true : (l : Limit) (n : ℕ) → is_over l n ≡ true → Over l n
over-true unlimited n e = absurd (false≢true e)
over-true (limit m) n e = ltb-true m n e

true-over : (l : Limit) (n : ℕ) → Over l n → is_over l n ≡ true
true-over unlimited n o = absurd o
true-over (limit m) n o = lt-ltb m n o

module _ (p : Program) (s : Schedule) (h : ℕ) (whole : Multiple p h) where
  test : ℕ → Bool
  test c = is_over p.cap (load p s c)

  -- A cycle over CAP has one in the hypercycle that is no later.
  earlier : (c : ℕ) → Over p.cap (load p s c) → (c % h < h) × (c % h ≤ c) × (test (c % h) ≡ true)
  unfolding test
  earlier c o =
      (mod-lt c whole.positive, mod-le c h, rw (load-repeats p s h whole c) (true-over p.cap (load p s c) o))

  found : (c : ℕ) → first_below h test ≡ Some c → LowestFault (LoadFault p s) (fault 15 c)
  unfolding test
  found c e =
      let g = is-first h test (Some c) e in
      record {
        fault = LoadFault.over c (over-true p.cap (load p s c) g.2);
        least = λ k f. least g.3 f;
      }
    where
      least : {f : Fault} → ((k : ℕ) → 0 ≤ k → k < c → test k ≡ false) → LoadFault p s f → c ≤ f.place
      least g (LoadFault.over y o) = go (dec_lt (y % h) c)
        where
          go : Dec (y % h < c) → c ≤ y
          go (yes lt) = absurd (false≢true (sym (g (y % h) (omega arith) lt) ∙ (earlier y o).2))
          go (no ge) = omega (arith, (earlier y o).1)

  nowhere : first_below h test ≡ None → (c : ℕ) → ¬ Over p.cap (load p s c)
  unfolding test
  nowhere e c o =
      let q = earlier c o in
      false≢true (sym (is-first h test None e (c % h) (omega arith) (omega (arith, q.0))) ∙ q.2)

  pub loaded-judged : Judged (λ u. (c : ℕ) → ¬ Over p.cap (load p s c)) (LowestFault (LoadFault p s)) (loaded p s h)
  unfolding loaded test
  loaded-judged =
      record {
        accepts = λ u. (λ e. passes (first_below h test) refl e, λ g. quiet g (first_below h test) refl);
        refuses = λ g. (λ e. fails (first_below h test) refl e, λ f. loud f (first_below h test) refl);
      }
    where
      passes : (f : Option ℕ) → first_below h test ≡ f → loaded_of f ≡ accepted tt → (c : ℕ) → ¬ Over p.cap (load p s c)
      passes (Some c) q e = absurd (accepted≢refused _ tt _ e refl)
      passes None q e = nowhere q

      quiet : ((c : ℕ) → ¬ Over p.cap (load p s c)) → (f : Option ℕ) → first_below h test ≡ f → loaded_of f ≡ accepted tt
      quiet g (Some c) q = absurd (g c (over-true p.cap (load p s c) (is-first h test (Some c) q).2))
      quiet g None q = refl

      fails : {g : Fault} (f : Option ℕ) → first_below h test ≡ f → loaded_of f ≡ refused g → LowestFault (LoadFault p s) g
      fails {g} (Some c) q e = let same : fault 15 c ≡ g = cc in rw (← same) (found c q)
      fails None q e = absurd (accepted≢refused _ tt _ refl e)

      loud : {k : Fault} → LowestFault (LoadFault p s) k → (f : Option ℕ) → first_below h test ≡ f → loaded_of f ≡ refused k
      loud g (Some c) q = same g.fault ((found c q).least _ g.fault) (g.least _ (found c q).fault)
        where
          same : {k : Fault} → LoadFault p s k → c ≤ k.place → k.place ≤ c →
              ◌≡◌ {A = Outcome (Unit {0})} (refused (fault 15 c)) (refused k)
          same (LoadFault.over y o) a b = let w : c ≡ y = omega arith in rw w
      loud g None q = absurd (never g.fault)
        where
          never : {k : Fault} → ¬ LoadFault p s k
          never (LoadFault.over y o) = nowhere q y o
