-- What the verdict says of a pair that it accepts: the statements over all runs, and the bounds of the image. Assumes nothing.
use Prim.Native.Nat.{ℕ, zero, suc, ◌+◌, ◌*◌, ◌≤◌, ◌<◌}
use mathlib.Core.Bool.{Bool, true, false, cond, and-eq-true_iff}
use mathlib.Core.List.{List, [], ◌∷◌}
use mathlib.Core.Path.{◌≡◌, refl, ap}
use native.Mathlib.Nat.{zero-add, mul-le-mul}
use native.Mathlib.Omega.{arith}
use borrow.Author.Tests.{leb-true, ltb-true, lt-ltb}
use lib.Dec.{leb, ltb}
use lib.ListN.{length, get_or}
use Rattle.model.specs.Says.Feasible.{All, PeriodRule, Met, Feasible, Multiple, Ordered}
use Rattle.model.specs.Rules.Compile.{short_enough, Pair, pair_of}
use Rattle.model.specs.Rules.Cover.{covering, tabled}
use Rattle.model.specs.Rules.Image.{run_list, run_lists, joined, rows_at, codes_at, length_of}
use Rattle.model.specs.Rules.Latency.{timely}
use Rattle.model.specs.Rules.Load.{loaded}
use Rattle.model.specs.Rules.Outcome.{Outcome, accepted, fault, ◌▷◌, Parsed}
use Rattle.model.specs.Rules.Program.{
  Program,
  Read,
  parse_program,
  Signal,
  no_signal,
  count,
  signal_at,
  body_reads,
  body_lookups,
  lookups,
}
use Rattle.model.specs.Rules.Rates.{period_rule, read_faults, link_faults, declared_and_rated, hypercycle, is_linked, linked}
use Rattle.model.specs.Rules.Reads.{is_met, met}
use Rattle.model.specs.Rules.Schedule.{Put, parse_schedule, Schedule, placed}
use Rattle.model.specs.Rules.Search.{table, join_from}
use Rattle.model.specs.Rules.Word.{AreBytes}
use Rattle.model.proofs.Basics.All.{at_all, all_both, all_map, all-joined, joined_length, chosen-length}
use Rattle.model.proofs.Images.Bounds.{Bounded}
use Rattle.model.proofs.Pairs.Decide.{periods-true, met-true}
use Rattle.model.proofs.Pairs.Hypercycle.{hypercycle-least}
use Rattle.model.proofs.Texts.Legal.{
  Legal,
  legal,
  read-sound,
  signal-initial,
  signal-depth,
  signal-words,
  signal-reads,
  row-upright,
  row-result,
}
use Rattle.model.specs.Says.Stands.{SpellsRead}
use Rattle.model.proofs.Rows.Area.{sorted-bytes}
use Rattle.model.proofs.Rows.Decided.{judged-covers, covered-some}
use Rattle.model.specs.Says.Rows.{AllUpright, Covers}
use Rattle.model.proofs.Basics.Outcomes.{
  Holds,
  holds-value,
  value-holds,
  holds_then,
  provided-true,
  lowest-none,
  append-none,
  cond-none,
  join_from-none,
  table-length,
  table_at,
}
use Rattle.model.proofs.Texts.Puts.{puts-spelled, puts-end, placed-ordered}

-- Every step of the verdict.
pub record Passed (program schedule : List ℕ) (q : Pair) : Type 0 where
  pub short : short_enough program schedule ≡ accepted tt
  pub parses : parse_program program ≡ accepted q.program
  pub rated : declared_and_rated q.program ≡ accepted tt
  pub hyper : hypercycle q.program ≡ accepted q.hypercycle
  pub links : linked q.program ≡ accepted tt
  pub tables : tabled q.program ≡ accepted tt
  pub puts : Parsed (List Put)
  pub reads : parse_schedule schedule ≡ accepted puts
  pub places : placed q.program puts ≡ accepted q.schedule
  pub meets : met q.program q.schedule ≡ accepted tt
  pub loads : loaded q.program q.schedule q.hypercycle ≡ accepted tt
  pub times : timely q.program q.schedule q.hypercycle ≡ accepted tt

step : {A B : Type 0} (R : B → Type 0) (o : Outcome A) (next : A → Outcome B) →
    ((a : A) → o ≡ accepted a → Holds R (next a)) → Holds R (o ▷ next)
step R o next g = holds_then (λ a. o ≡ accepted a) R o next (value-holds o) g

pub pair-passed : (program schedule : List ℕ) (q : Pair) → pair_of program schedule ≡ accepted q → Passed program schedule q
unfolding pair_of
pair-passed program schedule q e =
    let R = Passed program schedule in
    holds-value R (pair_of program schedule) q
    (step R (short_enough program schedule) _ (λ u short.
    step R (parse_program program) _ (λ p parses.
    step R (declared_and_rated p) _ (λ u rated.
    step R (hypercycle p) _ (λ h hyper.
    step R (linked p) _ (λ u links.
    step R (tabled p) _ (λ u tables.
    step R (parse_schedule schedule) _ (λ puts reads.
    step R (placed p puts) _ (λ s places.
    step R (met p s) _ (λ u meets.
    step R (loaded p s h) _ (λ u loads.
    step R (timely p s h) _ (λ u times.
    record {
      short = short;
      parses = parses;
      rated = rated;
      hyper = hyper;
      links = links;
      tables = tables;
      puts = puts;
      reads = reads;
      places = places;
      meets = meets;
      loads = loads;
      times = times;
    })))))))))))) e

-- A read is of a declared signal, and keeps its period rule.
abbrev pub Rated : Program → ℕ → Read → Type 0
Rated p r ρ =
    (ρ.operands.signal < count p) ×
    PeriodRule ρ.kind (signal_at p ρ.operands.signal).period (signal_at p r).period ρ.operands.factor

module _ (p : Program) where
  read-rated : (r : ℕ) (ρ : Read) → read_faults p (signal_at p r) ρ ≡ [] → Rated p r ρ
  unfolding read_faults
  read-rated r ρ e = go (ltb ρ.operands.signal (count p)) (period_rule ρ.kind w v n) refl refl e
    where
      w : ℕ
      w = (signal_at p ρ.operands.signal).period

      v : ℕ
      v = (signal_at p r).period

      n : ℕ
      n = ρ.operands.factor

      go : (a b : Bool) → ltb ρ.operands.signal (count p) ≡ a → period_rule ρ.kind w v n ≡ b →
          cond a (cond b [] (fault 8 ρ.place ∷ [])) (fault 7 ρ.place ∷ []) ≡ [] →
          (ρ.operands.signal < count p) × PeriodRule ρ.kind w v n
      go true true f g t = (ltb-true _ _ f, periods-true ρ.kind w v n g)
      go true false f g t = absurd (omega (arith, ap length t))
      go false b f g t = absurd (omega (arith, ap length t))

  rated-none : declared_and_rated p ≡ accepted tt →
      (join_from 0 (λ s x. join_from 0 (λ i ρ. read_faults p x ρ) (body_reads x.body)) p.signals ≡ []) ×
      (join_from 0 (λ j c. join_from 0 (λ i l. link_faults p l) c.links) p.chains ≡ [])
  unfolding declared_and_rated
  rated-none e =
      append-none (join_from 0 (λ s x. join_from 0 (λ i ρ. read_faults p x ρ) (body_reads x.body)) p.signals)
      (join_from 0 (λ j c. join_from 0 (λ i l. link_faults p l) c.links) p.chains) (lowest-none _ e)

  pub reads-rated : declared_and_rated p ≡ accepted tt → (x : ℕ) → x < count p →
      All (Rated p x) (body_reads (signal_at p x).body)
  reads-rated e x lt =
      all-joined (λ i ρ. read_faults p (signal_at p x) ρ) (Rated p x) (λ i ρ. read-rated x ρ) 0 (body_reads (signal_at p x).body)
      (join_from-none (λ s y. join_from 0 (λ i ρ. read_faults p y ρ) (body_reads y.body)) 0 p.signals no_signal
      (rated-none e).0 x lt)

  pub links-declared : declared_and_rated p ≡ accepted tt → All (λ c. All (λ l. l.signal < count p) c.links) p.chains
  unfolding link_faults
  links-declared e =
      all-joined (λ j c. join_from 0 (λ i l. link_faults p l) c.links) (λ c. All (λ l. l.signal < count p) c.links)
      (λ j c g. all-joined (λ i l. link_faults p l) (λ l. l.signal < count p)
      (λ i l t. ltb-true l.signal (count p) (cond-none _ _ t)) 0 c.links g) 0 p.chains (rated-none e).1

  pub chains-linked : linked p ≡ accepted tt → All (λ c. is_linked p c.links ≡ true) p.chains
  unfolding linked
  chains-linked e =
      all-joined (λ j c. cond (is_linked p c.links) [] (fault 10 c.place ∷ [])) (λ c. is_linked p c.links ≡ true)
      (λ j c t. cond-none _ _ t) 0 p.chains (lowest-none _ e)

  pub reads-met : (s : Schedule) → met p s ≡ accepted tt → (x : ℕ) → x < count p →
      All (λ ρ. is_met p s x ρ ≡ true) (body_reads (signal_at p x).body)
  unfolding met
  reads-met s e x lt =
      all-joined (λ i ρ. cond (is_met p s x ρ) [] (fault 14 ρ.place ∷ [])) (λ ρ. is_met p s x ρ ≡ true)
      (λ i ρ t. cond-none _ _ t) 0 (body_reads (signal_at p x).body)
      (rw (zero-add x) at
      (join_from-none (λ r y. join_from 0 (λ i ρ. cond (is_met p s r ρ) [] (fault 14 ρ.place ∷ [])) (body_reads y.body))
      0 p.signals no_signal (lowest-none _ e) x lt))

-- A signal has no more TABLEs than all of them.
lookups-at : (xs : List Signal) (x : ℕ) → x < length xs → body_lookups (get_or xs x no_signal).body ≤ lookups xs
unfolding lookups
lookups-at [] x lt = absurd (omega arith)
lookups-at (y ∷ ys) zero lt = omega arith
lookups-at (y ∷ ys) (suc x) lt = omega (arith, lookups-at ys x (omega arith))

pub lists_length : (p : Program) (s : Schedule) (h : ℕ) → length (joined (run_lists p s h)) ≤ h * length s.order
unfolding run_lists run_list
lists_length p s h =
    let n = table-length h (run_list p s) in
    rw n at
    (joined_length (length s.order) 0 (table h (run_list p s))
    (at_all (λ x. length x ≤ length s.order) (table h (run_list p s)) [] (λ i lt.
    let l : i < h = omega arith in
    rw (table_at h (run_list p s) i [] l) (chosen-length _ s.order))))

-- A program and its schedule that have passed 1 to 14.
pub steps-accepted : {text : List ℕ} {end : ℕ} (p : Program) (s : Schedule) → Legal text end p →
    declared_and_rated p ≡ accepted tt → Ordered p s → met p s ≡ accepted tt → Feasible p s
steps-accepted {text} p s lawful rated ordered meets =
    record { ordered = ordered; met = all-met }
  where
    all-met : (x : ℕ) → x < count p → All (Met p s x) (body_reads (signal_at p x).body)
    all-met x lt =
        let ρs = body_reads (signal_at p x).body in
        all_map (λ ρ. SpellsRead text ρ × (Rated p x ρ × (is_met p s x ρ ≡ true))) (Met p s x) (λ ρ h.
        met-true p s x ρ h.1.0.0 (ordered.put _ h.1.0.0) (ordered.put x lt)
        (read-sound text ρ h.0).range h.1.0.1 h.1.1) ρs
        (all_both (SpellsRead text) (λ ρ. Rated p x ρ × (is_met p s x ρ ≡ true)) ρs
        (signal-reads lawful x lt)
        (all_both (Rated p x) (λ ρ. is_met p s x ρ ≡ true) ρs (reads-rated p rated x lt) (reads-met p s meets x lt)))

-- What passed 29 and 30: rows cover, and where a TABLE stands there are rows.
module _ (p : Program) (e : tabled p ≡ accepted tt) where
  pub tabled-covering : 0 < length p.rows + lookups p.signals → covering p.rows ≡ accepted tt
  unfolding tabled
  tabled-covering some = rw (lt-ltb 0 (length p.rows + lookups p.signals) some) at e

  tabled-covers : AllUpright p.rows → 0 < length p.rows → Covers p.rows
  tabled-covers up some = judged-covers p.rows up (tabled-covering (omega arith))

  pub tabled-served : (x : ℕ) → x < count p → 0 < body_lookups (signal_at p x).body → 0 < length p.rows
  tabled-served x lt some =
      covered-some p.rows (tabled-covering (omega (arith, lookups-at p.signals x lt)))

-- An accepted pair.
module _ (program schedule : List ℕ) (q : Pair) (e : pair_of program schedule ≡ accepted q) where
  passed : Passed program schedule q
  passed = pair-passed program schedule q e

  pub pair-multiple : Multiple q.program q.hypercycle
  pair-multiple = ((hypercycle-least q.program q.hypercycle).0 passed.hyper).multiple

  ordered : Ordered q.program q.schedule × (length q.schedule.order ≡ length passed.puts.value)
  ordered = placed-ordered q.program passed.puts q.schedule passed.places

  lawful : (end : ℕ) × Legal program end q.program × (length program ≡ end + 1)
  lawful = legal program q.program passed.parses

  pub pair-accepted : Feasible q.program q.schedule
  pair-accepted =
      steps-accepted q.program q.schedule lawful.1 passed.rated ordered.0 passed.meets

  pub pair-bounded : AreBytes program → Bounded q.program q.schedule q.hypercycle
  unfolding short_enough length_of codes_at rows_at
  pair-bounded bytes =
      let h = ((hypercycle-least q.program q.hypercycle).0 passed.hyper).bound in
      let l = lawful.1 in
      let short = (and-eq-true_iff (leb (length program) 8192) _).0 (provided-true _ 1 0 passed.short) in
      let program-short = leb-true (length program) 8192 short.0 in
      let schedule-short = leb-true (length schedule) 193 short.1 in
      let puts = puts-end (puts-spelled schedule passed.puts passed.reads) in
      let few : length q.schedule.order ≤ 64 = omega (arith, ordered.1) in
      let lists = lists_length q.program q.schedule q.hypercycle in
      let area : q.hypercycle * length q.schedule.order ≤ 240 * 64 = mul-le-mul h few in
      record {
        hyper = h;
        signals = l.few_signals;
        initials = λ x lt. signal-initial l x lt bytes;
        depths = signal-depth l;
        constants = λ x lt. signal-words l x lt bytes;
        few-rows = l.few_rows;
        upright = λ n lt. row-upright l n lt;
        results = λ n lt. row-result l n lt;
        covers = λ some. tabled-covers q.program passed.tables (λ n lt. row-upright l n lt) some;
        served = tabled-served q.program passed.tables;
        size = omega (arith, l.few_signals, l.code, lawful.2, sorted-bytes q.program.rows);
      }
