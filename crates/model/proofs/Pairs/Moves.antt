-- A pair with one phase set: its schedule text is read, and gives the schedule with only that phase set; a signal may take the
-- phase exactly if that pair passes 14 to 16 and every read has its index as before. Assumes nothing.
use Prim.Native.Nat.{ℕ, suc, ◌+◌, ◌*◌, ◌≤◌, ◌<◌}
use mathlib.Core.Bool.{Bool, true, false, cond, ◌||◌, ◌&&◌, and-eq-true_iff, false≢true}
use mathlib.Core.List.{List, [], ◌∷◌, ◌++◌, map}
use mathlib.Core.Logic.{◌↔◌}
use mathlib.Core.Path.{◌≡◌, refl, sym, ap, subst, subst₂, ◌∙◌, fun_ext}
use native.Mathlib.Omega.{arith}
use borrow.Author.Tests.{lt-ltb, eqb-true, eqb-false, eq-eqb, ne_eqb}
use lib.Dec.{leb, ltb, eqb}
use lib.ListN.{length, get_or, set, length-set}
use lib.Seq.{get_or-set_same, get_or-set_other}
use Rattle.model.specs.Rules.Compile.{short_enough, Pair, pair_of}
use Rattle.model.specs.Rules.Latency.{timely}
use Rattle.model.specs.Rules.Load.{loaded}
use Rattle.model.specs.Rules.Moves.{moved_text, reads_alike, settles_alike, accepted_alike, may_take}
use Rattle.model.specs.Rules.Outcome.{Outcome, accepted, refused, fault, ◌▷◌, Parsed, provided}
use Rattle.model.specs.Rules.Program.{Program, Read, count, signal_at, body_reads}
use Rattle.model.specs.Rules.Reads.{rank, settled, met}
use Rattle.model.specs.Rules.Schedule.{
  Put,
  parse_schedule,
  Schedule,
  phase_of,
  is_put,
  put_faults,
  puts_faults,
  put_phase,
  schedule_of,
  placed,
}
use Rattle.model.specs.Rules.Search.{all_below}
use Rattle.model.specs.Rules.Word.{byte_at}
use Rattle.model.specs.Says.Feasible.{All}
use Rattle.model.specs.Says.Grammar.{SpellsPuts}
use Rattle.model.specs.Says.Written.{PutWritten}
use Rattle.model.specs.declared.ScheduleCommand.TheVariants as ScheduleCommand
use Rattle.model.proofs.Basics.Outcomes.{
  accepted-then,
  then-accepted,
  provided-true,
  true-provided,
  lowest-none,
  none-lowest,
  append-none,
  accepted-same,
  table-length,
  table_at,
}
use Rattle.model.proofs.Pairs.Decide.{all_true, true-all, rank-at}
use Rattle.model.proofs.Pairs.Verdict.{pair-passed}
use Rattle.model.proofs.Texts.Puts.{signals_of, puts-spelled, parse-puts, puts-end, placed-ordered}

-- The PUTs with the phase of signal x set to f.
abbrev moved_put : ℕ → ℕ → Put → Put
moved_put x f q = record { place = q.place; signal = q.signal; phase = cond (eqb q.signal x) f q.phase }

abbrev moved_puts : ℕ → ℕ → List Put → List Put
moved_puts x f qs = map (moved_put x f) qs

put-bytes : {text : List ℕ} {at signal phase : ℕ} → PutWritten text at (ScheduleCommand.Put signal phase) →
    (at + 3 ≤ length text) × (byte_at text at ≡ 0x40) × (signal ≡ byte_at text (at + 1)) × (phase ≡ byte_at text (at + 2))
put-bytes (PutWritten.put le b) = (le, b, refl, refl)

end-bytes : {text : List ℕ} {at : ℕ} → PutWritten text at ScheduleCommand.End → (at + 1 ≤ length text) × (byte_at text at ≡ 0x00)
end-bytes (PutWritten.end le b) = (le, b)

-- PUT k stands at 3 × k, and PUT j alone is of x: with its phase set, the text spells the PUTs with that phase set.
module _ (text : List ℕ) (x f j : ℕ) where
  abbrev pos : ℕ
  pos = j * 3 + 2

  abbrev text' : List ℕ
  text' = set text pos f

  other : (i : ℕ) → ¬ (i ≡ pos) → byte_at text' i ≡ byte_at text i
  other i h = get_or-set_other text pos i f 0 h

  spells-moved : {at end : ℕ} {qs : List Put} (k : ℕ) → SpellsPuts text at qs end → at ≡ k * 3 → j < k + length qs →
      ((i : ℕ) → i < length qs → (k + i ≡ j) ↔ (get_or (signals_of qs) i 0 ≡ x)) → SpellsPuts text' at (moved_puts x f qs) end
  spells-moved k (SpellsPuts.ends {at = at} e le) a lt same =
      let b = end-bytes e in
      SpellsPuts.ends {at = at} (PutWritten.end (rw (length-set text pos f) b.0) (other at (λ q. omega arith) ∙ b.1))
      (rw (length-set text pos f) le)
  spells-moved k (SpellsPuts.put {at = at} {signal = signal} {phase = phase} {qs = qs} e r) a lt same =
      SpellsPuts.put (subst₂ (λ y z. PutWritten text' at (ScheduleCommand.Put y z)) here there
      (PutWritten.put (rw (length-set text pos f) (put-bytes e).0) (other at (λ q. omega arith) ∙ (put-bytes e).1)))
      (spells-moved (suc k) r (omega arith) (omega arith) (λ i l. (
        λ q. (same (suc i) (omega arith)).0 (omega arith),
        λ q. let z = (same (suc i) (omega arith)).1 q in omega arith,
      )))
    where
      here : byte_at text' (at + 1) ≡ signal
      here = other (at + 1) (λ q. omega arith) ∙ sym (put-bytes e).2

      there : byte_at text' (at + 2) ≡ cond (eqb signal x) f phase
      there = go (eqb signal x) refl
        where
          go : (b : Bool) → eqb signal x ≡ b → byte_at text' (at + 2) ≡ cond b f phase
          go true q =
              let z = (same 0 (omega arith)).1 (eqb-true signal x q) in
              let w : at + 2 ≡ pos = omega arith in
              rw w (get_or-set_same text pos f 0 (omega (arith, (put-bytes e).0)))
          go false q =
              other (at + 2) (λ w. eqb-false signal x q ((same 0 (omega arith)).0 (omega arith))) ∙ sym (put-bytes e).3

-- s' is s with only the phase of signal x set to f.
pub record Moved (p : Program) (s : Schedule) (x f : ℕ) (s' : Schedule) : Type 0 where
  pub order_is : s'.order ≡ s.order
  pub here : phase_of s' x ≡ f
  pub there : (y : ℕ) → y < count p → ¬ (y ≡ x) → phase_of s' y ≡ phase_of s y
  pub long : length s'.phases ≡ count p

module _ (x f : ℕ) where
  moved-signals : (qs : List Put) → signals_of (moved_puts x f qs) ≡ signals_of qs
  moved-signals [] = refl
  moved-signals (q ∷ qs) = ap (q.signal ∷◌) (moved-signals qs)

  moved-put : (qs : List Put) (y : ℕ) → is_put (moved_puts x f qs) y ≡ is_put qs y
  unfolding is_put
  moved-put [] y = refl
  moved-put (q ∷ qs) y = ap (eqb q.signal y ||◌) (moved-put qs y)

  moved-append : (qs rs : List Put) → moved_puts x f (qs ++ rs) ≡ moved_puts x f qs ++ moved_puts x f rs
  moved-append [] rs = refl
  moved-append (q ∷ qs) rs = ap (moved_put x f q ∷◌) (moved-append qs rs)

  phase-here : (qs : List Put) → is_put qs x ≡ true → put_phase (moved_puts x f qs) x ≡ f
  unfolding is_put put_phase
  phase-here [] e = absurd (false≢true e)
  phase-here (q ∷ qs) e = go (eqb q.signal x) e (phase-here qs)
    where
      go : (b : Bool) → b || is_put qs x ≡ true → (is_put qs x ≡ true → put_phase (moved_puts x f qs) x ≡ f) →
          cond b (cond b f q.phase) (put_phase (moved_puts x f qs) x) ≡ f
      go true t ih = refl
      go false t ih = ih t

  phase-there : (qs : List Put) (y : ℕ) → ¬ (y ≡ x) → put_phase (moved_puts x f qs) y ≡ put_phase qs y
  unfolding put_phase
  phase-there [] y h = refl
  phase-there (q ∷ qs) y h = go (eqb q.signal y) refl (phase-there qs y h)
    where
      go : (b : Bool) → eqb q.signal y ≡ b → put_phase (moved_puts x f qs) y ≡ put_phase qs y →
          cond b (cond (eqb q.signal x) f q.phase) (put_phase (moved_puts x f qs) y) ≡ cond b q.phase (put_phase qs y)
      go true e ih =
          let z = eqb-true q.signal y e in
          rw (ne_eqb q.signal x (λ w. h (sym z ∙ w)))
      go false e ih = ih

  module _ (p : Program) (below : f < (signal_at p x).period) where
    -- No PUT is at fault that was none before.
    no-fault : (before : List Put) (q : Put) → put_faults p before q ≡ [] → put_faults p (moved_puts x f before) (moved_put x f q) ≡
        []
    unfolding put_faults
    no-fault before q e =
        rw (moved-put before q.signal)
        (go (ltb q.signal (count p)) (is_put before q.signal) (ltb q.phase (signal_at p q.signal).period) refl e)
      where
        phase-below : (c b : Bool) → eqb q.signal x ≡ b → ltb q.phase (signal_at p q.signal).period ≡ c → c ≡ true →
            ltb (cond b f q.phase) (signal_at p q.signal).period ≡ true
        phase-below c true t l u = lt-ltb f (signal_at p q.signal).period (rw (eqb-true q.signal x t) below)
        phase-below c false t l u = l ∙ u

        go : (a b c : Bool) → ltb q.phase (signal_at p q.signal).period ≡ c →
            cond a (cond b (fault 12 q.place ∷ []) (cond c [] (fault 13 q.place ∷ []))) (fault 12 q.place ∷ []) ≡ [] →
            cond a (cond b (fault 12 q.place ∷ [])
            (cond (ltb (cond (eqb q.signal x) f q.phase) (signal_at p q.signal).period) []
            (fault 13 q.place ∷ []))) (fault 12 q.place ∷ []) ≡ []
        go true false true l t = rw (phase-below true (eqb q.signal x) refl l refl)
        go true false false l t = absurd (omega (arith, ap length t))
        go true true c l t = absurd (omega (arith, ap length t))
        go false b c l t = absurd (omega (arith, ap length t))

    no-faults : (before qs : List Put) → puts_faults p before qs ≡ [] →
        puts_faults p (moved_puts x f before) (moved_puts x f qs) ≡ []
    unfolding puts_faults
    no-faults before [] e = refl
    no-faults before (q ∷ qs) e =
        let h = append-none (put_faults p before q) _ e in
        rw (no-fault before q h.0)
        (subst (λ (b : List Put). puts_faults p b (moved_puts x f qs) ≡ []) (moved-append before (q ∷ []))
        (no-faults (before ++ (q ∷ [])) qs h.1))

    -- The PUTs with one phase set place the signals as before, but for that phase.
    placed-moved : (o : Parsed (List Put)) (s : Schedule) → x < count p → placed p o ≡ accepted s →
        (s' : Schedule) × Moved p s x f s' ×
        (placed p (record { value = moved_puts x f o.value; next = o.next }) ≡ accepted s')
    unfolding placed schedule_of
    placed-moved o s lt e =
        let qs = o.value in
        let a = then-accepted _ _ s e in
        let b = then-accepted _ _ s a.2 in
        let all = provided-true (all_below (count p) (is_put qs)) 12 o.next b.1 in
        let same = accepted-same _ _ b.2 in
        let put = all_true (count p) (is_put qs) all in (
          schedule_of p (moved_puts x f qs),
          record {
            order_is = moved-signals qs ∙ ap (λ (r : Schedule). r.order) same;
            here = table_at (count p) (put_phase (moved_puts x f qs)) x 0 lt ∙ phase-here qs (put x lt);
            there = λ y l h.
                table_at (count p) (put_phase (moved_puts x f qs)) y 0 l ∙ phase-there qs y h ∙
                sym (table_at (count p) (put_phase qs) y 0 l) ∙ ap (λ (r : Schedule). phase_of r y) same;
            long = table-length (count p) (put_phase (moved_puts x f qs));
          },
          accepted-then _ _ tt (none-lowest _ (no-faults [] qs (lowest-none _ a.1))) ∙
              accepted-then _ _ tt
              (true-provided _ 12 o.next
              (ap (all_below (count p)) (fun_ext (moved-put qs)) ∙ all)),
        )

order-of : (p : Program) (o : Parsed (List Put)) (s : Schedule) → placed p o ≡ accepted s → signals_of o.value ≡ s.order
unfolding placed schedule_of
order-of p o s t =
    let a = then-accepted _ _ s t in
    let b = then-accepted _ _ s a.2 in
    ap (λ (r : Schedule). r.order) (accepted-same _ _ b.2)

-- The pair of a text with one phase set.
module _ (program schedule : List ℕ) (q : Pair) (e : pair_of program schedule ≡ accepted q) where
  abbrev p : Program
  p = q.program

  abbrev s : Schedule
  s = q.schedule

  -- It is accepted if it passes 14, 15 and 16.
  pub moved-pair : (x f : ℕ) → x < count p → f < (signal_at p x).period →
      (s' : Schedule) × Moved p s x f s' ×
      (pair_of program (moved_text schedule s x f) ≡
      (met p s' ▷ λ _. loaded p s' q.hypercycle ▷ λ _. timely p s' q.hypercycle ▷ λ _.
      accepted (record { program = p; schedule = s'; hypercycle = q.hypercycle })))
  unfolding pair_of parse_schedule short_enough
  moved-pair x f lt below =
      let h = pair-passed program schedule q e in
      let o = h.puts in
      let ordered = (placed-ordered p o s h.places).0 in
      let placing = placed-moved x f p below o s lt h.places in
      let spelled = puts-spelled schedule o h.reads in
      let ends = puts-end spelled in
      let s' = placing.0 in
      let j = rank s.order x in
      let same : signals_of o.value ≡ s.order = order-of p o s h.places in
      let few : j < length o.value = omega (arith, ordered.put x lt, (placed-ordered p o s h.places).1) in
      let sp = spells-moved schedule x f j 0 spelled (omega arith) (omega arith) (λ i l. (
        λ z. ap (λ (l : List ℕ). get_or l i 0) same ∙ ap (λ k. get_or s.order k 0) (z' i j z) ∙ rank-at s.order x
            (ordered.put x lt),
        λ z. let r = ordered.once i (omega (arith, (placed-ordered p o s h.places).1)) in
            let w : get_or s.order i 0 ≡ x = sym (ap (λ (l : List ℕ). get_or l i 0) same) ∙ z in
            omega (arith, sym (ap (rank s.order) w) ∙ r),
      )) in (
        s',
        placing.1,
        accepted-then _ _ tt (ap (λ n. provided (leb (length program) 8192 && leb n 193) 1 0) (length-set schedule _ f) ∙
            h.short) ∙
            accepted-then _ _ p h.parses ∙
            accepted-then _ _ tt h.rated ∙
            accepted-then _ _ q.hypercycle h.hyper ∙
            accepted-then _ _ tt h.links ∙
            accepted-then _ _ tt h.tables ∙
            accepted-then _ _ _ (parse-puts (length (moved_text schedule s x f)) [] sp (omega arith)) ∙
            accepted-then _ _ s' placing.2,
      )
    where
      z' : (i j : ℕ) → 0 + i ≡ j → i ≡ j
      z' i j z = omega arith

-- Each read has the same index under both schedules.
abbrev pub Alike : Program → Schedule → Schedule → Type 0
Alike p s s' = (r : ℕ) → r < count p → All (λ ρ. settled p s r ρ ≡ settled p s' r ρ) (body_reads (signal_at p r).body)

module _ (p : Program) (s s' : Schedule) where
  reads-alike : (r : ℕ) (ρs : List Read) → reads_alike p s s' r ρs ≡ true → All (λ ρ. settled p s r ρ ≡ settled p s' r ρ) ρs
  unfolding reads_alike
  reads-alike r [] e = tt
  reads-alike r (ρ ∷ ρs) e = let h = (and-eq-true_iff _ _).0 e in (eqb-true _ _ h.0, reads-alike r ρs h.1)

  alike-reads : (r : ℕ) (ρs : List Read) → All (λ ρ. settled p s r ρ ≡ settled p s' r ρ) ρs → reads_alike p s s' r ρs ≡ true
  unfolding reads_alike
  alike-reads r [] h = refl
  alike-reads r (ρ ∷ ρs) h = (and-eq-true_iff _ _).1 (eq-eqb _ _ h.0, alike-reads r ρs h.1)

  -- The test decides the statement.
  pub alike-decides : (settles_alike p s s' ≡ true) ↔ Alike p s s'
  unfolding settles_alike
  alike-decides = (
    λ e r lt. reads-alike r _ (all_true (count p) _ e r lt),
    λ h. true-all (count p) _ (λ r lt. alike-reads r _ (h r lt)),
  )

-- The steps of a pair that is accepted and settles alike.
alike-steps : (q q' : Pair) (a b c : Outcome (Unit {0})) →
    accepted_alike q (a ▷ λ _. b ▷ λ _. c ▷ λ _. accepted q') ≡ true →
    (a ≡ accepted tt) × (b ≡ accepted tt) × (c ≡ accepted tt) × (settles_alike q.program q.schedule q'.schedule ≡ true)
unfolding ◌▷◌
alike-steps q q' (accepted u) (accepted v) (accepted w) e = (refl, refl, refl, e)
alike-steps q q' (accepted u) (accepted v) (refused f) e = absurd (false≢true e)
alike-steps q q' (accepted u) (refused f) c e = absurd (false≢true e)
alike-steps q q' (refused f) b c e = absurd (false≢true e)

steps_alike : (q q' : Pair) (a b c : Outcome (Unit {0})) → a ≡ accepted tt → b ≡ accepted tt → c ≡ accepted tt →
    settles_alike q.program q.schedule q'.schedule ≡ true →
    accepted_alike q (a ▷ λ _. b ▷ λ _. c ▷ λ _. accepted q') ≡ true
steps_alike q q' a b c ea eb ec e =
    ap (accepted_alike q) (accepted-then a _ tt ea ∙ accepted-then b _ tt eb ∙ accepted-then c _ tt ec) ∙ e

module _ (program schedule : List ℕ) (q : Pair) (e : pair_of program schedule ≡ accepted q) (x f : ℕ)
    (lt : x < count q.program) (below : f < (signal_at q.program x).period) where
  abbrev moved : Schedule
  moved = (moved-pair program schedule q e x f lt below).0

  -- Signal x may take phase f exactly if the pair with it passes 14, 15 and 16 and every read has its index as before.
  pub take-passes : (may_take program schedule q x f ≡ true) ↔
      ((met q.program moved ≡ accepted tt) × (loaded q.program moved q.hypercycle ≡ accepted tt) ×
      (timely q.program moved q.hypercycle ≡ accepted tt) × Alike q.program q.schedule moved)
  unfolding may_take
  take-passes =
      let g = (moved-pair program schedule q e x f lt below).2 in
      let d = alike-decides q.program q.schedule moved in (
        λ t. let k = alike-steps q _ _ _ _ (ap (accepted_alike q) (sym g) ∙ t) in (k.0, k.1, k.2, d.0 k.3),
        λ (a, b, c, al). ap (accepted_alike q) g ∙ steps_alike q _ _ _ _ a b c (d.1 al),
      )
