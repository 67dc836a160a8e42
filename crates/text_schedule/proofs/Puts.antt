-- The tables after each PUT, and what going through all of them answers. Assumes nothing.
use Rattle.std.specs.Prelude.{Result, Ok, Err}
use mathlib.Core.Path.{◌≡◌, refl, sym, ap, ap₂, ◌∙◌}
use mathlib.Core.Bool.{Bool, true, false, cond, not, ◌||◌, false≢true}
use mathlib.Core.List.{List, [], ◌∷◌, ◌++◌, append_assoc, append-nil}
use Prim.Native.Nat.{ℕ, zero, suc, ◌+◌, ◌≤◌, ◌<◌}
use native.Mathlib.Omega.{arith}
use lib.Dec.{ltb, eqb}
use lib.ListN.{length, get_or, set, length-append, length-set, length-map, replicate, get_or-replicate}
use lib.Seq.{get_or-set_same, get_or-set_other}
use borrow.Author.Tests.{eqb-true, eqb-false, eq-eqb, ne_eqb, lt-ltb, le-ltb}
use Rattle.model.specs.Says.Feasible.{All}
use Rattle.model.specs.Rules.Outcome.{Outcome, accepted, refused, fault, ◌▷◌, provided, lowest, Parsed}
use Rattle.model.specs.Rules.Program.{Program, count, signal_at}
use Rattle.model.specs.Rules.Reads.{rank}
use Rattle.model.specs.Rules.Schedule.{
  Schedule,
  Put,
  schedule_command_at,
  is_put,
  put_faults,
  puts_faults,
  put_phase,
  schedule_of,
  placed,
  parse_schedule,
}
use Rattle.model.specs.Rules.Search.{all_below}
use Rattle.model.specs.declared.Fault.{Fault}
use Rattle.model.specs.declared.ScheduleCommand.{ScheduleCommand}
use Rattle.model.specs.declared.ScheduleCommand.TheVariants as ScheduleCommand
use Rattle.model.proofs.Basics.All.{all-at, all_append}
use Rattle.model.proofs.Pairs.Decide.{all_true}
use Rattle.model.proofs.Basics.Outcomes.{lowest-sorted, table_at}
use Rattle.model.specs.Says.Grammar.{SpellsPuts}
use Rattle.model.proofs.Texts.Puts.{puts-end, puts-spelled, placed-ordered}
use Rattle.model.proofs.Texts.Written.{put-decoded}
use Rattle.text_program.specs.Tables.{SlotsOf}
use Rattle.text_program.proofs.Filled.{filled}
use Rattle.text_schedule.specs.Slots.{signals_put, SlotsAfter, put_added, judged_by, PutJudged, all_ranked, ScheduledAs}
use Rattle.text_schedule.specs.declared.Slots.{Slots}
use Rattle.model.proofs.Pairs.Pigeons.{order-length}

or-false : (b : Bool) → b || false ≡ b
or-false true = refl
or-false false = refl

or_assoc : (a b c : Bool) → (a || b) || c ≡ a || (b || c)
or_assoc true b c = refl
or_assoc false b c = refl

-- One PUT more: which signals are put, and where and with which phase.
put-snoc : (done : List Put) (q : Put) (x : ℕ) → is_put (done ++ (q ∷ [])) x ≡ is_put done x || eqb q.signal x
unfolding is_put
put-snoc [] q x = or-false (eqb q.signal x)
put-snoc (r ∷ done) q x = ap (eqb r.signal x ||◌) (put-snoc done q x) ∙ sym (or_assoc (eqb r.signal x) (is_put done x) _)

module _ (q : Put) (x : ℕ) where
  rank-old : (done : List Put) → is_put done x ≡ true → rank (signals_put (done ++ (q ∷ []))) x ≡ rank (signals_put done) x
  unfolding is_put rank
  rank-old [] e = absurd (false≢true e)
  rank-old (r ∷ done) e = go (eqb r.signal x) e (λ h. rank-old done h)
    where
      go : (b : Bool) → b || is_put done x ≡ true →
          (is_put done x ≡ true → rank (signals_put (done ++ (q ∷ []))) x ≡ rank (signals_put done) x) →
          cond b 0 (suc (rank (signals_put (done ++ (q ∷ []))) x)) ≡ cond b 0 (suc (rank (signals_put done) x))
      go true h ih = refl
      go false h ih = ap suc (ih h)

  rank-new : (done : List Put) → is_put done x ≡ false → q.signal ≡ x → rank (signals_put (done ++ (q ∷ []))) x ≡ length done
  unfolding is_put rank
  rank-new [] e g = rw (eq-eqb q.signal x g)
  rank-new (r ∷ done) e g = go (eqb r.signal x) e (λ h. rank-new done h g)
    where
      go : (b : Bool) → b || is_put done x ≡ false →
          (is_put done x ≡ false → rank (signals_put (done ++ (q ∷ []))) x ≡ length done) →
          cond b 0 (suc (rank (signals_put (done ++ (q ∷ []))) x)) ≡ suc (length done)
      go true h ih = absurd (false≢true (sym h))
      go false h ih = ap suc (ih h)

  phase-old : (done : List Put) → is_put done x ≡ true → put_phase (done ++ (q ∷ [])) x ≡ put_phase done x
  unfolding is_put put_phase
  phase-old [] e = absurd (false≢true e)
  phase-old (r ∷ done) e = go (eqb r.signal x) e (λ h. phase-old done h)
    where
      go : (b : Bool) → b || is_put done x ≡ true → (is_put done x ≡ true → put_phase (done ++ (q ∷ [])) x ≡ put_phase done x) →
          cond b r.phase (put_phase (done ++ (q ∷ [])) x) ≡ cond b r.phase (put_phase done x)
      go true h ih = refl
      go false h ih = ih h

  phase-new : (done : List Put) → is_put done x ≡ false → q.signal ≡ x → put_phase (done ++ (q ∷ [])) x ≡ q.phase
  unfolding is_put put_phase
  phase-new [] e g = rw (eq-eqb q.signal x g)
  phase-new (r ∷ done) e g = go (eqb r.signal x) e (λ h. phase-new done h g)
    where
      go : (b : Bool) → b || is_put done x ≡ false → (is_put done x ≡ false → put_phase (done ++ (q ∷ [])) x ≡ q.phase) →
          cond b r.phase (put_phase (done ++ (q ∷ [])) x) ≡ q.phase
      go true h ih = absurd (false≢true (sym h))
      go false h ih = ih h

-- A signal that is put has a place below the number of PUTs.
rank_below : (done : List Put) (x : ℕ) → is_put done x ≡ true → rank (signals_put done) x < length done
unfolding is_put rank
rank_below [] x e = absurd (false≢true e)
rank_below (r ∷ done) x e = go (eqb r.signal x) e (λ h. rank_below done x h)
  where
    go : (b : Bool) → b || is_put done x ≡ true → (is_put done x ≡ true → rank (signals_put done) x < length done) →
        cond b 0 (suc (rank (signals_put done) x)) < suc (length done)
    go true h ih = omega arith
    go false h ih = omega (arith, ih h)

signals-snoc : (done : List Put) (q : Put) (j : ℕ) → j < length done →
    get_or (signals_put (done ++ (q ∷ []))) j 0 ≡ get_or (signals_put done) j 0
signals-snoc [] q j lt = absurd (omega arith)
signals-snoc (r ∷ done) q zero lt = refl
signals-snoc (r ∷ done) q (suc j) lt = signals-snoc done q j (omega arith)

signals-last : (done : List Put) (q : Put) → get_or (signals_put (done ++ (q ∷ []))) (length done) 0 ≡ q.signal
signals-last [] q = refl
signals-last (r ∷ done) q = signals-last done q

module _ (done : List Put) (t : Slots) (h : SlotsAfter done t) (q : Put) (low : q.signal < 64) (few : length done < 64)
    (fresh : is_put done q.signal ≡ false) where
  -- An entry of a table by signal, after one PUT more.
  by-signal : (table : List ℕ) (v x : ℕ) (f : ℕ → ℕ) → length table ≡ 64 → x < 64 → is_put (done ++ (q ∷ [])) x ≡ true →
      (is_put done x ≡ true → get_or table x 0 ≡ f x) → (q.signal ≡ x → v ≡ f x) → get_or (set table q.signal v) x 0 ≡ f x
  by-signal table v x f e lt p old new = go (eqb q.signal x) refl
    where
      go : (b : Bool) → eqb q.signal x ≡ b → get_or (set table q.signal v) x 0 ≡ f x
      go true g =
          let z = eqb-true q.signal x g in
          ap (λ i. get_or (set table i v) x 0) z ∙ get_or-set_same table x v 0 (omega arith) ∙ new z
      go false g =
          get_or-set_other table q.signal x v 0 (λ z. eqb-false q.signal x g (sym z)) ∙
          old (sym (or-false (is_put done x)) ∙ ap (is_put done x ||◌) (sym g) ∙ sym (put-snoc done q x) ∙ p)

  unput-after : (x : ℕ) → x < 64 → is_put (done ++ (q ∷ [])) x ≡ false → get_or (set t.ranks q.signal t.puts) x 0 ≡ 64
  unput-after x lt p = go (is_put done x) (eqb q.signal x) refl refl (sym (put-snoc done q x) ∙ p)
    where
      go : (a b : Bool) → is_put done x ≡ a → eqb q.signal x ≡ b → a || b ≡ false →
          get_or (set t.ranks q.signal t.puts) x 0 ≡ 64
      go true b f g z = absurd (false≢true (sym z))
      go false true f g z = absurd (false≢true (sym z))
      go false false f g z =
          get_or-set_other t.ranks q.signal x t.puts 0 (λ y. eqb-false q.signal x g (sym y)) ∙ h.unput x lt f

  -- The tables with one PUT more.
  pub slots-add : SlotsAfter (done ++ (q ∷ [])) (put_added t q.signal q.phase)
  slots-add =
      record {
        puts-are = length-append done (q ∷ []) ∙ ap (◌+ 1) h.puts-are;
        order_is = λ j lt.
            filled (λ i. get_or (signals_put (done ++ (q ∷ []))) i 0) t.order t.puts q.signal
            (omega (arith, h.space.0, h.puts-are))
            (sym (signals-last done q) ∙ ap (λ i. get_or (signals_put (done ++ (q ∷ []))) i 0) h.puts-are)
            (λ y ly. h.order_is y (omega (arith, h.puts-are)) ∙ sym (signals-snoc done q y (omega (arith, h.puts-are)))) j
            (omega (arith, length-append done (q ∷ []), h.puts-are));
        unput = unput-after;
        ranks-are = λ x lt p.
            by-signal t.ranks t.puts x (rank (signals_put (done ++ (q ∷ [])))) h.space.2 lt p
            (λ o. h.ranks-are x lt o ∙ sym (rank-old q x done o))
            (λ z. sym (rank-new q x done (ap (is_put done) (sym z) ∙ fresh) z ∙ h.puts-are));
        phases-are = λ x lt p.
            by-signal t.phases q.phase x (put_phase (done ++ (q ∷ []))) h.space.1 lt p
            (λ o. h.phases-are x lt o ∙ sym (phase-old q x done o))
            (λ z. sym (phase-new q x done (ap (is_put done) (sym z) ∙ fresh) z));
        space = (
          length-set t.order t.puts q.signal ∙ h.space.0,
          length-set t.phases q.signal q.phase ∙ h.space.1,
          length-set t.ranks q.signal t.puts ∙ h.space.2,
        );
      }

-- A signal is put exactly if it has a rank.
pub ranked : (done : List Put) (t : Slots) → SlotsAfter done t → length done ≤ 64 → (x : ℕ) → x < 64 →
    not (eqb (get_or t.ranks x 0) 64) ≡ is_put done x
ranked done t h few x lt = go (is_put done x) refl
  where
    go : (b : Bool) → is_put done x ≡ b → not (eqb (get_or t.ranks x 0) 64) ≡ b
    go true e = rw (ne_eqb (get_or t.ranks x 0) 64 (λ z. omega (arith, h.ranks-are x lt e, rank_below done x e)))
    go false e = rw (eq-eqb (get_or t.ranks x 0) 64 (h.unput x lt e))

-- Tests that are the same below n.
all_same : (n : ℕ) (f g : ℕ → Bool) → ((x : ℕ) → x < n → f x ≡ g x) → all_below n f ≡ all_below n g
unfolding all_below
all_same zero f g h = refl
all_same (suc n) f g h =
    let a = all_same n f g (λ x lt. h x (omega arith)) in
    let b = h n (omega arith) in
    rw (a, b)

pub all-ranked : (done : List Put) (t : Slots) (n : ℕ) → SlotsAfter done t → length done ≤ 64 → n ≤ 64 →
    all_ranked t.ranks n ≡ all_below n (is_put done)
unfolding all_ranked
all-ranked done t n h few le = all_same n _ (is_put done) (λ x lt. ranked done t h few x (omega arith))

-- Before END a PUT stands.
pub record NextPut (text : List ℕ) (at end : ℕ) (rest : List Put) : Type 0 where
  pub signal : ℕ
  pub phase : ℕ
  pub more : List Put
  pub command : schedule_command_at text at ≡ ScheduleCommand.Put signal phase
  pub is : rest ≡ record { place = at; signal = signal; phase = phase } ∷ more
  pub spelled : SpellsPuts text (at + 3) more end

pub next-put : {text : List ℕ} {at end : ℕ} {rest : List Put} → SpellsPuts text at rest end → at < end → NextPut text at end rest
next-put (SpellsPuts.ends e le) lt = absurd (omega arith)
next-put (SpellsPuts.put {signal = s} {phase = f} {qs = qs} e r) lt =
    record { signal = s; phase = f; more = qs; command = put-decoded e; is = refl; spelled = r }

pub no-put : {text : List ℕ} {at end : ℕ} {rest : List Put} → SpellsPuts text at rest end → end ≤ at → rest ≡ []
no-put (SpellsPuts.ends e le) lt = refl
no-put (SpellsPuts.put e r) lt = absurd (omega (arith, (puts-end r).0))

-- The faults of a PUT stand at it, those of later ones behind it.
abbrev At : ℕ → Fault → Type 0
At n f = n ≤ f.place

put-at : (p : Program) (done : List Put) (q : Put) (n : ℕ) → n ≤ q.place → All (At n) (put_faults p done q)
unfolding put_faults
put-at p done q n le = go (ltb q.signal (count p)) (is_put done q.signal) (ltb q.phase (signal_at p q.signal).period)
  where
    go : (a b c : Bool) →
        All (At n) (cond a (cond b (fault 12 q.place ∷ []) (cond c [] (fault 13 q.place ∷ []))) (fault 12 q.place ∷ []))
    go true true c = (le, tt)
    go true false true = tt
    go true false false = (le, tt)
    go false b c = (le, tt)

puts-at : (p : Program) {text : List ℕ} {at end : ℕ} {qs : List Put} → SpellsPuts text at qs end → (done : List Put) (n : ℕ) →
    n ≤ at → All (At n) (puts_faults p done qs)
unfolding puts_faults
puts-at p (SpellsPuts.ends e le) done n h = tt
puts-at p (SpellsPuts.put {at = at} {signal = s} {phase = f} {qs = qs} e r) done n h =
    let q : Put = record { place = at; signal = s; phase = f } in
    all_append (At n) (put_faults p done q) (puts_faults p (done ++ (q ∷ [])) qs)
    (put-at p done q n h) (puts-at p r (done ++ (q ∷ [])) n (omega arith))

-- A judgement tells the faults, of which a PUT has one at most.
fine-none : (fs : List Fault) → (Ok tt) ≡ judged_by fs → fs ≡ []
fine-none [] e = refl
fine-none (f ∷ fs) e = let z : ◌≡◌ {A = ℕ} 0 1 = cc in absurd (omega arith)

fine-refused : {f : Fault} → ◌≡◌ {A = Result (Unit {0}) Fault} (Err f) (Ok tt) → ⊥
fine-refused {f} e = let z : ◌≡◌ {A = ℕ} 0 1 = cc in omega arith

one-fault : (p : Program) (done : List Put) (q : Put) (f : Fault) → Err f ≡ judged_by (put_faults p done q) →
    (put_faults p done q ≡ f ∷ []) × (f.place ≡ q.place)
unfolding put_faults
one-fault p done q f = go (ltb q.signal (count p)) (is_put done q.signal) (ltb q.phase (signal_at p q.signal).period)
  where
    same : (n : ℕ) → ◌≡◌ {A = Result (Unit {0}) Fault} (Err f) (Err (fault n q.place)) →
        (fault n q.place ∷ [] ≡ f ∷ []) × (f.place ≡ q.place)
    same n e = let z : f ≡ fault n q.place = cc in (ap (◌∷ []) (sym z), ap (λ g. g.place) z)

    go : (a b c : Bool) →
        Err f ≡
        judged_by (cond a (cond b (fault 12 q.place ∷ []) (cond c [] (fault 13 q.place ∷ []))) (fault 12 q.place ∷ [])) →
        (cond a (cond b (fault 12 q.place ∷ []) (cond c [] (fault 13 q.place ∷ []))) (fault 12 q.place ∷ []) ≡ f ∷ []) ×
        (f.place ≡ q.place)
    go true true c e = same 12 e
    go true false true e = absurd (fine-refused e)
    go true false false e = same 13 e
    go false b c e = same 12 e

-- A PUT without a fault is of a signal not put before.
fresh-put : (p : Program) (done : List Put) (q : Put) → put_faults p done q ≡ [] → is_put done q.signal ≡ false
unfolding put_faults
fresh-put p done q = go (ltb q.signal (count p)) (is_put done q.signal) (ltb q.phase (signal_at p q.signal).period)
  where
    some : (f : Fault) → f ∷ [] ≡ [] → ⊥
    some f e = omega (arith, ap length e)

    go : (a b c : Bool) →
        cond a (cond b (fault 12 q.place ∷ []) (cond c [] (fault 13 q.place ∷ []))) (fault 12 q.place ∷ []) ≡ [] →
        b ≡ false
    go true true c e = absurd (some _ e)
    go true false c e = refl
    go false b c e = absurd (some _ e)

-- How far the PUTs are gone through at `at`: those done and the rest.
pub record Progress (text : List ℕ) (p : Program) (o : Parsed (List Put)) (at : ℕ) (t : Slots) : Type 0 where
  pub done : List Put
  pub rest : List Put
  pub whole : o.value ≡ done ++ rest
  pub spelled : SpellsPuts text at rest o.next
  pub faults : puts_faults p [] o.value ≡ puts_faults p done rest
  pub after : SlotsAfter done t

module _ (text : List ℕ) (p : Program) (o : Parsed (List Put)) (at signal phase : ℕ) (t : Slots) (g : Progress text p o at t)
    (lt : at < o.next) (command : schedule_command_at text at ≡ ScheduleCommand.Put signal phase) where
  abbrev here : Put
  here = record { place = at; signal = signal; phase = phase }

  -- The PUT at hand is the next of the rest.
  here-is : (more : List Put) × (g.rest ≡ here ∷ more) × SpellsPuts text (at + 3) more o.next
  here-is =
      let n = next-put g.spelled lt in
      let c = n.command in
      let a : n.signal ≡ signal = cc in
      let b : n.phase ≡ phase = cc in
      (n.more, n.is ∙ ap₂ (λ x y. record { place = at; signal = x; phase = y } ∷ n.more) a b, n.spelled)

  -- Where it is refused, that is the answer.
  pub put_refused : (f : Fault) → Err f ≡ judged_by (put_faults p g.done here) → placed p o ≡ refused f
  unfolding placed puts_faults ◌▷◌
  put_refused f e =
      let h = here-is in
      let q = one-fault p g.done here f e in
      let fs = puts_faults p (g.done ++ (here ∷ [])) h.0 in
      let z : puts_faults p [] o.value ≡ f ∷ fs =
      g.faults ∙ ap (puts_faults p g.done) h.1 ∙ ap (◌++ fs) q.0 in
      let l : lowest (f ∷ fs) ≡ refused f =
      lowest-sorted f f fs
      (λ j lj. omega (arith, q.1, all-at (At at) fs f (puts-at p h.2 (g.done ++ (here ∷ [])) at (omega arith)) j lj)) in
      rw (z, l)

  -- Where it is fine, one more is done.
  pub put-fine : signal < 64 → length g.done < 64 → (Ok tt) ≡ judged_by (put_faults p g.done here) →
      Progress text p o (at + 3) (put_added t signal phase)
  unfolding puts_faults
  put-fine low few e =
      let h = here-is in
      let n = fine-none (put_faults p g.done here) e in
      record {
        done = g.done ++ (here ∷ []);
        rest = h.0;
        whole = g.whole ∙ ap (g.done ++◌) h.1 ∙ sym (append_assoc g.done (here ∷ []) h.0);
        spelled = h.2;
        faults =
            g.faults ∙ ap (puts_faults p g.done) h.1 ∙ ap (◌++ puts_faults p (g.done ++ (here ∷ [])) h.0) n;
        after = slots-add g.done t g.after here low few (fresh-put p g.done here n);
      }

-- When all are done, what is left to judge is whether a signal is missing.
module _ (text : List ℕ) (p : Program) (o : Parsed (List Put)) (at : ℕ) (t : Slots) (g : Progress text p o at t)
    (past : o.next ≤ at) (few : count p ≤ 64) (fit : length g.done ≤ 64) where
  all_done : o.value ≡ g.done
  all_done = g.whole ∙ ap (g.done ++◌) (no-put g.spelled past) ∙ append-nil g.done

  no-faults : puts_faults p [] o.value ≡ []
  unfolding puts_faults
  no-faults = g.faults ∙ ap (puts_faults p g.done) (no-put g.spelled past)

  placed_by : placed p o ≡ (provided (all_ranked t.ranks (count p)) 12 o.next ▷ λ _. accepted (schedule_of p o.value))
  unfolding placed lowest ◌▷◌
  placed_by =
      rw (no-faults, all-ranked g.done t (count p) g.after fit few)
      (ap (λ qs. provided (all_below (count p) (is_put qs)) 12 o.next ▷ λ _. accepted (schedule_of p o.value)) all_done)

  pub placed-missing : all_ranked t.ranks (count p) ≡ false → placed p o ≡ refused (fault 12 o.next)
  unfolding provided ◌▷◌
  placed-missing e = placed_by ∙ rw e

  pub placed-all : all_ranked t.ranks (count p) ≡ true → placed p o ≡ accepted (schedule_of p o.value)
  unfolding provided ◌▷◌
  placed-all e = placed_by ∙ rw e

  pub placed-slots : all_ranked t.ranks (count p) ≡ true →
      (t.puts ≡ length (schedule_of p o.value).order) × SlotsOf p (schedule_of p o.value) t.order t.phases t.ranks
  unfolding schedule_of
  placed-slots e =
      let s = schedule_of p o.value in
      let ok = (placed-ordered p o s (placed-all e)).0 in
      let put : (x : ℕ) → x < count p → is_put g.done x ≡ true = λ x lt.
      all_true (count p) (is_put g.done) (sym (all-ranked g.done t (count p) g.after fit few) ∙ e) x lt in
      let size : length s.order ≡ length g.done = length-map o.value _ ∙ ap length all_done in (
        sym (size ∙ g.after.puts-are),
        record {
          order_is = λ j lt. g.after.order_is j (omega arith) ∙ ap (λ qs. get_or (signals_put qs) j 0) (sym all_done);
          phases-are = λ x lt.
              g.after.phases-are x (omega arith) (put x lt) ∙ ap (λ qs. put_phase qs x) (sym all_done) ∙
              sym (table_at (count p) (put_phase o.value) x 0 lt);
          ranks-are = λ x lt.
              g.after.ranks-are x (omega arith) (put x lt) ∙ ap (λ qs. rank (signals_put qs) x) (sym all_done);
          all-put = order-length s.order (count p) ok.put ok.once ok.only;
        },
      )

-- The judgement of a PUT, by what a test of it found.
module _ (t : Slots) (periods : List ℕ) (n : ℕ) (q : Put) where
  abbrev refusal : ℕ → Result (Unit {0}) Fault
  refusal number = Err (fault number q.place)

  pub put-undeclared : n ≤ q.signal → PutJudged t periods n q (refusal 12)
  unfolding put_faults
  put-undeclared le =
      record {
        judged = λ p done c per after few. rw (le-ltb q.signal (count p) (omega arith));
        declared = λ e. absurd (fine-refused e);
      }

  module _ (lt : q.signal < n) (most : n ≤ 64) where
    put-or-not : (b : Bool) → not (eqb (get_or t.ranks q.signal 0) 64) ≡ b → (done : List Put) → SlotsAfter done t →
        length done < 64 → is_put done q.signal ≡ b
    put-or-not b e done after few = sym (ranked done t after (omega arith) q.signal (omega arith)) ∙ e

    pub put-twice : (get_or t.ranks q.signal 0 ≡ 64 → ⊥) → PutJudged t periods n q (refusal 12)
    unfolding put_faults
    put-twice h =
        record {
          judged = λ p done c per after few.
              rw (lt-ltb q.signal (count p) (omega arith), put-or-not true (rw (ne_eqb _ 64 h)) done after few);
          declared = λ e. absurd (fine-refused e);
        }

    module _ (h : get_or t.ranks q.signal 0 ≡ 64) where
      unput-yet : (done : List Put) → SlotsAfter done t → length done < 64 → is_put done q.signal ≡ false
      unput-yet done after few = put-or-not false (rw (eq-eqb _ 64 h)) done after few

      pub put-late : get_or periods q.signal 0 ≤ q.phase → PutJudged t periods n q (refusal 13)
      unfolding put_faults
      put-late le =
          record {
            judged = λ p done c per after few.
                rw (
                  lt-ltb q.signal (count p) (omega arith),
                  unput-yet done after few,
                  le-ltb q.phase (signal_at p q.signal).period (omega (arith, per q.signal (omega arith))),
                );
            declared = λ e. absurd (fine-refused e);
          }

      pub put-good : q.phase < get_or periods q.signal 0 → PutJudged t periods n q (Ok tt)
      unfolding put_faults
      put-good gt =
          record {
            judged = λ p done c per after few.
                rw (
                  lt-ltb q.signal (count p) (omega arith),
                  unput-yet done after few,
                  lt-ltb q.phase (signal_at p q.signal).period (omega (arith, per q.signal (omega arith))),
                );
            declared = λ e. lt;
          }

-- Every entry of a table of 64 numbers that are 64.
pub unranked : (x : ℕ) → x < 64 → ◌≡◌ {A = ℕ} (get_or (replicate 64 64) x 0) 64
unranked x lt = get_or-replicate 64 x 64 0 lt

-- At the start nothing is done.
pub progress_start : (text : List ℕ) (p : Program) (o : Parsed (List Put)) (t : Slots) → parse_schedule text ≡ accepted o →
    SlotsAfter [] t → Progress text p o 0 t
progress_start text p o t e h =
    record { done = []; rest = o.value; whole = refl; spelled = puts-spelled text o e; faults = refl; after = h }
