-- What an accepted schedule text gives, and the schedule that it gives a program. Assumes nothing.
use Prim.Native.Nat.{ℕ, zero, suc, ◌+◌, ◌*◌, ◌≤◌, ◌<◌}
use mathlib.Core.Bool.{Bool, true, false, cond, ◌||◌, false≢true}
use mathlib.Core.List.{List, [], ◌∷◌, ◌++◌, map, append_assoc, append-nil}
use mathlib.Core.Path.{◌≡◌, refl, sym, ap, subst, ◌∙◌}
use native.Mathlib.Omega.{arith}
use borrow.Author.Tests.{leb-true, le-leb, ltb-true, eqb-true, eq-eqb}
use lib.Dec.{leb, ltb, eqb}
use lib.ListN.{length, get_or, length-map}
pub use Rattle.model.specs.Says.Grammar.{SpellsPuts}
use Rattle.model.specs.Rules.Outcome.{Outcome, accepted, fault, lowest, Parsed, parsed}
use Rattle.model.specs.Rules.Program.{Program, count, signal_at}
use Rattle.model.specs.Rules.Reads.{rank}
use Rattle.model.specs.Rules.Schedule.{
  schedule_command_at,
  Put,
  schedule_command,
  parse_puts,
  parse_schedule,
  Schedule,
  is_put,
  put_faults,
  puts_faults,
  put_phase,
  schedule_of,
  placed,
}
use Rattle.model.specs.Rules.Search.{all_below}
use Rattle.model.specs.Rules.Word.{byte_at}
use Rattle.model.specs.Says.Feasible.{Ordered}
use Rattle.model.specs.declared.ScheduleCommand.{ScheduleCommand}
use Rattle.model.specs.declared.ScheduleCommand.TheVariants as ScheduleCommand
use Rattle.model.proofs.Pairs.Decide.{all_true}
use Rattle.model.proofs.Basics.Outcomes.{
  Holds,
  holds-value,
  value-holds,
  holds_then,
  holds-map,
  holds-provided,
  accepted-then,
  true-provided,
  lowest-none,
  append-none,
  table_at,
}
use Rattle.model.proofs.Texts.Written.{put-decoded, put-as-written}

-- A command that is read lies within the text.
module _ (text : List ℕ) (at : ℕ) where
  abbrev pub PutSound : ScheduleCommand → Type 0
  PutSound ScheduleCommand.EndsEarly = Unit {0}
  PutSound ScheduleCommand.Unknown = Unit {0}
  PutSound ScheduleCommand.End = at + 1 ≤ length text
  PutSound (ScheduleCommand.Put signal phase) =
      (signal ≡ byte_at text (at + 1)) × (phase ≡ byte_at text (at + 2)) × (at + 3 ≤ length text)

  pub put-sound : (c : ScheduleCommand) → schedule_command_at text at ≡ c → PutSound c
  unfolding schedule_command_at
  put-sound c e =
      subst PutSound e
      (go (ltb at (length text)) (eqb (byte_at text at) 0x00) (eqb (byte_at text at) 0x40) (leb (at + 3) (length text)) refl refl)
    where
      go : (here end put whole : Bool) → ltb at (length text) ≡ here → leb (at + 3) (length text) ≡ whole →
          PutSound (cond here
          (cond end ScheduleCommand.End
          (cond put
          (cond whole (ScheduleCommand.Put (byte_at text (at + 1)) (byte_at text (at + 2))) ScheduleCommand.EndsEarly)
          ScheduleCommand.Unknown))
          ScheduleCommand.EndsEarly)
      go true true put whole h w = omega (arith, ltb-true at (length text) h)
      go true false true true h w = (refl, refl, leb-true (at + 3) (length text) w)
      go true false true false h w = tt
      go true false false whole h w = tt
      go false end put whole h w = tt

module _ (text : List ℕ) where
  abbrev ReadsPuts : ℕ → List Put → Parsed (List Put) → Type 0
  ReadsPuts at puts o = (qs : List Put) × (o.value ≡ puts ++ qs) × SpellsPuts text at qs o.next

  reads-command : (next : ℕ → List Put → Outcome (Parsed (List Put))) →
      ((a : ℕ) (qs : List Put) → Holds (ReadsPuts a qs) (next a qs)) → (at : ℕ) (puts : List Put) (c : ScheduleCommand) →
      schedule_command_at text at ≡ c → Holds (ReadsPuts at puts) (schedule_command next text at puts c)
  unfolding schedule_command
  reads-command next h at puts ScheduleCommand.EndsEarly e = tt
  reads-command next h at puts ScheduleCommand.Unknown e = tt
  reads-command next h at puts ScheduleCommand.End e =
      holds-provided (ReadsPuts at puts) (leb (length text) (at + 1)) 11 (at + 1) (parsed puts at) (λ t.
      ([], sym (append-nil puts), SpellsPuts.ends (put-as-written _ tt e) (leb-true (length text) (at + 1) t)))
  reads-command next h at puts (ScheduleCommand.Put signal phase) e =
      let here : Put = record { place = at; signal = signal; phase = phase } in
      holds-map (ReadsPuts (at + 3) (puts ++ (here ∷ []))) (ReadsPuts at puts) (next (at + 3) (puts ++ (here ∷ []))) (λ o r. (
        here ∷ r.0,
        r.1 ∙ append_assoc puts (here ∷ []) r.0,
        SpellsPuts.put (put-as-written _ tt e) r.2,
      )) (h (at + 3) (puts ++ (here ∷ [])))

  reads-puts : (left at : ℕ) (puts : List Put) → Holds (ReadsPuts at puts) (parse_puts left text at puts)
  unfolding parse_puts
  reads-puts zero at puts = tt
  reads-puts (suc left) at puts =
      reads-command (λ n qs. parse_puts left text n qs) (λ a qs. reads-puts left a qs) at puts (schedule_command_at text at) refl

  -- An accepted schedule text spells its PUTs.
  pub puts-spelled : (o : Parsed (List Put)) → parse_schedule text ≡ accepted o → SpellsPuts text 0 o.value o.next
  unfolding parse_schedule
  puts-spelled o e =
      let r = holds-value (ReadsPuts 0 []) (parse_puts (length text) text 0 []) o (reads-puts (length text) 0 []) e in
      rw r.1 r.2

-- PUTs that are spelled are read.
more : (left : ℕ) → 0 < left → (n : ℕ) × (left ≡ suc n)
more zero h = absurd (omega arith)
more (suc n) h = (n, refl)

module _ {text : List ℕ} where
  pub parse-puts : {at end : ℕ} {qs : List Put} (left : ℕ) (puts : List Put) → SpellsPuts text at qs end →
      length text ≤ at + left → parse_puts left text at puts ≡ parsed (puts ++ qs) end
  unfolding parse_puts schedule_command
  parse-puts left puts (SpellsPuts.ends {at = at} e le) enough =
      let q = more left (omega (arith, put-sound text at _ (put-decoded e))) in
      rw q.1
      (ap (schedule_command (λ n qs. parse_puts q.0 text n qs) text at puts) (put-decoded e) ∙
      accepted-then _ _ tt (true-provided _ 11 (at + 1) (le-leb _ _ le)) ∙
      rw (append-nil puts))
  parse-puts left puts (SpellsPuts.put {at = at} {signal = signal} {phase = phase} {qs = qs} e r) enough =
      let q = more left (omega (arith, (put-sound text at _ (put-decoded e)).2)) in
      let here : Put = record { place = at; signal = signal; phase = phase } in
      rw q.1
      (ap (schedule_command (λ n qs. parse_puts q.0 text n qs) text at puts) (put-decoded e) ∙
      parse-puts q.0 (puts ++ (here ∷ [])) r (omega (arith, q.1)) ∙
      rw (append_assoc puts (here ∷ []) qs))

-- Each PUT takes three bytes.
pub puts-end : {text : List ℕ} {at end : ℕ} {qs : List Put} → SpellsPuts text at qs end →
    (end ≡ at + 3 * length qs) × (length text ≡ end + 1)
puts-end (SpellsPuts.ends {at = at} e le) = (omega arith, omega (arith, put-sound _ at _ (put-decoded e)))
puts-end (SpellsPuts.put e r) = let h = puts-end r in (omega arith, h.1)

-- Every PUT is of a declared signal that is not put before, with a phase below its period.
abbrev pub Placed : Program → List Put → List Put → Type 0
Placed p before [] = Unit {0}
Placed p before (q ∷ qs) =
    (q.signal < count p) × (is_put before q.signal ≡ false) × (q.phase < (signal_at p q.signal).period) ×
    Placed p (before ++ (q ∷ [])) qs

module _ (p : Program) where
  put-placed : (before : List Put) (q : Put) → put_faults p before q ≡ [] →
      (q.signal < count p) × (is_put before q.signal ≡ false) × (q.phase < (signal_at p q.signal).period)
  unfolding put_faults
  put-placed before q e =
      go (ltb q.signal (count p)) (is_put before q.signal) (ltb q.phase (signal_at p q.signal).period) refl refl e
    where
      go : (a c : Bool) (b : Bool) → ltb q.signal (count p) ≡ a → ltb q.phase (signal_at p q.signal).period ≡ b →
          cond a (cond c (fault 12 q.place ∷ []) (cond b [] (fault 13 q.place ∷ []))) (fault 12 q.place ∷ []) ≡ [] →
          (q.signal < count p) × (c ≡ false) × (q.phase < (signal_at p q.signal).period)
      go true false true h g t = (ltb-true _ _ h, refl, ltb-true _ _ g)
      go true false false h g t = absurd (omega (arith, ap length t))
      go true true b h g t = absurd (omega (arith, ap length t))
      go false c b h g t = absurd (omega (arith, ap length t))

  puts-placed : (before qs : List Put) → puts_faults p before qs ≡ [] → Placed p before qs
  unfolding puts_faults
  puts-placed before [] e = tt
  puts-placed before (q ∷ qs) e =
      let f = append-none (put_faults p before q) _ e in
      let h = put-placed before q f.0 in
      (h.0, h.1, h.2, puts-placed (before ++ (q ∷ [])) qs f.1)

-- The signals of PUTs, in their order.
abbrev pub signals_of : List Put → List ℕ
signals_of qs = map (λ q. q.signal) qs

put-earlier : (before : List Put) (q : Put) (x : ℕ) → is_put (before ++ (q ∷ [])) x ≡ false →
    (is_put before x ≡ false) × (eqb q.signal x ≡ false)
unfolding is_put
put-earlier [] q x e = (refl, go (eqb q.signal x) e)
  where
    go : (b : Bool) → b || false ≡ false → b ≡ false
    go true h = absurd (false≢true (sym h))
    go false h = refl
put-earlier (r ∷ before) q x e = go (eqb r.signal x) e (λ h. put-earlier before q x h)
  where
    go : (b : Bool) → b || is_put (before ++ (q ∷ [])) x ≡ false →
        (is_put (before ++ (q ∷ [])) x ≡ false → (is_put before x ≡ false) × (eqb q.signal x ≡ false)) →
        (b || is_put before x ≡ false) × (eqb q.signal x ≡ false)
    go true h ih = absurd (false≢true (sym h))
    go false h ih = ih h

module _ (p : Program) where
  -- No PUT is of a signal put before.
  fresh : (before qs : List Put) → Placed p before qs → (i : ℕ) → i < length (signals_of qs) →
      is_put before (get_or (signals_of qs) i 0) ≡ false
  fresh before [] h i lt = absurd (omega arith)
  fresh before (q ∷ qs) h zero lt = h.1
  fresh before (q ∷ qs) h (suc i) lt =
      (put-earlier before q (get_or (signals_of qs) i 0) (fresh (before ++ (q ∷ [])) qs h.3 i (omega arith))).0

  pub placed-once : (before qs : List Put) → Placed p before qs → (i : ℕ) → i < length (signals_of qs) →
      rank (signals_of qs) (get_or (signals_of qs) i 0) ≡ i
  unfolding rank
  placed-once before [] h i lt = absurd (omega arith)
  placed-once before (q ∷ qs) h zero lt = rw (eq-eqb q.signal q.signal refl)
  placed-once before (q ∷ qs) h (suc i) lt =
      let x = get_or (signals_of qs) i 0 in
      rw (put-earlier before q x (fresh (before ++ (q ∷ [])) qs h.3 i (omega arith))).1
      (ap suc (placed-once (before ++ (q ∷ [])) qs h.3 i (omega arith)))

  pub placed-only : (before qs : List Put) → Placed p before qs → (i : ℕ) → i < length (signals_of qs) →
      get_or (signals_of qs) i 0 < count p
  placed-only before [] h i lt = absurd (omega arith)
  placed-only before (q ∷ qs) h zero lt = h.0
  placed-only before (q ∷ qs) h (suc i) lt = placed-only (before ++ (q ∷ [])) qs h.3 i (omega arith)

  pub placed-phase : (before qs : List Put) → Placed p before qs → (x : ℕ) → is_put qs x ≡ true →
      put_phase qs x < (signal_at p x).period
  unfolding is_put put_phase
  placed-phase before [] h x e = absurd (false≢true e)
  placed-phase before (q ∷ qs) h x e =
      go (eqb q.signal x) refl e (λ f. placed-phase (before ++ (q ∷ [])) qs h.3 x f)
    where
      go : (b : Bool) → eqb q.signal x ≡ b → b || is_put qs x ≡ true →
          (is_put qs x ≡ true → put_phase qs x < (signal_at p x).period) → cond b q.phase (put_phase qs x) < (signal_at p x).period
      go true f t ih = rw (eqb-true q.signal x f) at h.2
      go false f t ih = ih t

pub placed-put : (qs : List Put) (x : ℕ) → is_put qs x ≡ true → rank (signals_of qs) x < length (signals_of qs)
unfolding is_put rank
placed-put [] x e = absurd (false≢true e)
placed-put (q ∷ qs) x e = go (eqb q.signal x) e (λ f. placed-put qs x f)
  where
    go : (b : Bool) → b || is_put qs x ≡ true → (is_put qs x ≡ true → rank (signals_of qs) x < length (signals_of qs)) →
        cond b 0 (suc (rank (signals_of qs) x)) < suc (length (signals_of qs))
    go true f ih = omega arith
    go false f ih = omega (arith, ih f)

pub placed-ordered : (p : Program) (puts : Parsed (List Put)) (s : Schedule) → placed p puts ≡ accepted s →
    Ordered p s × (length s.order ≡ length puts.value)
unfolding placed schedule_of
placed-ordered p puts s e =
    holds-value Q (placed p puts) s
    (holds_then (λ u. here ≡ accepted u) Q here _ (value-holds here) (λ u f.
    holds-provided Q (all_below (count p) (is_put qs)) 12 puts.next (accepted (schedule_of p qs)) (λ t.
    let h = puts-placed p [] qs (lowest-none (puts_faults p [] qs) f) in
    let all = all_true (count p) (is_put qs) t in (
      record {
        phases = λ x l. rw (table_at (count p) (put_phase qs) x 0 l) (placed-phase p [] qs h x (all x l));
        put = λ x l. placed-put qs x (all x l);
        once = placed-once p [] qs h;
        only = placed-only p [] qs h;
      },
      length-map qs (λ q. q.signal),
    )))) e
  where
    qs : List Put
    qs = puts.value

    here : Outcome (Unit {0})
    here = lowest (puts_faults p [] qs)

    Q : Schedule → Type 0
    Q r = Ordered p r × (length r.order ≡ length puts.value)
