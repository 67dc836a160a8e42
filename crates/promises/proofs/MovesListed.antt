-- The list of moves, exactly. Assumes nothing.
use Prim.Native.Nat.{ℕ, zero, suc, ◌+◌, ◌*◌, ◌≤◌, ◌<◌}
use mathlib.Core.Bool.{Bool, true, false, false≢true}
use mathlib.Core.List.{List, [], ◌∷◌, ◌++◌}
use mathlib.Core.Logic.{◌↔◌, ◌⊎◌, inl, inr}
use mathlib.Core.Path.{◌≡◌, refl, sym, ap, subst, subst₂, ◌∙◌}
use native.Mathlib.Omega.{arith}
use borrow.Author.Tests.{eqb-true, eqb-false}
use lib.Dec.{eqb}
use lib.ListN.{length}
use lib.Seq.{ext_get_or}
use Rattle.model.specs.Rules.Compile.{Pair, pair_of}
use Rattle.model.specs.Rules.Latency.{timely}
use Rattle.model.specs.Rules.Load.{loaded}
use Rattle.model.specs.Rules.Machine.{Effect, effect}
use Rattle.model.specs.Rules.Outcome.{Outcome, accepted, refused, ◌▷◌, Parsed}
use Rattle.model.specs.Rules.Program.{Program, Read, count, signal_at, body_reads}
use Rattle.model.specs.Rules.Rates.{hypercycle}
use Rattle.model.specs.Rules.Reads.{met, settled}
use Rattle.model.specs.Rules.Report.{needs_of}
use Rattle.model.specs.Rules.Schedule.{Schedule, Put, phase_of, placed, schedule_of, put_phase}
use Rattle.model.specs.Rules.Word.{byte_at}
use Rattle.model.specs.Says.Feasible.{All}
use Rattle.model.specs.declared.Fault.{Fault}
use Rattle.model.proofs.Basics.All.{all_append, all-at, all_map}
use Rattle.model.proofs.Basics.Outcomes.{accepted-same, accepted-then, then-accepted, table-length}
use Rattle.model.proofs.Pairs.Verdict.{pair-passed, pair-accepted}
use Rattle.theorems_pairs.specs.Conditions.{◌among◌, ReadIn, LegalPair}
use Rattle.theorems_streams.specs.Lists.{SettleAlike}
use Rattle.theorems_pairs.proofs.Exact as Exact
use Rattle.theorems_pairs.proofs.Faults.{all_among, among-all}
use Rattle.theorems_pairs.proofs.Settled.{settled-exactly}
use Rattle.theorems_streams.proofs.Alike.{open-alike}
use Rattle.model.specs.Rules.Moves.{
  Entry,
  moved_text,
  accepted_alike,
  settles_alike,
  may_take,
  entry_if,
  entries_of,
  all_entries,
  written,
}
use Rattle.model.specs.Rules.Search.{join_below}
use Rattle.model.proofs.Pairs.Moves.{Moved, moved-pair, alike-decides}
use Rattle.promises.specs.Moves.{SettlesIn, SettlesAsBefore, MayGo, move_to, Before, entry_at, WrittenTo, ListsMoves}

-- Membership in joined lists.
none_in : {A : Type 0} (e : A) (xs : List A) → e among xs → 0 < length xs
none_in e [] m = elim m [ ]
none_in e (x ∷ xs) (◌among◌.here q) = omega arith
none_in e (x ∷ xs) (◌among◌.later m) = omega arith

none-among : {A : Type 0} (e : A) → e among [] → ⊥
none-among e m = omega (arith, none_in e [] m)

module _ {A : Type 0} where
  among-left : {e : A} (xs ys : List A) → e among xs → e among (xs ++ ys)
  among-left [] ys m = elim m [ ]
  among-left (x ∷ xs) ys (◌among◌.here q) = ◌among◌.here q
  among-left (x ∷ xs) ys (◌among◌.later m) = ◌among◌.later (among-left xs ys m)

  among-right : {e : A} (xs ys : List A) → e among ys → e among (xs ++ ys)
  among-right [] ys m = m
  among-right (x ∷ xs) ys m = ◌among◌.later (among-right xs ys m)

  among_cases : (e : A) (xs ys : List A) → e among (xs ++ ys) → (e among xs) ⊎ (e among ys)
  among_cases e [] ys m = inr m
  among_cases e (x ∷ xs) ys (◌among◌.here q) = inl (◌among◌.here q)
  among_cases e (x ∷ xs) ys (◌among◌.later m) = go (among_cases e xs ys m)
    where
      go : (e among xs) ⊎ (e among ys) → (e among (x ∷ xs)) ⊎ (e among ys)
      go (inl k) = inl (◌among◌.later k)
      go (inr k) = inr k

  among-join : (e : A) (n : ℕ) (f : ℕ → List A) → e among join_below n f → (i : ℕ) × (i < n) × (e among f i)
  unfolding join_below
  among-join e zero f m = absurd (none-among e m)
  among-join e (suc n) f m = go (among_cases e (join_below n f) (f n) m) (λ k. among-join e n f k)
    where
      go : (e among join_below n f) ⊎ (e among f n) → (e among join_below n f → (i : ℕ) × (i < n) × (e among f i)) →
          (i : ℕ) × (i < suc n) × (e among f i)
      go (inl k) ih = let h = ih k in (h.0, omega (arith, h.1), h.2)
      go (inr k) ih = (n, omega arith, k)

  join-among : (e : A) (n : ℕ) (f : ℕ → List A) (i : ℕ) → i < n → e among f i → e among join_below n f
  unfolding join_below
  join-among e zero f i lt m = absurd (omega arith)
  join-among e (suc n) f i lt m = go (eqb i n) refl (λ l. join-among e n f i l m)
    where
      go : (b : Bool) → eqb i n ≡ b → (i < n → e among join_below n f) → e among (join_below n f ++ f n)
      go true q ih = among-right (join_below n f) (f n) (subst (λ k. e among f k) (eqb-true i n q) m)
      go false q ih = let d = eqb-false i n q in among-left (join_below n f) (f n) (ih (omega arith))

if-among : (b : Bool) (x f : ℕ) (e : Entry) → e among entry_if b x f → (b ≡ true) × (e ≡ move_to x f)
if-among true x f e (◌among◌.here q) = (refl, q)
if-among true x f e (◌among◌.later m) = absurd (none-among e m)
if-among false x f e m = absurd (none-among e m)

-- Rising lists.
abbrev Sorted : List Entry → Type 0
Sorted [] = Unit {0}
Sorted (e ∷ es) = All (Before e) es × Sorted es

sorted-append : (xs ys : List Entry) → Sorted xs → Sorted ys → All (λ x. All (Before x) ys) xs → Sorted (xs ++ ys)
sorted-append [] ys h g k = g
sorted-append (x ∷ xs) ys h g k = (all_append (Before x) xs ys h.0 k.0, sorted-append xs ys h.1 g k.1)

sorted-at : (es : List Entry) → Sorted es → (i j : ℕ) → i < j → j < length es → Before (entry_at es i) (entry_at es j)
sorted-at [] h i j lt l = absurd (omega arith)
sorted-at (e ∷ es) h zero zero lt l = absurd (omega arith)
sorted-at (e ∷ es) h zero (suc j) lt l = all-at (Before e) es (move_to 0 0) h.0 j (omega arith)
sorted-at (e ∷ es) h (suc i) zero lt l = absurd (omega arith)
sorted-at (e ∷ es) h (suc i) (suc j) lt l = sorted-at es h.1 i j (omega arith) (omega arith)

-- The entries of one signal.
abbrev OfSignal : ℕ → ℕ → Entry → Type 0
OfSignal x n e = (e.signal ≡ x) × (e.phase < n)

abbrev one : (ℕ → Bool) → ℕ → ℕ → List Entry
one g x f = entry_if (g f) x f

if-of : (b : Bool) (x f : ℕ) → All (OfSignal x (suc f)) (entry_if b x f)
if-of true x f = ((refl, omega arith), tt)
if-of false x f = tt

signal-of : (g : ℕ → Bool) (x n : ℕ) → All (OfSignal x n) (join_below n (one g x))
unfolding join_below
signal-of g x zero = tt
signal-of g x (suc n) =
    all_append (OfSignal x (suc n)) (join_below n (one g x)) (one g x n)
    (all_map (OfSignal x n) (OfSignal x (suc n)) (λ e h. (h.0, omega (arith, h.1))) (join_below n (one g x)) (signal-of g x n))
    (if-of (g n) x n)

sorted-if : (b : Bool) (x f : ℕ) → Sorted (entry_if b x f)
sorted-if true x f = (tt, tt)
sorted-if false x f = tt

before-if : (b : Bool) (x n : ℕ) (e : Entry) → OfSignal x n e → All (Before e) (entry_if b x n)
before-if true x n e h = (inr h, tt)
before-if false x n e h = tt

sorted-signal : (g : ℕ → Bool) (x n : ℕ) → Sorted (join_below n (one g x))
unfolding join_below
sorted-signal g x zero = tt
sorted-signal g x (suc n) =
    sorted-append (join_below n (one g x)) (one g x n) (sorted-signal g x n) (sorted-if (g n) x n)
    (all_map (OfSignal x n) (λ e. All (Before e) (one g x n)) (before-if (g n) x n) (join_below n (one g x)) (signal-of g x n))

-- The entries of all signals.
module _ (period : ℕ → ℕ) (g : ℕ → ℕ → Bool) where
  abbrev each : ℕ → List Entry
  each x = join_below (period x) (one (g x) x)

  below : (n : ℕ) → All (λ e. e.signal < n) (join_below n each)
  unfolding join_below
  below zero = tt
  below (suc n) =
      all_append (λ e. e.signal < suc n) (join_below n each) (each n)
      (all_map (λ e. e.signal < n) (λ e. e.signal < suc n) (λ e h. omega (arith, h)) (join_below n each) (below n))
      (all_map (OfSignal n (period n)) (λ e. e.signal < suc n) (λ e h. omega (arith, h.0)) (each n) (signal-of (g n) n (period
      n)))

  sorted_all : (n : ℕ) → Sorted (join_below n each)
  unfolding join_below
  sorted_all zero = tt
  sorted_all (suc n) =
      sorted-append (join_below n each) (each n) (sorted_all n) (sorted-signal (g n) n (period n))
      (all_map (λ e. e.signal < n) (λ e. All (Before e) (each n))
      (λ e h. all_map (OfSignal n (period n)) (Before e) (λ d k. inl (omega (arith, h, k.0))) (each n) (signal-of (g n) n
      (period n)))
      (join_below n each) (below n))

-- What is written of a list.
module _ (x y : ℕ) (l : List ℕ) where
  deeper : (j b : ℕ) → byte_at (x ∷ (y ∷ l)) (2 * suc j + b) ≡ byte_at l (2 * j + b)
  deeper j b = let z : 2 * suc j + b ≡ suc (suc (2 * j + b)) = omega arith in ap (byte_at (x ∷ (y ∷ l))) z

  deeper-even : (j : ℕ) → byte_at (x ∷ (y ∷ l)) (2 * suc j) ≡ byte_at l (2 * j)
  deeper-even j = let z : 2 * suc j ≡ suc (suc (2 * j)) = omega arith in ap (byte_at (x ∷ (y ∷ l))) z

written-to : (es : List Entry) (list : List ℕ) → WrittenTo es list (written es list)
unfolding written
written-to [] list = record { long = refl; whole = λ j lt le. absurd (omega arith); rest = λ j b lt h. refl }
written-to (e ∷ es) [] = record { long = refl; whole = λ j lt le. absurd (omega arith); rest = λ j b lt h. refl }
written-to (e ∷ es) (a ∷ []) = record { long = refl; whole = λ j lt le. absurd (omega arith); rest = λ j b lt h. refl }
written-to (e ∷ es) (a ∷ (c ∷ list)) = go (written-to es list)
  where
    go : WrittenTo es list (written es list) →
        WrittenTo (e ∷ es) (a ∷ (c ∷ list)) (e.signal ∷ (e.phase ∷ written es list))
    go w = record { long = ap (λ n. suc (suc n)) w.long; whole = whole; rest = rest }
      where
        whole : (j : ℕ) → j < length (e ∷ es) → 2 * j + 2 ≤ length (a ∷ (c ∷ list)) →
            (byte_at (e.signal ∷ (e.phase ∷ written es list)) (2 * j) ≡ (entry_at (e ∷ es) j).signal) ×
            (byte_at (e.signal ∷ (e.phase ∷ written es list)) (2 * j + 1) ≡ (entry_at (e ∷ es) j).phase)
        whole zero lt le = (refl, refl)
        whole (suc j) lt le =
            let h = w.whole j (omega arith) (omega arith) in (
              deeper-even e.signal e.phase (written es list) j ∙ h.0,
              deeper e.signal e.phase (written es list) j 1
                  ∙ h.1,
            )

        rest : (j b : ℕ) → b < 2 → (length (e ∷ es) ≤ j) ⊎ (length (a ∷ (c ∷ list)) < 2 * j + 2) →
            byte_at (e.signal ∷ (e.phase ∷ written es list)) (2 * j + b) ≡ byte_at (a ∷ (c ∷ list)) (2 * j + b)
        rest zero b lt (inl h) = absurd (omega arith)
        rest zero b lt (inr h) = absurd (omega arith)
        rest (suc j) b lt h =
            deeper e.signal e.phase (written es list) j b ∙ w.rest j b lt (less h) ∙ sym (deeper a c list j b)
          where
            less : (length (e ∷ es) ≤ suc j) ⊎ (length (a ∷ (c ∷ list)) < 2 * suc j + 2) → (length es ≤ j) ⊎ (length list < 2 *
                j + 2)
            less (inl k) = inl (omega arith)
            less (inr k) = inr (omega arith)

-- Two schedules of one program are one if order and phases are.
schedule-same : (p : Program) (s t : Schedule) → s.order ≡ t.order → length s.phases ≡ count p → length t.phases ≡ count
    p →
    ((y : ℕ) → y < count p → phase_of s y ≡ phase_of t y) → s ≡ t
schedule-same p s t o a b h =
    let q = ext_get_or 0 s.phases t.phases (a ∙ sym b) (λ i lt. h i (omega (arith, a))) in
    λ i. record { order = o i; phases = q i }

placed-long : (p : Program) (o : Parsed (List Put)) (s : Schedule) → placed p o ≡ accepted s → length s.phases ≡ count p
unfolding placed schedule_of
placed-long p o s e =
    let a = then-accepted _ _ s e in
    let b = then-accepted _ _ s a.2 in
    sym (ap (λ (r : Schedule). length r.phases) (accepted-same _ _ b.2)) ∙ table-length (count p) (put_phase o.value)

-- Two legal pairs of one program settle each open read alike exactly if it has the same index under both.
settles-alike : (program schedule schedule' : List ℕ) (p : Program) (s s' : Schedule) (h : ℕ) →
    LegalPair program schedule (record { program = p; schedule = s; hypercycle = h }) →
    LegalPair program schedule' (record { program = p; schedule = s'; hypercycle = h }) →
    SettlesAsBefore p s s' ↔ SettleAlike p s s'
settles-alike program schedule schedule' p s s' h legal legal' = (
  λ a r lr.
      among-all _ (body_reads (signal_at p r).body)
      (λ ρ m o. (index' r ρ (lr, m) (settled p s r ρ)).0
      ((a r ρ (lr, m) o (settled p s r ρ)).0 ((index r ρ (lr, m) (settled p s r ρ)).1 refl))),
  λ a r ρ w o i.
      let same = all_among _ (body_reads (signal_at p r).body) (a r w.0) ρ w.1 o in
      (λ t. (index' r ρ w i).1 ((index r ρ w i).0 t ∙ same), λ t. (index r ρ w i).1 ((index' r ρ w i).0 t ∙ sym same)),
)
  where
    index : (r : ℕ) (ρ : Read) → ReadIn p r ρ → (i : ℕ) → SettlesIn p s r ρ i ↔ (i ≡ settled p s r ρ)
    index = settled-exactly program schedule (record { program = p; schedule = s; hypercycle = h }) legal

    index' : (r : ℕ) (ρ : Read) → ReadIn p r ρ → (i : ℕ) → SettlesIn p s' r ρ i ↔ (i ≡ settled p s' r ρ)
    index' = settled-exactly program schedule' (record { program = p; schedule = s'; hypercycle = h }) legal'

module _ (program schedule : List ℕ) (q : Pair) (e : pair_of program schedule ≡ accepted q) where
  abbrev p : Program
  p = q.program

  abbrev s : Schedule
  s = q.schedule

  -- What may be taken may be gone to ..
  take-go : (x f : ℕ) → x < count p → f < (signal_at p x).period → may_take program schedule q x f ≡ true → MayGo program q x f
  unfolding may_take
  take-go x f lt below t = go (pair_of program (moved_text schedule s x f)) refl t
    where
      mv : (s' : Schedule) × Moved p s x f s' ×
          (pair_of program (moved_text schedule s x f) ≡
          (met p s' ▷ λ _. loaded p s' q.hypercycle ▷ λ _. timely p s' q.hypercycle ▷ λ _.
          accepted (record { program = p; schedule = s'; hypercycle = q.hypercycle })))
      mv = moved-pair program schedule q e x f lt below

      there : Pair
      there = record { program = p; schedule = mv.0; hypercycle = q.hypercycle }

      same : (q' : Pair) → pair_of program (moved_text schedule s x f) ≡ accepted q' → q' ≡ there
      same q' g =
          let a = then-accepted _ _ q' (sym mv.2 ∙ g) in
          let b = then-accepted _ _ q' a.2 in
          let c = then-accepted _ _ q' b.2 in
          sym (accepted-same _ _ c.2)

      go : (o : Outcome Pair) → pair_of program (moved_text schedule s x f) ≡ o → accepted_alike q o ≡ true → MayGo program q x f
      go (accepted q') g t =
          let z = same q' g in
          let legal = (Exact.accepted-exactly program (moved_text schedule s x f) there).0 (g ∙ ap accepted z) in
          let alike : settles_alike p s mv.0 ≡ true = sym (ap (λ (r : Pair). settles_alike p s r.schedule) z) ∙ t in
          record {
            schedule = moved_text schedule s x f;
            pair = there;
            legal = legal;
            only = record { order = mv.1.order_is; here = mv.1.here; others = mv.1.there };
            alike =
                (settles-alike program schedule (moved_text schedule s x f) p s mv.0 q.hypercycle
                ((Exact.accepted-exactly program schedule q).0 e) legal).1
                (λ r lr.
                all_map (λ ρ. settled p s r ρ ≡ settled p mv.0 r ρ) _ (λ ρ h o. h) (body_reads (signal_at p r).body)
                ((alike-decides p s mv.0).0 alike r lr));
          }
      go (refused k) g t = absurd (false≢true t)

  -- .. and the other way round.
  module _ (x f : ℕ) (lt : x < count p) (m : MayGo program q x f) where
    abbrev t : Schedule
    t = m.pair.schedule

    accepts : pair_of program m.schedule ≡ accepted m.pair
    accepts = (Exact.accepted-exactly program m.schedule m.pair).1 m.legal

    one-program : m.pair.program ≡ p
    one-program =
        accepted-same _ _ (sym (pair-passed program m.schedule m.pair accepts).parses ∙ (pair-passed program schedule q
        e).parses)

    one-cycle : m.pair.hypercycle ≡ q.hypercycle
    one-cycle =
        accepted-same _ _ (sym (pair-passed program m.schedule m.pair accepts).hyper ∙ ap hypercycle one-program ∙
        (pair-passed program schedule q e).hyper)

    abbrev q' : Pair
    q' = record { program = p; schedule = t; hypercycle = q.hypercycle }

    pub accepts-here : pair_of program m.schedule ≡ accepted q'
    accepts-here =
        accepts ∙ ap accepted (λ i. record { program = one-program i; schedule = t; hypercycle = one-cycle i })

    -- Each open read has the same index as before.
    pub settle-here : SettleAlike p s t
    settle-here =
        (settles-alike program schedule m.schedule p s t q.hypercycle ((Exact.accepted-exactly program schedule q).0 e)
        ((Exact.accepted-exactly program m.schedule q').0 accepts-here)).0 m.alike

    go-below : f < (signal_at p x).period
    go-below =
        subst (λ k. k < (signal_at p x).period) m.only.here
        ((pair-accepted program m.schedule q' accepts-here).ordered.phases x lt)

    go-take : may_take program schedule q x f ≡ true
    unfolding may_take
    go-take =
        let v = pair-passed program m.schedule q' accepts-here in
        let mv = moved-pair program schedule q e x f lt go-below in
        let z : mv.0 ≡ t = schedule-same p mv.0 t (mv.1.order_is ∙ sym m.only.order) mv.1.long
        (placed-long p v.puts t v.places) (λ y l. phases mv.0 mv.1 y l (eqb y x) refl) in
        ap (accepted_alike q)
        (mv.2 ∙ ap (λ (r : Schedule). met p r ▷ λ _. loaded p r q.hypercycle ▷ λ _. timely p r q.hypercycle ▷ λ _.
        accepted (record { program = p; schedule = r; hypercycle = q.hypercycle })) z ∙
        accepted-then _ _ tt v.meets ∙ accepted-then _ _ tt v.loads ∙ accepted-then _ _ tt v.times) ∙
        (alike-decides p s t).1 (open-alike p s t settle-here)
      where
        phases : (s' : Schedule) → Moved p s x f s' → (y : ℕ) → y < count p → (b : Bool) → eqb y x ≡ b → phase_of s' y ≡ phase_of
            t y
        phases s' mv y l true g = ap (phase_of s') (eqb-true y x g) ∙ mv.here ∙ sym m.only.here ∙ sym (ap (phase_of t)
            (eqb-true y x g))
        phases s' mv y l false g = mv.there y l (eqb-false y x g) ∙ sym (m.only.others y l (eqb-false y x g))

  -- A signal may stay where it is.
  stays : (x : ℕ) → MayGo program q x (phase_of s x)
  stays x =
      record {
        schedule = schedule;
        pair = q;
        legal = (Exact.accepted-exactly program schedule q).0 e;
        only = record { order = refl; here = refl; others = λ y l d. refl };
        alike = λ r ρ w o i. (λ h. h, λ h. h);
      }

  -- The entries are the moves.
  entries-exactly : (x f : ℕ) → (move_to x f among all_entries program schedule q) ↔ ((x < count p) × MayGo program q x f)
  unfolding all_entries entries_of
  entries-exactly x f = (
    λ k.
        let a = among-join (move_to x f) (count p) _ k in
        let b = among-join (move_to x f) (signal_at p a.0).period _ a.2 in
        let c = if-among (may_take program schedule q a.0 b.0) a.0 b.0 (move_to x f) b.2 in
        let zx : a.0 ≡ x = sym (ap (λ (d : Entry). d.signal) c.1) in
        let zf : b.0 ≡ f = sym (ap (λ (d : Entry). d.phase) c.1) in
        let lx : x < count p = subst (λ y. y < count p) zx a.1 in
        let lf : f < (signal_at p x).period = subst₂ (λ y z. z < (signal_at p y).period) zx zf b.1 in
        (lx, take-go x f lx lf (subst₂ (λ y z. may_take program schedule q y z ≡ true) zx zf c.0)),
    λ (lx, m).
        join-among (move_to x f) (count p) _ x lx
        (join-among (move_to x f) (signal_at p x).period _ f (go-below x f lx m)
        (subst (λ b. move_to x f among entry_if b x f) (sym (go-take x f lx m)) (◌among◌.here refl))),
  )

  entries-rising : (i j : ℕ) → i < j → j < length (all_entries program schedule q) →
      Before (entry_at (all_entries program schedule q) i) (entry_at (all_entries program schedule q) j)
  unfolding all_entries entries_of
  entries-rising =
      sorted-at (join_below (count p) (each (λ x. (signal_at p x).period) (may_take program schedule q)))
      (sorted_all (λ x. (signal_at p x).period) (may_take program schedule q) (count p))

  -- The list of an accepted pair.
  pub lists : (list : List ℕ) →
      ListsMoves program q list (length (all_entries program schedule q)) (written (all_entries program schedule q) list)
  lists list =
      record {
        entries = all_entries program schedule q;
        exactly = entries-exactly;
        present = λ x lt. (entries-exactly x _).1 (lt, stays x);
        rising = entries-rising;
        full = refl;
        left_is = written-to (all_entries program schedule q) list;
      }

-- What `moves` answers and leaves, by the pair's answer.
module _ (program schedule list : List ℕ) where
  abbrev pub moves_by : Outcome Pair → Effect ℕ ℕ
  moves_by o =
      effect list (o ▷ λ q. accepted (record {
        yields = length (all_entries program schedule q);
        leaves = written (all_entries program schedule q) list;
      }))

  pub refuses : (counts : List ℕ) (o : Outcome Pair) (f : Fault) →
      ((moves_by o).answer ≡ refused f) ↔ ((effect counts (o ▷ λ q. accepted (needs_of q))).answer ≡ refused f)
  unfolding ◌▷◌
  refuses counts (accepted q) f =
      ((λ e. let z : ◌≡◌ {A = ℕ} 0 1 = cc in absurd (omega arith)), (λ e. let z : ◌≡◌ {A = ℕ} 0 1 = cc in absurd (omega arith)))
  refuses counts (refused g) f = (
    (λ e. let same : g ≡ f = cc in ap refused same),
    (λ e. let same : g ≡ f = cc in ap refused same),
  )

  pub keeps : (o : Outcome Pair) (f : Fault) → (moves_by o).answer ≡ refused f → (moves_by o).left ≡ list
  unfolding ◌▷◌
  keeps (accepted q) f e = let z : ◌≡◌ {A = ℕ} 0 1 = cc in absurd (omega arith)
  keeps (refused g) f e = refl
