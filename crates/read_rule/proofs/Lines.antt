-- The lines of the five reads in their one form. Assumes nothing.
use Rattle.std.specs.Prelude.{Some, None}
use Prim.Native.Nat.{ℕ, suc, ◌+◌, ◌*◌, ◌-◌, ◌≤◌, ◌<◌}
use mathlib.Core.Bool.{Bool, true, false, cond, not, ◌&&◌, ◌||◌, beq, false≢true, and-eq-true_iff}
use mathlib.Core.Logic.{◌↔◌}
use mathlib.Core.Path.{◌≡◌, refl, sym, ap, ◌∙◌}
use native.Mathlib.Decide.{dec_le}
use native.Mathlib.Nat.{mul-le-mul_right}
use native.Mathlib.Omega.{arith}
use borrow.Author.Tests.{leb-true, le-leb, eqb-true, eq-eqb, ne_eqb}
use lib.Dec.{leb, eqb}
use Rattle.model.specs.Says.Feasible.{Between, PeriodRule, Line}
use Rattle.model.specs.Rules.Reads.{Rate, between, line, settle, share, ordered, run_cycle, writer_first}
use Rattle.model.specs.Rules.Search.{first_below}
use Rattle.model.specs.declared.Index.{Index}
use Rattle.model.specs.declared.Index.TheVariants.{Fixed, Open}
use Rattle.model.specs.declared.Kind.{Kind}
use Rattle.model.specs.declared.Kind.TheVariants.{Now, Last, When, LastWhen, Current}
use Rattle.model.proofs.Basics.Tests.{together}
use Rattle.model.proofs.Pairs.Decide.{between-true, true-between, line-true, settle-line, share-runs, runs-share}
use Rattle.read_rule.specs.Lines.{is_current, is_before, line_in, number_at, meets_at, found_on}
use Rattle.read_rule.specs.Reads.{rate_in, index_by, met_at, moved_met}
use Rattle.read_rule.specs.declared.Timing.{Timing}

same-between : (a x b d y e : ℕ) → (Between a x b → Between d y e) → (Between d y e → Between a x b) →
    between a x b ≡ between d y e
same-between a x b d y e f g =
    together _ _ (λ h. true-between d y e (f (between-true a x b h))) (λ h. true-between a x b (g (between-true d y e h)))

between-leb : (a x b d y : ℕ) → (Between a x b → d ≤ y) → (d ≤ y → Between a x b) → between a x b ≡ leb d y
between-leb a x b d y f g =
    together _ _ (λ h. le-leb d y (f (between-true a x b h))) (λ h. true-between a x b (g (leb-true d y h)))

-- What is less than a period, and a multiple of it.
whole : (a b period d : ℕ) → a * period ≡ b * period + d → d < period → d ≡ 0
whole a b period d e lt = go (dec_le a b)
  where
    go : Dec (a ≤ b) → d ≡ 0
    go (yes h) = let g : a * period ≤ b * period = mul-le-mul_right period h in omega arith
    go (no h) = let g : suc b * period ≤ a * period = mul-le-mul_right period (omega arith) in absurd (omega arith)

module _ (w r : Timing) (bw : w.phase < 256) (br : r.phase < 256) where
  pub meets-line : (kind : Kind) (i : ℕ) → meets_at (line_in kind w r) i ≡ line kind (rate_in w) (rate_in r) i
  unfolding line_in meets_at
  meets-line Now i =
      between-leb r.phase (w.phase + 255 + i * 0) (r.phase + 256) w.phase r.phase (λ h. omega arith) (λ h. omega arith)
  meets-line Last i =
      between-leb r.phase (w.phase + 0 + i * 0) (r.phase + 256) r.phase w.phase (λ h. omega arith) (λ h. omega arith)
  meets-line When i =
      same-between r.phase (w.phase + (w.period - 1) + i * w.period) (r.phase + w.period) (i * w.period + w.phase)
      r.phase
      (suc i * w.period + w.phase) (λ h. omega arith) (λ h. omega arith)
  meets-line LastWhen i =
      same-between r.phase (w.phase + 0 + i * w.period) (r.phase + w.period) r.phase (i * w.period + w.phase)
      (r.phase + w.period) (λ h. omega arith) (λ h. omega arith)
  meets-line Current i =
      same-between w.phase (r.phase + 0 + i * r.period) (w.phase + r.period) w.phase (i * r.period + r.phase)
      (w.phase + r.period) (λ h. omega arith) (λ h. omega arith)

  -- The search on the line finds the index of the read.
  pub found-is : (kind : Kind) (n : ℕ) (index : Index) →
      found_on (line_in kind w r) n index ≡ index_by kind (rate_in w) (rate_in r) n index
  unfolding settle
  found-is kind n (Fixed i) = rw (meets-line kind i)
  found-is kind n Open = λ j. first_below n (λ i. meets-line kind i j)

-- The line holds at the index found.
pub index-line : (kind : Kind) (w r : Rate) (n i : ℕ) (index : Index) → index_by kind w r n index ≡ Some i → Line kind w r i
index-line kind w r n i (Fixed k) e = go (line kind w r k) refl e
  where
    go : (b : Bool) → line kind w r k ≡ b → cond b (Some k) None ≡ Some i → Line kind w r i
    go true t q = let z : k ≡ i = cc in rw z at (line-true kind w r k t)
    go false t q = let z : ◌≡◌ {A = ℕ} 0 1 = cc in absurd (omega arith)
index-line kind w r n i Open e = (settle-line kind w r n i e).1

module _ (w r : Timing) (vw : w.phase < w.period) (vr : r.phase < r.period) where
  shares : (kind : Kind) (n a b : ℕ) → 0 < n → PeriodRule kind w.period r.period n →
      (a ≡ b → (j k : ℕ) × (run_cycle (rate_in w) j ≡ run_cycle (rate_in r) k)) →
      ((j k : ℕ) → run_cycle (rate_in w) j ≡ run_cycle (rate_in r) k → a ≡ b) → eqb a b ≡ share (rate_in w) (rate_in r)
  shares kind n a b pos p f g =
      together _ _
      (λ h. let q = f (eqb-true a b h) in share-runs kind (rate_in w) (rate_in r) n q.0 q.1 pos p q.2)
      (λ h. let q = runs-share (rate_in w) (rate_in r) vw vr h in eq-eqb a b (g q.0 q.1 q.2))

  -- Runs share a cycle where the number is `ahead` after the cycle.
  pub share-is : (kind : Kind) (n i : ℕ) → 0 < n → PeriodRule kind w.period r.period n → Line kind (rate_in w) (rate_in r) i →
      eqb (number_at (line_in kind w r) i) ((line_in kind w r).cycle + (line_in kind w r).ahead) ≡ share (rate_in w) (rate_in r)
  unfolding line_in
  share-is Now n i pos p l =
      shares Now n (w.phase + 255 + i * 0) (r.phase + 255) pos p (λ h. (0, 0, omega arith))
      (λ j k e. let d = r.phase - w.phase in omega (arith, whole j k w.period d (omega (arith, ap (k *◌) p)) (omega arith)))
  share-is Last n i pos p l =
      shares Last n (w.phase + 0 + i * 0) (r.phase + 0) pos p (λ h. (0, 0, omega arith))
      (λ j k e. let d = w.phase - r.phase in omega (arith, whole k j w.period d (omega (arith, ap (k *◌) p)) (omega arith)))
  share-is When n i pos p l =
      shares When n (w.phase + (w.period - 1) + i * w.period) (r.phase + (w.period - 1)) pos p (λ h. (i, 0, omega arith))
      (λ j k e.
      let d = r.phase - (i * w.period + w.phase) in
      omega (arith, whole j (k * n + i) w.period d (omega (arith, ap (k *◌) p)) (omega arith)))
  share-is LastWhen n i pos p l =
      shares LastWhen n (w.phase + 0 + i * w.period) (r.phase + 0) pos p (λ h. (i, 0, omega arith))
      (λ j k e.
      let d = i * w.period + w.phase - r.phase in
      omega (arith, whole (k * n + i) j w.period d (omega (arith, ap (k *◌) p)) (omega arith)))
  share-is Current n i pos p l =
      shares Current n (r.phase + 0 + i * r.period) (w.phase + 0) pos p (λ h. (0, i, omega arith))
      (λ j k e.
      let d = i * r.period + r.phase - w.phase in
      omega (arith, whole (j * n + i) k r.period d (omega (arith, ap (j *◌) p)) (omega arith)))

-- The numbers of a line, without the one at which runs share a cycle where they are put the wrong way round (g is false).
abbrev pub wrong : Bool → ℕ
wrong g = cond g 0 1

numbers : (c x s : ℕ) (b g : Bool) →
    ((between c x (c + s) && (not (eqb x (c + cond b (s - 1) 0)) || g)) ≡ true) ↔
    ((c + cond b 0 (wrong g) ≤ x) × (x + cond b (wrong g) 0 < c + s))
numbers c x s b g = (λ e. there b g e, λ h. back b g h)
  where
    apart : (d : ℕ) → (not (eqb x d) || false) ≡ true → ¬ (x ≡ d)
    apart d e q = false≢true (sym (ap (λ t. not t || false) (eq-eqb x d q)) ∙ e)

    there : (b g : Bool) → (between c x (c + s) && (not (eqb x (c + cond b (s - 1) 0)) || g)) ≡ true →
        (c + cond b 0 (wrong g) ≤ x) × (x + cond b (wrong g) 0 < c + s)
    there true true e = let h = between-true c x (c + s) ((and-eq-true_iff _ _).0 e).0 in (
      omega (arith, h.0),
      omega (
        arith,
        h.1,
      ),
    )
    there false true e = let h = between-true c x (c + s) ((and-eq-true_iff _ _).0 e).0 in (
      omega (arith, h.0),
      omega (
        arith,
        h.1,
      ),
    )
    there true false e =
        let q = (and-eq-true_iff _ _).0 e in
        let h = between-true c x (c + s) q.0 in
        (omega (arith, h.0), omega (arith, h.1, apart (c + (s - 1)) q.1))
    there false false e =
        let q = (and-eq-true_iff _ _).0 e in
        let h = between-true c x (c + s) q.0 in
        (omega (arith, h.0, apart (c + 0) q.1), omega (arith, h.1))

    or-true : (t : Bool) → (t || true) ≡ true
    or-true true = refl
    or-true false = refl

    free : (d : ℕ) → ¬ (x ≡ d) → (not (eqb x d) || false) ≡ true
    free d h = ap (λ t. not t || false) (ne_eqb x d h)

    back : (b g : Bool) → (c + cond b 0 (wrong g) ≤ x) × (x + cond b (wrong g) 0 < c + s) →
        (between c x (c + s) && (not (eqb x (c + cond b (s - 1) 0)) || g)) ≡ true
    back true true h =
        (and-eq-true_iff _ _).1
        (true-between c x (c + s) (omega (arith, h.0), omega (arith, h.1)), or-true (not (eqb x (c + (s - 1)))))
    back false true h =
        (and-eq-true_iff _ _).1
        (true-between c x (c + s) (omega (arith, h.0), omega (arith, h.1)), or-true (not (eqb x (c + 0))))
    back true false h =
        (and-eq-true_iff _ _).1
        (true-between c x (c + s) (omega (arith, h.0), omega (arith, h.1)), free (c + (s - 1)) (λ q. omega (arith, h.0, h.1)))
    back false false h =
        (and-eq-true_iff _ _).1
        (true-between c x (c + s) (omega (arith, h.0), omega (arith, h.1)), free (c + 0) (λ q. omega (arith, h.0, h.1)))

module _ (w r : Timing) (vw : w.phase < w.period) (vr : r.phase < r.period) (bw : w.phase < 256) (br : r.phase < 256) where
  -- A read is met at index i by the number of the index.
  met-numbers : (kind : Kind) (n i : ℕ) (before : Bool) → 0 < n → PeriodRule kind w.period r.period n →
      let l = line_in kind w r in
      let g = beq before (writer_first kind) in
      (met_at kind (rate_in w) (rate_in r) i before ≡ true) ↔
      ((l.cycle + cond (is_before kind) 0 (wrong g) ≤ number_at l i) ×
      (number_at l i + cond (is_before kind) (wrong g) 0 < l.cycle + l.step))
  unfolding line_in meets_at ordered
  met-numbers kind n i before pos rule =
      let l = line_in kind w r in
      let g = beq before (writer_first kind) in
      let both = numbers l.cycle (number_at l i) l.step (is_before kind) g in
      let met = meets-line w r bw br kind i in (
        λ e.
            let f = (and-eq-true_iff _ _).0 e in
            let s = share-is w r vw vr kind n i pos rule (line-true kind (rate_in w) (rate_in r) i f.0) in
            both.0 ((and-eq-true_iff _ _).1 (met ∙ f.0, ap (λ t. not t || g) s ∙ f.1)),
        λ h.
            let f = (and-eq-true_iff _ _).0 (both.1 h) in
            let line-here = sym met ∙ f.0 in
            let s = share-is w r vw vr kind n i pos rule (line-true kind (rate_in w) (rate_in r) i line-here) in
            (and-eq-true_iff _ _).1 (line-here, ap (λ t. not t || g) (sym s) ∙ f.1),
      )

-- The phases of one signal at which a read is met at index i, by the line before it moves: of the signal whose runs are
-- counted ..
module _ (w r : Timing) (vw : w.phase < w.period) (vr : r.phase < r.period) (bw : w.phase < 256) (br : r.phase < 256) where
  abbrev moved : Timing → ℕ → Timing
  moved a f = record { period = a.period; phase = f }

  pub counted-moves : (reader : Bool) (kind : Kind) (n i f : ℕ) (before : Bool) → beq reader (is_current kind) ≡ true →
      0 < n → PeriodRule kind w.period r.period n → f < cond reader r.period w.period → f < 256 →
      let l = line_in kind w r in
      let g = beq before (writer_first kind) in
      Between (l.cycle + cond (is_before kind) 0 (wrong g) - (l.ahead + i * l.stride)) f
      (l.cycle + l.step - (l.ahead + i * l.stride + cond (is_before kind) (wrong g) 0)) ↔
      (moved_met reader kind (rate_in w) (rate_in r) i before f ≡ true)
  unfolding line_in
  counted-moves true Now n i f before e pos rule lt b = absurd (false≢true e)
  counted-moves true Last n i f before e pos rule lt b = absurd (false≢true e)
  counted-moves true When n i f before e pos rule lt b = absurd (false≢true e)
  counted-moves true LastWhen n i f before e pos rule lt b = absurd (false≢true e)
  counted-moves true Current n i f before e pos rule lt b =
      let m = met-numbers w (moved r f) vw lt bw b Current n i before pos rule in
      (λ h. m.1 (omega (arith, h.0), omega (arith, h.1)), λ t. let q = m.0 t in (omega (arith, q.0), omega (arith, q.1)))
  counted-moves false Now n i f before e pos rule lt b =
      let m = met-numbers (moved w f) r lt vr b br Now n i before pos rule in
      (λ h. m.1 (omega (arith, h.0), omega (arith, h.1)), λ t. let q = m.0 t in (omega (arith, q.0), omega (arith, q.1)))
  counted-moves false Last n i f before e pos rule lt b =
      let m = met-numbers (moved w f) r lt vr b br Last n i before pos rule in
      (λ h. m.1 (omega (arith, h.0), omega (arith, h.1)), λ t. let q = m.0 t in (omega (arith, q.0), omega (arith, q.1)))
  counted-moves false When n i f before e pos rule lt b =
      let m = met-numbers (moved w f) r lt vr b br When n i before pos rule in
      (λ h. m.1 (omega (arith, h.0), omega (arith, h.1)), λ t. let q = m.0 t in (omega (arith, q.0), omega (arith, q.1)))
  counted-moves false LastWhen n i f before e pos rule lt b =
      let m = met-numbers (moved w f) r lt vr b br LastWhen n i before pos rule in
      (λ h. m.1 (omega (arith, h.0), omega (arith, h.1)), λ t. let q = m.0 t in (omega (arith, q.0), omega (arith, q.1)))
  counted-moves false Current n i f before e pos rule lt b = absurd (false≢true e)

  -- .. and of the other.
  pub other-moves : (reader : Bool) (kind : Kind) (n i f : ℕ) (before : Bool) → beq reader (is_current kind) ≡ false →
      0 < n → PeriodRule kind w.period r.period n → f < cond reader r.period w.period → f < 256 →
      let l = line_in kind w r in
      let g = beq before (writer_first kind) in
      Between (number_at l i + cond (is_before kind) (wrong g) 0 + 1 - l.step) f
      (number_at l i + 1 - cond (is_before kind) 0 (wrong g)) ↔
      (moved_met reader kind (rate_in w) (rate_in r) i before f ≡ true)
  unfolding line_in
  other-moves true Now n i f before e pos rule lt b =
      let m = met-numbers w (moved r f) vw lt bw b Now n i before pos rule in
      (λ h. m.1 (omega (arith, h.1), omega (arith, h.0)), λ t. let q = m.0 t in (omega (arith, q.1), omega (arith, q.0)))
  other-moves true Last n i f before e pos rule lt b =
      let m = met-numbers w (moved r f) vw lt bw b Last n i before pos rule in
      (λ h. m.1 (omega (arith, h.1), omega (arith, h.0)), λ t. let q = m.0 t in (omega (arith, q.1), omega (arith, q.0)))
  other-moves true When n i f before e pos rule lt b =
      let m = met-numbers w (moved r f) vw lt bw b When n i before pos rule in
      (λ h. m.1 (omega (arith, h.1), omega (arith, h.0)), λ t. let q = m.0 t in (omega (arith, q.1), omega (arith, q.0)))
  other-moves true LastWhen n i f before e pos rule lt b =
      let m = met-numbers w (moved r f) vw lt bw b LastWhen n i before pos rule in
      (λ h. m.1 (omega (arith, h.1), omega (arith, h.0)), λ t. let q = m.0 t in (omega (arith, q.1), omega (arith, q.0)))
  other-moves true Current n i f before e pos rule lt b = absurd (false≢true (sym e))
  other-moves false Now n i f before e pos rule lt b = absurd (false≢true (sym e))
  other-moves false Last n i f before e pos rule lt b = absurd (false≢true (sym e))
  other-moves false When n i f before e pos rule lt b = absurd (false≢true (sym e))
  other-moves false LastWhen n i f before e pos rule lt b = absurd (false≢true (sym e))
  other-moves false Current n i f before e pos rule lt b =
      let m = met-numbers (moved w f) r lt vr b br Current n i before pos rule in
      (λ h. m.1 (omega (arith, h.1), omega (arith, h.0)), λ t. let q = m.0 t in (omega (arith, q.1), omega (arith, q.0)))
