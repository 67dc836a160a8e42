-- Spans of numbers lo i .. hi i for i below n, within 0 .. top: when they cover, by their ends alone. Assumes nothing.
use mathlib.Core.Path.{◌≡◌, refl, ap}
use mathlib.Core.Logic.{◌⊎◌, inl, inr, ⊎_elim}
use Prim.Native.Nat.{ℕ, zero, suc, ◌+◌, ◌-◌, ◌≤◌, ◌<◌}
use native.Mathlib.Decide.{dec_lt}
use native.Mathlib.Omega.{arith}

module _ (n : ℕ) (lo hi : ℕ → ℕ) (top : ℕ) where
  -- k lies in span i
  abbrev pub In : ℕ → ℕ → Type 0
  In k i = (i < n) × (lo i ≤ k) × (k ≤ hi i)

  -- a span starts at k
  abbrev pub Starts : ℕ → Type 0
  Starts k = (i : ℕ) × (i < n) × (lo i ≡ k)

  -- the ends: a span starts at 0, and after each span's end another starts, up to the top
  pub record Ends : Type 0 where
    pub starts : Starts 0
    pub steps : (i : ℕ) → i < n → (hi i ≡ top) ⊎ Starts (suc (hi i))

  abbrev pub Up : Type 0
  Up = (i : ℕ) → i < n → (lo i ≤ hi i) × (hi i ≤ top)

  abbrev pub Full : Type 0
  Full = (k : ℕ) → k ≤ top → (i : ℕ) × In k i

  abbrev pub Apart : Type 0
  Apart = (i j : ℕ) → i < j → j < n → (hi i < lo j) ⊎ (hi j < lo i)

  -- ends that join cover every number
  pub ends-full : Up → Ends → Full
  ends-full up e zero h = let s = e.starts in (s.0, (s.1, omega arith, omega arith))
  ends-full up e (suc k) h = step (ends-full up e k (omega arith))
    where
      step : (i : ℕ) × In k i → (i : ℕ) × In (suc k) i
      step p = go (dec_lt k (hi p.0))
        where
          go : Dec (k < hi p.0) → (i : ℕ) × In (suc k) i
          go (yes l) = (p.0, (p.1.0, omega arith, omega arith))
          go (no l) =
              ⊎_elim (λ t. absurd (omega arith)) (λ s. (s.0, (s.1, omega arith, omega (arith, up s.0 s.1))))
              (e.steps p.0 p.1.0)

  -- of spans with no number in common, the one with the number after another's end starts there
  pub after-end : Up → Apart → (i j : ℕ) → i < n → In (suc (hi i)) j → lo j ≡ suc (hi i)
  after-end up apart i j li s = go (dec_lt i j) (dec_lt j i)
    where
      go : Dec (i < j) → Dec (j < i) → lo j ≡ suc (hi i)
      go (yes l) m = ⊎_elim (λ p. omega arith) (λ p. absurd (omega (arith, up i li, up j s.0))) (apart i j l s.0)
      go (no l) (yes m) = ⊎_elim (λ p. absurd (omega (arith, up i li, up j s.0))) (λ p. omega arith) (apart j i m li)
      go (no l) (no m) = let e : i ≡ j = omega arith in let f : hi i ≡ hi j = ap hi e in absurd (omega arith)

  -- spans that cover, no two with a number in common, have ends that join
  pub full-ends : Up → Apart → Full → Ends
  full-ends up apart full =
      record { starts = let s = full 0 (omega arith) in (s.0, s.1.0, omega arith); steps = λ i l. at i l (dec_lt (hi i) top) }
    where
      at : (i : ℕ) → i < n → Dec (hi i < top) → (hi i ≡ top) ⊎ Starts (suc (hi i))
      at i l (no h) = inl (omega (arith, up i l))
      at i l (yes h) = let s = full (suc (hi i)) h in inr (s.0, s.1.0, after-end up apart i s.0 l s.1)

  -- where span i starts in a chain
  abbrev pub next : ℕ → ℕ
  next zero = 0
  next (suc i) = suc (hi i)

  -- each span starts where the one before ended, the first at 0, the last ending at the top
  pub record Sequence : Type 0 where
    pub each : (i : ℕ) → i < n → lo i ≡ next i
    pub last : next n ≡ suc top

  abbrev pub Rises : Type 0
  Rises = (i : ℕ) → suc i < n → lo i < lo (suc i)

  some : Sequence → 0 < n
  some c = go (dec_lt 0 n)
    where
      go : Dec (0 < n) → 0 < n
      go (yes l) = l
      go (no l) = let e : n ≡ 0 = omega arith in let f : next n ≡ 0 = ap next e in absurd (omega (arith, c.last))

  pub chain-ends : Sequence → Ends
  chain-ends c =
      record { starts = (0, some c, c.each 0 (some c)); steps = λ i l. at i (dec_lt (suc i) n) l }
    where
      at : (i : ℕ) → Dec (suc i < n) → i < n → (hi i ≡ top) ⊎ Starts (suc (hi i))
      at i (yes m) l = inr (suc i, m, c.each (suc i) m)
      at i (no m) l = let e : n ≡ suc i = omega arith in let f : next n ≡ suc (hi i) = ap next e in inl (omega (arith, c.last))

  -- what lies between two spans of a chain
  below : Up → Sequence → (i d : ℕ) → suc (i + d) < n → hi i < lo (suc (i + d))
  below up c i zero l = let e : i + 0 ≡ i = omega arith in let f : lo (suc (i + 0)) ≡ suc (hi (i + 0)) = c.each (suc (i + 0))
      l in
      let g : hi (i + 0) ≡ hi i = ap hi e in omega arith
  below up c i (suc d) l =
      let m : suc (i + d) < n = omega arith in
      let e : i + suc d ≡ suc (i + d) = omega arith in
      let f : lo (suc (i + suc d)) ≡ suc (hi (i + suc d)) = c.each (suc (i + suc d)) l in
      let g : hi (i + suc d) ≡ hi (suc (i + d)) = ap hi e in omega (arith, below up c i d m, up (suc (i + d)) m)

  pub chain-below : Up → Sequence → (i j : ℕ) → i < j → j < n → hi i < lo j
  chain-below up c i j l m =
      let e : suc (i + (j - suc i)) ≡ j = omega arith in
      let b : hi i < lo (suc (i + (j - suc i))) = below up c i (j - suc i) (omega arith) in
      let f : lo (suc (i + (j - suc i))) ≡ lo j = ap lo e in omega arith

  pub chain-apart : Up → Sequence → Apart
  chain-apart up c i j l m = inl (chain-below up c i j l m)

  pub chain-rises : Up → Sequence → Rises
  chain-rises up c i l = omega (arith, chain-below up c i (suc i) (omega arith) l, up i (omega arith))

  -- rising lows, over any distance
  far : Rises → (i d : ℕ) → suc (i + d) < n → lo i < lo (suc (i + d))
  far r i zero l = let e : lo (suc (i + 0)) ≡ lo (suc i) = ap (λ k. lo (suc k)) (omega arith) in omega (arith, r i (omega arith))
  far r i (suc d) l =
      let m : suc (suc (i + d)) < n = omega arith in
      let e : lo (suc (i + suc d)) ≡ lo (suc (suc (i + d))) = ap (λ k. lo (suc k)) (omega arith) in
      omega (arith, far r i d (omega arith), r (suc (i + d)) m)

  pub rises-far : Rises → (i j : ℕ) → i < j → j < n → lo i < lo j
  rises-far r i j l m =
      let b : lo i < lo (suc (i + (j - suc i))) = far r i (j - suc i) (omega arith) in
      let f : lo (suc (i + (j - suc i))) ≡ lo j = ap lo (omega arith) in omega arith

  -- rising spans that cover are a chain
  pub ends-chain : Up → Apart → Rises → Ends → Sequence
  ends-chain up apart r e = record { each = λ i l. each i l; last = last n refl }
    where
      -- of two spans of which the second starts later, the first ends before it
      clear : (i j : ℕ) → i < j → j < n → hi i < lo j
      clear i j l m = ⊎_elim (λ p. p) (λ p. absurd (omega (arith, rises-far r i j l m, up j m))) (apart i j l m)

      each : (i : ℕ) → i < n → lo i ≡ next i
      each zero l = let s = e.starts in go s (dec_lt 0 s.0)
        where
          go : (s : Starts 0) → Dec (0 < s.0) → lo 0 ≡ 0
          go s (yes m) = absurd (omega (arith, rises-far r 0 s.0 m s.1))
          go s (no m) = let q : lo 0 ≡ lo s.0 = ap lo (omega arith) in omega arith
      each (suc i) l = ⊎_elim (λ t. absurd (omega (arith, clear i (suc i) (omega arith) l, up (suc i) l)))
          (λ s. go s (dec_lt (suc i) s.0) (dec_lt s.0 (suc i))) (e.steps i (omega arith))
        where
          go : (s : Starts (suc (hi i))) → Dec (suc i < s.0) → Dec (s.0 < suc i) → lo (suc i) ≡ suc (hi i)
          go s (yes a) b = absurd (omega (arith, clear i (suc i) (omega arith) l, rises-far r (suc i) s.0 a s.1))
          go s (no a) (yes b) = absurd (before (dec_lt s.0 i))
            where
              before : Dec (s.0 < i) → ⊥
              before (yes c) = omega (arith, rises-far r s.0 i c (omega arith), up i (omega arith))
              before (no c) = let q : lo s.0 ≡ lo i = ap lo (omega arith) in omega (arith, up i (omega arith))
          go s (no a) (no b) = let q : lo (suc i) ≡ lo s.0 = ap lo (omega arith) in omega arith

      last : (m : ℕ) → m ≡ n → next m ≡ suc top
      last zero q = let s = e.starts in absurd (omega arith)
      last (suc m) q = ⊎_elim (λ t. ap suc t) (λ s. absurd (go s (dec_lt s.0 m))) (e.steps m (omega arith))
        where
          go : (s : Starts (suc (hi m))) → Dec (s.0 < m) → ⊥
          go s (yes c) = omega (arith, rises-far r s.0 m c (omega arith), up m (omega arith))
          go s (no c) = let p : lo s.0 ≡ lo m = ap lo (omega arith) in omega (arith, up m (omega arith))
