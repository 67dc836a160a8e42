-- Run lists written by signal. Assumes nothing.
use Prim.Native.Nat.{ℕ, zero, suc, ◌+◌, ◌-◌, ◌≤◌, ◌<◌}
use mathlib.Core.Bool.{true, false, cond}
use mathlib.Core.List.{List, [], ◌∷◌, ◌++◌, append_assoc}
use mathlib.Core.Path.{◌≡◌, refl, sym, ap, subst, ◌∙◌}
use native.Mathlib.Decide.{dec_le, dec_lt}
use native.Mathlib.Omega.{arith}
use borrow.Author.Tests.{lt-ltb, le-ltb}
use lib.Dec.{ltb}
use lib.ListN.{length, get_or, set, length-set, length-append, get_or-append}
use lib.Seq.{sets, length-sets, get_or-append-add, get_or-set_same, get_or-set_other, ext_get_or}
use Rattle.runs.proofs.Runs.{due-before, due-between}
use Rattle.model.specs.Rules.Image.{joined}
use Rattle.model.specs.Rules.Reads.{Rate, due}
use Rattle.model.specs.Rules.Search.{table}
use Rattle.model.specs.Rules.Writing.{Wrote}
use Rattle.model.proofs.Basics.Left.{parts-length}
use Rattle.text_program.proofs.Sums.{sets-before, sets-inside}
use Rattle.image_write.specs.Cursors.{lists_after, Stands, StartsOf, Pending, Splits}
use Rattle.image_write.specs.Lists.{run_entry}
use Rattle.image_write.proofs.Joined.{joined_from, joined-starts, joined_step, joined-ends}

sets-beyond : (l : List ℕ) (n : ℕ) (xs : List ℕ) (i : ℕ) → n + length xs ≤ i → get_or (sets l n xs) i 0 ≡ get_or l i 0
sets-beyond l n [] i h = refl
sets-beyond l n (x ∷ xs) i h =
    sets-beyond (set l n x) (suc n) xs i (omega arith) ∙ get_or-set_other l n i x 0 (λ e. omega arith)

same_or : {P : Type 0} (a b : ℕ) → (a ≡ b → P) → ((a ≡ b → ⊥) → P) → P
same_or {P} a b f g = go (dec_le a b) (dec_le b a)
  where
    go : Dec (a ≤ b) → Dec (b ≤ a) → P
    go (yes h) (yes k) = f (omega arith)
    go (yes h) (no k) = g (λ e. omega arith)
    go (no h) k = g (λ e. omega arith)

module _ {all l : List ℕ} {to h : ℕ} {after : ℕ → ℕ} {out nexts : List ℕ} where
  pub pending-same : {old new : ℕ → List ℕ} → ((c : ℕ) → c < h → old c ≡ new c) → Pending all l to h after old out nexts →
      Pending all l to h after new out nexts
  pending-same e p =
      record {
        size = p.size;
        fits = p.fits;
        small = p.small;
        ends = λ c lt. omega (arith, p.ends c lt, ap length (e c lt));
        due = λ c k lt low. p.due c k lt (omega (arith, ap length (e c lt))) ∙ ap (λ y. get_or y k 0) (e c lt);
        rest = p.rest;
        last = p.last;
      }

  -- Nothing is left.
  pub pending_done : {left : ℕ → List ℕ} → ((c : ℕ) → c < h → left c ≡ []) → Pending all l to h after left out nexts →
      Wrote l to all out (to + get_or nexts h 0)
  pending_done e p =
      record {
        holds =
            ext_get_or 0 out (sets l to all) (p.size ∙ sym (length-sets l to all))
            (λ q lt. p.rest q (λ c lc low high. omega (arith, p.ends c lc, ap length (e c lc))));
        ends = omega (arith, p.last);
      }

  -- One entry more of the list of cycle c.
  module _ {old new : ℕ → List ℕ} (p : Pending all l to h after old out nexts) (c x : ℕ) (lc : c < h) (e : old c ≡ x ∷ new c)
      (others : (d : ℕ) → d < h → (d ≡ c → ⊥) → old d ≡ new d) (room : c < length nexts) where
    abbrev at : ℕ
    at = get_or nexts c 0

    pub entry-inside : to + at < length out
    entry-inside = omega (arith, p.ends c lc, ap length e, p.size, p.fits)

    pub entry-small : at < 65535
    entry-small = omega (arith, p.ends c lc, ap length e, p.small)

    here : get_or (set nexts c (at + 1)) c 0 ≡ at + 1
    here = get_or-set_same nexts c (at + 1) 0 room

    there : (d : ℕ) → (d ≡ c → ⊥) → get_or (set nexts c (at + 1)) d 0 ≡ get_or nexts d 0
    there d ne = get_or-set_other nexts c d (at + 1) 0 ne

    entry-is : get_or (sets l to all) (to + at) 0 ≡ x
    entry-is =
        let z : at + 0 ≡ at = omega arith in
        sets-inside l to all at (omega (arith, p.ends c lc, ap length e)) p.fits ∙
        ap (λ j. get_or all j 0) (sym z) ∙ p.due c 0 lc (omega (arith, ap length e)) ∙ ap (λ y. get_or y 0 0) e

    pending-step : Pending all l to h after new (set out (to + at) x) (set nexts c (at + 1))
    pending-step =
        record {
          size = length-set out (to + at) x ∙ p.size;
          fits = p.fits;
          small = p.small;
          ends = λ d lt. same_or d c
              (λ z. rw z (omega (arith, here, p.ends c lc, ap length e)))
              (λ ne. omega (arith, there d ne, p.ends d lt, ap length (others d lt ne)));
          due = λ d k lt low. same_or d c
              (λ z.
              let f : k < length (new c) = rw z at low in
              let y : at + 1 + k ≡ at + suc k = omega arith in
              rw (z, here, y) (p.due c (suc k) lc (omega (arith, ap length e)) ∙ ap (λ v. get_or v (suc k) 0) e))
              (λ ne.
              rw (there d ne)
              (p.due d k lt (omega (arith, ap length (others d lt ne))) ∙ ap (λ v. get_or v k 0) (others d lt ne)));
          rest = λ q none. same_or q (to + at)
              (λ z. rw z (get_or-set_same out (to + at) x 0 entry-inside ∙ sym entry-is))
              (λ ne. get_or-set_other out (to + at) q x 0 ne ∙
              p.rest q (λ d ld low high. same_or d c
              (λ z. none c lc (omega (arith, here, ap (λ v. get_or nexts v 0) z)) (omega (arith, ap after z)))
              (λ other. none d ld (omega (arith, there d other)) high)));
          last = there h (λ z. omega arith) ∙ p.last;
        }

    pub pending-written : (r : ℕ) → r ≡ at → Pending all l to h after new (set out (to + r) x) (set nexts c (r + 1))
    pending-written r z =
        subst (λ (k : ℕ). Pending all l to h after new (set out (to + k) x) (set nexts c (k + 1))) (sym z) pending-step

-- What is left where the runs of a signal are written in the cycles below m.
abbrev pub mixed : (ℕ → List ℕ) → (ℕ → List ℕ) → ℕ → ℕ → List ℕ
mixed old new m c = cond (ltb c m) (new c) (old c)

module _ (old new : ℕ → List ℕ) (m c : ℕ) where
  pub mixed-below : c < m → mixed old new m c ≡ new c
  mixed-below lt = rw (lt-ltb c m lt)

  pub mixed-above : m ≤ c → mixed old new m c ≡ old c
  mixed-above le = rw (le-ltb c m le)

module _ (a : Rate) (v : a.phase < a.period) (x h : ℕ) (old new : ℕ → List ℕ) (s : Splits a x h old new) where
  undue : (c : ℕ) → c < h → due a c ≡ false → old c ≡ new c
  undue c lt e = s c lt ∙ ap (λ b. run_entry b x ++ new c) e

  pub first-mixed : (c : ℕ) → c < h → old c ≡ mixed old new a.phase c
  first-mixed c lt = go (dec_lt c a.phase)
    where
      go : Dec (c < a.phase) → old c ≡ mixed old new a.phase c
      go (yes b) = undue c lt (due-before a v c b) ∙ sym (mixed-below old new a.phase c b)
      go (no b) = sym (mixed-above old new a.phase c (omega arith))

  pub last-mixed : (m : ℕ) → h ≤ m → (c : ℕ) → c < h → mixed old new m c ≡ new c
  last-mixed m le c lt = mixed-below old new m c (omega arith)

  module _ (m : ℕ) (lt : m < h) (d : due a m ≡ true) where
    pub run-first : mixed old new m m ≡ x ∷ mixed old new (m + a.period) m
    run-first =
        mixed-above old new m m (omega arith) ∙ s m lt ∙ ap (λ b. run_entry b x ++ new m) d ∙
        ap (x ∷◌) (sym (mixed-below old new (m + a.period) m (omega arith)))

    pub others-mixed : (c : ℕ) → c < h → (c ≡ m → ⊥) → mixed old new m c ≡ mixed old new (m + a.period) c
    others-mixed c lc ne = go (dec_lt c m) (dec_lt c (m + a.period))
      where
        go : Dec (c < m) → Dec (c < m + a.period) → mixed old new m c ≡ mixed old new (m + a.period) c
        go (yes b) k = mixed-below old new m c b ∙ sym (mixed-below old new (m + a.period) c (omega arith))
        go (no b) (yes k) =
            mixed-above old new m c (omega arith) ∙ undue c lc (due-between a v m c d (omega arith) k) ∙
            sym (mixed-below old new (m + a.period) c k)
        go (no b) (no k) = mixed-above old new m c (omega arith) ∙ sym (mixed-above old new (m + a.period) c (omega arith))

-- The table of starts, cycle by cycle: what comes before the list of cycle c is so long.
abbrev pub Prefix : (ℕ → List ℕ) → ℕ → ℕ → ℕ → Type 0
Prefix f h c at = (b : List ℕ) × (length b ≡ at) × (joined (table h f) ≡ b ++ joined_from f h c)

module _ (f : ℕ → List ℕ) (h : ℕ) where
  pub prefix-start : Prefix f h 0 0
  prefix-start = ([], refl, sym (joined-starts f h))

  pub prefix-stands : (c at : ℕ) → c < h → Prefix f h c at → Stands f h c at
  unfolding joined_from
  prefix-stands c at lt p = record { before = p.0; size = p.1; is = p.2 ∙ ap (p.0 ++◌) (joined_step f h c lt).is }

  pub prefix-next : (c at m : ℕ) → c < h → m ≡ length (f c) → Prefix f h c at → Prefix f h (c + 1) (at + m)
  prefix-next c at m lt e p = (
    p.0 ++ f c,
    length-append p.0 (f c) ∙ omega (arith, p.1),
    p.2 ∙ ap (p.0 ++◌) (joined_step f h c lt).is ∙ sym (append_assoc p.0 (f c) (joined_from f h (c + 1))),
  )

  pub starts_more : (starts : List ℕ) (c at : ℕ) → c < length starts → Stands f h c at →
      ((d : ℕ) → d < c → Stands f h d (get_or starts d 0)) → (d : ℕ) → d < c + 1 → Stands f h d (get_or (set starts c at) d 0)
  starts_more starts c at room s old d lt =
      same_or d c
      (λ z.
      subst (λ (k : ℕ). Stands f h k (get_or (set starts c at) k 0)) (sym z)
      (subst (Stands f h c) (sym (get_or-set_same starts c at 0 room)) s))
      (λ ne. subst (Stands f h d) (sym (get_or-set_other starts c d at 0 ne)) (old d (omega arith)))

-- Before any entry is written.
module _ (f : ℕ → List ℕ) (h : ℕ) (starts : List ℕ) (o : StartsOf f h starts) where
  abbrev all : List ℕ
  all = joined (table h f)

  abbrev after : ℕ → ℕ
  after c = length (lists_after f h c)

  start-ends : (c : ℕ) → c < h → get_or starts c 0 + length (f c) + after c ≡ length all
  start-ends c lt =
      let s = o.stands c lt in
      omega (
        arith,
        s.size,
        ap length s.is,
        length-append s.before (f c ++ lists_after f h c),
        length-append (f c) (lists_after f h c),
      )

  start-due : (c k : ℕ) → c < h → k < length (f c) → get_or all (get_or starts c 0 + k) 0 ≡ get_or (f c) k 0
  start-due c k lt low =
      let s = o.stands c lt in
      rw (s.is, ← s.size)
      (get_or-append-add s.before (f c ++ lists_after f h c) k 0 ∙ get_or-append (f c) (lists_after f h c) 0 k low)

  -- Every entry is in some list.
  abbrev Covered : ℕ → Type 0
  Covered p = (d : ℕ) × (d < h) × (get_or starts d 0 ≤ p) × (p + after d < length all)

  covered : (k c p : ℕ) → h ≤ c + k → length all ≤ p + length (joined_from f h c) → p < length all → Covered p
  unfolding joined_from
  covered zero c p e low high = absurd (omega (arith, ap length (joined-ends f h c (omega arith))))
  covered (suc k) c p e low high = go (dec_lt c h) (λ g. covered k (c + 1) p (omega arith) g high)
    where
      go : Dec (c < h) → (length all ≤ p + length (joined_from f h (c + 1)) → Covered p) → Covered p
      go (no b) next = absurd (omega (arith, ap length (joined-ends f h c (omega arith))))
      go (yes b) next = found (dec_lt (p + after c) (length all))
        where
          found : Dec (p + after c < length all) → Covered p
          found (yes g) = (c, b, omega (arith, parts-length (joined_step f h c b), start-ends c b), g)
          found (no g) = next (omega arith)

  pub pending-start : (l : List ℕ) (to : ℕ) → to + length all ≤ length l → Pending all l to h after f l starts
  pending-start l to fits =
      record {
        size = refl;
        fits = fits;
        small = o.small;
        ends = start-ends;
        due = start-due;
        rest = λ q none. outside q none (dec_lt q to) (dec_lt q (to + length all));
        last = o.last;
      }
    where
      outside : (q : ℕ) → ((c : ℕ) → c < h → to + get_or starts c 0 ≤ q → q + after c < to + length all → ⊥) → Dec (q < to) →
          Dec (q < to + length all) → get_or l q 0 ≡ get_or (sets l to all) q 0
      outside q none (yes b) k = sym (sets-before l to all q b)
      outside q none (no b) (no k) = sym (sets-beyond l to all q (omega arith))
      outside q none (no b) (yes k) =
          let d = covered h 0 (q - to) (omega arith) (omega (arith, ap length (joined-starts f h))) (omega arith) in
          absurd (none d.0 d.1 (omega (arith, d.2)) (omega (arith, d.3)))
