-- Laws of entries, and of a list that they are written to. Assumes nothing.
use Prim.Native.Nat.{ℕ, zero, suc, ◌+◌, ◌*◌, ◌≤◌, ◌<◌}
use mathlib.Core.Bool.{Bool, true, false, cond, ◌&&◌}
use mathlib.Core.List.{List, [], ◌∷◌, ◌++◌, append_assoc, append-nil}
use mathlib.Core.Logic.{◌↔◌, inl, inr}
use mathlib.Core.Path.{◌≡◌, refl, sym, ap, ap₂, subst, ◌∙◌}
use native.Mathlib.Numerals.{add-one}
use native.Mathlib.Omega.{arith}
use borrow.Author.Tests.{lt-ltb, le-ltb, ltb-true, ltb-false, eqb-true, eqb-false}
use lib.Dec.{ltb, eqb}
use lib.ListN.{length, set, length-set, length-append}
use Rattle.model.specs.Rules.Moves.{Entry, entry_if, written}
use Rattle.model.specs.Rules.Search.{join_below}
use Rattle.model.specs.Says.Feasible.{Between}
use Rattle.model.proofs.Basics.Outcomes.{not-true-false}
use Rattle.moves.specs.Listing.{put_entry, passing, ListsOne, Written}

-- One entry more is written where there is space for it.
pub written-more : (es : List Entry) (e : Entry) (list : List ℕ) →
    written (es ++ (e ∷ [])) list ≡ put_entry (written es list) (length es) e.signal e.phase
unfolding written
written-more [] e [] = refl
written-more [] e (a ∷ []) = refl
written-more [] e (a ∷ (b ∷ list)) = rw (lt-ltb 1 (suc (suc (length list))) (omega arith))
written-more (d ∷ es) e [] = rw (le-ltb (suc (length es) * 2 + 1) 0 (omega arith))
written-more (d ∷ es) e (a ∷ []) = rw (le-ltb (suc (length es) * 2 + 1) 1 (omega arith))
written-more (d ∷ es) e (a ∷ (b ∷ list)) =
    ap (λ (l : List ℕ). d.signal ∷ (d.phase ∷ l)) (written-more es e list) ∙
    go (ltb (length es * 2 + 1) (length (written es list))) refl
  where
    n : ℕ
    n = length es

    l : List ℕ
    l = written es list

    two : (k : ℕ) → suc k * 2 ≡ suc (suc (k * 2))
    two k = omega arith

    two-one : (k : ℕ) → suc k * 2 + 1 ≡ suc (suc (k * 2 + 1))
    two-one k = omega arith

    go : (t : Bool) → ltb (n * 2 + 1) (length l) ≡ t →
        d.signal ∷ (d.phase ∷ cond t (set (set l (n * 2) e.signal) (n * 2 + 1) e.phase) l) ≡
        cond (ltb (suc n * 2 + 1) (suc (suc (length l))))
        (set (set (d.signal ∷ (d.phase ∷ l)) (suc n * 2) e.signal) (suc n * 2 + 1) e.phase) (d.signal ∷ (d.phase ∷ l))
    go true q =
        let t = ltb-true (n * 2 + 1) (length l) q in
        rw (lt-ltb (suc n * 2 + 1) (suc (suc (length l))) (omega arith), two-one n, two n)
    go false q =
        let t = ltb-false (n * 2 + 1) (length l) q in
        rw (le-ltb (suc n * 2 + 1) (suc (suc (length l))) (omega arith))

-- Joined lists that are the same below n.
pub join-same : {A : Type 0} (n : ℕ) (f g : ℕ → List A) → ((i : ℕ) → i < n → f i ≡ g i) → join_below n f ≡ join_below n g
unfolding join_below
join-same zero f g h = refl
join-same (suc n) f g h = ap₂ ◌++◌ (join-same n f g (λ i l. h i (omega arith))) (h n (omega arith))

join-none : {A : Type 0} (n : ℕ) (f : ℕ → List A) → ((i : ℕ) → i < n → f i ≡ []) → join_below n f ≡ []
unfolding join_below
join-none zero f h = refl
join-none (suc n) f h = ap₂ ◌++◌ (join-none n f (λ i l. h i (omega arith))) (h n (omega arith))

-- Those below k that pass a test.
abbrev pub below : (ℕ → Bool) → ℕ → ℕ → Bool
below g k f = ltb f k && g f

entry-same : (x f : ℕ) (a b : Bool) → a ≡ b → entry_if a x f ≡ entry_if b x f
entry-same x f a b e = ap (λ t. entry_if t x f) e

module _ (x : ℕ) (g : ℕ → Bool) where
  -- None are below k where none pass, all where none pass from k on.
  pub passing-none : (n k : ℕ) → ((f : ℕ) → f < n → f < k → g f ≡ false) → passing x n (below g k) ≡ []
  passing-none n k h = join-none n _ (λ f l. go f l (ltb f k) refl)
    where
      go : (f : ℕ) → f < n → (t : Bool) → ltb f k ≡ t → entry_if (t && g f) x f ≡ []
      go f l true q = ap (λ t. entry_if t x f) (h f l (ltb-true f k q))
      go f l false q = refl

  pub passing-all : (n k : ℕ) → ((f : ℕ) → f < n → k ≤ f → g f ≡ false) → passing x n (below g k) ≡ passing x n g
  passing-all n k h = join-same n _ _ (λ f l. go f l (ltb f k) refl)
    where
      go : (f : ℕ) → f < n → (t : Bool) → ltb f k ≡ t → entry_if (t && g f) x f ≡ entry_if (g f) x f
      go f l true q = refl
      go f l false q = ap (λ t. entry_if t x f) (sym (h f l (ltb-false f k q)))

  -- One more.
  pub passing-more : (n k : ℕ) → k < n → passing x n (below g (suc k)) ≡ passing x n (below g k) ++ entry_if (g k) x k
  unfolding join_below
  passing-more zero k lt = absurd (omega arith)
  passing-more (suc n) k lt = go (eqb k n) refl (λ l. passing-more n k l)
    where
      go : (t : Bool) → eqb k n ≡ t →
          (k < n → passing x n (below g (suc k)) ≡ passing x n (below g k) ++ entry_if (g k) x k) →
          passing x n (below g (suc k)) ++ entry_if (below g (suc k) n) x n ≡
          (passing x n (below g k) ++ entry_if (below g k n) x n) ++ entry_if (g k) x k
      go true q ih =
          let z = eqb-true k n q in
          let a : passing x n (below g (suc k)) ≡ passing x n (below g k) =
          join-same n _ _ (λ f l. entry-same x f _ _ (ap₂ ◌&&◌ (lt-ltb f (suc k) (omega arith) ∙ sym (lt-ltb f k (omega arith)))
          refl)) in
          let b : below g (suc k) n ≡ g n = ap (◌&& g n) (lt-ltb n (suc k) (omega arith)) in
          let c : below g k n ≡ false = ap (◌&& g n) (le-ltb n k (omega arith)) in
          ap₂ ◌++◌ a (entry-same x n _ _ b ∙ ap (λ y. entry_if (g y) x y) (sym z)) ∙
          ap (◌++ entry_if (g k) x k) (sym (append-nil (passing x n (below g k))) ∙ ap (passing x n (below g k) ++◌) (sym
          (entry-same x n _ false c)))
      go false q ih =
          let d = eqb-false k n q in
          let b : below g (suc k) n ≡ false = ap (◌&& g n) (le-ltb n (suc k) (omega arith)) in
          let c : below g k n ≡ false = ap (◌&& g n) (le-ltb n k (omega arith)) in
          ap₂ ◌++◌ (ih (omega arith)) (entry-same x n _ false b) ∙ append-nil _ ∙
          ap (◌++ entry_if (g k) x k)
          (sym (append-nil (passing x n (below g k))) ∙ ap (passing x n (below g k) ++◌) (sym (entry-same x n _ false c)))

-- A list with one entry more, or with none more.
pub wrote_one : {es : List Entry} {list₀ list : List ℕ} {count : ℕ} (e : Entry) → Written es list₀ list count →
    Written (es ++ (e ∷ [])) list₀ (put_entry list count e.signal e.phase) (count + 1)
wrote_one {es} {list₀} {list} {count} e w =
    record {
      list-is = (λ i. put_entry (w.list-is i) (w.count-is i) e.signal e.phase) ∙ sym (written-more es e list₀);
      count-is = rw length-append (omega (arith, w.count-is));
    }

pub wrote_as : {es es' : List Entry} {list₀ list : List ℕ} {count : ℕ} → es ≡ es' → Written es list₀ list count →
    Written es' list₀ list count
wrote_as {list₀ = list₀} {list = list} {count = count} e w = subst (λ (x : List Entry). Written x list₀ list count) e w

-- The phases of one signal, from low up to high, that pass a test.
module _ (x n low high : ℕ) (Q : ℕ → Type 0) (g : ℕ → Bool)
    (tells : (f : ℕ) → f < n → (g f ≡ true) ↔ (Between low f high × Q f)) where
  outside : (f : ℕ) → f < n → (Between low f high → ⊥) → g f ≡ false
  outside f lt h = not-true-false (g f) (λ t. h ((tells f lt).0 t).0)

  more : (es : List Entry) (k : ℕ) → k < n → (b : Bool) → g k ≡ b →
      (es ++ passing x n (below g k)) ++ entry_if b x k ≡ es ++ passing x n (below g (suc k))
  more es k lt b e =
      append_assoc es (passing x n (below g k)) (entry_if b x k) ∙
      ap (es ++◌) (ap (λ t. passing x n (below g k) ++ entry_if t x k) (sym e) ∙ sym (passing-more x g n k lt))

  module _ (es : List Entry) {list₀ list : List ℕ} {count : ℕ} where
    pub wrote_none : Written es list₀ list count → Written (es ++ passing x n (below g low)) list₀ list count
    wrote_none w =
        wrote_as
        (sym (append-nil es) ∙
        ap (es ++◌) (sym (passing-none x g n low (λ f l k. outside f l (λ b. omega (arith, b.0)))))) w

    pub wrote-all : (k : ℕ) → high ≤ k → Written (es ++ passing x n (below g k)) list₀ list count →
        Written (es ++ passing x n g) list₀ list count
    wrote-all k le w = wrote_as (ap (es ++◌) (passing-all x g n k (λ f l m. outside f l (λ b. omega (arith, b.1))))) w

    pub wrote-fit : (k : ℕ) → k < n → Between low k high → Q k → Written (es ++ passing x n (below g k)) list₀ list count →
        Written (es ++ passing x n (below g (suc k))) list₀ (put_entry list count x k) (count + 1)
    wrote-fit k lt b q w =
        wrote_as (more es k lt true ((tells k lt).1 (b, q))) (wrote_one (record { signal = x; phase = k }) w)

    pub wrote-unfit : (k : ℕ) → k < n → (Q k → ⊥) → Written (es ++ passing x n (below g k)) list₀ list count →
        Written (es ++ passing x n (below g (suc k))) list₀ list count
    wrote-unfit k lt h w =
        wrote_as (sym (append-nil _) ∙ more es k lt false (not-true-false (g k) (λ t. h ((tells k lt).0 t).1))) w

    pub wrote-next : (k k' : ℕ) {list' : List ℕ} {count' : ℕ} → k' ≡ suc k → k < n → Between low k high →
        ListsOne (Q k) x k list list' count count' → Written (es ++ passing x n (below g k)) list₀ list count →
        Written (es ++ passing x n (below g k')) list₀ list' count'
    wrote-next k k' e lt b (inl (q, l, c)) w =
        let v = wrote-fit k lt b q w in
        wrote_as (ap (λ m. es ++ passing x n (below g m)) (sym e)) (record {
          list-is = l ∙ v.list-is;
          count-is = c ∙
              v.count-is;
        })
    wrote-next k k' e lt b (inr (h, l, c)) w =
        let v = wrote-unfit k lt h w in
        wrote_as (ap (λ m. es ++ passing x n (below g m)) (sym e)) (record {
          list-is = l ∙ v.list-is;
          count-is = c ∙
              v.count-is;
        })

put-length : (list : List ℕ) (count x f : ℕ) → length (put_entry list count x f) ≡ length list
put-length list count x f = go (ltb (count * 2 + 1) (length list))
  where
    go : (t : Bool) → length (cond t (set (set list (count * 2) x) (count * 2 + 1) f) list) ≡ length list
    go true = length-set (set list (count * 2) x) (count * 2 + 1) f ∙ length-set list (count * 2) x
    go false = refl

-- At most one entry more, in a list of the same length.
module _ {Q : Type 0} (x f : ℕ) {list list' : List ℕ} {count count' : ℕ} where
  pub one-most : ListsOne Q x f list list' count count' → count' ≤ count + 1
  one-most (inl (q, l, c)) = omega (arith, c)
  one-most (inr (h, l, c)) = omega (arith, c)

  pub one-length : ListsOne Q x f list list' count count' → length list' ≡ length list
  one-length (inl (q, l, c)) = ap length l ∙ put-length list count x f
  one-length (inr (h, l, c)) = ap length l

-- One list more.
pub join_more : {A : Type 0} (n : ℕ) (f : ℕ → List A) → join_below n f ++ f n ≡ join_below (n + 1) f
unfolding join_below
join_more n f = rw (add-one n)

-- Nothing is written yet.
pub wrote-start : (f : ℕ → List Entry) (list : List ℕ) → Written (join_below 0 f) list list 0
unfolding join_below written
wrote-start f list = record { list-is = refl; count-is = refl }
