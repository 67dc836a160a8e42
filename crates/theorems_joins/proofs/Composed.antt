-- Parts and links joined are what the paper says, part by part and signal by signal. Assumes nothing.
use Prim.Native.Nat.{ℕ, zero, suc, ◌+◌, ◌-◌, ◌≤◌, ◌<◌, min}
use mathlib.Core.Bool.{true, cond}
use mathlib.Core.List.{List, [], ◌∷◌, ◌++◌, map}
use mathlib.Core.Path.{◌≡◌, refl, sym, ap, ap₂, subst, ◌∙◌}
use native.Mathlib.Decide.{dec_le}
use native.Mathlib.Nat.{zero-add, add_assoc}
use native.Mathlib.Omega.{arith}
use borrow.Author.Tests.{eq-eqb, ne_eqb}
use lib.ListN.{length, get_or, drop, length-append, length-map, get_or-append}
use lib.Seq.{get_or-append-add}
use Rattle.model.specs.Rules.Join.{link_at, links_in, links_of}
use Rattle.model.specs.Rules.Load.{load}
use Rattle.model.specs.Rules.Parts.{
  Part,
  renumber_link,
  renumber_chain,
  smaller,
  ◌⊕◌,
  joined_parts,
  base,
  part_at,
  PartLink,
  Wire,
  wire_of,
  wire_read,
  wired_body,
  wired_signal,
  wired_with,
  joined_pair,
}
use Rattle.model.specs.Rules.Program.{
  Program,
  Signal,
  Body,
  equation,
  read,
  Link,
  Limit,
  unlimited,
  limit,
  count,
  signal_at,
  weight_of,
  is_input,
}
use Rattle.model.specs.Rules.Reads.{Rate, rate_of, due}
use Rattle.model.specs.Rules.Schedule.{Schedule}
use Rattle.model.specs.Rules.Search.{sum, table_from, table}
use Rattle.model.specs.Says.Feasible.{All}
use Rattle.theorems_joins.specs.Composed.{
  Follow,
  Sequence,
  SmallestCap,
  SignalKept,
  ChainKept,
  no_chain,
  NamedBy,
  Composed,
}
use Rattle.theorems_pairs.specs.Conditions.{◌among◌}
use Rattle.theorems_streams.specs.Held.{IsInput}
use Rattle.theorems_joins.specs.Join.{FeasiblePart, LinkNames, OneTable, LinksRight}
use Rattle.model.proofs.Basics.All.{all_map}
use Rattle.model.proofs.Joining.Numbers.{base-zero, base-next, base-all, number-signal, wired-count, wired-signal, wired-weight}
use Rattle.model.proofs.Joining.Parts.{join-count, first-signal, second-signal}
use Rattle.model.proofs.Joining.Renumbered.{weight-kept}
use Rattle.theorems_streams.proofs.Inputs.{input-decides}
use Rattle.theorems_joins.proofs.Parts.{
  first-embeds,
  second-embeds,
  parts-feasible,
  part-embeds,
  part-input,
  numbers_apart,
  wires-inputs,
  wired-embeds,
}
use Rattle.theorems_joins.proofs.Rows.{rows_none, first_rows, second-rows, one-rest, one_apart}
use Rattle.theorems_joins.proofs.Timely.{input_back, pair-embeds, pair-body}
use Rattle.theorems_pairs.proofs.Faults.{all_among}

-- A stretch lies within all of them.
module _ {first size : ℕ → ℕ} {n total : ℕ} (f : Follow first size n total) where
  starts-within : (m k : ℕ) → k + m ≡ n → first k ≤ total
  starts-within zero k e = let q : k ≡ n = omega arith in rw q (omega (arith, f.end))
  starts-within (suc m) k e = omega (arith, f.next k (omega arith), starts-within m (suc k) (omega arith))

  within : (k : ℕ) → k < n → first k + size k ≤ total
  within k lt = omega (arith, f.next k lt, starts-within (n - suc k) (suc k) (omega arith))

map_at : {A : Type 0} (g : A → A) (xs : List A) (d : A) (j : ℕ) → j < length xs → get_or (map g xs) j d ≡ g (get_or xs j d)
map_at g [] d j lt = absurd (omega arith)
map_at g (x ∷ xs) d zero lt = refl
map_at g (x ∷ xs) d (suc j) lt = map_at g xs d j (omega arith)

-- Lists, part after part: those of the first, then the others', each moved by g.
module _ {A : Type 0} (d : A) where
  moved : ℕ → (ℕ → ℕ) → ℕ → ℕ
  moved n first zero = 0
  moved n first (suc k) = n + first k

  sequence-more : (Kept Kept' : ℕ → A → A → Type 0) (n : ℕ) (part part' : ℕ → List A) (xs whole : List A) (g : A → A) →
      part 0 ≡ xs → ((k : ℕ) → part (suc k) ≡ part' k) → ((x : A) → Kept 0 x x) →
      ((k : ℕ) (x y : A) → Kept' k x y → Kept (suc k) x (g y)) → Sequence d Kept' n part' whole →
      Sequence d Kept (suc n) part (xs ++ map g whole)
  unfolding moved
  sequence-more Kept Kept' n part part' xs whole g e es own later s =
      record { first = moved (length xs) s.first; follow = follow; kept = λ k j lt lj. kept k j lt lj }
    where
      follow : Follow (moved (length xs) s.first) (λ k. length (part k)) (suc n) (length (xs ++ map g whole))
      follow =
          record {
            start = refl;
            next = λ k lt. next k lt;
            end = simp (length-append, length-map) (omega (arith, s.follow.end));
          }
        where
          next : (k : ℕ) → k < suc n → moved (length xs) s.first (suc k) ≡ moved (length xs) s.first k + length (part k)
          next zero lt = rw e (omega (arith, s.follow.start))
          next (suc k) lt = rw (es k) (omega (arith, s.follow.next k (omega arith)))

      kept : (k j : ℕ) → k < suc n → j < length (part k) →
          Kept k (get_or (part k) j d) (get_or (xs ++ map g whole) (moved (length xs) s.first k + j) d)
      kept zero j lt lj =
          let l : j < length xs = rw e at lj in
          rw (e, zero-add j, get_or-append xs (map g whole) d j l) (own (get_or xs j d))
      kept (suc k) j lt lj =
          let l : j < length (part' k) = rw (es k) at lj in
          rw (es k, add_assoc (length xs) (s.first k) j, get_or-append-add xs (map g whole) (s.first k + j) d)
          (rw (map_at g whole d (s.first k + j) (omega (arith, within s.follow k (omega arith))))
          (later k (get_or (part' k) j d) (get_or whole (s.first k + j) d) (s.kept k j (omega arith) l)))

-- The PUTs.
abbrev PutsFollow : List Part → Type 0
PutsFollow parts =
    Sequence 0 (λ k own joint. joint ≡ base parts k + own) (length parts) (λ k. (part_at parts k).schedule.order)
    (joined_parts parts).schedule.order

puts-follow : (parts : List Part) → PutsFollow parts
unfolding joined_parts ◌⊕◌ base
puts-follow [] =
    record {
      first = λ k. 0;
      follow = record { start = refl; next = λ k lt. absurd (omega arith); end = refl };
      kept = λ k j lt lj. absurd (omega arith);
    }
puts-follow (a ∷ rest) =
    let n = count a.program in
    sequence-more 0 (λ k own joint. joint ≡ base (a ∷ rest) k + own) (λ k own joint. joint ≡ base rest k + own) (length rest)
    (λ k. (part_at (a ∷ rest) k).schedule.order) (λ k. (part_at rest k).schedule.order) a.schedule.order
    (joined_parts rest).schedule.order (λ x. n + x) refl (λ k. refl) (λ x. sym (zero-add x))
    (λ k x y e. ap (λ (z : ℕ). n + z) e ∙ sym (add_assoc n (base rest k) x)) (puts-follow rest)

-- The chains.
moved-links : (n m : ℕ) (ls ks : List Link) → map (λ l. l.signal) ls ≡ map (λ l. m + l.signal) ks →
    map (λ l. l.signal) (map (renumber_link (λ x. n + x)) ls) ≡ map (λ l. n + m + l.signal) ks
moved-links n m [] [] e = refl
moved-links n m [] (k ∷ ks) e = absurd (omega (arith, ap length e))
moved-links n m (l ∷ ls) [] e = absurd (omega (arith, ap length e))
moved-links n m (l ∷ ls) (k ∷ ks) e =
    let head : l.signal ≡ m + k.signal = ap (λ (xs : List ℕ). get_or xs 0 0) e in
    ap₂ ◌∷◌ (ap (λ (z : ℕ). n + z) head ∙ sym (add_assoc n m k.signal))
    (moved-links n m ls ks (ap (λ (xs : List ℕ). drop 1 xs) e))

same-links : (ks : List Link) → map (λ l. l.signal) ks ≡ map (λ l. 0 + l.signal) ks
same-links [] = refl
same-links (k ∷ ks) = ap₂ ◌∷◌ (sym (zero-add k.signal)) (same-links ks)

abbrev ChainsFollow : List Part → Type 0
ChainsFollow parts =
    Sequence no_chain (λ k. ChainKept (base parts k)) (length parts) (λ k. (part_at parts k).program.chains)
    (joined_parts parts).program.chains

chains-follow : (parts : List Part) → ChainsFollow parts
unfolding joined_parts ◌⊕◌ base
chains-follow [] =
    record {
      first = λ k. 0;
      follow = record { start = refl; next = λ k lt. absurd (omega arith); end = refl };
      kept = λ k j lt lj. absurd (omega arith);
    }
chains-follow (a ∷ rest) =
    let n = count a.program in
    sequence-more no_chain (λ k. ChainKept (base (a ∷ rest) k)) (λ k. ChainKept (base rest k)) (length rest)
    (λ k. (part_at (a ∷ rest) k).program.chains) (λ k. (part_at rest k).program.chains) a.program.chains
    (joined_parts rest).program.chains (renumber_chain (λ x. n + x)) refl (λ k. refl)
    (λ c. record { place = refl; mode = refl; bound = refl; links = same-links c.links })
    (λ k c d h.
    record {
      place = h.place;
      mode = h.mode;
      bound = h.bound;
      links = moved-links n (base rest k) d.links c.links h.links;
    })
    (chains-follow rest)

-- The CAP.
limited : {n : ℕ} → ¬ (unlimited ≡ limit n)
limited e = let z : ◌≡◌ {A = ℕ} 0 1 = cc in omega arith

same-limit : {m n : ℕ} → limit m ≡ limit n → m ≡ n
same-limit e = cc

cap-one : (a : Part) (rest : List Part) (own others : Limit) → a.program.cap ≡ own → SmallestCap rest others →
    SmallestCap (a ∷ rest) (smaller own others)
cap-one a rest unlimited unlimited e (SmallestCap.none h) = SmallestCap.none (λ k lt. each k lt)
  where
    each : (k : ℕ) → k < length (a ∷ rest) → (part_at (a ∷ rest) k).program.cap ≡ unlimited
    each zero lt = e
    each (suc k) lt = h k (omega arith)
cap-one a rest unlimited (limit _) e (SmallestCap.least n k lt is h) =
    SmallestCap.least n (suc k) (omega arith) is (λ j m lj g. each j m lj g)
  where
    each : (j m : ℕ) → j < length (a ∷ rest) → (part_at (a ∷ rest) j).program.cap ≡ limit m → n ≤ m
    each zero m lj g = absurd (limited (sym e ∙ g))
    each (suc j) m lj g = h j m (omega arith) g
cap-one a rest (limit m) unlimited e (SmallestCap.none h) =
    SmallestCap.least m 0 (omega arith) e (λ j n lj g. each j n lj g)
  where
    each : (j n : ℕ) → j < length (a ∷ rest) → (part_at (a ∷ rest) j).program.cap ≡ limit n → m ≤ n
    each zero n lj g = omega (arith, same-limit (sym e ∙ g))
    each (suc j) n lj g = absurd (limited (sym (h j (omega arith)) ∙ g))
cap-one a rest (limit m) (limit _) e (SmallestCap.least n k lt is h) = go (dec_le m n)
  where
    each : (j i : ℕ) → j < length (a ∷ rest) → (part_at (a ∷ rest) j).program.cap ≡ limit i → min m n ≤ i
    each zero i lj g = omega (arith, same-limit (sym e ∙ g))
    each (suc j) i lj g = omega (arith, h j i (omega arith) g)

    go : Dec (m ≤ n) → SmallestCap (a ∷ rest) (limit (min m n))
    go (yes l) =
        let q : min m n ≡ m = omega arith in
        SmallestCap.least (min m n) 0 (omega arith) (e ∙ ap limit (sym q)) (λ j i lj g. each j i lj g)
    go (no l) =
        let q : min m n ≡ n = omega arith in
        SmallestCap.least (min m n) (suc k) (omega arith) (is ∙ ap limit (sym q)) (λ j i lj g. each j i lj g)

cap-smallest : (parts : List Part) → SmallestCap parts (joined_parts parts).program.cap
unfolding joined_parts ◌⊕◌
cap-smallest [] = SmallestCap.none (λ k lt. absurd (omega arith))
cap-smallest (a ∷ rest) = cap-one a rest a.program.cap (joined_parts rest).program.cap refl (cap-smallest rest)

-- The rows.
rows_of : (parts : List Part) → OneTable parts → (k : ℕ) → k < length parts → 0 < length (part_at parts k).program.rows →
    (joined_parts parts).program.rows ≡ (part_at parts k).program.rows
unfolding joined_parts
rows_of [] one k lt some = absurd (omega arith)
rows_of (a ∷ rest) one zero lt some = first_rows a (joined_parts rest) (one_apart a rest one) some
rows_of (a ∷ rest) one (suc k) lt some =
    let h = rows_of rest (one-rest a rest one) k (omega arith) some in
    second-rows a (joined_parts rest) (one_apart a rest one) (rw h some) ∙ h

-- Signals.
part-signal : (parts : List Part) (k x : ℕ) → k < length parts → x < count (part_at parts k).program →
    SignalKept (signal_at (part_at parts k).program x) (signal_at (joined_parts parts).program (base parts k + x))
part-signal parts k x lt lx =
    rw (number-signal parts k x lt lx)
    (record {
      period = refl;
      initial = refl;
      label = refl;
      weight = weight-kept (λ y. base parts k + y) (signal_at (part_at parts k).program x).body;
    })

-- Links.
unnamed-body : (ls : List Wire) (x : ℕ) (b : Body) → All (λ l. ¬ (l.input ≡ x)) ls → wired_body ls x b ≡ b
unfolding wired_body
unnamed-body [] x b h = refl
unnamed-body (l ∷ ls) x b h = rw (ne_eqb l.input x h.0) (unnamed-body ls x b h.1)

-- The load.
sum-shift : (i n : ℕ) (f : ℕ → ℕ) → sum (table_from (suc i) n f) ≡ sum (table_from i n (λ x. f (suc x)))
unfolding sum table_from
sum-shift i zero f = refl
sum-shift i (suc n) f = ap (λ (m : ℕ). f (suc i) + m) (sum-shift (suc i) n f)

sum_same : (i n : ℕ) (f g : ℕ → ℕ) → ((x : ℕ) → x < i + n → f x ≡ g x) → sum (table_from i n f) ≡ sum (table_from i n g)
unfolding sum table_from
sum_same i zero f g h = refl
sum_same i (suc n) f g h = ap₂ ◌+◌ (h i (omega arith)) (sum_same (suc i) n f g (λ x lt. h x (omega arith)))

sum-halves : (m n : ℕ) (f : ℕ → ℕ) → sum (table (m + n) f) ≡ sum (table m f) + sum (table n (λ y. f (m + y)))
unfolding sum table table_from
sum-halves zero n f =
    ap (λ (k : ℕ). sum (table_from 0 k f)) (zero-add n) ∙
    sum_same 0 n f (λ y. f (0 + y)) (λ x lt. ap f (sym (zero-add x))) ∙ sym (zero-add _)
sum-halves (suc m) n f =
    let e : suc m + n ≡ suc (m + n) = omega arith in
    let shifted = sum-shift 0 (m + n) f in
    let own = sum-shift 0 m f in
    let ih = sum-halves m n (λ x. f (suc x)) in
    let same = sum_same 0 n (λ y. f (suc (m + y))) (λ y. f (suc m + y)) (λ x lt. ap f (omega arith)) in
    ap (λ (k : ℕ). sum (table_from 0 k f)) e ∙ ap (λ (z : ℕ). f 0 + z) (shifted ∙ ih) ∙
    sym (add_assoc (f 0) _ _) ∙ ap₂ ◌+◌ (ap (λ (z : ℕ). f 0 + z) (sym own)) same

abbrev weighed : Program → Schedule → ℕ → ℕ → ℕ
weighed p s c x = cond (due (rate_of p s x) c) (weight_of (signal_at p x).body) 0

weighed-same : (p p' : Program) (s s' : Schedule) (c x y : ℕ) → rate_of p' s' y ≡ rate_of p s x →
    weight_of (signal_at p' y).body ≡ weight_of (signal_at p x).body → weighed p' s' c y ≡ weighed p s c x
weighed-same p p' s s' c x y e f = ap₂ (λ (r : Rate) (w : ℕ). cond (due r c) w 0) e f

load-parts : (parts : List Part) → All FeasiblePart parts → (c : ℕ) →
    load (joined_parts parts).program (joined_parts parts).schedule c ≡ sum (map (λ a. load a.program a.schedule c) parts)
unfolding load joined_parts sum table table_from
load-parts [] ok c = refl
load-parts (a ∷ rest) ok c =
    let b = joined_parts rest in
    let fb = parts-feasible rest ok.1 in
    let n = count a.program in
    let m = count b.program in
    let f = weighed (a ⊕ b).program (a ⊕ b).schedule c in
    ap (λ (k : ℕ). sum (table_from 0 k f)) (join-count a b) ∙ sum-halves n m f ∙
    ap₂ ◌+◌
    (sum_same 0 n f (weighed a.program a.schedule c) (λ x lt.
    weighed-same a.program (a ⊕ b).program a.schedule (a ⊕ b).schedule c x x
    ((first-embeds a b ok.0 fb).rates x (omega arith))
    (ap (λ (σ : Signal). weight_of σ.body) (first-signal a b x (omega arith)))))
    (sum_same 0 m (λ y. f (n + y)) (weighed b.program b.schedule c) (λ x lt.
    weighed-same b.program (a ⊕ b).program b.schedule (a ⊕ b).schedule c x (n + x)
    ((second-embeds a b ok.0 fb).rates x (omega arith))
    (ap (λ (σ : Signal). weight_of σ.body) (second-signal a b x) ∙
    weight-kept (λ y. n + y) (signal_at b.program x).body)) ∙
    load-parts rest ok.1 c)

-- No two links name one IN.
abbrev pub Distinct : List PartLink → Type 0
Distinct [] = Unit {0}
Distinct (l ∷ ls) = All (λ m. ¬ ((l.input_part ≡ m.input_part) × (l.input ≡ m.input))) ls × Distinct ls

all_from : {A : Type 0} (Q : A → Type 0) (f : ℕ → A) (i n : ℕ) → ((x : ℕ) → i ≤ x → x < i + n → Q (f x)) →
    All Q (table_from i n f)
unfolding table_from
all_from Q f i zero h = tt
all_from Q f i (suc n) h =
    (h i (omega arith) (omega arith), all_from Q f (suc i) n (λ x l m. h x (omega arith) (omega arith)))

distinct_from : (f : ℕ → PartLink) (i n : ℕ) →
    ((a b : ℕ) → a < b → b < i + n → ¬ (((f a).input_part ≡ (f b).input_part) × ((f a).input ≡ (f b).input))) →
    Distinct (table_from i n f)
unfolding table_from
distinct_from f i zero h = tt
distinct_from f i (suc n) h = (
  all_from (λ m. ¬ (((f i).input_part ≡ m.input_part) × ((f i).input ≡ m.input))) f (suc i) n
      (λ x l m. h i x (omega arith) (omega arith)),
  distinct_from f (suc i) n (λ a b l m. h a b l (omega arith)),
)

pub links-distinct : (parts : List Part) (links : List ℕ) → LinksRight parts links → Distinct (links_of links)
unfolding table
links-distinct parts links r =
    distinct_from (link_at links) 0 (links_in links) (λ a b l m. (r b (omega arith)).first a l)

module _ (parts : List Part) (ok : All FeasiblePart parts) where
  wires-apart : (k x : ℕ) → k < length parts → x < count (part_at parts k).program → (links : List PartLink) →
      All (LinkNames parts) links → All (λ l. ¬ ((l.input_part ≡ k) × (l.input ≡ x))) links →
      All (λ w. ¬ (w.input ≡ base parts k + x)) (map (wire_of parts) links)
  wires-apart k x lt lx [] names other = tt
  wires-apart k x lt lx (l ∷ ls) names other = (
    λ e. other.0 (numbers_apart parts l.input_part k l.input x names.0.input_part lt names.0.input lx e),
    wires-apart k x lt lx ls names.1 other.1,
  )

  -- The body of a linked IN is its link's read.
  linked-body : (links : List PartLink) → All (LinkNames parts) links → Distinct links → (l : PartLink) → l among links →
      (b : Body) →
      wired_body (map (wire_of parts) links) (base parts l.input_part + l.input) b ≡
      equation 0 (read (wire_read (wire_of parts l)))
  unfolding wired_body
  linked-body [] names apart l m b = elim m [ ]
  linked-body (m ∷ ls) names apart l (◌among◌.here e) b =
      let same : base parts m.input_part + m.input ≡ base parts l.input_part + l.input =
      ap (λ (k : PartLink). base parts k.input_part + k.input) (sym e) in
      rw (eq-eqb (base parts m.input_part + m.input) (base parts l.input_part + l.input) same)
      (ap (λ (k : PartLink). equation 0 (read (wire_read (wire_of parts k)))) (sym e))
  linked-body (m ∷ ls) names apart l (◌among◌.later h) b =
      let named = all_among (LinkNames parts) ls names.1 l h in
      rw (ne_eqb (base parts m.input_part + m.input) (base parts l.input_part + l.input)
      (λ e.
      all_among (λ k. ¬ ((m.input_part ≡ k.input_part) × (m.input ≡ k.input))) ls apart.0 l h
      (numbers_apart parts m.input_part l.input_part m.input l.input names.0.input_part named.input_part
      names.0.input named.input e)))
      (linked-body ls names.1 apart.1 l h b)

unnamed-links : (links : List PartLink) (k x : ℕ) → ¬ NamedBy links k x →
    All (λ l. ¬ ((l.input_part ≡ k) × (l.input ≡ x))) links
unnamed-links [] k x h = tt
unnamed-links (l ∷ ls) k x h = (
  λ e. h (l, ◌among◌.here refl, e.0, e.1),
  unnamed-links ls k x (λ n. h (n.0, ◌among◌.later n.1, n.2, n.3)),
)

module _ (parts : List Part) (ok : All FeasiblePart parts) (links : List PartLink) (names : All (LinkNames parts) links)
    (apart : Distinct links) (table : OneTable parts) where
  abbrev wires : List Wire
  wires = map (wire_of parts) links

  abbrev p₀ : Program
  p₀ = (joined_parts parts).program

  abbrev p : Program
  p = (joined_pair parts links).program

  abbrev s : Schedule
  s = (joined_pair parts links).schedule

  inside : (k x : ℕ) → k < length parts → x < count (part_at parts k).program → base parts k + x < count p₀
  inside k x lt lx = (part-embeds parts ok k lt).below x lx

  wire-inputs : (x : ℕ) → All (λ w. w.input ≡ x → is_input (signal_at p₀ x).body ≡ true) wires
  wire-inputs x =
      all_map (λ w. IsInput (signal_at p₀ w.input).body) (λ w. w.input ≡ x → is_input (signal_at p₀ x).body ≡ true)
      (λ w u e. (input-decides (signal_at p₀ x).body).1 (subst (λ (y : ℕ). IsInput (signal_at p₀ y).body) e u)) wires
      (wires-inputs parts ok links names)

  joint-is : (x : ℕ) → x < count p₀ → signal_at p x ≡ wired_signal wires x (signal_at p₀ x)
  unfolding joined_pair
  joint-is x lt = wired-signal wires p₀ x lt

  kept : (k x : ℕ) → k < length parts → x < count (part_at parts k).program →
      SignalKept (signal_at (part_at parts k).program x) (signal_at p (base parts k + x))
  kept k x lt lx =
      let z = base parts k + x in
      let h = part-signal parts k x lt lx in
      rw (joint-is z (inside k x lt lx))
      (record {
        period = h.period;
        initial = h.initial;
        label = h.label;
        weight = wired-weight wires z (signal_at p₀ z).body (wire-inputs z) ∙ h.weight;
      })

  load_is : (c : ℕ) → load p s c ≡ load p₀ s c
  unfolding load table joined_pair
  load_is c =
      ap (λ (n : ℕ). sum (table_from 0 n (weighed p s c))) (wired-count wires p₀) ∙
      sum_same 0 (count p₀) (weighed p s c) (weighed p₀ s c) (λ x lt.
      let l : x < count p₀ = omega arith in
      weighed-same p₀ p s s c x x ((wired-embeds wires p₀ s).rates x l)
      (ap (λ (σ : Signal). weight_of σ.body) (joint-is x l) ∙
      wired-weight wires x (signal_at p₀ x).body (wire-inputs x)))

  pub composed : Composed parts links p s
  unfolding joined_pair wired_with
  composed =
      record {
        numbers =
            record {
              start = base-zero parts;
              next = λ k lt. let e : suc k ≡ k + 1 = omega arith in ap (base parts) e ∙ base-next parts k lt;
              end = base-all parts ∙ sym (wired-count wires p₀);
            };
        signals = kept;
        phases = λ k x lt lx. ap (λ (r : Rate). r.phase) ((pair-embeds parts ok links names k lt).rates x lx);
        equations = λ k x lt lx other i.
            other (input_back (λ y. base parts k + y) (signal_at (part_at parts k).program x).body
            (rw (pair-body parts ok links names k x lt lx other) at i));
        inputs = λ k x lt lx i none.
            rw (
              joint-is (base parts k + x) (inside k x lt lx),
              unnamed-body wires (base parts k + x) (signal_at p₀ (base parts k + x)).body
                  (wires-apart parts ok k x lt lx links names (unnamed-links links k x none)),
            )
            (part-input parts ok k x lt lx i);
        linked = λ l m.
            let n = all_among (LinkNames parts) links names l m in
            ap (λ (σ : Signal). σ.body) (joint-is (base parts l.input_part + l.input)
            (inside l.input_part l.input n.input_part n.input)) ∙
            linked-body parts ok links names apart l m (signal_at p₀ (base parts l.input_part + l.input)).body;
        puts = puts-follow parts;
        chains = chains-follow parts;
        cap = cap-smallest parts;
        rows = rows_of parts table;
        no_rows = λ h. rows_none parts (λ k lt some. omega (arith, h k lt));
        loads = λ c. load_is c ∙ load-parts parts ok c;
      }
