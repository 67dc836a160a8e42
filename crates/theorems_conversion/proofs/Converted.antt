-- A program and its conversion keep the same conditions with every schedule, have the same streams and the same image.
-- Assumes nothing.
use Rattle.std.specs.Prelude.{Option, Some, None}
use Prim.Native.Nat.{ℕ, zero, suc, ◌+◌, ◌≤◌, ◌<◌}
use mathlib.Core.Bool.{Bool, true, false, cond, and-eq-true_iff}
use mathlib.Core.List.{List, [], ◌∷◌, ◌++◌, map, map-map, map-append}
use mathlib.Core.Logic.{◌↔◌}
use mathlib.Core.Path.{◌≡◌, refl, sym, ap, ap₂, subst, ◌∙◌, fun_ext}
use native.Mathlib.Omega.{arith}
use borrow.Author.Tests.{eqb-true, eqb-false}
use lib.Dec.{eqb}
use lib.IntN.{ℤ}
use lib.ListN.{length, length-map, get_or-map}
use lib.Signed.{le_z}
use Rattle.model.specs.Says.Feasible.{PeriodRule, LineHolds, PutFor, Met, Multiple, Least}
use Rattle.model.specs.Says.Grammar.{LegalProgram}
use Rattle.model.specs.Rules.Compile.{Pair}
use Rattle.model.specs.Rules.Rewrite.{single_kind}
use Rattle.model.specs.Rules.Image.{
  expr_code,
  signal_code,
  codes,
  run_list,
  joined,
  run_lists,
  records,
  rows_at,
  codes_at,
  length_of,
  head,
  image_of,
  tail_entry,
  tail_of,
  written_of,
}
use Rattle.model.specs.Rules.Latency.{
  read_among,
  reads_back,
  backwards,
  onward,
  used,
  back,
  source,
  latency_of,
  latency_from,
  run_latency,
}
use Rattle.model.specs.Rules.Load.{load}
use Rattle.model.specs.Rules.Program.{
  Program,
  Signal,
  Chain,
  Link,
  Body,
  input,
  equation,
  Expr,
  constant,
  read,
  binary,
  unary,
  choose,
  Read,
  no_signal,
  count,
  signal_at,
  reads_of,
  body_reads,
  weight_of,
  lookups,
  expr_lookups,
  body_lookups,
}
use Rattle.model.specs.Rules.Rates.{count_reads}
use Rattle.model.specs.Rules.Reads.{Rate, rate_of, due, uses, settle, settled_index, settled}
use Rattle.model.specs.Rules.Search.{first_below, first_from, found_or, sum, table, chosen, join_from}
use Rattle.model.specs.Rules.Table.{
  Row,
  contains,
  table_word,
  unary_word,
  no_row,
  row_at,
  insert,
  by_low,
  row_bytes,
  table_bytes,
}
use Rattle.model.specs.Says.Rows.{Lies, Covers}
use Rattle.model.specs.Rules.Schedule.{Schedule, Put, phase_of, put_phase, schedule_of}
use Rattle.theorems_pairs.proofs.Lookups.{has-table}
use Rattle.theorems_pairs.specs.Conditions.{
  ◌among◌,
  ReadIn,
  LinkIn,
  ReadRule,
  DeclaredAndRated,
  link_signals,
  Linked,
  Tabled,
  put_at,
  IsPut,
  Placed,
  TimelyFrom,
  KeepsTime,
  LegalPairWith,
  LegalPair,
}
use Rattle.theorems_conversion.specs.Convert.{
  is_first,
  is_single,
  kind_after,
  index_after,
  map_expr,
  map_body,
  map_signal,
  map_link,
  map_chain,
  map_row,
  bare_read,
  bare,
  Renamed,
  Keeps,
}
use Rattle.theorems_pairs.specs.Latency.{Timely}
use Rattle.theorems_streams.specs.Streams.{value, next, entry, Satisfies}
use Rattle.model.specs.declared.Index.{Index}
use Rattle.model.specs.declared.Index.TheVariants.{Fixed, Open}
use Rattle.model.specs.declared.Kind.{Kind}
use Rattle.model.specs.declared.Kind.TheVariants.{Now, Last, When, LastWhen, Current}
use Rattle.model.specs.declared.Mode.{Mode}
use Rattle.model.specs.declared.Mode.TheVariants.{Exists, Backward}
use Rattle.model.specs.declared.Unary.{Unary}
use Rattle.model.specs.declared.Unary.TheVariants.{Negate, Table}
use Rattle.model.proofs.Pairs.Decide.{line-settled, settled-line}
use Rattle.model.proofs.Basics.Outcomes.{table_at}
use Rattle.model.proofs.Pairs.Lines.{single-uses, single-rule, single-line, single-first}

-- One read.
-- An open read with factor 1 settles at 0, met or not.
settle-single : (test : ℕ → Bool) → found_or 0 (first_below 1 test) ≡ 0
unfolding first_below first_from
settle-single test = go (test 0)
  where
    go : (b : Bool) → found_or 0 (elim b [ true ↦ Some 0 | false ↦ None ]) ≡ 0
    go true = refl
    go false = refl

single-index : (kind : Kind) (w r : Rate) (n : ℕ) (i : Index) → is_single n i ≡ true → settled_index kind w r n i ≡ 0
unfolding settle
single-index kind w r n (Fixed i) e = eqb-true i 0 ((and-eq-true_iff (eqb n 1) _).0 e).1
single-index kind w r n Open e = rw (eqb-true n 1 ((and-eq-true_iff (eqb n 1) true).0 e).0) (settle-single _)

single-factor : (n : ℕ) (i : Index) → is_single n i ≡ true → n ≡ 1
single-factor n i e = eqb-true n 1 ((and-eq-true_iff (eqb n 1) (is_first i)).0 e).0

-- The same of a read before and after the conversion.
module _ (kind : Kind) (n : ℕ) (i : Index) where
  kind' : Kind
  kind' = kind_after (is_single n i) kind

  index' : Index
  index' = index_after (is_single n i) i

  -- What holds of a read with factor 1 as NOW or LAST, and of every other as it is, holds after the conversion.
  after : (Q : Kind → Index → Type 0) → Q kind i → (is_single n i ≡ true → Q (single_kind kind) (Fixed 0)) → Q kind' index'
  unfolding kind' index'
  after Q same single = go (is_single n i) single
    where
      go : (b : Bool) → (b ≡ true → Q (single_kind kind) (Fixed 0)) → Q (kind_after b kind) (index_after b i)
      go true h = h refl
      go false h = same

  after-uses : (w r : Rate) (k : ℕ) → uses kind' n (settled_index kind' w r n index') k ≡ uses kind n (settled_index kind w r n i) k
  after-uses w r k =
      after (λ a j. uses a n (settled_index a w r n j) k ≡ uses kind n (settled_index kind w r n i) k) refl
      (λ e. rw (single-index kind w r n i e, single-factor n i e) (single-uses kind k))

  after-rule : (w r : ℕ) → PeriodRule kind w r n ↔ PeriodRule kind' w r n
  after-rule w r =
      after (λ a j. PeriodRule kind w r n ↔ PeriodRule a w r n) (λ h. h, λ h. h)
      (λ e. rw (single-factor n i e) (single-rule kind w r))

  after_line : (w r : Rate) → w.phase < w.period → r.phase < r.period → PeriodRule kind w.period r.period n →
      LineHolds kind w r n i ↔ LineHolds kind' w r n index'
  after_line w r u v rule =
      after (λ a j. LineHolds kind w r n i ↔ LineHolds a w r n j) (λ h. h, λ h. h) (λ e.
      let one = single-factor n i e in
      let zeroth = single-index kind w r n i e in
      let same = single-line kind w r u v (rw one at rule) in (
        λ h. let q = line-settled kind w r n i h in (omega (arith, one), same.0 (rw zeroth at q.1)),
        λ h. settled-line kind w r n i (rw zeroth (omega (arith, one))) (rw zeroth (same.1 h.1)),
      ))

  after_first : (s : Schedule) (w r : ℕ) → PutFor kind' s w r ↔ PutFor kind s w r
  after_first s w r = after (λ a j. PutFor a s w r ↔ PutFor kind s w r) (λ h. h, λ h. h) (λ e. single-first kind s w r)

-- Expressions, signals and chains.
map-reads : (f : Read → Read) (e : Expr) → reads_of (map_expr f e) ≡ map f (reads_of e)
unfolding reads_of map_expr
map-reads f (constant w) = refl
map-reads f (read ρ) = refl
map-reads f (binary operator x y) = rw (map-reads f x, map-reads f y, map-append f (reads_of x) (reads_of y))
map-reads f (unary operator x) = map-reads f x
map-reads f (choose x y z) =
    rw (
      map-reads f x,
      map-reads f y,
      map-reads f z,
      map-append f (reads_of x) (reads_of y ++ reads_of z),
      map-append f (reads_of y) (reads_of z),
    )

map-body-reads : (f : Read → Read) (b : Body) → body_reads (map_body f b) ≡ map f (body_reads b)
map-body-reads f input = refl
map-body-reads f (equation weight e) = map-reads f e

-- Rows that TABLE does not tell apart.
abbrev SameTable : List Row → List Row → Type 0
SameTable rows' rows = (operator : Unary) (w : ℤ) → unary_word rows' operator w ≡ unary_word rows operator w

module _ (rows rows' : List Row) (alike : SameTable rows' rows) (f : Read → Read) (word word' : Read → ℤ)
    (same : (ρ : Read) → word' (f ρ) ≡ word ρ) where
  map-value : (e : Expr) → value rows' word' (map_expr f e) ≡ value rows word e
  unfolding value map_expr
  map-value (constant w) = refl
  map-value (read ρ) = same ρ
  map-value (binary operator x y) = rw (map-value x, map-value y)
  map-value (unary operator x) = ap (unary_word rows' operator) (map-value x) ∙ alike operator (value rows word x)
  map-value (choose x y z) = rw (map-value x, map-value y, map-value z)

  map_next : (given : ℤ) (b : Body) → next rows' word' given (map_body f b) ≡ next rows word given b
  map_next given input = refl
  map_next given (equation weight e) = map-value e

map-weight : (f : Read → Read) (b : Body) → weight_of (map_body f b) ≡ weight_of b
map-weight f input = refl
map-weight f (equation weight e) = refl

-- The code does not tell one kind of read from another.
map-code : (f : Read → Read) → ((ρ : Read) → (f ρ).operands.signal ≡ ρ.operands.signal) → (e : Expr) →
    expr_code (map_expr f e) ≡ expr_code e
unfolding expr_code map_expr
map-code f same (constant w) = refl
map-code f same (read ρ) = rw (same ρ)
map-code f same (binary operator x y) = rw (map-code f same x, map-code f same y)
map-code f same (unary operator x) = rw (map-code f same x)
map-code f same (choose x y z) = rw (map-code f same x, map-code f same y, map-code f same z)

map-signal-code : (f : Read → Read) → ((ρ : Read) → (f ρ).operands.signal ≡ ρ.operands.signal) → (x : ℕ) (b : Body) →
    signal_code x (map_body f b) ≡ signal_code x b
map-signal-code f same x input = refl
map-signal-code f same x (equation weight e) = rw (map-code f same e)

count-bare-reads : (w : ℕ) (ρs : List Read) → count_reads w (map bare_read ρs) ≡ count_reads w ρs
unfolding count_reads
count-bare-reads w [] = refl
count-bare-reads w (ρ ∷ ρs) = rw (count-bare-reads w ρs)

read-of-bare : (w : ℕ) (ρs : List Read) → read_among w (map bare_read ρs) ≡ bare_read (read_among w ρs)
unfolding read_among
read-of-bare w [] = refl
read-of-bare w (ρ ∷ ρs) = go (eqb ρ.operands.signal w) (read-of-bare w ρs)
  where
    go : (b : Bool) → read_among w (map bare_read ρs) ≡ bare_read (read_among w ρs) →
        cond b (bare_read ρ) (read_among w (map bare_read ρs)) ≡ bare_read (cond b ρ (read_among w ρs))
    go true ih = refl
    go false ih = ih

join-map : {A B C : Type 0} (g : A → B) (f : ℕ → B → List C) (f' : ℕ → A → List C) → ((i : ℕ) (a : A) → f i (g a) ≡ f' i a) →
    (i : ℕ) (xs : List A) → join_from i f (map g xs) ≡ join_from i f' xs
unfolding join_from
join-map g f f' same i [] = refl
join-map g f f' same i (x ∷ xs) = rw (same i x, join-map g f f' same (suc i) xs)

records-bare : (xs : List Signal) (os : List ℕ) → records (map (map_signal bare_read (λ at. 0)) xs) os ≡ records xs os
unfolding records
records-bare [] os = refl
records-bare (x ∷ xs) [] = refl
records-bare (x ∷ xs) (o ∷ os) = rw (records-bare xs os)

-- What holds of the elements of a list holds of what they are mapped to.
module _ {A B : Type 0} (f : A → B) (Q : A → Type 0) (R : B → Type 0) where
  among-map : (a : A) (xs : List A) → a among xs → f a among map f xs
  among-map a [] m = elim m [ ]
  among-map a (x ∷ xs) (◌among◌.here e) = ◌among◌.here (ap f e)
  among-map a (x ∷ xs) (◌among◌.later m) = ◌among◌.later (among-map a xs m)

  map-among : (b : B) (xs : List A) → b among map f xs → (a : A) × (a among xs) × (b ≡ f a)
  map-among b [] m = elim m [ ]
  map-among b (x ∷ xs) (◌among◌.here e) = (x, ◌among◌.here refl, e)
  map-among b (x ∷ xs) (◌among◌.later m) = let h = map-among b xs m in (h.0, ◌among◌.later h.1, h.2)

  -- It is enough to show it of each element.
  each_map : (xs : List A) → ((a : A) → a among xs → Q a ↔ R (f a)) →
      ((a : A) → a among xs → Q a) ↔ ((b : B) → b among map f xs → R b)
  each_map xs g = (
    λ q b m. let h = map-among b xs m in rw h.2 ((g h.0 h.1).0 (q h.0 h.1)),
    λ r a m. (g a m).1 (r (f a) (among-map a xs m)),
  )

-- The rows, and how often a program looks one up.
abbrev bare_row : Row → Row
bare_row = map_row bare_read (λ at. 0)

row-bare : (rows : List Row) (n : ℕ) → row_at (map bare_row rows) n ≡ bare_row (row_at rows n)
row-bare rows n = get_or-map bare_row rows n no_row

lies-bare : (rows : List Row) (w : ℤ) (n : ℕ) → Lies rows w n ↔ Lies (map bare_row rows) w n
lies-bare rows w n = (
  λ l. record {
    inside = rw (length-map rows bare_row) l.inside;
    from_low = rw (row-bare rows n) l.from_low;
    to_high = rw (row-bare rows n) l.to_high;
  },
  λ l. record {
    inside = rw (length-map rows bare_row) at l.inside;
    from_low = rw (row-bare rows n) at l.from_low;
    to_high = rw (row-bare rows n) at l.to_high;
  },
)

covers-bare : (rows : List Row) → Covers rows ↔ Covers (map bare_row rows)
covers-bare rows = (
  λ c w f. let o = c w f in (o.0, (lies-bare rows w o.0).0 o.1, λ m l. o.2 m ((lies-bare rows w m).1 l)),
  λ c w f. let o = c w f in (o.0, (lies-bare rows w o.0).1 o.1, λ m l. o.2 m ((lies-bare rows w m).0 l)),
)

table-bare : (rows : List Row) (w : ℤ) → table_word (map bare_row rows) w ≡ table_word rows w
unfolding table_word contains
table-bare [] w = refl
table-bare (row ∷ rows) w = rw (table-bare rows w)

alike-bare : (rows : List Row) → SameTable (map bare_row rows) rows
alike-bare rows Negate w = refl
alike-bare rows Table w = table-bare rows w

insert-bare : (row : Row) (rows : List Row) → insert (bare_row row) (map bare_row rows) ≡ map bare_row (insert row rows)
unfolding insert
insert-bare row [] = refl
insert-bare row (other ∷ rows) = go (le_z row.low other.low) (insert-bare row rows)
  where
    go : (b : Bool) → insert (bare_row row) (map bare_row rows) ≡ map bare_row (insert row rows) →
        cond b (bare_row row ∷ bare_row other ∷ map bare_row rows) (bare_row other ∷ insert (bare_row row) (map bare_row rows)) ≡
        map bare_row (cond b (row ∷ other ∷ rows) (other ∷ insert row rows))
    go true ih = refl
    go false ih = ap (bare_row other ∷◌) ih

sorted-bare : (rows : List Row) → by_low (map bare_row rows) ≡ map bare_row (by_low rows)
unfolding by_low
sorted-bare [] = refl
sorted-bare (row ∷ rows) = rw (sorted-bare rows) (insert-bare row (by_low rows))

rows-bare : (rows : List Row) → table_bytes (by_low (map bare_row rows)) ≡ table_bytes (by_low rows)
unfolding table_bytes row_bytes
rows-bare rows =
    ap table_bytes (sorted-bare rows) ∙
    ap₂ (λ (n : ℕ) (l : List ℕ). n ∷ l) (length-map (by_low rows) bare_row)
    (join-map bare_row (λ n row. row_bytes row) (λ n row. row_bytes row) (λ n row. refl) 0 (by_low rows))

map-lookups : (f : Read → Read) (e : Expr) → expr_lookups (map_expr f e) ≡ expr_lookups e
unfolding map_expr
map-lookups f (constant w) = refl
map-lookups f (read ρ) = refl
map-lookups f (binary operator x y) = rw (map-lookups f x, map-lookups f y)
map-lookups f (unary operator x) = rw (map-lookups f x)
map-lookups f (choose x y z) = rw (map-lookups f x, map-lookups f y, map-lookups f z)

map-body-lookups : (f : Read → Read) (b : Body) → body_lookups (map_body f b) ≡ body_lookups b
map-body-lookups f input = refl
map-body-lookups f (equation weight e) = map-lookups f e

lookups-bare : (xs : List Signal) → lookups (map (map_signal bare_read (λ at. 0)) xs) ≡ lookups xs
unfolding lookups
lookups-bare [] = refl
lookups-bare (x ∷ xs) = rw (map-body-lookups bare_read x.body, lookups-bare xs)

-- 29, 30.
has-bare : (p : Program) → length (bare p).rows + lookups (bare p).signals ≡ length p.rows + lookups p.signals
has-bare p = rw (length-map p.rows bare_row, lookups-bare p.signals)

tabled-bare : (p : Program) → Tabled p ↔ Tabled (bare p)
tabled-bare p = (
  λ c some. (covers-bare p.rows).0 (c ((has-table p).1 (omega (arith, has-bare p, (has-table (bare p)).0 some)))),
  λ c some. (covers-bare p.rows).1 (c ((has-table (bare p)).1 (omega (arith, has-bare p, (has-table p).0 some)))),
)

-- The programs.
signal-bare : (p : Program) (x : ℕ) → signal_at (bare p) x ≡ map_signal bare_read (λ at. 0) (signal_at p x)
signal-bare p x = get_or-map (map_signal bare_read (λ at. 0)) p.signals x no_signal

pub count-bare : (p : Program) → count (bare p) ≡ count p
count-bare p = length-map p.signals (map_signal bare_read (λ at. 0))

period-bare : (p : Program) (x : ℕ) → (signal_at (bare p) x).period ≡ (signal_at p x).period
period-bare p x = ap (λ z. z.period) (signal-bare p x)

label-bare : (p : Program) (x : ℕ) → (signal_at (bare p) x).label ≡ (signal_at p x).label
label-bare p x = ap (λ z. z.label) (signal-bare p x)

reads-bare : (p : Program) (x : ℕ) → body_reads (signal_at (bare p) x).body ≡ map bare_read (body_reads (signal_at p x).body)
reads-bare p x = ap (λ z. body_reads z.body) (signal-bare p x) ∙ map-body-reads bare_read (signal_at p x).body

rate-bare : (p : Program) (s : Schedule) (x : ℕ) → rate_of (bare p) s x ≡ rate_of p s x
rate-bare p s x = ap (λ n. record { period = n; phase = phase_of s x }) (period-bare p x)

rule-bare : (p : Program) (r : ℕ) (ρ : Read) → ReadRule p r ρ ↔ ReadRule (bare p) r (bare_read ρ)
unfolding kind' index'
rule-bare p r ρ =
    rw (period-bare p ρ.operands.signal, period-bare p r)
    (after-rule ρ.kind ρ.operands.factor ρ.operands.index (signal_at p ρ.operands.signal).period
    (signal_at p r).period)

-- Conditions on a read or LINK, in the program and bare.
each_read : (p : Program) (Q R : ℕ → Read → Type 0) → ((r : ℕ) (ρ : Read) → ReadIn p r ρ → Q r ρ ↔ R r (bare_read ρ)) →
    ((r : ℕ) (ρ : Read) → ReadIn p r ρ → Q r ρ) ↔ ((r : ℕ) (ρ : Read) → ReadIn (bare p) r ρ → R r ρ)
each_read p Q R g = (
  λ q r ρ m.
      let lt : r < count p = rw (count-bare p) at m.0 in
      (each r lt).0 (λ σ i. q r σ (lt, i)) ρ (rw (reads-bare p r) at m.1),
  λ h r ρ m. (each r m.0).1 (λ σ i. h r σ (rw (count-bare p) m.0, rw (reads-bare p r) i)) ρ m.1,
)
  where
    each : (r : ℕ) → r < count p → ((ρ : Read) → ρ among body_reads (signal_at p r).body → Q r ρ) ↔
        ((ρ : Read) → ρ among map bare_read (body_reads (signal_at p r).body) → R r ρ)
    each r lt = each_map bare_read (Q r) (R r) (body_reads (signal_at p r).body) (λ ρ m. g r ρ (lt, m))

each-chain : (p : Program) (Q R : Chain → Type 0) → ((c : Chain) → c among p.chains → Q c ↔ R (map_chain bare_read (λ at. 0) c)) →
    ((c : Chain) → c among p.chains → Q c) ↔ ((c : Chain) → c among (bare p).chains → R c)
each-chain p Q R g = each_map (map_chain bare_read (λ at. 0)) Q R p.chains g

each-link : (p : Program) (Q R : Link → Type 0) → ((l : Link) → Q l ↔ R (map_link bare_read (λ at. 0) l)) →
    ((l : Link) → LinkIn p l → Q l) ↔ ((l : Link) → LinkIn (bare p) l → R l)
each-link p Q R g = (
  λ q l m. forth.0 (λ c i k n. q k (c, i, n)) m.0 m.1 l m.2,
  λ h l m. forth.1 (λ c i k n. h k (c, i, n)) m.0 m.1 l m.2,
)
  where
    forth : ((c : Chain) → c among p.chains → (l : Link) → l among c.links → Q l) ↔
        ((c : Chain) → c among (bare p).chains → (l : Link) → l among c.links → R l)
    forth =
        each-chain p _ (λ c. (l : Link) → l among c.links → R l)
        (λ c i. each_map (map_link bare_read (λ at. 0)) Q R c.links (λ l n. g l))

-- 7, 8.
rated-bare : (p : Program) → DeclaredAndRated p ↔ DeclaredAndRated (bare p)
rated-bare p = (
  λ c. record { reads = reads.0 c.reads; links = links.0 c.links; periods = periods.0 c.periods },
  λ c. record { reads = reads.1 c.reads; links = links.1 c.links; periods = periods.1 c.periods },
)
  where
    below : (x : ℕ) → x < count p ↔ x < count (bare p)
    below x = rw (count-bare p) (λ h. h, λ h. h)

    reads : ((r : ℕ) (ρ : Read) → ReadIn p r ρ → ρ.operands.signal < count p) ↔
        ((r : ℕ) (ρ : Read) → ReadIn (bare p) r ρ → ρ.operands.signal < count (bare p))
    reads = each_read p _ (λ r ρ. ρ.operands.signal < count (bare p)) (λ r ρ i. below ρ.operands.signal)

    links : ((l : Link) → LinkIn p l → l.signal < count p) ↔ ((l : Link) → LinkIn (bare p) l → l.signal < count (bare p))
    links = each-link p _ (λ l. l.signal < count (bare p)) (λ l. below l.signal)

    periods : ((r : ℕ) (ρ : Read) → ReadIn p r ρ → ReadRule p r ρ) ↔
        ((r : ℕ) (ρ : Read) → ReadIn (bare p) r ρ → ReadRule (bare p) r ρ)
    periods = each_read p _ (ReadRule (bare p)) (λ r ρ i. rule-bare p r ρ)

-- 9.
multiple-bare : (p : Program) (h : ℕ) → Multiple p h ↔ Multiple (bare p) h
multiple-bare p h = (
  λ m.
      record {
        positive = m.positive;
        divides = λ x lt. rw (period-bare p x) (m.divides x (rw (count-bare p) at lt));
      },
  λ m.
      record {
        positive = m.positive;
        divides = λ x lt. rw (period-bare p x) at (m.divides x (rw (count-bare p) lt));
      },
)

least-bare : (p : Program) (h : ℕ) → Least p h ↔ Least (bare p) h
least-bare p h = (
  λ l.
      record {
        multiple = (multiple-bare p h).0 l.multiple;
        bound = l.bound;
        least = λ m v. l.least m ((multiple-bare p m).1 v);
      },
  λ l.
      record {
        multiple = (multiple-bare p h).1 l.multiple;
        bound = l.bound;
        least = λ m v. l.least m ((multiple-bare p m).0 v);
      },
)

-- 10.
links-bare : (c : Chain) → link_signals (map_chain bare_read (λ at. 0) c) ≡ link_signals c
links-bare c = map-map (λ l. l.signal) (map_link bare_read (λ at. 0)) c.links

reads-of-bare : (p : Program) (w r : ℕ) → count_reads w (body_reads (signal_at (bare p) r).body) ≡
    count_reads w (body_reads (signal_at p r).body)
reads-of-bare p w r = rw (reads-bare p r) (count-bare-reads w (body_reads (signal_at p r).body))

linked-bare : (p : Program) (c : Chain) → Linked p c ↔ Linked (bare p) (map_chain bare_read (λ at. 0) c)
linked-bare p c = (
  λ h j lt.
      let g = h j (rw (links-bare c) at lt) in
      rw (links-bare c) (reads-of-bare p _ _ ∙ g),
  λ h j lt.
      let g = h j (rw (links-bare c) lt) in
      sym (reads-of-bare p _ _) ∙ rw (links-bare c) at g,
)

-- 12, 13.
placed-bare : (p : Program) (puts : List Put) (s : Schedule) → Placed p puts s ↔ Placed (bare p) puts s
unfolding schedule_of
placed-bare p puts s = (
  λ c.
      record {
        legal =
            record {
              declared = λ j lt. rw (count-bare p) (c.legal.declared j lt);
              once = c.legal.once;
              phases = λ j lt. rw (period-bare p (put_at puts j).signal) (c.legal.phases j lt);
            };
        all = λ x lt. c.all x (rw (count-bare p) at lt);
        schedule = rw (count-bare p) c.schedule;
      },
  λ c.
      record {
        legal =
            record {
              declared = λ j lt. rw (count-bare p) at (c.legal.declared j lt);
              once = c.legal.once;
              phases = λ j lt. rw (period-bare p (put_at puts j).signal) at (c.legal.phases j lt);
            };
        all = λ x lt. c.all x (rw (count-bare p) lt);
        schedule = rw (count-bare p) at c.schedule;
      },
)

-- Phases are below periods.
put-phase : (period : ℕ → ℕ) (puts : List Put) (x : ℕ) →
    ((j : ℕ) → j < length puts → (put_at puts j).phase < period (put_at puts j).signal) → IsPut puts x → put_phase puts x < period x
unfolding put_phase
put-phase period [] x below i = absurd (omega (arith, i.1))
put-phase period (q ∷ qs) x below i =
    go (eqb q.signal x) refl (λ k. put-phase period qs x (λ j lt. below (suc j) (omega arith)) k)
  where
    here : (j : ℕ) → j < length (q ∷ qs) → (put_at (q ∷ qs) j).signal ≡ x → eqb q.signal x ≡ false → IsPut qs x
    here zero lt e f = absurd (eqb-false q.signal x f e)
    here (suc j) lt e f = (j, omega arith, e)

    go : (b : Bool) → eqb q.signal x ≡ b → (IsPut qs x → put_phase qs x < period x) →
        cond b q.phase (put_phase qs x) < period x
    go true e ih = rw (eqb-true q.signal x e) at (below 0 (omega arith))
    go false e ih = ih (here i.0 i.1 i.2 e)

placed-phase : (p : Program) (puts : List Put) (s : Schedule) → Placed p puts s → (x : ℕ) → x < count p →
    phase_of s x < (signal_at p x).period
unfolding schedule_of
placed-phase p puts s c x lt =
    rw (c.schedule, table_at (count p) (put_phase puts) x 0 lt)
    (put-phase (λ x. (signal_at p x).period) puts x c.legal.phases (c.all x lt))

module _ (p : Program) (s : Schedule) where
  -- 14.
  met-bare : (r : ℕ) (ρ : Read) →
      (ρ.operands.signal < count p → phase_of s ρ.operands.signal < (signal_at p ρ.operands.signal).period) →
      phase_of s r < (signal_at p r).period → Met p s r ρ ↔ Met (bare p) s r (bare_read ρ)
  unfolding settled kind' index'
  met-bare r ρ u v = (
    λ m.
        record {
          declared = rw (count-bare p) m.declared;
          periods = (rule-bare p r ρ).0 m.periods;
          line = rw (period-bare p w, period-bare p r) ((after_line kind n i a b (u m.declared) v m.periods).0 m.line);
          order = λ j k same.
              (after_first kind n i s w r).1 (m.order j k (rw (period-bare p w, period-bare p r) at same));
        },
    λ m.
        let d : w < count p = rw (count-bare p) at m.declared in
        let e = (rule-bare p r ρ).1 m.periods in
        record {
          declared = d;
          periods = e;
          line = (after_line kind n i a b (u d) v e).1 (rw (period-bare p w, period-bare p r) at m.line);
          order = λ j k same.
              (after_first kind n i s w r).0 (m.order j k (rw (period-bare p w, period-bare p r) same));
        },
  )
    where
      kind : Kind
      kind = ρ.kind

      n : ℕ
      n = ρ.operands.factor

      i : Index
      i = ρ.operands.index

      w : ℕ
      w = ρ.operands.signal

      a : Rate
      a = rate_of p s w

      b : Rate
      b = rate_of p s r

  -- 15.
  load-bare : (c : ℕ) → load (bare p) s c ≡ load p s c
  unfolding load
  load-bare c = rw (count-bare p) (ap (λ f. sum (table (count p) f)) (fun_ext one))
    where
      weight-bare : (x : ℕ) → weight_of (signal_at (bare p) x).body ≡ weight_of (signal_at p x).body
      weight-bare x = ap (λ z. weight_of z.body) (signal-bare p x) ∙ map-weight bare_read (signal_at p x).body

      one : (x : ℕ) → cond (due (rate_of (bare p) s x) c) (weight_of (signal_at (bare p) x).body) 0 ≡
          cond (due (rate_of p s x) c) (weight_of (signal_at p x).body) 0
      one x = rw (period-bare p x, weight-bare x)

  -- 16.
  used-bare : (r k : ℕ) (ρ : Read) → used (bare p) s r k (bare_read ρ) ≡ used p s r k ρ
  unfolding used settled kind' index'
  used-bare r k ρ =
      rw (period-bare p ρ.operands.signal, period-bare p r)
      (after-uses ρ.kind ρ.operands.factor ρ.operands.index (rate_of p s ρ.operands.signal) (rate_of p s r) k)

  -- `used` written out.
  used-is-bare : (r k : ℕ) (ρ : Read) →
      uses (bare_read ρ).kind ρ.operands.factor (settled (bare p) s r (bare_read ρ)) k ≡
      uses ρ.kind ρ.operands.factor (settled p s r ρ) k
  unfolding used
  used-is-bare r k ρ = used-bare r k ρ

  back-bare : (ρs : List Read) (r k : ℕ) → back (bare p) s r k (map bare_read ρs) ≡ back p s r k ρs
  unfolding back
  back-bare [] r k = refl
  back-bare (ρ ∷ ρs) r k =
      rw (used-bare r k ρ) (ap (λ f. onward f (used p s r k ρ)) (fun_ext (λ m. back-bare ρs ρ.operands.signal m)))

  source-bare : (ρs : List Read) (r : ℕ) → source (bare p) s r (map bare_read ρs) ≡ source p s r ρs
  unfolding source
  source-bare [] r = refl
  source-bare (ρ ∷ ρs) r = source-bare ρs ρ.operands.signal

  latency-of-bare : (r k a m : ℕ) →
      latency_of (rate_of (bare p) s r) k (rate_of (bare p) s a) m ≡ latency_of (rate_of p s r) k (rate_of p s a) m
  unfolding latency_of
  latency-of-bare r k a m = rw (period-bare p r, period-bare p a)

  latency-bare : (ρs : List Read) (r k : ℕ) → run_latency (bare p) s r (map bare_read ρs) k ≡ run_latency p s r ρs k
  unfolding run_latency
  latency-bare ρs r k = rw (back-bare ρs r k, source-bare ρs r) (go (back p s r k ρs))
    where
      go : (f : Option ℕ) → latency_from (bare p) s r k (source p s r ρs) f ≡ latency_from p s r k (source p s r ρs) f
      go (Some m) = ap Some (latency-of-bare r k (source p s r ρs) m)
      go None = refl

  timely-bare : (mode : Mode) (r : ℕ) (ρs : List Read) (bound : ℕ) →
      Timely p s mode r ρs bound ↔ Timely (bare p) s mode r (map bare_read ρs) bound
  timely-bare Backward r ρs bound = (
    λ h k l e. h k l (sym (latency-bare ρs r k) ∙ e),
    λ h k l e. h k l (latency-bare ρs r k ∙ e),
  )
  timely-bare Exists r ρs bound = (
    λ h. (h.0, h.1, latency-bare ρs r h.0 ∙ h.2, h.3),
    λ h. (h.0, h.1, sym (latency-bare ρs r h.0) ∙ h.2, h.3),
  )

  reads-back-bare : (ws : List ℕ) (r : ℕ) → reads_back (bare p) r ws ≡ map bare_read (reads_back p r ws)
  unfolding reads_back
  reads-back-bare [] r = refl
  reads-back-bare (w ∷ ws) r =
      rw (reads-bare p r, read-of-bare w (body_reads (signal_at p r).body), reads-back-bare ws w)

  keeps-time-bare : (c : Chain) → KeepsTime p s c ↔ KeepsTime (bare p) s (map_chain bare_read (λ at. 0) c)
  keeps-time-bare c = rw (links-bare c) (go (backwards c))
    where
      go : (ws : List ℕ) → TimelyFrom p s c ws ↔ TimelyFrom (bare p) s (map_chain bare_read (λ at. 0) c) ws
      go [] = (λ h. h, λ h. h)
      go (r ∷ ws) = rw (reads-back-bare ws r) (timely-bare c.mode r (reads_back p r ws) c.bound)

  -- The streams.
  entry-bare : (inputs X : ℕ → ℕ → ℤ) (x j : ℕ) →
      entry (bare p) (settled (bare p) s) inputs X x j ≡ entry p (settled p s) inputs X x j
  entry-bare inputs X x zero = ap (λ z. z.initial) (signal-bare p x)
  entry-bare inputs X x (suc k) =
      ap (λ z. next (bare p).rows (word (bare p)) (inputs x k) z.body) (signal-bare p x) ∙
      map_next p.rows (bare p).rows (alike-bare p.rows) bare_read (word p) (word (bare p)) same (inputs x k)
      (signal_at p x).body
    where
      word : Program → Read → ℤ
      word q ρ = X ρ.operands.signal (uses ρ.kind ρ.operands.factor (settled q s x ρ) k)

      same : (ρ : Read) → word (bare p) (bare_read ρ) ≡ word p ρ
      same ρ = ap (X ρ.operands.signal) (used-is-bare x k ρ)

  satisfies-bare : (inputs X : ℕ → ℕ → ℤ) →
      Satisfies p (settled p s) inputs X ↔ Satisfies (bare p) (settled (bare p) s) inputs X
  satisfies-bare inputs X = (
    λ sat x j lt. sat x j (rw (count-bare p) at lt) ∙ sym (entry-bare inputs X x j),
    λ sat x j lt. sat x j (rw (count-bare p) lt) ∙ entry-bare inputs X x j,
  )

  -- The image.
  lists-bare : (h : ℕ) → run_lists (bare p) s h ≡ run_lists p s h
  unfolding run_lists run_list
  lists-bare h =
      ap (table h) (fun_ext (λ c. ap (λ t. chosen t s.order) (fun_ext (λ x. ap (λ a. due a c) (rate-bare p s x)))))

  codes-bare : codes (bare p) ≡ codes p
  unfolding codes
  codes-bare =
      join-map (map_signal bare_read (λ at. 0)) (λ x z. signal_code x z.body ∷ []) (λ x z. signal_code x z.body ∷ [])
      (λ x z. rw (map-signal-code bare_read (λ ρ. refl) x z.body)) 0 p.signals

  image-bare : (h : ℕ) → image_of (bare p) s h ≡ image_of p s h
  unfolding image_of head length_of codes_at rows_at
  image-bare h = rw (lists-bare h, codes-bare, count-bare p, rows-bare p.rows, records-bare p.signals)

  tail-bare : tail_of (bare p) s ≡ tail_of p s
  unfolding tail_of
  tail-bare =
      ap (λ (n : ℕ). joined (table n (λ x. tail_entry (signal_at (bare p) x).label (signal_at (bare p) x).period (phase_of s x))))
      (count-bare p) ∙
      ap (λ f. joined (table (count p) f)) (fun_ext (λ x. rw (label-bare p x, period-bare p x)))

  written_bare : (h : ℕ) → written_of (bare p) s h ≡ written_of p s h
  unfolding written_of
  written_bare h = ap₂ (λ a b. a ++ b) (image-bare h) tail-bare

  -- All conditions.
  keeps-bare : (puts : List Put) (h : ℕ) → Keeps p puts s h ↔ Keeps (bare p) puts s h
  keeps-bare puts h = (
    λ c.
        record {
          rated = (rated-bare p).0 c.rated;
          hypercycle = (least-bare p h).0 c.hypercycle;
          linked = linked.0 c.linked;
          tabled = (tabled-bare p).0 c.tabled;
          placed = (placed-bare p puts s).0 c.placed;
          met = (met c.placed).0 c.met;
          loads = λ n. rw (load-bare n) (c.loads n);
          latencies = latencies.0 c.latencies;
        },
    λ c.
        let places = (placed-bare p puts s).1 c.placed in
        record {
          rated = (rated-bare p).1 c.rated;
          hypercycle = (least-bare p h).1 c.hypercycle;
          linked = linked.1 c.linked;
          tabled = (tabled-bare p).1 c.tabled;
          placed = places;
          met = (met places).1 c.met;
          loads = λ n. rw (load-bare n) at (c.loads n);
          latencies = latencies.1 c.latencies;
        },
  )
    where
      linked : ((c : Chain) → c among p.chains → Linked p c) ↔ ((c : Chain) → c among (bare p).chains → Linked (bare p) c)
      linked = each-chain p (Linked p) (Linked (bare p)) (λ c i. linked-bare p c)

      met : Placed p puts s →
          ((r : ℕ) (ρ : Read) → ReadIn p r ρ → Met p s r ρ) ↔ ((r : ℕ) (ρ : Read) → ReadIn (bare p) r ρ → Met (bare p) s r ρ)
      met places =
          each_read p (Met p s) (Met (bare p) s) (λ r ρ i.
          met-bare r ρ (placed-phase p puts s places ρ.operands.signal) (placed-phase p puts s places r i.0))

      latencies : ((c : Chain) → c among p.chains → KeepsTime p s c) ↔
          ((c : Chain) → c among (bare p).chains → KeepsTime (bare p) s c)
      latencies = each-chain p (KeepsTime p s) (KeepsTime (bare p) s) (λ c i. keeps-time-bare c)

-- A kind that is converted once is not changed again.
pub single-twice : (kind : Kind) → single_kind (single_kind kind) ≡ single_kind kind
single-twice Now = refl
single-twice Last = refl
single-twice When = refl
single-twice LastWhen = refl
single-twice Current = refl

-- What a program and its conversion have in common, with every schedule: the conditions 7 to 16, 29 and 30 with one hypercycle,
-- the streams, and the image.
pub record Common (p q : Program) (s : Schedule) : Type 0 where
  pub keeps : (puts : List Put) (h : ℕ) → Keeps p puts s h ↔ Keeps q puts s h
  pub streams : (inputs X : ℕ → ℕ → ℤ) → Satisfies p (settled p s) inputs X ↔ Satisfies q (settled q s) inputs X
  pub image : (h : ℕ) → written_of p s h ≡ written_of q s h

through : {P Q : Type 0} (R : Program → Type 0) {a b : Program} → a ≡ b → P ↔ R a → Q ↔ R b → P ↔ Q
through R e f g = (λ x. g.1 (subst R e (f.0 x)), λ y. f.1 (subst R (sym e) (g.0 y)))

pub renamed-common : {p q : Program} → Renamed p q → (s : Schedule) → Common p q s
renamed-common {p} {q} c s =
    record {
      keeps = λ puts h.
          through (λ r. Keeps r puts s h) c.same (keeps-bare p s puts h) (keeps-bare q s puts h);
      streams = λ inputs X.
          through (λ r. Satisfies r (settled r s) inputs X) c.same (satisfies-bare p s inputs X) (satisfies-bare q s inputs X);
      image = λ h. sym (written_bare p s h) ∙ ap (λ r. written_of r s h) c.same ∙ written_bare q s h;
    }

-- Two texts that declare renamed programs: with every schedule with which the one is accepted the other is, with the same
-- schedule and hypercycle.
pub renamed-legal : (old new schedule : List ℕ) (u : Pair) (q : Program) → LegalPairWith 1 old schedule u → length new ≤ 8192 →
    LegalProgram new q → Renamed u.program q →
    LegalPair new schedule (record { program = q; schedule = u.schedule; hypercycle = u.hypercycle })
renamed-legal old new schedule u q l short legal c =
    record {
      places =
          record {
            rates =
                record {
                  short = (short, l.places.rates.short.1);
                  legal = legal;
                  rated = k.rated;
                  hypercycle = k.hypercycle;
                  linked = k.linked;
                  tabled = k.tabled;
                };
            puts = l.places.puts;
            legal = l.places.legal;
            placed = k.placed;
          };
      met = k.met;
      loads = k.loads;
      latencies = k.latencies;
    }
  where
    k : Keeps q l.places.puts.value u.schedule u.hypercycle
    k =
        ((renamed-common c u.schedule).keeps l.places.puts.value u.hypercycle).0
        (record {
          rated = l.places.rates.rated;
          hypercycle = l.places.rates.hypercycle;
          linked = l.places.rates.linked;
          tabled = l.places.rates.tabled;
          placed = l.places.placed;
          met = l.met;
          loads = l.loads;
          latencies = l.latencies;
        })
