-- The joined pair of accepted texts: its image keeps its bounds, and any list of calls on it leaves what the equations of all
-- parts and links together give. Assumes nothing.
use Prim.Native.Nat.{ℕ, zero, suc, ◌+◌, ◌*◌, ◌≤◌, ◌<◌}
use mathlib.Core.Bool.{Bool, true, false, cond}
use mathlib.Core.List.{List, [], ◌∷◌, ◌++◌, map}
use mathlib.Core.Path.{◌≡◌, refl, sym, ap, ap₂, subst, ◌∙◌}
use native.Mathlib.Nat.{mul-le-mul}
use native.Mathlib.Omega.{arith}
use borrow.Author.Tests.{eqb-true}
use lib.Dec.{eqb}
use lib.ListN.{length, get_or, length-append}
use mir.Syntax.{w32}
use mir.Val.{SFits}
use Rattle.model.specs.Says.Feasible.{All, Multiple}
use Rattle.theorems_streams.specs.Held.{IsInput}
use Rattle.model.specs.Rules.Compile.{Pair, pair_of}
use Rattle.model.specs.Rules.Image.{expr_code, signal_code, codes, joined, rows_at, codes_at, length_of}
use Rattle.model.specs.Rules.Parts.{
  Part,
  part_at,
  renumber_expr,
  renumber_body,
  renumber_signal,
  ◌⊕◌,
  joined_parts,
  PartLink,
  Wire,
  wire_of,
  wire_read,
  wired_body,
  wired_signal,
  wired_with,
  joined_pair,
}
use Rattle.theorems_joins.specs.Join.{FeasiblePart, OneTable, LinkNames, LinkMet}
use Rattle.model.specs.Rules.Outcome.{accepted}
use Rattle.model.specs.Rules.Program.{
  Program,
  Signal,
  Body,
  input,
  equation,
  Expr,
  constant,
  read,
  binary,
  unary,
  choose,
  no_signal,
  count,
  signal_at,
}
use Rattle.model.specs.Rules.Schedule.{Schedule, schedule_of, put_phase}
use Rattle.model.specs.Rules.Search.{join_from}
use Rattle.model.proofs.Basics.All.{all_map}
use Rattle.model.proofs.Images.Bounds.{Bounded, depth, body_depth, Words, BodyWords}
use Rattle.model.specs.Rules.Word.{AreBytes}
use Rattle.theorems_pairs.proofs.Exact.{accepted-exactly}
use Rattle.model.proofs.Joining.Numbers.{wired-count, wired-signal}
use Rattle.model.proofs.Joining.Parts.{first-signal, second-signal, by-signals}
use Rattle.model.proofs.Joining.Renumbered.{code-length}
use Rattle.theorems_joins.proofs.Parts.{parts-feasible, wired-rows, wires-inputs, joined-feasible}
use Rattle.model.proofs.Texts.Legal.{legal}
use Rattle.model.proofs.Basics.Outcomes.{table-length}
use Rattle.model.proofs.Pairs.Pigeons.{order-length}
use Rattle.model.proofs.Images.Stretches.{joined-cons}
use Rattle.model.proofs.Pairs.Verdict.{pair-passed, pair-accepted, pair-bounded, tabled-served, lists_length}
use Rattle.model.proofs.Rows.Area.{sorted-bytes}
use Rattle.model.specs.Rules.Table.{Row, row_at}
use Rattle.model.specs.Says.Rows.{AllUpright, Covers}
use Rattle.theorems_joins.proofs.Rows.{join-rows, rows-one}

-- A part as it is read from its two texts.
pub record TextPart : Type 0 where
  pub program : List ℕ
  pub schedule : List ℕ
  pub pair : Pair
  pub accepts : pair_of program schedule ≡ accepted pair
  pub bytes : AreBytes program

abbrev pub tree_of : TextPart → Part
tree_of t = record { program = t.pair.program; schedule = t.pair.schedule }

-- The bytes of all program texts.
abbrev pub text_total : List TextPart → ℕ
text_total [] = 0
text_total (t ∷ ts) = length t.program + text_total ts

-- A part that the compiler accepts alone is feasible.
pub pair-feasible : (program schedule : List ℕ) (q : Pair) → pair_of program schedule ≡ accepted q →
    FeasiblePart (record { program = q.program; schedule = q.schedule })
unfolding schedule_of
pair-feasible program schedule q e =
    let places = ((accepted-exactly program schedule q).0 e).places in
    record {
      feasible = pair-accepted program schedule q e;
      phased =
          ap (λ (s : Schedule). length s.phases) places.placed.schedule ∙
          table-length (count q.program) (put_phase places.puts.value);
      served = tabled-served q.program (pair-passed program schedule q e).tables;
    }

pub text-feasible : (t : TextPart) → FeasiblePart (tree_of t)
text-feasible t = pair-feasible t.program t.schedule t.pair t.accepts

pub texts-feasible : (ts : List TextPart) → All FeasiblePart (map tree_of ts)
texts-feasible [] = tt
texts-feasible (t ∷ ts) = (text-feasible t, texts-feasible ts)

-- The bytes of code. New numbers and links change none.
abbrev body_size : Body → ℕ
body_size b = length (signal_code 0 b)

abbrev sizes : List Signal → ℕ
sizes [] = 0
sizes (σ ∷ σs) = body_size σ.body + sizes σs

code-size : (x : ℕ) (b : Body) → length (signal_code x b) ≡ body_size b
code-size x input = refl
code-size x (equation weight e) = simp length-append

codes-size : (i : ℕ) (σs : List Signal) → length (joined (join_from i (λ x σ. signal_code x σ.body ∷ []) σs)) ≡ sizes σs
unfolding join_from
codes-size i [] = refl
codes-size i (σ ∷ σs) =
    ap length (joined-cons (signal_code i σ.body) (join_from (suc i) (λ x τ. signal_code x τ.body ∷ []) σs)) ∙
    length-append (signal_code i σ.body) (joined (join_from (suc i) (λ x τ. signal_code x τ.body ∷ []) σs)) ∙
    ap₂ ◌+◌ (code-size i σ.body) (codes-size (suc i) σs)

program-size : (p : Program) → length (joined (codes p)) ≡ sizes p.signals
unfolding codes
program-size p = codes-size 0 p.signals

renumber-sizes : (f : ℕ → ℕ) (σs : List Signal) → sizes (map (renumber_signal f) σs) ≡ sizes σs
renumber-sizes f [] = refl
renumber-sizes f (σ ∷ σs) = ap₂ ◌+◌ (code-length f 0 0 σ.body) (renumber-sizes f σs)

sizes-append : (σs τs : List Signal) → sizes (σs ++ τs) ≡ sizes σs + sizes τs
sizes-append [] τs = omega arith
sizes-append (σ ∷ σs) τs = omega (arith, sizes-append σs τs)

join-size : (a b : Part) → sizes (a ⊕ b).program.signals ≡ sizes a.program.signals + sizes b.program.signals
unfolding ◌⊕◌
join-size a b =
    sizes-append a.program.signals _ ∙
    ap (λ (n : ℕ). sizes a.program.signals + n)
    (renumber-sizes (λ x. count a.program + x) b.program.signals)

texts-size : (ts : List TextPart) →
    sizes (joined_parts (map tree_of ts)).program.signals + 12 * length (joined_parts (map tree_of ts)).program.rows ≤
    text_total ts
unfolding joined_parts
texts-size [] = omega arith
texts-size (t ∷ ts) =
    let l = legal t.program t.pair.program (pair-passed t.program t.schedule t.pair t.accepts).parses in
    omega (
      arith,
      join-size (tree_of t) (joined_parts (map tree_of ts)),
      join-rows (tree_of t) (joined_parts (map tree_of ts)),
      texts-size ts,
      program-size t.pair.program,
      l.1.code,
      l.2,
    )

-- Lists whose elements are of the same size, one by one.
sizes-same : (σs τs : List Signal) → length σs ≡ length τs →
    ((x : ℕ) → x < length σs → body_size (get_or σs x no_signal).body ≡ body_size (get_or τs x no_signal).body) → sizes σs ≡ sizes τs
sizes-same [] [] e h = refl
sizes-same [] (τ ∷ τs) e h = absurd (omega arith)
sizes-same (σ ∷ σs) [] e h = absurd (omega arith)
sizes-same (σ ∷ σs) (τ ∷ τs) e h =
    ap₂ ◌+◌ (h 0 (omega arith)) (sizes-same σs τs (omega arith) (λ x lt. h (suc x) (omega arith)))

wired-body-size : (ls : List Wire) (x : ℕ) (b : Body) → All (λ l. l.input ≡ x → IsInput b) ls →
    body_size (wired_body ls x b) ≡ body_size b
unfolding wired_body expr_code
wired-body-size [] x b i = refl
wired-body-size (l ∷ ls) x b i = go (eqb l.input x) refl (wired-body-size ls x b i.1)
  where
    linked : (c : Body) → IsInput c → 4 ≡ body_size c
    linked input u = refl
    linked (equation weight e) u = absurd u

    go : (t : Bool) → eqb l.input x ≡ t → body_size (wired_body ls x b) ≡ body_size b →
        body_size (cond t (equation 0 (read (wire_read l))) (wired_body ls x b)) ≡ body_size b
    go true e ih = linked b (i.0 (eqb-true l.input x e))
    go false e ih = ih

wired-size : (ls : List Wire) (p : Program) → All (λ l. IsInput (signal_at p l.input).body) ls →
    sizes (wired_with ls p).signals ≡ sizes p.signals
wired-size ls p i =
    sizes-same (wired_with ls p).signals p.signals (wired-count ls p)
    (λ x lt.
    let l : x < count p = omega (arith, wired-count ls p) in
    ap (λ (σ : Signal). body_size σ.body) (wired-signal ls p x l) ∙
    wired-body-size ls x (signal_at p x).body
    (all_map (λ l. IsInput (signal_at p l.input).body) (λ l. l.input ≡ x → IsInput (signal_at p x).body)
    (λ l u e. subst (λ (y : ℕ). IsInput (signal_at p y).body) e u) ls i))

-- What the image's bytes rest on, signal by signal.
pub record Lawful (σ : Signal) : Type 0 where
  pub initial : SFits w32 σ.initial
  pub depth : body_depth σ.body ≤ 16
  pub constants : BodyWords σ.body

renumber-depth : (f : ℕ → ℕ) (e : Expr) → depth (renumber_expr f e) ≡ depth e
unfolding renumber_expr
renumber-depth f (constant w) = refl
renumber-depth f (read ρ) = refl
renumber-depth f (binary operator x y) = rw (renumber-depth f x, renumber-depth f y)
renumber-depth f (unary operator x) = rw (renumber-depth f x)
renumber-depth f (choose x y z) = rw (renumber-depth f x, renumber-depth f y, renumber-depth f z)

renumber-words : (f : ℕ → ℕ) (e : Expr) → Words e → Words (renumber_expr f e)
unfolding renumber_expr
renumber-words f (constant w) h = h
renumber-words f (read ρ) h = tt
renumber-words f (binary operator x y) h = (renumber-words f x h.0, renumber-words f y h.1)
renumber-words f (unary operator x) h = renumber-words f x h
renumber-words f (choose x y z) h = (renumber-words f x h.0, renumber-words f y h.1, renumber-words f z h.2)

renumber-lawful : (f : ℕ → ℕ) (σ : Signal) → Lawful σ → Lawful (renumber_signal f σ)
renumber-lawful f σ h =
    record { initial = h.initial; depth = depths σ.body h.depth; constants = words σ.body h.constants }
  where
    depths : (b : Body) → body_depth b ≤ 16 → body_depth (renumber_body f b) ≤ 16
    depths input le = le
    depths (equation weight e) le = rw (renumber-depth f e) le

    words : (b : Body) → BodyWords b → BodyWords (renumber_body f b)
    words input w = tt
    words (equation weight e) w = renumber-words f e w

wired-lawful : (ls : List Wire) (x : ℕ) (σ : Signal) → Lawful σ → Lawful (wired_signal ls x σ)
unfolding wired_body
wired-lawful [] x σ h = h
wired-lawful (l ∷ ls) x σ h = go (eqb l.input x) (wired-lawful ls x σ h)
  where
    go : (t : Bool) → Lawful (wired_signal ls x σ) →
        Lawful (record {
          place = σ.place;
          period = σ.period;
          initial = σ.initial;
          body = cond t (equation 0 (read (wire_read l))) (wired_body ls x σ.body);
          label = σ.label;
        })
    go true ih = record { initial = h.initial; depth = omega arith; constants = tt }
    go false ih = ih

texts-lawful : (ts : List TextPart) (x : ℕ) → x < count (joined_parts (map tree_of ts)).program →
    Lawful (signal_at (joined_parts (map tree_of ts)).program x)
unfolding joined_parts
texts-lawful [] x lt = absurd (omega arith)
texts-lawful (t ∷ ts) x lt =
    let a = tree_of t in
    let b = joined_parts (map tree_of ts) in
    let ok = text-feasible t in
    let ok' = parts-feasible (map tree_of ts) (texts-feasible ts) in
    let bound = pair-bounded t.program t.schedule t.pair t.accepts t.bytes in
    by-signals a b (λ y. Lawful (signal_at (a ⊕ b).program y))
    (λ y l.
    subst Lawful (sym (first-signal a b y l))
    (record { initial = bound.initials y l; depth = bound.depths y l; constants = bound.constants y l }))
    (λ y l.
    subst Lawful (sym (second-signal a b y))
    (renumber-lawful (λ z. count a.program + z) (signal_at b.program y) (texts-lawful ts y l))) x lt

-- What the image's bytes rest on, of the rows.
record LawfulRows (rows : List Row) : Type 0 where
  pub few : length rows ≤ 32
  pub upright : AllUpright rows
  pub results : (n : ℕ) → n < length rows → SFits w32 (row_at rows n).result
  pub covers : 0 < length rows → Covers rows

none-lawful : LawfulRows []
none-lawful =
    record {
      few = omega arith;
      upright = λ n lt. absurd (omega arith);
      results = λ n lt. absurd (omega arith);
      covers = λ some. absurd (omega arith);
    }

text-rows : (ts : List TextPart) (k : ℕ) → k < length (map tree_of ts) → LawfulRows (part_at (map tree_of ts) k).program.rows
text-rows [] k lt = absurd (omega arith)
text-rows (t ∷ ts) zero lt =
    let b = pair-bounded t.program t.schedule t.pair t.accepts t.bytes in
    record { few = b.few-rows; upright = b.upright; results = b.results; covers = b.covers }
text-rows (t ∷ ts) (suc k) lt = text-rows ts k (omega arith)

-- Parts from their texts, at most 8,192 bytes of program in all, with links that name what they should and whose reads are
-- met and rows in one part only; at most 64 signals together, and a common multiple of all periods that is at most 240.
module _ (ts : List TextPart) (short : text_total ts ≤ 8192) (table : OneTable (map tree_of ts)) (links : List PartLink)
    (names : All (LinkNames (map tree_of ts)) links) (met : All (LinkMet (map tree_of ts)) links) (h : ℕ)
    (few : count (joined_pair (map tree_of ts) links).program ≤ 64)
    (whole : Multiple (joined_pair (map tree_of ts) links).program h) (hyper : h ≤ 240) where
  pub joined-ok : FeasiblePart (joined_pair (map tree_of ts) links)
  joined-ok = joined-feasible (map tree_of ts) (texts-feasible ts) links names met

  joined-rows : (joined_pair (map tree_of ts) links).program.rows ≡ (joined_parts (map tree_of ts)).program.rows
  unfolding joined_pair
  joined-rows = wired-rows (map (wire_of (map tree_of ts)) links) (joined_parts (map tree_of ts)).program

  rows-lawful : LawfulRows (joined_pair (map tree_of ts) links).program.rows
  rows-lawful = subst LawfulRows (sym joined-rows) (rows-one (map tree_of ts) table LawfulRows none-lawful (text-rows ts))

  joined-size :
      sizes (joined_pair (map tree_of ts) links).program.signals +
      12 * length (joined_pair (map tree_of ts) links).program.rows ≤
      8192
  unfolding joined_pair
  joined-size =
      omega (
        arith,
        ap (λ (rows : List Row). length rows) joined-rows,
        wired-size (map (wire_of (map tree_of ts)) links) (joined_parts (map tree_of ts)).program
            (wires-inputs (map tree_of ts) (texts-feasible ts) links names),
        texts-size ts,
      )

  joined-lawful : (x : ℕ) → x < count (joined_pair (map tree_of ts) links).program →
      Lawful (signal_at (joined_pair (map tree_of ts) links).program x)
  unfolding joined_pair
  joined-lawful x lt =
      let p = (joined_parts (map tree_of ts)).program in
      let ls = map (wire_of (map tree_of ts)) links in
      let l : x < count p = omega (arith, wired-count ls p) in
      subst Lawful (sym (wired-signal ls p x l)) (wired-lawful ls x (signal_at p x) (texts-lawful ts x l))

  pub joined-bounded : Bounded (joined_pair (map tree_of ts) links).program (joined_pair (map tree_of ts) links).schedule h
  unfolding length_of codes_at rows_at
  joined-bounded =
      let p = (joined_pair (map tree_of ts) links).program in
      let s = (joined_pair (map tree_of ts) links).schedule in
      let acc = joined-ok.feasible in
      let order = order-length s.order (count p) acc.ordered.put acc.ordered.once acc.ordered.only in
      let puts : length s.order ≤ 64 = omega arith in
      let area : h * length s.order ≤ 240 * 64 = mul-le-mul hyper puts in
      record {
        hyper = hyper;
        signals = few;
        initials = λ x lt. (joined-lawful x lt).initial;
        depths = λ x lt. (joined-lawful x lt).depth;
        constants = λ x lt. (joined-lawful x lt).constants;
        few-rows = rows-lawful.few;
        upright = rows-lawful.upright;
        results = rows-lawful.results;
        covers = rows-lawful.covers;
        served = joined-ok.served;
        size = omega (arith, program-size p, joined-size, lists_length p s h, sorted-bytes p.rows);
      }
