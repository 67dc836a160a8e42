-- Joined parts: the reads of a part stay met and keep their index, and the equations of the joined pair are those of its parts
-- with their links. Assumes no_part.
use Prim.Native.Nat.{ℕ, zero, suc, ◌+◌, ◌%◌, ◌≤◌, ◌<◌}
use mathlib.Core.Bool.{Bool, true, false, cond, ◌&&◌}
use mathlib.Core.List.{List, [], ◌∷◌, ◌++◌, map, map-append}
use mathlib.Core.Logic.{◌↔◌, inl, inr}
use mathlib.Core.Path.{◌≡◌, refl, sym, ap, ap₂, subst, fun_ext, ◌∙◌}
use native.Mathlib.Decide.{dec_lt}
use native.Mathlib.Nat.{zero-add, add_assoc, mul-add-mod_self_right, mod-eq_of_lt}
use native.Mathlib.Omega.{arith}
use borrow.Author.Tests.{eqb-true, eqb-false, eq-eqb, ne_eqb}
use lib.Dec.{eqb}
use lib.IntN.{ℤ}
use lib.ListN.{length}
use Rattle.model.specs.Says.Feasible.{All, PeriodRule, PutBefore, PutFor, Met, Feasible}
use Rattle.theorems_streams.specs.Held.{IsInput}
use Rattle.model.specs.Rules.Parts.{
  Part,
  renumber_read,
  renumber_expr,
  renumber_body,
  ◌⊕◌,
  no_part,
  joined_parts,
  base,
  part_at,
  PartLink,
  Wire,
  wire_of,
  wire_read,
  wired_body,
  wired_with,
  joined_pair,
}
use Rattle.theorems_joins.specs.Join.{
  PartSatisfies,
  Served,
  FeasiblePart,
  OneTable,
  LinkNames,
  input_phase,
  signal_phase,
  LinkMet,
  part_inputs,
  LinkedSatisfies,
}
use Rattle.model.specs.Rules.Program.{
  Program,
  Signal,
  Body,
  input,
  equation,
  Expr,
  constant,
  read,
  binary,
  unary,
  choose,
  Read,
  count,
  signal_at,
  reads_of,
  body_reads,
  body_lookups,
}
use Rattle.model.specs.Rules.Reads.{Rate, rate_of, run_cycle, uses, rank, settled_index, settled}
use Rattle.model.specs.Rules.Schedule.{Schedule, phase_of}
use Rattle.theorems_streams.specs.Streams.{value, next, entry, Satisfies}
use Rattle.model.specs.Rules.Table.{Row, unary_word}
use Rattle.model.specs.Rules.Word.{binary_word}
use Rattle.model.specs.declared.Kind.{Kind}
use Rattle.model.specs.declared.Kind.TheVariants.{Now, Last, When, LastWhen, Current}
use Rattle.model.proofs.Basics.All.{all_of_map, all_map, all_both}
use Rattle.model.proofs.Joining.Numbers.{wired-count, wired-signal}
use Rattle.model.proofs.Joining.Parts.{
  join-count,
  first-signal,
  second-signal,
  first-phase,
  second-phase,
  first-rank,
  second-rank,
  join-phases,
  by-signals,
  join-ordered,
}
use Rattle.model.specs.Says.Feasible.{OrderedPart}
use Rattle.model.proofs.Joining.Renumbered.{renumber-body-none}
use Rattle.theorems_joins.proofs.Rows.{
  next-rows,
  renumber-lookups,
  wired-lookups,
  Apart,
  join-rows,
  first_rows,
  second-rows,
  one_apart,
  one-rest,
}
use Rattle.theorems_streams.proofs.Values.{next-same}

-- Element k of a linked input is element k of the signal it names, by joined numbers.
unfoldable wired_inputs : List Wire → (ℕ → ℕ → ℤ) → (ℕ → ℕ → ℤ) → ℕ → ℕ → ℤ
wired_inputs [] inputs X x k = inputs x k
wired_inputs (l ∷ ls) inputs X x k = cond (eqb l.input x) (X l.signal (suc k)) (wired_inputs ls inputs X x k)

-- For each part, what X has from its first signal on satisfies the part's equations.
abbrev EachSatisfies : List Part → (ℕ → ℕ → ℤ) → (ℕ → ℕ → ℤ) → Type 0
EachSatisfies parts inputs X =
    (k : ℕ) → k < length parts →
    PartSatisfies (part_at parts k) (λ x j. inputs (base parts k + x) j) (λ x j. X (base parts k + x) j)

-- Renumbered reads are the reads of a renumbered body.
renumber-reads : (f : ℕ → ℕ) (e : Expr) → reads_of (renumber_expr f e) ≡ map (renumber_read f) (reads_of e)
unfolding reads_of renumber_expr
renumber-reads f (constant w) = refl
renumber-reads f (read ρ) = refl
renumber-reads f (binary operator x y) =
    ap₂ ◌++◌ (renumber-reads f x) (renumber-reads f y) ∙ sym (map-append (renumber_read f) (reads_of x) (reads_of y))
renumber-reads f (unary operator x) = renumber-reads f x
renumber-reads f (choose x y z) =
    ap₂ ◌++◌ (renumber-reads f x)
    (ap₂ ◌++◌ (renumber-reads f y) (renumber-reads f z) ∙ sym (map-append (renumber_read f) (reads_of y) (reads_of z))) ∙
    sym (map-append (renumber_read f) (reads_of x) (reads_of y ++ reads_of z))

pub renumber-body-reads : (f : ℕ → ℕ) (b : Body) → body_reads (renumber_body f b) ≡ map (renumber_read f) (body_reads b)
renumber-body-reads f input = refl
renumber-body-reads f (equation weight e) = renumber-reads f e

-- The value of a renumbered expression.
module _ (rows : List Row) (f : ℕ → ℕ) (word : Read → ℤ) where
  renumber-value : (e : Expr) → value rows word (renumber_expr f e) ≡ value rows (λ ρ. word (renumber_read f ρ)) e
  unfolding value renumber_expr
  renumber-value (constant w) = refl
  renumber-value (read ρ) = refl
  renumber-value (binary operator x y) = ap₂ (binary_word operator) (renumber-value x) (renumber-value y)
  renumber-value (unary operator x) = ap (unary_word rows operator) (renumber-value x)
  renumber-value (choose x y z) =
      let a = renumber-value x in
      let b = renumber-value y in
      let c = renumber-value z in
      cc

  renumber-next : (given : ℤ) (b : Body) →
      next rows word given (renumber_body f b) ≡ next rows (λ ρ. word (renumber_read f ρ)) given b
  renumber-next given input = refl
  renumber-next given (equation weight e) = renumber-value e

-- The numbering f puts program p, with schedule s, into p' with s': rates and order stay.
pub record Embeds (p : Program) (s : Schedule) (p' : Program) (s' : Schedule) (f : ℕ → ℕ) : Type 0 where
  pub below : (x : ℕ) → x < count p → f x < count p'
  pub rates : (x : ℕ) → x < count p → rate_of p' s' (f x) ≡ rate_of p s x
  pub orders : (w r : ℕ) → w < count p → r < count p → PutBefore s w r → PutBefore s' (f w) (f r)

module _ (p : Program) (s : Schedule) (p' : Program) (s' : Schedule) (f : ℕ → ℕ) (embeds : Embeds p s p' s' f) (r : ℕ)
    (lt : r < count p)
  where
    -- A read keeps its index ..
    pub settled-kept : (ρ : Read) → ρ.operands.signal < count p → settled p' s' (f r) (renumber_read f ρ) ≡ settled p s r ρ
    unfolding settled
    settled-kept ρ lw =
        ap₂ (λ (a b : Rate). settled_index ρ.kind a b ρ.operands.factor ρ.operands.index)
        (embeds.rates ρ.operands.signal lw) (embeds.rates r lt)

    put-kept : (kind : Kind) (w : ℕ) → w < count p → PutFor kind s w r → PutFor kind s' (f w) (f r)
    put-kept Now w lw h = embeds.orders w r lw lt h
    put-kept Last w lw (inl h) = inl (embeds.orders r w lt lw h)
    put-kept Last w lw (inr e) = inr (ap f e)
    put-kept When w lw h = embeds.orders w r lw lt h
    put-kept LastWhen w lw (inl h) = inl (embeds.orders r w lt lw h)
    put-kept LastWhen w lw (inr e) = inr (ap f e)
    put-kept Current w lw h = embeds.orders w r lw lt h

    -- .. and stays met.
    pub met-kept : (ρ : Read) → Met p s r ρ → Met p' s' (f r) (renumber_read f ρ)
    met-kept ρ m =
        let w = ρ.operands.signal in
        let lw = m.declared in
        record {
          declared = embeds.below w lw;
          periods =
              subst (λ (a : ℕ). PeriodRule ρ.kind a (signal_at p' (f r)).period ρ.operands.factor)
              (sym (ap (λ a. a.period) (embeds.rates w lw)))
              (subst (λ (b : ℕ). PeriodRule ρ.kind (signal_at p w).period b ρ.operands.factor)
              (sym (ap (λ a. a.period) (embeds.rates r lt))) m.periods);
          line = rw (embeds.rates w lw, embeds.rates r lt) m.line;
          order = λ j k e.
              put-kept ρ.kind w lw
              (m.order j k
              (sym (ap (λ a. run_cycle a j) (embeds.rates w lw)) ∙ e ∙ ap (λ a. run_cycle a k) (embeds.rates r lt)));
        }

    -- The reads of its equation, in the joined program.
    pub reads_kept : (b : Body) → All (Met p s r) (body_reads b) → All (Met p' s' (f r)) (body_reads (renumber_body f b))
    reads_kept b m =
        rw (renumber-body-reads f b)
        (all_of_map (Met p' s' (f r)) (renumber_read f) (body_reads b)
        (all_map (Met p s r) (λ ρ. Met p' s' (f r) (renumber_read f ρ)) met-kept (body_reads b) m))

-- What the equation of f r makes of an entry is what that of r makes of it.
module _ (p : Program) (s : Schedule) (p' : Program) (s' : Schedule) (f : ℕ → ℕ) (embeds : Embeds p s p' s' f)
    (met : (x : ℕ) → x < count p → All (Met p s x) (body_reads (signal_at p x).body))
    (initials : (x : ℕ) → x < count p → (signal_at p' (f x)).initial ≡ (signal_at p x).initial)
    (bodies : (x : ℕ) → x < count p → (signal_at p' (f x)).body ≡ renumber_body f (signal_at p x).body)
    (tables : (x : ℕ) → x < count p → 0 < body_lookups (signal_at p x).body → p'.rows ≡ p.rows) (inputs X : ℕ → ℕ → ℤ) where
  pub entry_kept : (x j : ℕ) → x < count p →
      entry p' (settled p' s') inputs X (f x) j ≡ entry p (settled p s) (λ y k. inputs (f y) k) (λ y k. X (f y) k) x j
  entry_kept x zero lt = initials x lt
  entry_kept x (suc k) lt =
      ap (next p'.rows word (inputs (f x) k)) (bodies x lt) ∙
      renumber-next p'.rows f word (inputs (f x) k) (signal_at p x).body ∙
      next-rows p'.rows p.rows (λ ρ. word (renumber_read f ρ)) (inputs (f x) k) (signal_at p x).body (tables x lt) ∙
      next-same p.rows (Met p s x) (λ ρ. word (renumber_read f ρ))
      (λ ρ. X (f ρ.operands.signal) (uses ρ.kind ρ.operands.factor (settled p s x ρ) k))
      (λ ρ m.
      ap (λ (i : ℕ). X (f ρ.operands.signal) (uses ρ.kind ρ.operands.factor i k))
      (settled-kept p s p' s' f embeds x lt ρ m.declared))
      (inputs (f x) k) (signal_at p x).body (met x lt)
    where
      word : Read → ℤ
      word ρ = X ρ.operands.signal (uses ρ.kind ρ.operands.factor (settled p' s' (f x) ρ) k)

-- An accepted part is in order.
ordered-part : {a : Part} → FeasiblePart a → OrderedPart a
ordered-part ok = record { ordered = ok.feasible.ordered; phased = ok.phased }

-- Two parts.
module _ (a b : Part) (ok : FeasiblePart a) (ok' : FeasiblePart b) where
  abbrev one : OrderedPart a
  one = ordered-part ok

  abbrev two : OrderedPart b
  two = ordered-part ok'

  -- Each part is put into the joined pair: ranks within a part keep their order.
  pub first-embeds : Embeds a.program a.schedule (a ⊕ b).program (a ⊕ b).schedule (λ x. x)
  first-embeds =
      record {
        below = λ x lt. omega (arith, join-count a b);
        rates = λ x lt i.
            record { period = ap (λ σ. σ.period) (first-signal a b x lt) i; phase = first-phase a b one two x lt i };
        orders = λ w r lw lr h. omega (arith, first-rank a b one two w lw, first-rank a b one two r lr);
      }

  pub second-embeds :
      Embeds b.program b.schedule (a ⊕ b).program (a ⊕ b).schedule (λ x. count a.program + x)
  second-embeds =
      record {
        below = λ x lt. omega (arith, join-count a b);
        rates = λ x lt i.
            record { period = ap (λ σ. σ.period) (second-signal a b x) i; phase = second-phase a b one two x i };
        orders = λ w r lw lr h. omega (arith, second-rank a b one two w, second-rank a b one two r);
      }

  first_body : (x : ℕ) → x < count a.program →
      (signal_at (a ⊕ b).program x).body ≡ renumber_body (λ y. y) (signal_at a.program x).body
  first_body x lt = ap (λ σ. σ.body) (first-signal a b x lt) ∙ sym (renumber-body-none (signal_at a.program x).body)

  -- Two accepted parts are accepted when joined.
  pub join-feasible : FeasiblePart (a ⊕ b)
  join-feasible =
      record {
        feasible = record { ordered = (join-ordered a b one two).ordered; met = met };
        phased = join-phases a b one two;
        served = served;
      }
    where
      p : Program
      p = (a ⊕ b).program

      s : Schedule
      s = (a ⊕ b).schedule

      met : (x : ℕ) → x < count p → All (Met p s x) (body_reads (signal_at p x).body)
      met =
          by-signals a b (λ x. All (Met p s x) (body_reads (signal_at p x).body))
          (λ x lt.
          subst (λ (c : Body). All (Met p s x) (body_reads c)) (sym (first_body x lt))
          (reads_kept a.program a.schedule p s (λ y. y) first-embeds x lt (signal_at a.program x).body
          (ok.feasible.met x lt)))
          (λ y lt.
          subst (λ (c : Signal). All (Met p s (count a.program + y)) (body_reads c.body)) (sym (second-signal a b y))
          (reads_kept b.program b.schedule p s (λ z. count a.program + z) second-embeds y lt
          (signal_at b.program y).body (ok'.feasible.met y lt)))

      served : Served p
      served =
          by-signals a b (λ x. 0 < body_lookups (signal_at p x).body → 0 < length p.rows)
          (λ x lt some.
          omega (
            arith,
            join-rows a b,
            ok.served x lt (subst (λ (σ : Signal). 0 < body_lookups σ.body) (first-signal a b x lt) some),
          ))
          (λ y lt some.
          omega (
            arith,
            join-rows a b,
            ok'.served y lt
                (rw (renumber-lookups (λ z. count a.program + z) (signal_at b.program y).body) at
                (subst (λ (σ : Signal). 0 < body_lookups σ.body) (second-signal a b y) some)),
          ))

  -- X satisfies the equations of two joined parts exactly if it satisfies those of the first, and from the second's first
  -- signal on those of the second.
  pub join-streams : Apart a b → (inputs X : ℕ → ℕ → ℤ) →
      PartSatisfies (a ⊕ b) inputs X ↔
      (PartSatisfies a inputs X ×
      PartSatisfies b (λ x k. inputs (count a.program + x) k) (λ x k. X (count a.program + x) k))
  join-streams apart inputs X = (
    (λ sat. (
      (λ x j lt. sat x j (first-embeds.below x lt) ∙ firsts x j lt),
      (λ x j lt. sat (count a.program + x) j (second-embeds.below x lt) ∙ seconds x j lt),
    )),
    (λ sats x j lt.
        by-signals a b (λ y. X y j ≡ entry p (settled p s) inputs X y j) (λ y l. sats.0 y j l ∙ sym (firsts y j l))
        (λ y l. sats.1 y j l ∙ sym (seconds y j l)) x lt),
  )
    where
      p : Program
      p = (a ⊕ b).program

      s : Schedule
      s = (a ⊕ b).schedule

      firsts : (x j : ℕ) → x < count a.program →
          entry p (settled p s) inputs X x j ≡ entry a.program (settled a.program a.schedule) inputs X x j
      firsts =
          entry_kept a.program a.schedule p s (λ x. x) first-embeds ok.feasible.met
          (λ x lt. ap (λ σ. σ.initial) (first-signal a b x lt)) first_body
          (λ x lt some. first_rows a b apart (ok.served x lt some)) inputs X

      seconds : (x j : ℕ) → x < count b.program →
          entry p (settled p s) inputs X (count a.program + x) j ≡
          entry b.program (settled b.program b.schedule) (λ x k. inputs (count a.program + x) k)
          (λ x k. X (count a.program + x) k) x j
      seconds =
          entry_kept b.program b.schedule p s (λ x. count a.program + x) second-embeds ok'.feasible.met
          (λ x lt. ap (λ σ. σ.initial) (second-signal a b x)) (λ x lt. ap (λ σ. σ.body) (second-signal a b x))
          (λ x lt some. second-rows a b apart (ok'.served x lt some)) inputs X

-- All parts.
none-feasible : FeasiblePart no_part
unfolding rank
none-feasible =
    record {
      feasible =
          record {
            ordered =
                record {
                  phases = λ x lt. absurd (omega arith);
                  put = λ x lt. absurd (omega arith);
                  once = λ j lt. absurd (omega arith);
                  only = λ j lt. absurd (omega arith);
                };
            met = λ x lt. absurd (omega arith);
          };
      phased = refl;
      served = λ x lt. absurd (omega arith);
    }

pub parts-feasible : (parts : List Part) → All FeasiblePart parts → FeasiblePart (joined_parts parts)
unfolding joined_parts
parts-feasible [] ok = none-feasible
parts-feasible (a ∷ rest) ok = join-feasible a (joined_parts rest) ok.0 (parts-feasible rest ok.1)

-- Streams that are the same under two numberings.
part_moved : (a : Part) (inputs X : ℕ → ℕ → ℤ) (f g : ℕ → ℕ) → ((x : ℕ) → f x ≡ g x) →
    PartSatisfies a (λ x j. inputs (f x) j) (λ x j. X (f x) j) → PartSatisfies a (λ x j. inputs (g x) j) (λ x j. X (g x) j)
part_moved a inputs X f g e =
    subst (λ (h : ℕ → ℕ). PartSatisfies a (λ x j. inputs (h x) j) (λ x j. X (h x) j)) (fun_ext e)

-- One part and the others.
module _ (a : Part) (rest : List Part) (inputs X : ℕ → ℕ → ℤ) where
  abbrev Others : Type 0
  Others = EachSatisfies rest (λ x j. inputs (count a.program + x) j) (λ x j. X (count a.program + x) j)

  each-apart : PartSatisfies a inputs X → Others → EachSatisfies (a ∷ rest) inputs X
  unfolding base
  each-apart one others zero lt = part_moved a inputs X (λ x. x) (λ x. 0 + x) (λ x. sym (zero-add x)) one
  each-apart one others (suc k) lt =
      part_moved (part_at rest k) inputs X (λ x. count a.program + (base rest k + x))
      (λ x. count a.program + base rest k + x) (λ x. sym (add_assoc (count a.program) (base rest k) x))
      (others k (omega arith))

  apart-each : EachSatisfies (a ∷ rest) inputs X → PartSatisfies a inputs X × Others
  unfolding base
  apart-each sats = (
    part_moved a inputs X (λ x. 0 + x) (λ x. x) zero-add (sats 0 (omega arith)),
    (λ k lt.
        part_moved (part_at rest k) inputs X (λ x. count a.program + base rest k + x)
        (λ x. count a.program + (base rest k + x)) (add_assoc (count a.program) (base rest k))
        (sats (suc k) (omega arith))),
  )

-- X satisfies the equations of the joined parts exactly if it satisfies those of each part.
pub parts-streams : (parts : List Part) → All FeasiblePart parts → OneTable parts → (inputs X : ℕ → ℕ → ℤ) →
    PartSatisfies (joined_parts parts) inputs X ↔ EachSatisfies parts inputs X
unfolding joined_parts
parts-streams [] ok one inputs X = ((λ sat k lt. absurd (omega arith)), (λ sats x j lt. absurd (omega arith)))
parts-streams (a ∷ rest) ok one inputs X =
    let n = count a.program in
    let two = join-streams a (joined_parts rest) ok.0 (parts-feasible rest ok.1) (one_apart a rest one) inputs X in
    let others = parts-streams rest ok.1 (one-rest a rest one) (λ x j. inputs (n + x) j) (λ x j. X (n + x) j) in (
      (λ sat. let h = two.0 sat in each-apart a rest inputs X h.0 (others.0 h.1)),
      (λ sats. let h = apart-each a rest inputs X sats in two.1 (h.0, others.1 h.1)),
    )

-- A program with its links.
module _ (ls : List Wire) (p : Program) where
  pub wired-rows : (wired_with ls p).rows ≡ p.rows
  unfolding wired_with
  wired-rows = refl

  module _ (s : Schedule) where
    -- Links change no rate and no place.
    pub wired-embeds : Embeds p s (wired_with ls p) s (λ x. x)
    wired-embeds =
        record {
          below = λ x lt. omega (arith, wired-count ls p);
          rates = λ x lt i. record { period = ap (λ σ. σ.period) (wired-signal ls p x lt) i; phase = phase_of s x };
          orders = λ w r lw lr h. h;
        }

    -- The reads of signal x are those of its link, or its own.
    pub wired-reads : (Q : Read → Type 0) (x : ℕ) (b : Body) (ws : List Wire) → All (λ l. l.input ≡ x → Q (wire_read l)) ws →
        All Q (body_reads b) → All Q (body_reads (wired_body ws x b))
    unfolding wired_body reads_of
    wired-reads Q x b [] m q = q
    wired-reads Q x b (l ∷ ws) m q = go (eqb l.input x) refl (wired-reads Q x b ws m.1 q)
      where
        go : (t : Bool) → eqb l.input x ≡ t → All Q (body_reads (wired_body ws x b)) →
            All Q (body_reads (cond t (equation 0 (read (wire_read l))) (wired_body ws x b)))
        go true e ih = (m.0 (eqb-true l.input x e), tt)
        go false e ih = ih

    module _ (acc : Feasible p s) where
      -- If every link read is met, the program with its links is accepted.
      pub wired-feasible : All (λ l. Met p s l.input (wire_read l)) ls → Feasible (wired_with ls p) s
      wired-feasible m =
          record {
            ordered =
                record {
                  phases = λ x lt.
                      let l : x < count p = omega (arith, wired-count ls p) in
                      omega (arith, ap (λ σ. σ.period) (wired-signal ls p x l), acc.ordered.phases x l);
                  put = λ x lt. acc.ordered.put x (omega (arith, wired-count ls p));
                  once = acc.ordered.once;
                  only = λ j lt. omega (arith, wired-count ls p, acc.ordered.only j lt);
                };
            met = λ x lt. met x (omega (arith, wired-count ls p));
          }
        where
          met : (x : ℕ) → x < count p → All (Met (wired_with ls p) s x) (body_reads (signal_at (wired_with ls p) x).body)
          met x lt =
              subst (λ (σ : Signal). All (Met (wired_with ls p) s x) (body_reads σ.body)) (sym (wired-signal ls p x lt))
              (wired-reads (Met (wired_with ls p) s x) x (signal_at p x).body ls
              (all_map (λ l. Met p s l.input (wire_read l)) (λ l. l.input ≡ x → Met (wired_with ls p) s x (wire_read l))
              (λ l q e.
              met-kept p s (wired_with ls p) s (λ y. y) wired-embeds x lt (wire_read l)
              (subst (λ (y : ℕ). Met p s y (wire_read l)) e q)) ls m)
              (all_map (Met p s x) (Met (wired_with ls p) s x) (met-kept p s (wired_with ls p) s (λ y. y) wired-embeds x lt)
              (body_reads (signal_at p x).body) (acc.met x lt)))

      module _ (inputs X : ℕ → ℕ → ℤ) where
        -- What the equation of x makes of the words of its reads.
        wired-next : (word word' : Read → ℤ) (x k : ℕ) (b : Body) (ws : List Wire) →
            ((l : Wire) → word' (wire_read l) ≡ X l.signal (suc k)) → All (λ l. l.input ≡ x → IsInput b) ws →
            next p.rows word' (inputs x k) b ≡ next p.rows word (inputs x k) b →
            next p.rows word' (inputs x k) (wired_body ws x b) ≡ next p.rows word (wired_inputs ws inputs X x k) b
        unfolding wired_body wired_inputs value
        wired-next word word' x k b [] named i same = same
        wired-next word word' x k b (l ∷ ws) named i same =
            go (eqb l.input x) refl (wired-next word word' x k b ws named i.1 same)
          where
            linked : (c : Body) → IsInput c → word' (wire_read l) ≡ next p.rows word (X l.signal (suc k)) c
            linked input u = named l
            linked (equation weight e) u = absurd u

            go : (t : Bool) → eqb l.input x ≡ t →
                next p.rows word' (inputs x k) (wired_body ws x b) ≡ next p.rows word (wired_inputs ws inputs X x k) b →
                next p.rows word' (inputs x k) (cond t (equation 0 (read (wire_read l))) (wired_body ws x b)) ≡
                next p.rows word (cond t (X l.signal (suc k)) (wired_inputs ws inputs X x k)) b
            go true e ih = linked b (i.0 (eqb-true l.input x e))
            go false e ih = ih

        wired-entry : All (λ l. IsInput (signal_at p l.input).body) ls → (x j : ℕ) → x < count p →
            entry (wired_with ls p) (settled (wired_with ls p) s) inputs X x j ≡
            entry p (settled p s) (wired_inputs ls inputs X) X x j
        wired-entry i x zero lt = ap (λ σ. σ.initial) (wired-signal ls p x lt)
        wired-entry i x (suc k) lt =
            ap (λ (rows : List Row). next rows word' (inputs x k) (signal_at (wired_with ls p) x).body) wired-rows ∙
            ap (λ σ. next p.rows word' (inputs x k) σ.body) (wired-signal ls p x lt) ∙
            wired-next word word' x k (signal_at p x).body ls (λ l. refl)
            (all_map (λ l. IsInput (signal_at p l.input).body) (λ l. l.input ≡ x → IsInput (signal_at p x).body)
            (λ l u e. subst (λ (y : ℕ). IsInput (signal_at p y).body) e u) ls i)
            (next-same p.rows (Met p s x) word' word
            (λ ρ m.
            ap (λ (i : ℕ). X ρ.operands.signal (uses ρ.kind ρ.operands.factor i k))
            (settled-kept p s (wired_with ls p) s (λ y. y) wired-embeds x lt ρ m.declared))
            (inputs x k) (signal_at p x).body (acc.met x lt))
          where
            word : Read → ℤ
            word ρ = X ρ.operands.signal (uses ρ.kind ρ.operands.factor (settled p s x ρ) k)

            word' : Read → ℤ
            word' ρ = X ρ.operands.signal (uses ρ.kind ρ.operands.factor (settled (wired_with ls p) s x ρ) k)

        -- X satisfies the equations with the links exactly if it satisfies those of the program, element k of a linked input
        -- being element k of the signal it names.
        wired-streams : All (λ l. IsInput (signal_at p l.input).body) ls →
            Satisfies (wired_with ls p) (settled (wired_with ls p) s) inputs X ↔
            Satisfies p (settled p s) (wired_inputs ls inputs X) X
        wired-streams i = (
          (λ sat x j lt. sat x j (omega (arith, wired-count ls p)) ∙ wired-entry i x j lt),
          (λ sat x j lt.
              let l : x < count p = omega (arith, wired-count ls p) in
              sat x j l ∙ sym (wired-entry i x j l)),
        )

-- A linked IN has no TABLE, so there are rows for those that stand.
wired-served : (ls : List Wire) (p : Program) → Served p → Served (wired_with ls p)
wired-served ls p ok x lt some =
    let l : x < count p = omega (arith, wired-count ls p) in
    subst (λ (rows : List Row). 0 < length rows) (sym (wired-rows ls p))
    (ok x l (own ls (subst (λ (σ : Signal). 0 < body_lookups σ.body) (wired-signal ls p x l) some)))
  where
    own : (ws : List Wire) → 0 < body_lookups (wired_body ws x (signal_at p x).body) → 0 < body_lookups (signal_at p x).body
    own ws h = omega (arith, wired-lookups ws x (signal_at p x).body)

-- One part in the joined parts.
pub embeds-trans : (p p' p'' : Program) (s s' s'' : Schedule) (f g : ℕ → ℕ) → Embeds p s p' s' f → Embeds p' s' p'' s'' g →
    Embeds p s p'' s'' (λ x. g (f x))
embeds-trans p p' p'' s s' s'' f g d e =
    record {
      below = λ x lt. e.below (f x) (d.below x lt);
      rates = λ x lt. e.rates (f x) (d.below x lt) ∙ d.rates x lt;
      orders = λ w r lw lr h. e.orders (f w) (f r) (d.below w lw) (d.below r lr) (d.orders w r lw lr h);
    }

abbrev pub PartEmbeds : List Part → Part → (ℕ → ℕ) → Type 0
PartEmbeds parts a f = Embeds a.program a.schedule (joined_parts parts).program (joined_parts parts).schedule f

-- Part k is put into the joined parts: its rates and the order of its runs stay.
pub part-embeds : (parts : List Part) → All FeasiblePart parts → (k : ℕ) → k < length parts →
    PartEmbeds parts (part_at parts k) (λ x. base parts k + x)
unfolding joined_parts base
part-embeds [] ok k lt = absurd (omega arith)
part-embeds (a ∷ rest) ok zero lt =
    subst (λ (f : ℕ → ℕ). PartEmbeds (a ∷ rest) a f) (fun_ext (λ x. sym (zero-add x)))
    (first-embeds a (joined_parts rest) ok.0 (parts-feasible rest ok.1))
part-embeds (a ∷ rest) ok (suc k) lt =
    subst (λ (f : ℕ → ℕ). PartEmbeds (a ∷ rest) (part_at rest k) f)
    (fun_ext (λ x. sym (add_assoc (count a.program) (base rest k) x)))
    (embeds-trans (part_at rest k).program (joined_parts rest).program (a ⊕ joined_parts rest).program
    (part_at rest k).schedule (joined_parts rest).schedule (a ⊕ joined_parts rest).schedule (λ x. base rest k + x)
    (λ x. count a.program + x) (part-embeds rest ok.1 k (omega arith))
    (second-embeds a (joined_parts rest) ok.0 (parts-feasible rest ok.1)))

-- An input stays one.
input-kept : (f : ℕ → ℕ) (b : Body) → IsInput b → IsInput (renumber_body f b)
input-kept f input i = tt
input-kept f (equation weight e) i = absurd i

pub part-input : (parts : List Part) → All FeasiblePart parts → (k x : ℕ) → k < length parts →
    x < count (part_at parts k).program → IsInput (signal_at (part_at parts k).program x).body →
    IsInput (signal_at (joined_parts parts).program (base parts k + x)).body
unfolding joined_parts base
part-input [] ok k x lt lx i = absurd (omega arith)
part-input (a ∷ rest) ok zero x lt lx i =
    rw (zero-add x, first-signal a (joined_parts rest) x lx) i
part-input (a ∷ rest) ok (suc k) x lt lx i =
    rw (
      add_assoc (count a.program) (base rest k) x,
      second-signal a (joined_parts rest) (base rest k + x),
    )
    (input-kept (λ y. count a.program + y) (signal_at (joined_parts rest).program (base rest k + x)).body
    (part-input rest ok.1 k x (omega arith) lx i))

-- Signals of different parts, and different signals of a part, have different numbers.
pub numbers_apart : (parts : List Part) (k m x y : ℕ) → k < length parts → m < length parts →
    x < count (part_at parts k).program → y < count (part_at parts m).program → base parts k + x ≡ base parts m + y →
    (k ≡ m) × (x ≡ y)
unfolding base
numbers_apart [] k m x y lk lm lx ly e = absurd (omega arith)
numbers_apart (a ∷ rest) zero zero x y lk lm lx ly e = (refl, omega arith)
numbers_apart (a ∷ rest) zero (suc m) x y lk lm lx ly e = absurd (omega arith)
numbers_apart (a ∷ rest) (suc k) zero x y lk lm lx ly e = absurd (omega arith)
numbers_apart (a ∷ rest) (suc k) (suc m) x y lk lm lx ly e =
    let h = numbers_apart rest k m x y (omega arith) (omega arith) lx ly (omega arith) in (ap suc h.0, h.1)

same_number : (parts : List Part) (k m x y : ℕ) → k < length parts → m < length parts → x < count (part_at parts k).program →
    y < count (part_at parts m).program → eqb (base parts k + x) (base parts m + y) ≡ eqb k m && eqb x y
same_number parts k m x y lk lm lx ly = go (eqb k m) refl (eqb x y) refl
  where
    apart : base parts k + x ≡ base parts m + y → (k ≡ m) × (x ≡ y)
    apart = numbers_apart parts k m x y lk lm lx ly

    go : (b : Bool) → eqb k m ≡ b → (c : Bool) → eqb x y ≡ c → eqb (base parts k + x) (base parts m + y) ≡ b && c
    go true e true f =
        eq-eqb (base parts k + x) (base parts m + y)
        (ap₂ (λ (i j : ℕ). base parts i + j) (eqb-true k m e) (eqb-true x y f))
    go true e false f = ne_eqb (base parts k + x) (base parts m + y) (λ q. eqb-false x y f (apart q).1)
    go false e c f = ne_eqb (base parts k + x) (base parts m + y) (λ q. eqb-false k m e (apart q).0)

-- The inputs with links, by joined number and by part.
module _ (parts : List Part) (inputs X : ℕ → ℕ → ℤ) (k x j : ℕ) (lk : k < length parts)
    (lx : x < count (part_at parts k).program) where
  inputs-by-part : (links : List PartLink) → All (LinkNames parts) links →
      wired_inputs (map (wire_of parts) links) inputs X (base parts k + x) j ≡
      part_inputs links (λ m y i. inputs (base parts m + y) i) (λ m y i. X (base parts m + y) i) k x j
  unfolding wired_inputs part_inputs
  inputs-by-part [] names = refl
  inputs-by-part (l ∷ links) names =
      rw (same_number parts l.input_part k l.input x names.0.input_part lk names.0.input lx)
      (ap (cond (eqb l.input_part k && eqb l.input x) (X (base parts l.signal_part + l.signal) (suc j)))
      (inputs-by-part links names.1))

inputs-same : (a : Part) (inputs inputs' X : ℕ → ℕ → ℤ) →
    ((x j : ℕ) → x < count a.program → inputs x j ≡ inputs' x j) → PartSatisfies a inputs X → PartSatisfies a inputs' X
inputs-same a inputs inputs' X same sat x zero lt = sat x zero lt
inputs-same a inputs inputs' X same sat x (suc k) lt =
    sat x (suc k) lt ∙
    ap (λ (w : ℤ).
    next a.program.rows
    (λ ρ. X ρ.operands.signal (uses ρ.kind ρ.operands.factor (settled a.program a.schedule x ρ) k)) w
    (signal_at a.program x).body) (same x k lt)

-- Parts and links.
module _ (parts : List Part) (ok : All FeasiblePart parts) (links : List PartLink) (names : All (LinkNames parts) links) where
  pub wires-inputs : All (λ l. IsInput (signal_at (joined_parts parts).program l.input).body) (map (wire_of parts) links)
  wires-inputs =
      all_of_map (λ l. IsInput (signal_at (joined_parts parts).program l.input).body) (wire_of parts) links
      (all_map (LinkNames parts)
      (λ l. IsInput (signal_at (joined_parts parts).program (base parts l.input_part + l.input)).body)
      (λ l n. part-input parts ok l.input_part l.input n.input_part n.input n.is_input) links names)

  -- X satisfies the equations of the joined pair exactly if, for each part, what it has from the part's first signal on
  -- satisfies the part's equations, element j of a linked input being element j of the signal it names.
  pub joined-streams : OneTable parts → (inputs X : ℕ → ℕ → ℤ) →
      PartSatisfies (joined_pair parts links) inputs X ↔ LinkedSatisfies parts links inputs X
  unfolding joined_pair
  joined-streams table inputs X =
      let one = wired-streams (map (wire_of parts) links) (joined_parts parts).program (joined_parts parts).schedule
      (parts-feasible parts ok).feasible inputs X wires-inputs in
      let two = parts-streams parts ok table (wired_inputs (map (wire_of parts) links) inputs X) X in (
        (λ sat k lt.
            inputs-same (part_at parts k) _ _ (λ x j. X (base parts k + x) j)
            (λ x j lx. inputs-by-part parts inputs X k x j lt lx links names) (two.0 (one.0 sat) k lt)),
        (λ sats. one.1 (two.1
            (λ k lt.
            inputs-same (part_at parts k) _ _ (λ x j. X (base parts k + x) j)
            (λ x j lx. sym (inputs-by-part parts inputs X k x j lt lx links names)) (sats k lt)))),
      )

-- A signal of an earlier part is put before one of a later part.
parts-order : (parts : List Part) → All FeasiblePart parts → (k m x y : ℕ) → k < m → m < length parts →
    x < count (part_at parts k).program → y < count (part_at parts m).program →
    rank (joined_parts parts).schedule.order (base parts k + x) < rank (joined_parts parts).schedule.order (base parts m + y)
unfolding joined_parts base
parts-order [] ok k m x y lt lm lx ly = absurd (omega arith)
parts-order (a ∷ rest) ok k zero x y lt lm lx ly = absurd (omega arith)
parts-order (a ∷ rest) ok zero (suc m) x y lt lm lx ly =
    let others = parts-feasible rest ok.1 in
    rw (
      zero-add x,
      add_assoc (count a.program) (base rest m) y,
      first-rank a (joined_parts rest) (ordered-part ok.0) (ordered-part others) x lx,
      second-rank a (joined_parts rest) (ordered-part ok.0) (ordered-part others) (base rest m + y),
    ) (omega (arith, ok.0.feasible.ordered.put x lx))
parts-order (a ∷ rest) ok (suc k) (suc m) x y lt lm lx ly =
    let others = parts-feasible rest ok.1 in
    let ih = parts-order rest ok.1 k m x y (omega arith) (omega arith) lx ly in
    rw (
      add_assoc (count a.program) (base rest k) x,
      add_assoc (count a.program) (base rest m) y,
      second-rank a (joined_parts rest) (ordered-part ok.0) (ordered-part others) (base rest k + x),
      second-rank a (joined_parts rest) (ordered-part ok.0) (ordered-part others) (base rest m + y),
    ) (omega arith)

-- Runs of two rates with one period share a cycle only if their phases are the same.
same-phase : (a b : Rate) (j k : ℕ) → a.phase < a.period → b.phase < b.period → b.period ≡ a.period →
    run_cycle a j ≡ run_cycle b k → a.phase ≡ b.phase
same-phase a b j k va vb e run =
    sym (mod-eq_of_lt va) ∙
    sym (mul-add-mod_self_right j a.period a.phase) ∙
    ap (◌% a.period) run ∙
    ap (λ (n : ℕ). run_cycle b k % n) (sym e) ∙
    mul-add-mod_self_right k b.period b.phase ∙
    mod-eq_of_lt vb

-- The read of a link.
module _ (parts : List Part) (ok : All FeasiblePart parts) (l : PartLink) (names : LinkNames parts l) where
  p : Program
  p = (joined_parts parts).program

  s : Schedule
  s = (joined_parts parts).schedule

  -- The numbers of its IN and of its signal.
  r : ℕ
  r = base parts l.input_part + l.input

  w : ℕ
  w = base parts l.signal_part + l.signal

  reader-rate : rate_of p s r ≡ rate_of (part_at parts l.input_part).program (part_at parts l.input_part).schedule l.input
  unfolding p s r
  reader-rate = (part-embeds parts ok l.input_part names.input_part).rates l.input names.input

  writer-rate : rate_of p s w ≡ rate_of (part_at parts l.signal_part).program (part_at parts l.signal_part).schedule l.signal
  unfolding p s w
  writer-rate = (part-embeds parts ok l.signal_part names.signal_part).rates l.signal names.signal

  reader-below : r < count p
  unfolding p r
  reader-below = (part-embeds parts ok l.input_part names.input_part).below l.input names.input

  writer-below : w < count p
  unfolding p w
  writer-below = (part-embeds parts ok l.signal_part names.signal_part).below l.signal names.signal

  same-period : (signal_at p r).period ≡ (signal_at p w).period
  same-period = ap (λ a. a.period) reader-rate ∙ names.periods ∙ sym (ap (λ a. a.period) writer-rate)

  phases-below : (x : ℕ) → x < count p → phase_of s x < (signal_at p x).period
  unfolding p s
  phases-below = (parts-feasible parts ok).feasible.ordered.phases

  earlier : l.signal_part < l.input_part → PutBefore s w r
  unfolding s w r
  earlier lt =
      parts-order parts ok l.signal_part l.input_part l.signal l.input lt names.input_part names.signal
      names.input

  later : l.input_part < l.signal_part → PutBefore s r w
  unfolding s w r
  later lt =
      parts-order parts ok l.input_part l.signal_part l.input l.signal lt names.signal_part names.input
      names.signal

  link-read-met : LinkMet parts l → Met p s r (wire_read (wire_of parts l))
  unfolding settled w
  link-read-met m =
      record { declared = writer-below; periods = same-period; line = (omega arith, line m); order = order m }
    where
      line : LinkMet parts l → phase_of s w ≤ phase_of s r
      line (inl lt) = omega (arith, ap (λ a. a.phase) reader-rate, ap (λ a. a.phase) writer-rate)
      line (inr h) = omega (arith, ap (λ a. a.phase) reader-rate, ap (λ a. a.phase) writer-rate, h.0)

      order : LinkMet parts l → (j k : ℕ) → run_cycle (rate_of p s w) j ≡ run_cycle (rate_of p s r) k → PutBefore s w r
      order (inl lt) j k e =
          absurd (omega (
            arith,
            ap (λ a. a.phase) reader-rate,
            ap (λ a. a.phase) writer-rate,
            same-phase (rate_of p s w) (rate_of p s r) j k (phases-below w writer-below) (phases-below r reader-below)
                same-period e,
          ))
      order (inr h) j k e = earlier h.1

  met-link-read : Met p s r (wire_read (wire_of parts l)) → LinkMet parts l
  unfolding w
  met-link-read m = go (dec_lt (signal_phase parts l) (input_phase parts l))
    where
      same : ¬ (signal_phase parts l < input_phase parts l) → signal_phase parts l ≡ input_phase parts l
      same ge =
          omega (arith, m.line.1, ap (λ a. a.phase) reader-rate, ap (λ a. a.phase) writer-rate)

      go : Dec (signal_phase parts l < input_phase parts l) → LinkMet parts l
      go (yes lt) = inl lt
      go (no ge) = inr (same ge, first (dec_lt l.signal_part l.input_part))
        where
          shares : run_cycle (rate_of p s w) 0 ≡ run_cycle (rate_of p s r) 0
          shares = omega (arith, same ge, ap (λ a. a.phase) reader-rate, ap (λ a. a.phase) writer-rate)

          first : Dec (l.signal_part < l.input_part) → l.signal_part < l.input_part
          first (yes lt) = lt
          first (no le) =
              let lt : l.input_part < l.signal_part = omega (arith, names.other) in
              absurd (omega (arith, m.order 0 0 shares, later lt))

-- Whether the read of a link is met is seen from the two phases and the two parts alone.
pub link-met-exactly : (parts : List Part) → All FeasiblePart parts → (l : PartLink) → LinkNames parts l →
    Met (joined_parts parts).program (joined_parts parts).schedule (wire_of parts l).input (wire_read (wire_of parts l)) ↔
    LinkMet parts l
unfolding p s r
link-met-exactly parts ok l names = (met-link-read parts ok l names, link-read-met parts ok l names)

-- Accepted parts whose links name what they should, each with its read met, are accepted when joined.
pub joined-feasible : (parts : List Part) → All FeasiblePart parts → (links : List PartLink) → All (LinkNames parts) links →
    All (LinkMet parts) links → FeasiblePart (joined_pair parts links)
unfolding joined_pair
joined-feasible parts ok links names met =
    record {
      feasible =
          wired-feasible (map (wire_of parts) links) (joined_parts parts).program (joined_parts parts).schedule
          (parts-feasible parts ok).feasible
          (all_of_map _ (wire_of parts) links
          (all_map (λ l. LinkNames parts l × LinkMet parts l) _ (λ l h. (link-met-exactly parts ok l h.0).1 h.1) links
          (all_both (LinkNames parts) (LinkMet parts) links names met)));
      phased =
          (parts-feasible parts ok).phased ∙
          sym (wired-count (map (wire_of parts) links) (joined_parts parts).program);
      served = wired-served (map (wire_of parts) links) (joined_parts parts).program (parts-feasible parts ok).served;
    }
