-- The chains of a part keep their latency when it is joined: phases, order and reads within a part stay. Assumes nothing.
use Rattle.std.specs.Prelude.{Option, Some, None}
use Prim.Native.Nat.{ℕ, zero, suc, ◌+◌, ◌≤◌, ◌<◌}
use mathlib.Core.Bool.{Bool, true, false, cond}
use mathlib.Core.List.{List, [], ◌∷◌, map, reverse_aux}
use mathlib.Core.Path.{◌≡◌, refl, sym, ap, ap₂, subst, fun_ext, ◌∙◌}
use native.Mathlib.Nat.{zero-add, add_assoc}
use native.Mathlib.Omega.{arith}
use borrow.Author.Tests.{eqb-true, eqb-false, eq-eqb, ne_eqb}
use lib.Dec.{eqb}
use lib.ListN.{length}
use Rattle.model.specs.Says.Feasible.{All, Feasible}
use Rattle.theorems_streams.specs.Held.{IsInput}
use Rattle.theorems_pairs.specs.Conditions.{TimelyFrom, KeepsTime}
use Rattle.model.specs.Rules.Parts.{
  Part,
  renumber_read,
  renumber_body,
  renumber_link,
  renumber_chain,
  ◌⊕◌,
  joined_parts,
  base,
  part_at,
  PartLink,
  Wire,
  wire_of,
  wire_read,
  wired_body,
  wired_with,
  joined_pair,
}
use Rattle.theorems_joins.specs.Join.{
  FeasiblePart,
  LinkNames,
}
use Rattle.model.specs.Rules.Latency.{
  read_among,
  reads_back,
  backwards,
  onward,
  used,
  back,
  source,
  latency_of,
  latency_from,
  run_latency,
}
use Rattle.theorems_pairs.specs.Latency.{Timely}
use Rattle.model.specs.Rules.Program.{Program, Signal, Body, input, equation, read, Read, Link, Chain, count, signal_at, body_reads}
use Rattle.model.specs.Rules.Rates.{count_reads, is_linked}
use Rattle.model.specs.Rules.Reads.{Rate, uses}
use Rattle.model.specs.Rules.Schedule.{Schedule}
use Rattle.model.specs.declared.Mode.{Mode}
use Rattle.model.specs.declared.Mode.TheVariants.{Exists, Backward}
use Rattle.model.proofs.Basics.All.{all_append, all-at, all_map, all_of_map, all_both}
use Rattle.model.proofs.Joining.Numbers.{number-signal, wired-signal}
use Rattle.model.proofs.Joining.Renumbered.{chain-none, chain-twice}
use Rattle.theorems_joins.proofs.Bounds.{TextPart, tree_of}
use Rattle.theorems_joins.proofs.Parts.{
  Embeds,
  embeds-trans,
  settled-kept,
  renumber-body-reads,
  part-embeds,
  wired-embeds,
  wires-inputs,
}
use Rattle.model.proofs.Pairs.Links.{ChainMet, source-count, LinkedBack, linked-backwards, declared-backwards, chain-met}
use Rattle.theorems_pairs.proofs.Exact.{accepted-exactly}
use Rattle.theorems_pairs.proofs.Faults.{among-all}
use Rattle.model.proofs.Pairs.Verdict.{pair-passed, links-declared, chains-linked}

-- A way back in a part, and the same way in what it is put into.
module _ (p : Program) (s : Schedule) (p' : Program) (s' : Schedule) (f : ℕ → ℕ) (embeds : Embeds p s p' s' f) where
  used-kept : (r k : ℕ) (ρ : Read) → r < count p → ρ.operands.signal < count p →
      used p' s' (f r) k (renumber_read f ρ) ≡ used p s r k ρ
  unfolding used
  used-kept r k ρ lt lw =
      ap (λ (i : ℕ). uses ρ.kind ρ.operands.factor i k) (settled-kept p s p' s' f embeds r lt ρ lw)

  back-kept : (ρs : List Read) (r k : ℕ) → r < count p → ChainMet p s r ρs →
      back p' s' (f r) k (map (renumber_read f) ρs) ≡ back p s r k ρs
  unfolding back
  back-kept [] r k lt ch = refl
  back-kept (ρ ∷ ρs) r k lt ch =
      rw (used-kept r k ρ lt ch.0.declared)
      (go (used p s r k ρ) (λ m. back-kept ρs ρ.operands.signal m ch.0.declared ch.1))
    where
      go : (u : ℕ) →
          ((m : ℕ) →
          back p' s' (f ρ.operands.signal) m (map (renumber_read f) ρs) ≡ back p s ρ.operands.signal m ρs) →
          onward (λ m. back p' s' (f ρ.operands.signal) m (map (renumber_read f) ρs)) u ≡
          onward (λ m. back p s ρ.operands.signal m ρs) u
      go zero ih = refl
      go (suc m) ih = ih m

  source-kept : (ρs : List Read) (r : ℕ) → source p' s' (f r) (map (renumber_read f) ρs) ≡ f (source p s r ρs)
  unfolding source
  source-kept [] r = refl
  source-kept (ρ ∷ ρs) r = source-kept ρs ρ.operands.signal

  latency-kept : (ρs : List Read) (r k : ℕ) → r < count p → ChainMet p s r ρs →
      run_latency p' s' (f r) (map (renumber_read f) ρs) k ≡ run_latency p s r ρs k
  unfolding run_latency
  latency-kept ρs r k lt ch =
      ap₂ (λ (a : ℕ) (g : Option ℕ). latency_from p' s' (f r) k a g) (source-kept ρs r) (back-kept ρs r k lt ch) ∙
      go (back p s r k ρs)
    where
      go : (g : Option ℕ) → latency_from p' s' (f r) k (f (source p s r ρs)) g ≡ latency_from p s r k (source p s r ρs) g
      go (Some m) =
          ap₂ (λ (a b : Rate). Some (latency_of a k b m)) (embeds.rates r lt)
          (embeds.rates (source p s r ρs) (source-count p s ρs r lt ch))
      go None = refl

  timely-kept : (mode : Mode) (r : ℕ) (ρs : List Read) (bound : ℕ) → r < count p → ChainMet p s r ρs →
      Timely p s mode r ρs bound → Timely p' s' mode (f r) (map (renumber_read f) ρs) bound
  timely-kept Backward r ρs bound lt ch t = λ k l e. t k l (sym (latency-kept ρs r k lt ch) ∙ e)
  timely-kept Exists r ρs bound lt ch t = (t.0, t.1, latency-kept ρs r t.0 lt ch ∙ t.2, t.3)

-- The read of w among renumbered reads.
read_kept : (f : ℕ → ℕ) → ((x y : ℕ) → f x ≡ f y → x ≡ y) → (w : ℕ) (ρs : List Read) → 1 ≤ count_reads w ρs →
    read_among (f w) (map (renumber_read f) ρs) ≡ renumber_read f (read_among w ρs)
unfolding read_among count_reads
read_kept f apart w [] le = absurd (omega arith)
read_kept f apart w (ρ ∷ ρs) le = go (eqb ρ.operands.signal w) refl le (λ l. read_kept f apart w ρs l)
  where
    go : (b : Bool) → eqb ρ.operands.signal w ≡ b → 1 ≤ cond b 1 0 + count_reads w ρs →
        (1 ≤ count_reads w ρs → read_among (f w) (map (renumber_read f) ρs) ≡ renumber_read f (read_among w ρs)) →
        cond (eqb (f ρ.operands.signal) (f w)) (renumber_read f ρ) (read_among (f w) (map (renumber_read f) ρs)) ≡
        renumber_read f (cond b ρ (read_among w ρs))
    go true e l ih = rw (eq-eqb (f ρ.operands.signal) (f w) (ap f (eqb-true _ _ e)))
    go false e l ih =
        rw (ne_eqb (f ρ.operands.signal) (f w) (λ q. eqb-false _ _ e (apart _ _ q))) (ih (omega arith))

-- The reads by which one goes back. Only equations are gone back through.
module _ (p p' : Program) (f : ℕ → ℕ) (apart : (x y : ℕ) → f x ≡ f y → x ≡ y)
    (bodies : (x : ℕ) → x < count p → ¬ IsInput (signal_at p x).body →
    (signal_at p' (f x)).body ≡ renumber_body f (signal_at p x).body) where
  no-input : (w : ℕ) (b : Body) → count_reads w (body_reads b) ≡ 1 → ¬ IsInput b
  unfolding count_reads
  no-input w input e = λ u. omega arith
  no-input w (equation weight e) q = λ u. u

  reads-back-kept : (ws : List ℕ) (r : ℕ) → All (λ w. w < count p) (r ∷ ws) → LinkedBack p (r ∷ ws) →
      reads_back p' (f r) (map f ws) ≡ map (renumber_read f) (reads_back p r ws)
  unfolding reads_back
  reads-back-kept [] r d h = refl
  reads-back-kept (w ∷ ws) r d h =
      ap₂ ◌∷◌
      (ap (λ (b : Body). read_among (f w) (body_reads b)) (bodies r d.0 (no-input w (signal_at p r).body h.0)) ∙
      ap (read_among (f w)) (renumber-body-reads f (signal_at p r).body) ∙
      read_kept f apart w (body_reads (signal_at p r).body) (omega (arith, h.0)))
      (reads-back-kept ws w d.1 h.1)

reverse-map : (f : ℕ → ℕ) (ls : List Link) (ws : List ℕ) →
    reverse_aux (map (λ l. l.signal) (map (renumber_link f) ls)) (map f ws) ≡ map f (reverse_aux (map (λ l. l.signal) ls) ws)
reverse-map f [] ws = refl
reverse-map f (l ∷ ls) ws = reverse-map f ls (l.signal ∷ ws)

backwards-kept : (f : ℕ → ℕ) (c : Chain) → backwards (renumber_chain f c) ≡ map f (backwards c)
backwards-kept f c = reverse-map f c.links []

module _ (p : Program) (s : Schedule) (acc : Feasible p s) (p' : Program) (s' : Schedule) (f : ℕ → ℕ)
    (embeds : Embeds p s p' s' f) (apart : (x y : ℕ) → f x ≡ f y → x ≡ y)
    (bodies : (x : ℕ) → x < count p → ¬ IsInput (signal_at p x).body →
    (signal_at p' (f x)).body ≡ renumber_body f (signal_at p x).body) where
  from-kept : (c : Chain) (rs : List ℕ) → All (λ w. w < count p) rs → LinkedBack p rs → TimelyFrom p s c rs →
      TimelyFrom p' s' (renumber_chain f c) (map f rs)
  from-kept c [] d h t = tt
  from-kept c (r ∷ ws) d h t =
      rw (reads-back-kept p p' f apart bodies ws r d h)
      (timely-kept p s p' s' f embeds c.mode r (reads_back p r ws) c.bound d.0 (chain-met p s acc ws r d h) t)

  -- A chain keeps its latency constraint.
  pub keeps-kept : (c : Chain) → is_linked p c.links ≡ true → All (λ l. l.signal < count p) c.links → KeepsTime p s c →
      KeepsTime p' s' (renumber_chain f c)
  keeps-kept c e d t =
      subst (TimelyFrom p' s' (renumber_chain f c)) (sym (backwards-kept f c))
      (from-kept c (backwards c) (declared-backwards p c d) (linked-backwards p c e) t)

-- The body of a signal of part k in the joined parts ..
pub part_body : (parts : List Part) (k x : ℕ) → k < length parts → x < count (part_at parts k).program →
    (signal_at (joined_parts parts).program (base parts k + x)).body ≡
    renumber_body (λ y. base parts k + y) (signal_at (part_at parts k).program x).body
part_body parts k x lt lx = ap (λ (σ : Signal). σ.body) (number-signal parts k x lt lx)

-- .. and, if it is an equation, in the joined pair.
wired-other : (ls : List Wire) (x : ℕ) (b : Body) → All (λ l. l.input ≡ x → IsInput b) ls → ¬ IsInput b → wired_body ls x b ≡ b
unfolding wired_body
wired-other [] x b i other = refl
wired-other (l ∷ ls) x b i other = go (eqb l.input x) refl (wired-other ls x b i.1 other)
  where
    go : (t : Bool) → eqb l.input x ≡ t → wired_body ls x b ≡ b → cond t (equation 0 (read (wire_read l))) (wired_body ls x b) ≡ b
    go true e ih = absurd (other (i.0 (eqb-true l.input x e)))
    go false e ih = ih

pub input_back : (f : ℕ → ℕ) (b : Body) → IsInput (renumber_body f b) → IsInput b
input_back f input i = tt
input_back f (equation weight e) i = i

module _ (parts : List Part) (ok : All FeasiblePart parts) (links : List PartLink) (names : All (LinkNames parts) links) where
  -- Part k is put into the joined pair.
  pub pair-embeds : (k : ℕ) → k < length parts →
      Embeds (part_at parts k).program (part_at parts k).schedule (joined_pair parts links).program
      (joined_pair parts links).schedule (λ x. base parts k + x)
  unfolding joined_pair
  pair-embeds k lt =
      embeds-trans (part_at parts k).program (joined_parts parts).program
      (wired_with (map (wire_of parts) links) (joined_parts parts).program) (part_at parts k).schedule
      (joined_parts parts).schedule (joined_parts parts).schedule (λ x. base parts k + x) (λ x. x)
      (part-embeds parts ok k lt)
      (wired-embeds (map (wire_of parts) links) (joined_parts parts).program (joined_parts parts).schedule)

  pub pair-body : (k x : ℕ) → k < length parts → x < count (part_at parts k).program →
      ¬ IsInput (signal_at (part_at parts k).program x).body →
      (signal_at (joined_pair parts links).program (base parts k + x)).body ≡
      renumber_body (λ y. base parts k + y) (signal_at (part_at parts k).program x).body
  unfolding joined_pair
  pair-body k x lt lx other =
      let p = (joined_parts parts).program in
      let ls = map (wire_of parts) links in
      let z = base parts k + x in
      let e = part_body parts k x lt lx in
      ap (λ (σ : Signal). σ.body) (wired-signal ls p z ((part-embeds parts ok k lt).below x lx)) ∙
      wired-other ls z (signal_at p z).body
      (all_map (λ l. IsInput (signal_at p l.input).body) (λ l. l.input ≡ z → IsInput (signal_at p z).body)
      (λ l u q. subst (λ (y : ℕ). IsInput (signal_at p y).body) q u) ls (wires-inputs parts ok links names))
      (λ i. other (input_back (λ y. base parts k + y) (signal_at (part_at parts k).program x).body (subst IsInput e i))) ∙
      e

-- The chains of the joined parts are those of the parts.
chains-parts : (parts : List Part) (Q : Chain → Type 0) →
    ((k : ℕ) → k < length parts →
    All (λ c. Q (renumber_chain (λ x. base parts k + x) c)) (part_at parts k).program.chains) →
    All Q (joined_parts parts).program.chains
unfolding joined_parts base ◌⊕◌
chains-parts [] Q h = tt
chains-parts (a ∷ rest) Q h =
    let n = count a.program in
    all_append Q a.program.chains (map (renumber_chain (λ x. n + x)) (joined_parts rest).program.chains)
    (all_map (λ c. Q (renumber_chain (λ x. 0 + x) c)) Q
    (λ c q. subst Q (ap (λ (f : ℕ → ℕ). renumber_chain f c) (fun_ext zero-add) ∙ chain-none c) q) a.program.chains
    (h 0 (omega arith)))
    (all_of_map Q (renumber_chain (λ x. n + x)) (joined_parts rest).program.chains
    (chains-parts rest (λ c. Q (renumber_chain (λ x. n + x) c))
    (λ k lt.
    all_map (λ c. Q (renumber_chain (λ x. n + base rest k + x) c))
    (λ c. Q (renumber_chain (λ x. n + x) (renumber_chain (λ x. base rest k + x) c)))
    (λ c q.
    subst Q
    (ap (λ (f : ℕ → ℕ). renumber_chain f c) (fun_ext (add_assoc n (base rest k))) ∙
    sym (chain-twice (λ x. base rest k + x) (λ x. n + x) c)) q)
    (part_at rest k).program.chains (h (suc k) (omega arith)))))

-- What the chains of a part keep.
pub record TimelyPart (a : Part) : Type 0 where
  pub linked : All (λ c. is_linked a.program c.links ≡ true) a.program.chains
  pub declared : All (λ c. All (λ l. l.signal < count a.program) c.links) a.program.chains
  pub timely : All (KeepsTime a.program a.schedule) a.program.chains

pub text-timely : (t : TextPart) → TimelyPart (tree_of t)
text-timely t =
    let passed = pair-passed t.program t.schedule t.pair t.accepts in
    record {
      linked = chains-linked t.pair.program passed.links;
      declared = links-declared t.pair.program passed.rated;
      timely =
          among-all (KeepsTime t.pair.program t.pair.schedule) t.pair.program.chains
          ((accepted-exactly t.program t.schedule t.pair).0 t.accepts).latencies;
    }

-- Every chain of the joined pair keeps its latency constraint, so that no check of latencies is needed.
pub joined-timely : (parts : List Part) → All FeasiblePart parts → (links : List PartLink) → All (LinkNames parts) links →
    All TimelyPart parts →
    All (KeepsTime (joined_pair parts links).program (joined_pair parts links).schedule) (joined_pair parts links).program.chains
unfolding joined_pair wired_with
joined-timely parts ok links names timely =
    chains-parts parts (KeepsTime (joined_pair parts links).program (joined_pair parts links).schedule)
    (λ k lt.
    let a = part_at parts k in
    let t = all-at TimelyPart parts _ timely k lt in
    all_map (λ c. (is_linked a.program c.links ≡ true) ×
    (All (λ l. l.signal < count a.program) c.links × KeepsTime a.program a.schedule c)) _
    (λ c h.
    keeps-kept a.program a.schedule (all-at FeasiblePart parts _ ok k lt).feasible (joined_pair parts links).program
    (joined_pair parts links).schedule (λ x. base parts k + x) (pair-embeds parts ok links names k lt)
    (λ x y e. omega arith) (λ x lx. pair-body parts ok links names k x lt lx) c h.0 h.1.0 h.1.1)
    a.program.chains
    (all_both _ _ a.program.chains t.linked (all_both _ _ a.program.chains t.declared t.timely)))
