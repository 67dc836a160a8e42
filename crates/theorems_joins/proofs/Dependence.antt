-- In joined parts an input reaches only its readers, the reads made by links included. Assumes nothing.
use Prim.Native.Nat.{ℕ, ◌+◌, ◌<◌}
use mathlib.Core.Bool.{Bool, true, false, cond}
use mathlib.Core.List.{List, [], ◌∷◌, map}
use mathlib.Core.Logic.{◌⊎◌, inl, inr}
use mathlib.Core.Path.{◌≡◌, refl, sym, ap, subst, subst₂, ◌∙◌}
use borrow.Author.Tests.{eqb-true}
use lib.Dec.{eqb}
use lib.IntN.{ℤ}
use lib.ListN.{length, take}
use Rattle.model.specs.Rules.Compile.{Pair}
use Rattle.model.specs.Rules.Image.{image_of}
use Rattle.model.specs.Rules.Join.{links_of}
use Rattle.model.specs.Rules.Machine.{reset_of}
use Rattle.model.specs.Rules.Outcome.{accepted}
use Rattle.model.specs.Rules.Parts.{
  Part,
  renumber_read,
  joined_parts,
  base,
  part_at,
  PartLink,
  Wire,
  wire_of,
  wire_read,
  wired_body,
  joined_pair,
}
use Rattle.model.specs.Rules.Program.{Program, Body, equation, read, Read, count, signal_at, reads_of, body_reads}
use Rattle.model.specs.Rules.Tail.{Bears}
use Rattle.model.specs.Rules.Word.{AreBytes}
use Rattle.model.specs.Says.Calls.{Call}
use Rattle.model.specs.Says.Feasible.{All, Met}
use Rattle.theorems_pairs.specs.Conditions.{◌among◌}
use Rattle.theorems_streams.specs.Dependence.{Reads, DependsOn, AlikeCalls}
use Rattle.theorems_streams.specs.Held.{state_by, log_by, answers_by}
use Rattle.theorems_joins.specs.Join.{FeasiblePart, LinkNames, JoinLegal}
use Rattle.theorems_joins.specs.JoinDependence.{PartReads, PartDependsOn, JoinSameExcept}
use Rattle.model.proofs.Basics.All.{all-at}
use Rattle.model.proofs.Joining.Numbers.{wired-signal}
use Rattle.theorems_joins.proofs.Parts.{renumber-body-reads, part-embeds, numbers_apart}
use Rattle.theorems_joins.proofs.Demand.{names, feasible-parts, feasible, multiple, bounded}
use Rattle.theorems_joins.proofs.Timely.{part_body, pair-embeds}
use Rattle.theorems_pairs.proofs.Faults.{all_among}
use Rattle.theorems_streams.proofs.Dependence.{reads-exactly, only-readers}

among-map : {A B : Type 0} (g : A → B) (xs : List A) (y : B) → y among map g xs → (x : A) × (x among xs) × (y ≡ g x)
among-map g [] y m = elim m [ ]
among-map g (x ∷ xs) y (◌among◌.here e) = (x, ◌among◌.here refl, e)
among-map g (x ∷ xs) y (◌among◌.later m) = let h = among-map g xs y m in (h.0, ◌among◌.later h.1, h.2)

-- A read of signal x is that of a link, or its own.
wired-among : (ls : List Wire) (x : ℕ) (b : Body) (ρ : Read) → ρ among body_reads (wired_body ls x b) →
    ((l : Wire) × (l among ls) × (l.input ≡ x) × (ρ ≡ wire_read l)) ⊎ (ρ among body_reads b)
unfolding wired_body reads_of
wired-among [] x b ρ m = inr m
wired-among (l ∷ ls) x b ρ m = go (eqb l.input x) refl m (λ q. wired-among ls x b ρ q)
  where
    Either : List Wire → Type 0
    Either ws = ((v : Wire) × (v among ws) × (v.input ≡ x) × (ρ ≡ wire_read v)) ⊎ (ρ among body_reads b)

    more : Either ls → Either (l ∷ ls)
    more (inl h) = inl (h.0, ◌among◌.later h.1, h.2, h.3)
    more (inr h) = inr h

    one : ρ among (wire_read l ∷ []) → ρ ≡ wire_read l
    one (◌among◌.here e) = e
    one (◌among◌.later m) = elim m [ ]

    go : (t : Bool) → eqb l.input x ≡ t → ρ among body_reads (cond t (equation 0 (read (wire_read l))) (wired_body ls x b)) →
        (ρ among body_reads (wired_body ls x b) → Either ls) → Either (l ∷ ls)
    go true e q ih = inl (l, ◌among◌.here refl, eqb-true l.input x e, one q)
    go false e q ih = more (ih q)

-- A signal of a part, by its number when joined.
pub record Numbered (parts : List Part) (z m y : ℕ) : Type 0 where
  pub part : m < length parts
  pub signal : y < count (part_at parts m).program
  pub number : z ≡ base parts m + y

module _ (parts : List Part) (ok : All FeasiblePart parts) (links : List PartLink) (names : All (LinkNames parts) links) where
  numbered-same : (z m y n w : ℕ) → Numbered parts z m y → Numbered parts z n w → (m ≡ n) × (y ≡ w)
  numbered-same z m y n w a b =
      numbers_apart parts m n y w a.part b.part a.signal b.signal (sym a.number ∙ b.number)

  -- What is read in the joined pair.
  abbrev Found : ℕ → ℕ → ℕ → Type 0
  Found m y u = (n w : ℕ) × Numbered parts u n w × PartReads parts links m y n w

  joined-reads : (m y u : ℕ) → m < length parts → y < count (part_at parts m).program →
      Reads (joined_pair parts links).program (base parts m + y) u → Found m y u
  unfolding joined_pair
  joined-reads m y u lm ly r = found ((reads-exactly (signal_at (joined_pair parts links).program z).body u).0 r)
    where
      p : Program
      p = (joined_parts parts).program

      z : ℕ
      z = base parts m + y

      go : (ρ : Read) → ρ.operands.signal ≡ u →
          ((l : Wire) × (l among map (wire_of parts) links) × (l.input ≡ z) × (ρ ≡ wire_read l)) ⊎
          (ρ among body_reads (signal_at p z).body) → Found m y u
      go ρ e (inl h) =
          let q = among-map (wire_of parts) links h.0 h.1 in
          let l = q.0 in
          let name = all_among (LinkNames parts) links names l q.1 in
          let same = numbers_apart parts l.input_part m l.input y name.input_part lm name.input ly
          (ap (λ v. v.input) (sym q.2) ∙ h.2) in (
            l.signal_part,
            l.signal,
            record {
              part = name.signal_part;
              signal = name.signal;
              number = sym e ∙ ap (λ r. r.operands.signal) h.3 ∙ ap (λ v. v.signal) q.2;
            },
            PartReads.link q.1 same.0 same.1,
          )
      go ρ e (inr h) =
          let f : ℕ → ℕ = λ x. base parts m + x in
          let b = (signal_at (part_at parts m).program y).body in
          let q = among-map (renumber_read f) (body_reads b) ρ
          (subst (λ (ρs : List Read). ρ among ρs) (renumber-body-reads f b)
          (subst (λ (c : Body). ρ among body_reads c) (part_body parts m y lm ly) h)) in
          let met = all_among (Met (part_at parts m).program (part_at parts m).schedule y) (body_reads b)
          ((all-at FeasiblePart parts _ ok m lm).feasible.met y ly) q.0 q.1 in (
            m,
            q.0.operands.signal,
            record { part = lm; signal = met.declared; number = sym e ∙ ap (λ r. r.operands.signal) q.2 },
            PartReads.own ((reads-exactly b q.0.operands.signal).1 (q.0, q.1, refl)),
          )

      found : (ρ : Read) × (ρ among body_reads (signal_at (joined_pair parts links).program z).body) × (ρ.operands.signal ≡ u) →
          Found m y u
      found (ρ, inside, e) =
          go ρ e
          (wired-among (map (wire_of parts) links) z (signal_at p z).body ρ
          (subst (λ σ. ρ among body_reads σ.body)
          (wired-signal (map (wire_of parts) links) p z ((part-embeds parts ok m lm).below y ly)) inside))

  -- What a signal depends on in the joined pair, it depends on by the reads of the parts and the links.
  pub depends-parts : (k i u : ℕ) → Numbered parts u k i → (z : ℕ) → DependsOn (joined_pair parts links).program z u →
      (m y : ℕ) → Numbered parts z m y → PartDependsOn parts links m y k i
  depends-parts k i u from z (DependsOn.directly r) m y to =
      let h = joined-reads m y u to.part to.signal
      (subst (λ (v : ℕ). Reads (joined_pair parts links).program v u) to.number r) in
      let same = numbered-same u h.0 h.1 k i h.2 from in
      PartDependsOn.directly (subst₂ (PartReads parts links m y) same.0 same.1 h.3)
  depends-parts k i u from z (DependsOn.through {w = v} r rest) m y to =
      let h = joined-reads m y v to.part to.signal
      (subst (λ (x : ℕ). Reads (joined_pair parts links).program x v) to.number r) in
      PartDependsOn.through h.3 (depends-parts k i u from v rest h.0 h.1 h.2)

-- An accepted join: request m by the law of any program, schedule and hypercycle.
module _ (buffer numbers links : List ℕ) (bytes : AreBytes buffer) (q : Pair) (l : JoinLegal buffer numbers links q)
    {tail tail' lent lent' : List ℕ} (bears : Bears (image_of q.program q.schedule q.hypercycle) tail lent)
    (bears' : Bears (image_of q.program q.schedule q.hypercycle) tail' lent') (old old' : List ℤ)
    (r : (reset_of lent old).answer ≡ accepted 0) (r' : (reset_of lent' old').answer ≡ accepted 0) where
  abbrev parts : List Part
  parts = l.parts

  -- In the pair as in the parts joined.
  in-joint : (z u : ℕ) → DependsOn q.program z u → DependsOn (joined_pair parts (links_of links)).program z u
  in-joint z u = subst (λ (p : Program). DependsOn p z u) l.joined.program

  number-below : (m y : ℕ) → m < length parts → y < count (part_at parts m).program → base parts m + y < count q.program
  number-below m y lm ly =
      subst (λ (p : Program). base parts m + y < count p) (sym l.joined.program)
      ((pair-embeds parts (feasible-parts buffer numbers links q l) (links_of links) (names buffer numbers links q l) m lm).below y
      ly)

  pub join-only-readers : (k i : ℕ) → k < length parts → i < count (part_at parts k).program → (cs cs' : List Call) →
      AlikeCalls q.program cs cs' → (n : ℕ) →
      JoinSameExcept parts (links_of links) q k i (answers_by lent old (take n cs)) (answers_by lent' old' (take n cs'))
      (log_by lent old (take n cs)) (log_by lent' old' (take n cs')) (state_by lent old (take n cs))
      (state_by lent' old' (take n cs'))
  join-only-readers k i lk li cs cs' alike n =
      let s = only-readers q.program q.schedule q.hypercycle (feasible buffer numbers links q l)
      (multiple buffer numbers links q l) (bounded buffer numbers links q l bytes) bears bears' old old' r r' (base parts k + i)
      cs cs' alike n in
      record {
        answered = s.answered;
        cycles = s.cycles;
        position = s.position;
        words = λ agree m y lm ly other free.
            s.words agree (base parts m + y) (number-below m y lm ly)
            (λ e. other (numbers_apart parts m k y i lm lk ly li e))
            (λ d.
            free
            (depends-parts parts (feasible-parts buffer numbers links q l) (links_of links) (names buffer numbers links q l) k i
            (base parts k + i) (record { part = lk; signal = li; number = refl }) (base parts m + y)
            (in-joint (base parts m + y) (base parts k + i) d) m y (record { part = lm; signal = ly; number = refl })));
      }
