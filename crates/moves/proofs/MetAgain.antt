-- The reads of a pair with one phase set: all are met and settle as before exactly if each is met again at its index. Assumes
-- nothing.
use Prim.Native.Nat.{ℕ, ◌+◌, ◌<◌}
use mathlib.Core.Bool.{Bool, true, false, and-eq-true_iff, cond}
use mathlib.Core.List.{List, [], ◌∷◌}
use mathlib.Core.Logic.{◌↔◌}
use mathlib.Core.Path.{◌≡◌, refl, sym, ap, subst, ◌∙◌}
use native.Mathlib.Omega.{arith}
use borrow.Author.Tests.{eqb-true, eqb-false}
use lib.Dec.{eqb}
use lib.ListN.{get_or}
use Rattle.model.specs.Rules.Outcome.{accepted, fault}
use Rattle.model.specs.Rules.Program.{Program, Read, no_signal, count, signal_at, body_reads, parse_program}
use Rattle.model.specs.Rules.Reads.{Rate, rate_of, ordered, before, settled_index, settled, is_met, met}
use Rattle.model.specs.Rules.Schedule.{Schedule, phase_of}
use Rattle.model.specs.Says.Feasible.{All, Line, LineHolds, SettlesAt, Met, Ordered, Feasible}
use Rattle.model.specs.declared.Index.{Index}
use Rattle.model.specs.declared.Index.TheVariants.{Fixed, Open}
use Rattle.model.specs.declared.Kind.{Kind}
use Rattle.model.specs.declared.Kind.TheVariants.{Now}
use Rattle.model.proofs.Basics.All.{all-at, all_map, all_both}
use Rattle.model.proofs.Basics.Outcomes.{none-lowest, none-join_from}
use Rattle.model.proofs.Pairs.Decide.{InRange, line-true, true-line, holds-line, line-holds, settles-once, met-settled}
use Rattle.model.proofs.Pairs.Lines.{Indexed}
use Rattle.model.proofs.Pairs.Verdict.{reads-met}
use Rattle.model.proofs.Texts.Commands.{operator-sound}
use Rattle.model.proofs.Texts.Legal.{legal, signal-reads}
use Rattle.model.specs.Says.Stands.{SpellsRead}
use Rattle.read_rule.specs.Reads.{met_at}
use Rattle.model.proofs.Pairs.Moves.{Moved, Alike}

-- One read by the rates after the move, w' and r', and its index i before it.
module _ (kind : Kind) (w r w' r' : Rate) (n : ℕ) where
  range-of : (index : Index) → LineHolds kind w r n index → InRange n index
  range-of (Fixed i) h = h.0
  range-of Open h = tt

  settles-at : (index : Index) → settled_index kind w r n index < n → Line kind w' r' (settled_index kind w r n index) →
      SettlesAt kind w' r' n index (settled_index kind w r n index) × LineHolds kind w' r' n index
  settles-at (Fixed i) lt l = (refl, (lt, l))
  settles-at Open lt l = ((lt, l), (settled_index kind w r n Open, lt, l))

-- Phases below periods, and the PUT order, as before.
module _ (p : Program) (s s' : Schedule) (x f : ℕ) (mv : Moved p s x f s') where
  before_same : (w r : ℕ) → before s' w r ≡ before s w r
  before_same w r = rw mv.order_is

  pub moved-ordered : Ordered p s → f < (signal_at p x).period → Ordered p s'
  moved-ordered o below =
      record {
        phases = λ y lt. go y lt (eqb y x) refl;
        put = rw mv.order_is o.put;
        once = rw mv.order_is o.once;
        only = rw mv.order_is o.only;
      }
    where
      go : (y : ℕ) → y < count p → (b : Bool) → eqb y x ≡ b → phase_of s' y < (signal_at p y).period
      go y lt true e = rw (eqb-true y x e, mv.here) below
      go y lt false e = rw (mv.there y lt (eqb-false y x e)) (o.phases y lt)

  -- A read in the equation of r is met under s' at its index under s.
  abbrev pub MetAgain : ℕ → Read → Type 0
  MetAgain r ρ =
      met_at ρ.kind (rate_of p s' ρ.operands.signal) (rate_of p s' r) (settled p s r ρ) (before s ρ.operands.signal r) ≡
      true

  abbrev MetAlike : ℕ → Read → Type 0
  MetAlike r ρ = (is_met p s' r ρ ≡ true) × (settled p s r ρ ≡ settled p s' r ρ)

  module _ (r : ℕ) (ρ : Read) (m : Met p s r ρ) (named : ρ.operands.index ≡ Open → Indexed ρ.kind) where
    abbrev w : ℕ
    w = ρ.operands.signal

    again : MetAlike r ρ → MetAgain r ρ
    unfolding is_met settled
    again (e, same) =
        let h = (and-eq-true_iff _ _).0 e in
        let range = range-of ρ.kind (rate_of p s w) (rate_of p s r) (rate_of p s' w) (rate_of p s' r) ρ.operands.factor
        ρ.operands.index m.line in
        let l = holds-line ρ.kind (rate_of p s' w) (rate_of p s' r) ρ.operands.factor ρ.operands.index range h.0 in
        (and-eq-true_iff _ _).1 (
          true-line ρ.kind (rate_of p s' w) (rate_of p s' r) _ (subst (Line ρ.kind (rate_of p s' w) (rate_of p s' r)) (sym
              same) l.1),
          ap (ordered ρ.kind (rate_of p s' w) (rate_of p s' r)) (sym (before_same w r)) ∙ h.1,
        )

    alike : MetAgain r ρ → MetAlike r ρ
    unfolding is_met settled
    alike e =
        let h = (and-eq-true_iff _ _).0 e in
        let i = settled p s r ρ in
        let q = met-settled p s r ρ m in
        let t = settles-at ρ.kind (rate_of p s w) (rate_of p s r) (rate_of p s' w) (rate_of p s' r) ρ.operands.factor
        ρ.operands.index q.0 (line-true ρ.kind (rate_of p s' w) (rate_of p s' r) i h.0) in
        let same = (settles-once ρ.kind (rate_of p s' w) (rate_of p s' r) ρ.operands.factor ρ.operands.index named
        m.periods t.1 i).0 t.0 in (
          (and-eq-true_iff _ _).1 (
            line-holds ρ.kind (rate_of p s' w) (rate_of p s' r) ρ.operands.factor ρ.operands.index
                (subst (λ k. k < ρ.operands.factor) same q.0)
                (subst (Line ρ.kind (rate_of p s' w) (rate_of p s' r)) same
                (line-true ρ.kind (rate_of p s' w) (rate_of p s' r) i h.0)),
            ap (ordered ρ.kind (rate_of p s' w) (rate_of p s' r)) (before_same w r) ∙ h.1,
          ),
          same,
        )

  module _ (text : List ℕ) (parsed : parse_program text ≡ accepted p) (acc : Feasible p s) where
    abbrev Known : ℕ → Read → Type 0
    Known r ρ = Met p s r ρ × SpellsRead text ρ

    known : (r : ℕ) → r < count p → All (Known r) (body_reads (signal_at p r).body)
    known r lt =
        all_both (Met p s r) (SpellsRead text) (body_reads (signal_at p r).body) (acc.met r lt)
        (signal-reads (legal text p parsed).1 r lt)

    all-met : ((r : ℕ) → r < count p → All (λ ρ. is_met p s' r ρ ≡ true) (body_reads (signal_at p r).body)) → met p s' ≡ accepted tt
    unfolding met
    all-met h =
        none-lowest _ (none-join_from _ 0 p.signals no_signal (λ j lt.
        none-join_from _ 0 (body_reads (signal_at p j).body) none (λ i li.
        rw (z j) (ap (λ b. cond b [] (fault 14 (get_or (body_reads (signal_at p j).body) i none).place ∷ []))
        (all-at (λ ρ. is_met p s' j ρ ≡ true) (body_reads (signal_at p j).body) none
        (h j lt) i li)))))
      where
        z : (j : ℕ) → 0 + j ≡ j
        z j = omega arith

        none : Read
        none = record { place = 0; kind = Now; operands = record { signal = 0; factor = 1; index = Fixed 0 } }

    -- All reads are met and settle as before exactly if each is met again.
    pub met-again : ((met p s' ≡ accepted tt) × Alike p s s') ↔
        ((r : ℕ) → r < count p → All (MetAgain r) (body_reads (signal_at p r).body))
    met-again = (
      λ (e, same) r lt.
          let ρs = body_reads (signal_at p r).body in
          all_map (λ ρ. Known r ρ × MetAlike r ρ) (MetAgain r)
          (λ ρ h. again r ρ h.0.0 (operator-sound text ρ.place _ h.0.1).2 h.1) ρs
          (all_both (Known r) (MetAlike r) ρs (known r lt)
          (all_both (λ ρ. is_met p s' r ρ ≡ true) (λ ρ. settled p s r ρ ≡ settled p s' r ρ) ρs (reads-met p s' e r lt) (same r
          lt))),
      λ h. (all-met (λ r lt. each r lt (h r lt) (λ ρ k. k.0)), λ r lt. each r lt (h r lt) (λ ρ k. k.1)),
    )
      where
        each : {Q : Read → Type 0} (r : ℕ) → r < count p → All (MetAgain r) (body_reads (signal_at p r).body) →
            ((ρ : Read) → MetAlike r ρ → Q ρ) → All Q (body_reads (signal_at p r).body)
        each {Q} r lt h g =
            let ρs = body_reads (signal_at p r).body in
            all_map (λ ρ. Known r ρ × MetAgain r ρ) Q
            (λ ρ k. g ρ (alike r ρ k.0.0 (operator-sound text ρ.place _ k.0.1).2 k.1)) ρs
            (all_both (Known r) (MetAgain r) ρs (known r lt) h)
