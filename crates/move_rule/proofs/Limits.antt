-- What one chain leaves. Assumes nothing.
use Prim.Native.Nat.{ℕ, ◌+◌, ◌-◌, ◌≤◌, ◌<◌}
use mathlib.Core.Bool.{Bool, true, false, cond}
use mathlib.Core.List.{List, [], ◌∷◌}
use mathlib.Core.Logic.{◌↔◌}
use mathlib.Core.Path.{◌≡◌, refl, sym, ap, subst, ◌∙◌}
use native.Mathlib.Omega.{arith}
use borrow.Author.Tests.{eqb-true, eqb-false, leb-true, le-leb}
use lib.Dec.{eqb}
use lib.ListN.{length}
use Rattle.model.specs.Rules.Latency.{reads_back, keeps, timely}
use Rattle.model.specs.Rules.Outcome.{accepted, fault}
use Rattle.model.specs.Rules.Program.{Program, Chain, count}
use Rattle.model.specs.Rules.Rates.{is_linked}
use Rattle.model.specs.Rules.Schedule.{Schedule, phase_of}
use Rattle.model.specs.Says.Feasible.{All}
use Rattle.model.proofs.Basics.All.{all-at, all-joined}
use Rattle.model.proofs.Basics.Outcomes.{cond-none, lowest-none}
use Rattle.model.proofs.Pairs.Links.{source-count, LinkedBack, linked-backwards, declared-backwards, chain-met}
use Rattle.model.proofs.Pairs.Verdict.{links-declared, chains-linked}
use Rattle.text_program.specs.Tables.{no_chain, chain_at}
use Rattle.text_program.specs.declared.Tables.{Tables}
use Rattle.check_latency.specs.Timely.{Timed, with_bound, LeewayOf}
use Rattle.check_latency.specs.declared.Leeway.{Leeway}
use Rattle.move_rule.specs.Ranges.{phase_after, StaysFrom, ChainStays}

-- Every chain keeps its limit.
pub timely-each : (p : Program) (s : Schedule) (h : ℕ) → timely p s h ≡ accepted tt → (j : ℕ) → j < length p.chains →
    keeps p s h (chain_at p j) ≡ true
unfolding timely
timely-each p s h e j lt =
    all-at (λ c. keeps p s h c ≡ true) p.chains no_chain
    (all-joined (λ j c. cond (keeps p s h c) [] (fault 16 c.place ∷ [])) (λ c. keeps p s h c ≡ true)
    (λ j c t. cond-none _ _ t) 0 p.chains (lowest-none _ e)) j lt

-- The first and last link of a chain are declared, and its bound is not below the least.
pub record Links (p : Program) (r : Leeway) : Type 0 where
  pub last-is : r.last < count p
  pub source_is : r.source < count p
  pub kept : r.least ≤ r.bound

pub leeway-links : {text reads : List ℕ} {tables : Tables} {periods phases : List ℕ} {h : ℕ} {p : Program} {s : Schedule} →
    Timed text reads tables periods phases h p s → timely p s h ≡ accepted tt → (chain : ℕ) →
    chain < tables.chains → (r : Leeway) →
    LeewayOf p s h (chain_at p chain) r → Links p r
leeway-links {tables = tables} {h = h} {p = p} {s = s} t e chain lt r k =
    let j = t.joined in
    let l : chain < length p.chains = omega (arith, j.known.stands.tables-are.counts.chains-are) in
    let ws = k.links.0 in
    let d : All (λ w. w < count p) (r.last ∷ ws) =
    subst (All (λ w. w < count p)) k.links.1 (declared-backwards p (chain_at p chain)
    (all-at (λ c. All (λ l. l.signal < count p) c.links) p.chains no_chain (links-declared p j.rated) chain l)) in
    let b : LinkedBack p (r.last ∷ ws) =
    subst (LinkedBack p) k.links.1 (linked-backwards p (chain_at p chain)
    (all-at (λ c. is_linked p c.links ≡ true) p.chains no_chain (chains-linked p j.links) chain l)) in
    let a = source-count p s (reads_back p r.last ws) r.last d.0 (chain-met p s t.accepted ws r.last d b) in
    let c = chain_at p chain in
    let m = leb-true r.least c.bound (sym (k.least-is c.bound (omega (arith, k.bound-is, k.small))) ∙
    timely-each p s h e chain l) in
    record { last-is = d.0; source_is = subst (λ x. x < count p) k.links.2 a; kept = omega (arith, m, k.bound-is) }

module _ (p : Program) (s : Schedule) (h : ℕ) (c : Chain) (r : Leeway) (k : LeewayOf p s h c r) where
  abbrev last : ℕ
  last = r.last

  abbrev first : ℕ
  first = r.source

  -- By the least bound.
  limit-moves : (x f : ℕ) → phase_after s x f first ≤ 256 → phase_of s last ≤ 256 →
      ChainStays p s h x f c ↔
      (r.least + (phase_of s first + phase_after s x f last) ≤ r.bound + (phase_after s x f first + phase_of s last))
  limit-moves x f lf ll =
      subst (λ (rs : List ℕ). StaysFrom p s h x f c rs ↔
      (r.least + (phase_of s first + phase_after s x f last) ≤ r.bound + (phase_after s x f first + phase_of s last)))
      (sym k.links.1)
      (subst (λ a. ((b : ℕ) × (c.bound + (phase_after s x f a + phase_of s last) ≡ b + (phase_of s a + phase_after s x f last)) ×
      (keeps p s h (with_bound c b) ≡ true)) ↔
      (r.least + (phase_of s first + phase_after s x f last) ≤ r.bound + (phase_after s x f first + phase_of s last)))
      (sym k.links.2) (there, back))
    where
      there : ((b : ℕ) × (c.bound + (phase_after s x f first + phase_of s last) ≡ b + (phase_of s first + phase_after s x f last)) ×
          (keeps p s h (with_bound c b) ≡ true)) →
          r.least + (phase_of s first + phase_after s x f last) ≤ r.bound + (phase_after s x f first + phase_of s last)
      there (b, e, t) =
          let m = leb-true r.least b (sym (k.least-is b (omega (arith, e, k.bound-is, k.small))) ∙ t) in
          omega (arith, m, e, k.bound-is)

      back : r.least + (phase_of s first + phase_after s x f last) ≤ r.bound + (phase_after s x f first + phase_of s last) →
          (b : ℕ) × (c.bound + (phase_after s x f first + phase_of s last) ≡ b + (phase_of s first + phase_after s x f last)) ×
          (keeps p s h (with_bound c b) ≡ true)
      back le =
          let b = r.bound + (phase_after s x f first + phase_of s last) - (phase_of s first + phase_after s x f last) in (
            b,
            omega (arith, k.bound-is),
            k.least-is b (omega (arith, k.small)) ∙ le-leb r.least b (omega arith),
          )

  module _ (kept : r.least ≤ r.bound) (ll : phase_of s last ≤ 256) (lf : phase_of s first ≤ 256) where
    after_small : (x f : ℕ) → f < 256 → phase_after s x f first ≤ 256
    after_small x f byte = go (eqb first x)
      where
        go : (b : Bool) → cond b f (phase_of s first) ≤ 256
        go true = omega arith
        go false = lf

    -- Where one signal is both links, latencies stay.
    pub same-stays : last ≡ first → (x f : ℕ) → f < 256 → ChainStays p s h x f c
    same-stays e x f byte =
        (limit-moves x f (after_small x f byte) ll).1
        (omega (arith, ap (phase_after s x f) e, ap (phase_of s) e))

    -- The last link may come later, the first earlier.
    pub apart-stays : ¬ (last ≡ first) → (x f : ℕ) → f < 256 →
        ((x ≡ last → r.least + f ≤ r.bound + phase_of s last) × (x ≡ first → phase_of s first + r.least ≤ r.bound + f)) ↔
        ChainStays p s h x f c
    apart-stays apart x f byte =
        let m = limit-moves x f (after_small x f byte) ll in
        (λ g. m.1 ((go (eqb last x) refl (eqb first x) refl).0 g), λ t. (go (eqb last x) refl (eqb first x) refl).1 (m.0 t))
      where
        go : (a : Bool) → eqb last x ≡ a → (b : Bool) → eqb first x ≡ b →
            ((x ≡ last → r.least + f ≤ r.bound + phase_of s last) × (x ≡ first → phase_of s first + r.least ≤ r.bound + f)) ↔
            (r.least + (phase_of s first + cond a f (phase_of s last)) ≤ r.bound + (cond b f (phase_of s first) + phase_of s last))
        go true e true g = absurd (apart (eqb-true last x e ∙ sym (eqb-true first x g)))
        go true e false g =
            let q = sym (eqb-true last x e) in
            let d = eqb-false first x g in
            (λ t. omega (arith, t.0 q), λ t. (λ z. omega arith, λ z. absurd (d (sym z))))
        go false e true g =
            let q = sym (eqb-true first x g) in
            let d = eqb-false last x e in
            (λ t. omega (arith, t.1 q), λ t. (λ z. absurd (d (sym z)), λ z. omega arith))
        go false e false g =
            let d = eqb-false last x e in
            let d' = eqb-false first x g in
            (λ t. omega arith, λ t. (λ z. absurd (d (sym z)), λ z. absurd (d' (sym z))))
