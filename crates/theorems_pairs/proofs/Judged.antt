-- Each check of the program text decides its condition, and refuses with the fault that the paper gives: 1, 7 to 10.
-- Assumes nothing.
use Rattle.std.specs.Prelude.{Option, Some, None}
use Prim.Native.Nat.{ℕ, zero, suc, ◌+◌, ◌≤◌, ◌<◌}
use mathlib.Core.Bool.{Bool, true, false, cond, ◌&&◌, false≢true, and-eq-true_iff}
use mathlib.Core.List.{List, [], ◌∷◌, ◌++◌, map}
use mathlib.Core.Logic.{◌↔◌, ◌⊎◌, inl, inr}
use mathlib.Core.Path.{◌≡◌, refl, sym, ap, ◌∙◌}
use native.Mathlib.Omega.{arith}
use borrow.Author.Tests.{leb-true, ltb-true, le-leb, lt-ltb, eqb-true, eq-eqb}
use lib.Dec.{leb, ltb, eqb}
use lib.ListN.{length, get_or}
use Rattle.model.specs.Says.Feasible.{All, Multiple, Least}
use Rattle.model.specs.Rules.Command.{is_operator, declaration_at, operator_at}
use Rattle.model.specs.Rules.Compile.{short_enough}
use Rattle.model.specs.Says.Grammar.{LegalProgram}
use Rattle.model.specs.Rules.Latency.{no_read}
use Rattle.model.specs.Rules.Outcome.{Outcome, accepted, refused, fault, ◌▷◌, provided, lowest}
use Rattle.model.specs.Rules.Program.{Program, Signal, Read, Link, Chain, no_signal, count, signal_at, body_reads}
use Rattle.model.specs.Rules.Rates.{
  period_rule,
  read_faults,
  link_faults,
  declared_and_rated,
  hypercycle_of,
  hypercycle,
  count_reads,
  is_linked,
  is_multiple,
  linked,
}
use Rattle.model.specs.Rules.Search.{first_below, join_from}
use Rattle.model.specs.Rules.Word.{byte_at}
use Rattle.model.specs.Says.Written.{OperatorByte}
use Rattle.theorems_pairs.specs.Conditions.{◌among◌, ShortEnough, ReadIn, LinkIn, DeclaredAndRated, Linked}
use Rattle.theorems_pairs.specs.Refusals.{LowestFault, RateFault, ChainFault}
use Rattle.model.specs.declared.Declaration.TheVariants as Declaration
use Rattle.model.specs.declared.Fault.{Fault}
use Rattle.model.specs.declared.Mode.TheVariants.{Exists}
use Rattle.model.specs.declared.Sampled.{Sampled}
use Rattle.model.proofs.Pairs.Decide.{true-periods, periods-true}
use Rattle.model.proofs.Pairs.Hypercycle.{hypercycle-least, hypercycle-none}
use Rattle.model.proofs.Texts.Commands.{written_byte, operator-of}
use Rattle.model.proofs.Texts.Legal.{Legal, legal, signal-reads, links-command}
use Rattle.model.specs.Says.Stands.{SpellsRead, SpellsChain}
use Rattle.model.proofs.Texts.Picks.{operator-byte}
use Rattle.model.proofs.Texts.Written.{as_written, operator-as-written}
use Rattle.model.proofs.Basics.Outcomes.{not-below, not-true-false, accepted≢refused}
use Rattle.model.proofs.Pairs.Verdict.{Rated, reads-rated, links-declared}
use Rattle.theorems_pairs.proofs.Faults.{
  among-at,
  at-among,
  all_among,
  among-append,
  append_left,
  append_right,
  among-cond,
  cond-among,
  among-join,
  join-among,
  no-fault,
  fault-none,
  fault-lowest,
  lowest-fault,
}
use Rattle.model.proofs.Texts.Parses.{program-legal}

-- An outcome is accepted exactly under C, and refused exactly with the faults of F.
pub record Judged {A : Type 0} (C : A → Type 0) (F : Fault → Type 0) (o : Outcome A) : Type 0 where
  pub accepts : (a : A) → (o ≡ accepted a) ↔ C a
  pub refuses : (f : Fault) → (o ≡ refused f) ↔ F f

-- What the verdict says so far: Q of the value, or R of the refusal.
abbrev pub Answers : {A : Type 0} → (A → Type 0) → (Fault → Type 0) → Outcome A → Type 0
Answers Q R (accepted a) = Q a
Answers Q R (refused f) = R f

pub answers-then : {A B : Type 0} {C : A → Type 0} {F : Fault → Type 0} (Q : B → Type 0) (R : Fault → Type 0)
    (o : Outcome A) (next : A → Outcome B) → Judged C F o → ((f : Fault) → F f → R f) →
    ((a : A) → C a → Answers Q R (next a)) → Answers Q R (o ▷ next)
unfolding ◌▷◌
answers-then Q R (accepted a) next j r g = g a ((j.accepts a).0 refl)
answers-then Q R (refused f) next j r g = r f ((j.refuses f).0 refl)

pub answers-accepted : {A : Type 0} (Q : A → Type 0) (R : Fault → Type 0) (o : Outcome A) (a : A) → Answers Q R o →
    o ≡ accepted a → Q a
answers-accepted Q R o a h e = rw e at h

pub answers-refused : {A : Type 0} (Q : A → Type 0) (R : Fault → Type 0) (o : Outcome A) (f : Fault) → Answers Q R o →
    o ≡ refused f → R f
answers-refused Q R o f h e = rw e at h

-- A fault that is the only one of its step.
pub data Only (number place : ℕ) (C : Type 0) : Fault → Type 0 where
  only : C → Only number place C (fault number place)

-- A test with one refusal, where N says that C does not hold.
pub provided-judged : (t : Bool) (n x : ℕ) (C N : Type 0) → (t ≡ true) ↔ C → (t ≡ false → N) → (N → ¬ C) →
    Judged (λ u. C) (Only n x N) (provided t n x)
unfolding provided
provided-judged true n x C N d fails apart =
    record {
      accepts = λ u. (λ e. d.0 refl, λ c. refl);
      refuses = λ g. (λ e. absurd (accepted≢refused _ tt _ refl e), λ f. absurd (never f));
    }
  where
    never : {g : Fault} → Only n x N g → ⊥
    never (Only.only h) = apart h (d.0 refl)
provided-judged false n x C N d fails apart =
    record {
      accepts = λ u. (λ e. absurd (accepted≢refused _ tt _ e refl), λ c. absurd (false≢true (d.1 c)));
      refuses = λ g. (forth, back);
    }
  where
    forth : {g : Fault} → ◌≡◌ {A = Outcome (Unit {0})} (refused (fault n x)) (refused g) → Only n x N g
    forth {g} e = let same : fault n x ≡ g = cc in rw (← same) (Only.only (fails refl))

    back : {g : Fault} → Only n x N g → ◌≡◌ {A = Outcome (Unit {0})} (refused (fault n x)) (refused g)
    back (Only.only h) = refl

-- 1.
pub short-judged : (program schedule : List ℕ) →
    Judged (λ u. ShortEnough program schedule) (Only 1 0 (¬ ShortEnough program schedule)) (short_enough program schedule)
unfolding short_enough
short-judged program schedule =
    provided-judged _ 1 0 (ShortEnough program schedule) (¬ ShortEnough program schedule) (forth, back)
    (λ e c. false≢true (sym e ∙ back c)) (λ h. h)
  where
    forth : leb (length program) 8192 && leb (length schedule) 193 ≡ true → ShortEnough program schedule
    forth e = let h = (and-eq-true_iff _ _).0 e in (leb-true _ _ h.0, leb-true _ _ h.1)

    back : ShortEnough program schedule → leb (length program) 8192 && leb (length schedule) 193 ≡ true
    back c = (and-eq-true_iff _ _).1 (le-leb _ _ c.0, le-leb _ _ c.1)

-- A check that gives the lowest of its faults.
pub lowest-judged : (fs : List Fault) (F : Fault → Type 0) (C : Type 0) →
    ((f : Fault) → f among fs → F f) → ((f : Fault) → F f → f among fs) →
    ((f g : Fault) → F f → F g → f.place ≡ g.place → f.number ≡ g.number) → (C → (f : Fault) → ¬ F f) →
    (lowest fs ≡ accepted tt → C) →
    Judged (λ (u : Unit {0}). C) (LowestFault F) (lowest fs)
lowest-judged fs F C sound complete single none holds =
    record {
      accepts = λ u. (holds, λ c. no-fault fs F sound complete (none c));
      refuses = λ f. (fault-lowest fs F sound complete f, lowest-fault fs F sound complete single f);
    }

-- 7, 8.
module _ (p : Program) where
  read-fault : (r : ℕ) (ρ : Read) (f : Fault) → ReadIn p r ρ → f among read_faults p (signal_at p r) ρ →
      RateFault p f
  unfolding read_faults
  read-fault r ρ f i m =
      go (ltb ρ.operands.signal (count p)) (period_rule ρ.kind w v n) refl refl m
    where
      w : ℕ
      w = (signal_at p ρ.operands.signal).period

      v : ℕ
      v = (signal_at p r).period

      n : ℕ
      n = ρ.operands.factor

      go : (a b : Bool) → ltb ρ.operands.signal (count p) ≡ a → period_rule ρ.kind w v n ≡ b →
          f among (cond a (cond b [] (fault 8 ρ.place ∷ [])) (fault 7 ρ.place ∷ [])) →
          RateFault p f
      go false b d e (◌among◌.later m) = elim m [ ]
      go true false d e (◌among◌.later m) = elim m [ ]
      go true true d e m = elim m [ ]
      go true false d e (◌among◌.here q) =
          rw q (RateFault.broken_rule r ρ i (ltb-true _ _ d) (λ k. false≢true (sym e ∙ true-periods ρ.kind w v n k)))
      go false b d e (◌among◌.here q) =
          rw q (RateFault.undeclared_read r ρ i (λ k. false≢true (sym d ∙ lt-ltb _ _ k)))

  link-fault : (l : Link) (f : Fault) → LinkIn p l → f among link_faults p l → RateFault p f
  unfolding link_faults
  link-fault l f i m =
      let h = among-cond (ltb l.signal (count p)) f (fault 7 l.place) m in
      rw h.1 (RateFault.undeclared_link l i (λ k. false≢true (sym h.0 ∙ lt-ltb _ _ k)))

  -- The faults that are collected: of the reads, then of the LINKs.
  reads_of : ℕ → Signal → List Fault
  reads_of s x = join_from 0 (λ i ρ. read_faults p x ρ) (body_reads x.body)

  links_of : ℕ → Chain → List Fault
  links_of j c = join_from 0 (λ i l. link_faults p l) c.links

  no_chain : Chain
  no_chain = record { place = 0; mode = Exists; bound = 0; links = [] }

  no_link : Link
  no_link = record { place = 0; signal = 0 }

  rate-sound : (f : Fault) → f among (join_from 0 reads_of p.signals ++ join_from 0 links_of p.chains) →
      RateFault p f
  unfolding reads_of links_of
  rate-sound f m = go (among-append f (join_from 0 reads_of p.signals) (join_from 0 links_of p.chains) m)
    where
      go : (f among join_from 0 reads_of p.signals) ⊎ (f among join_from 0 links_of p.chains) →
          RateFault p f
      go (inl n) =
          let a = among-join reads_of 0 p.signals no_signal f n in
          let ρs = body_reads (signal_at p a.0).body in
          let b = among-join (λ i ρ. read_faults p (signal_at p a.0) ρ) 0 ρs no_read f a.2 in
          read-fault a.0 (get_or ρs b.0 no_read) f (a.1, at-among ρs no_read b.0 b.1) b.2
      go (inr n) =
          let a = among-join links_of 0 p.chains no_chain f n in
          let c = get_or p.chains a.0 no_chain in
          let b = among-join (λ i l. link_faults p l) 0 c.links no_link f a.2 in
          link-fault (get_or c.links b.0 no_link) f
          (c, at-among p.chains no_chain a.0 a.1, at-among c.links no_link b.0 b.1) b.2

  read-among : (r : ℕ) (ρ : Read) (f : Fault) → ReadIn p r ρ → f among read_faults p (signal_at p r) ρ →
      f among (join_from 0 reads_of p.signals ++ join_from 0 links_of p.chains)
  unfolding reads_of
  read-among r ρ f i m =
      let ρs = body_reads (signal_at p r).body in
      let a = among-at ρ ρs no_read i.1 in
      append_left f (join_from 0 reads_of p.signals) (join_from 0 links_of p.chains)
      (join-among reads_of 0 p.signals no_signal f r i.0
      (join-among (λ i ρ. read_faults p (signal_at p r) ρ) 0 ρs no_read f a.0 a.1 (rw a.2 m)))

  link-among : (l : Link) (f : Fault) → LinkIn p l → f among link_faults p l →
      f among (join_from 0 reads_of p.signals ++ join_from 0 links_of p.chains)
  unfolding links_of
  link-among l f i m =
      let a = among-at i.0 p.chains no_chain i.1 in
      let b = among-at l i.0.links no_link i.2 in
      append_right f (join_from 0 reads_of p.signals) (join_from 0 links_of p.chains)
      (join-among links_of 0 p.chains no_chain f a.0 a.1
      (rw a.2 (join-among (λ i l. link_faults p l) 0 i.0.links no_link f b.0 b.1 (rw b.2 m))))

  rate-complete : (f : Fault) → RateFault p f →
      f among (join_from 0 reads_of p.signals ++ join_from 0 links_of p.chains)
  unfolding read_faults link_faults
  rate-complete f (RateFault.undeclared_read r ρ i u) =
      read-among r ρ (fault 7 ρ.place) i (rw (not-below u) (◌among◌.here refl))
  rate-complete f (RateFault.undeclared_link l i u) =
      link-among l (fault 7 l.place) i (rw (not-below u) (◌among◌.here refl))
  rate-complete f (RateFault.broken_rule r ρ i d u) =
      read-among r ρ (fault 8 ρ.place) i
      (rw (lt-ltb ρ.operands.signal (count p) d, not-rule) (◌among◌.here refl))
    where
      not-rule : period_rule ρ.kind (signal_at p ρ.operands.signal).period (signal_at p r).period ρ.operands.factor ≡
          false
      not-rule = not-true-false _ (λ e. u (periods-true ρ.kind _ _ ρ.operands.factor e))

-- At one place of a legal text stands one read or LINK, so that it has faults of one number only.
module _ (text : List ℕ) (p : Program) (l : LegalProgram text p) where
  lawful : (end : ℕ) × Legal text end p × (length text ≡ end + 1)
  lawful = legal text p ((program-legal text p).1 l)

  pub read-spelled : (r : ℕ) (ρ : Read) → ReadIn p r ρ → SpellsRead text ρ
  read-spelled r ρ i = all_among (SpellsRead text) _ (signal-reads lawful.1 r i.0) ρ i.1

  pub chain-spelled : (c : Chain) → c among p.chains → SpellsChain text c
  chain-spelled c i = all_among (SpellsChain text) p.chains lawful.1.chains c i

  pub link-spelled : (a : Link) → LinkIn p a → declaration_at text a.place ≡ Declaration.Link a.signal
  link-spelled a i =
      all_among (λ l. declaration_at text l.place ≡ Declaration.Link l.signal) i.0.links
      (links-command (chain-spelled i.0 i.1).links) a i.2

  no-link : {b : ℕ} → OperatorByte b → b ≡ 0x13 → ⊥
  no-link {b} o e = false≢true (sym (ap is_operator e) ∙ (operator-byte b).1 o)

  same_read : (r s : ℕ) (ρ σ : Read) → ReadIn p r ρ → ReadIn p s σ → ρ.place ≡ σ.place →
      ρ.operands.signal ≡ σ.operands.signal
  same_read r s ρ σ i j e =
      let a = read-spelled r ρ i in
      let b = read-spelled s σ j in
      let same : ρ.operands ≡ σ.operands = cc (a, b, ap (operator_at text) e) in
      ap (λ (x : Sampled). x.signal) same

  not-both : (r : ℕ) (ρ : Read) (a : Link) → ReadIn p r ρ → LinkIn p a → ρ.place ≡ a.place → ⊥
  not-both r ρ a i j e =
      let o = operator-of text ρ.place (operator-as-written _ tt (read-spelled r ρ i)) in
      let l = written_byte text a.place (as_written _ tt (link-spelled a j)) in
      no-link o (ap (byte_at text) e ∙ l)

  rate-single : (f g : Fault) → RateFault p f → RateFault p g → f.place ≡ g.place → f.number ≡ g.number
  rate-single f g (RateFault.undeclared_read r ρ i u) (RateFault.undeclared_read s σ j v) e = refl
  rate-single f g (RateFault.undeclared_read r ρ i u) (RateFault.undeclared_link a j v) e = refl
  rate-single f g (RateFault.undeclared_read r ρ i u) (RateFault.broken_rule s σ j d v) e =
      absurd (u (omega (arith, same_read r s ρ σ i j e)))
  rate-single f g (RateFault.undeclared_link a i u) (RateFault.undeclared_read s σ j v) e = refl
  rate-single f g (RateFault.undeclared_link a i u) (RateFault.undeclared_link b j v) e = refl
  rate-single f g (RateFault.undeclared_link a i u) (RateFault.broken_rule s σ j d v) e = absurd (not-both s σ a j i (sym e))
  rate-single f g (RateFault.broken_rule r ρ i d u) (RateFault.undeclared_read s σ j v) e =
      absurd (v (omega (arith, same_read r s ρ σ i j e)))
  rate-single f g (RateFault.broken_rule r ρ i d u) (RateFault.undeclared_link b j v) e = absurd (not-both r ρ b i j e)
  rate-single f g (RateFault.broken_rule r ρ i d u) (RateFault.broken_rule s σ j c v) e = refl

  rate-none : DeclaredAndRated p → (f : Fault) → ¬ RateFault p f
  rate-none c f (RateFault.undeclared_read r ρ i u) = u (c.reads r ρ i)
  rate-none c f (RateFault.undeclared_link a i u) = u (c.links a i)
  rate-none c f (RateFault.broken_rule r ρ i d u) = u (c.periods r ρ i)

  rated : declared_and_rated p ≡ accepted tt → DeclaredAndRated p
  rated e =
      record {
        reads = λ r ρ i. (all_among (Rated p r) _ (reads-rated p e r i.0) ρ i.1).0;
        links = λ a i.
            all_among (λ l. l.signal < count p) i.0.links
            (all_among (λ c. All (λ l. l.signal < count p) c.links) p.chains (links-declared p e) i.0 i.1) a i.2;
        periods = λ r ρ i. (all_among (Rated p r) _ (reads-rated p e r i.0) ρ i.1).1;
      }

  pub rated-judged : Judged (λ u. DeclaredAndRated p) (LowestFault (RateFault p)) (declared_and_rated p)
  unfolding declared_and_rated reads_of links_of
  rated-judged =
      lowest-judged (join_from 0 (reads_of p) p.signals ++ join_from 0 (links_of p) p.chains) (RateFault p)
      (DeclaredAndRated p) (rate-sound p) (rate-complete p) rate-single rate-none rated

-- 9.
pub hypercycle-judged : (p : Program) →
    Judged (Least p) (Only 9 0 ((h : ℕ) → h ≤ 240 → ¬ Multiple p h)) (hypercycle p)
unfolding hypercycle
hypercycle-judged p =
    record {
      accepts = hypercycle-least p;
      refuses = λ f. (forth f, back f);
    }
  where
    NoMultiple : Type 0
    NoMultiple = (h : ℕ) → h ≤ 240 → ¬ Multiple p h

    only : (found : Option ℕ) (f : Fault) → hypercycle_of found ≡ refused f → fault 9 0 ≡ f
    only (Some h) f e = absurd (accepted≢refused _ (suc h) _ refl e)
    only None f e = cc

    forth : (f : Fault) → hypercycle p ≡ refused f → Only 9 0 NoMultiple f
    forth f e =
        let q = only (first_below 240 (λ h. is_multiple p.signals (suc h))) f e in
        rw (← q) (Only.only ((hypercycle-none p).0 (rw (← q) at e)))

    back : (f : Fault) → Only 9 0 NoMultiple f → hypercycle p ≡ refused f
    back f (Only.only h) = (hypercycle-none p).1 h

-- A check of every chain that gives the lowest LAT: `test` decides Q.
module _
    (p : Program)
    (Q : Chain → Type 0)
    (number : ℕ)
    (test : Chain → Bool)
    (decides : (c : Chain) → c among p.chains → (test c ≡ true) ↔ Q c)
  where
    chains_of : ℕ → Chain → List Fault
    chains_of j c = cond (test c) [] (fault number c.place ∷ [])

    chain-sound : (f : Fault) → f among join_from 0 chains_of p.chains → ChainFault p Q number f
    unfolding chains_of
    chain-sound f m =
        let a = among-join chains_of 0 p.chains (no_chain p) f m in
        let c = get_or p.chains a.0 (no_chain p) in
        let i = at-among p.chains (no_chain p) a.0 a.1 in
        let h = among-cond (test c) f (fault number c.place) a.2 in
        rw h.1 (ChainFault.broken c i (λ k. false≢true (sym h.0 ∙ (decides c i).1 k)))

    chain-complete : (f : Fault) → ChainFault p Q number f → f among join_from 0 chains_of p.chains
    unfolding chains_of
    chain-complete f (ChainFault.broken c i u) =
        let a = among-at c p.chains (no_chain p) i in
        join-among chains_of 0 p.chains (no_chain p) (fault number c.place) a.0 a.1
        (rw a.2 (cond-among (test c) (fault number c.place) (not-true-false (test c) (λ e. u ((decides c i).0 e)))))

    chain-single : (f g : Fault) → ChainFault p Q number f → ChainFault p Q number g → f.place ≡ g.place →
        f.number ≡ g.number
    chain-single f g (ChainFault.broken c i u) (ChainFault.broken d j v) e = refl

    chain-none : ((c : Chain) → c among p.chains → Q c) → (f : Fault) → ¬ ChainFault p Q number f
    chain-none h f (ChainFault.broken c i u) = u (h c i)

    chain-holds : lowest (join_from 0 chains_of p.chains) ≡ accepted tt → (c : Chain) → c among p.chains → Q c
    chain-holds e c i = go (test c) refl
      where
        go : (b : Bool) → test c ≡ b → Q c
        go true t = (decides c i).0 t
        go false t =
            absurd (fault-none (join_from 0 chains_of p.chains) (ChainFault p Q number) chain-sound chain-complete e
            (fault number c.place) (ChainFault.broken c i (λ k. false≢true (sym t ∙ (decides c i).1 k))))

    pub chains-judged : Judged (λ (u : Unit {0}). (c : Chain) → c among p.chains → Q c) (LowestFault (ChainFault p Q number))
        (lowest (join_from 0 (λ j c. cond (test c) [] (fault number c.place ∷ [])) p.chains))
    unfolding chains_of
    chains-judged =
        lowest-judged (join_from 0 chains_of p.chains) (ChainFault p Q number) ((c : Chain) → c among p.chains → Q c)
        chain-sound chain-complete chain-single chain-none chain-holds

-- 10.
module _ (p : Program) where
  -- Neighbours in a list of signals.
  abbrev Neighbours : List ℕ → Type 0
  Neighbours ws = (j : ℕ) → suc j < length ws → count_reads (get_or ws j 0) (body_reads (signal_at p (get_or ws (suc j) 0)).body) ≡ 1

  linked-true : (ls : List Link) → is_linked p ls ≡ true → Neighbours (map (λ l. l.signal) ls)
  unfolding is_linked
  linked-true [] e j lt = absurd (omega arith)
  linked-true (a ∷ []) e j lt = absurd (omega arith)
  linked-true (a ∷ (b ∷ ls)) e zero lt = eqb-true _ _ ((and-eq-true_iff _ (is_linked p (b ∷ ls))).0 e).0
  linked-true (a ∷ (b ∷ ls)) e (suc j) lt =
      let one = eqb (count_reads a.signal (body_reads (signal_at p b.signal).body)) 1 in
      linked-true (b ∷ ls) ((and-eq-true_iff one (is_linked p (b ∷ ls))).0 e).1 j (omega arith)

  true-linked : (ls : List Link) → Neighbours (map (λ l. l.signal) ls) → is_linked p ls ≡ true
  unfolding is_linked
  true-linked [] h = refl
  true-linked (a ∷ []) h = refl
  true-linked (a ∷ (b ∷ ls)) h =
      (and-eq-true_iff _ (is_linked p (b ∷ ls))).1 (
        eq-eqb _ _ (h 0 (omega arith)),
        true-linked (b ∷ ls) (λ j lt. h (suc j) (omega arith)),
      )

  pub linked-decides : (c : Chain) → (is_linked p c.links ≡ true) ↔ Linked p c
  linked-decides c = (linked-true c.links, true-linked c.links)

  pub linked-judged : Judged (λ u. (c : Chain) → c among p.chains → Linked p c) (LowestFault (ChainFault p (Linked p) 10))
      (linked p)
  unfolding linked
  linked-judged = chains-judged p (Linked p) 10 (λ c. is_linked p c.links) (λ c i. linked-decides c)
