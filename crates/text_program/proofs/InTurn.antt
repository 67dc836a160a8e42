-- A check of one element after another that refuses at the lowest place. Assumes nothing.
use Rattle.std.specs.Prelude.{Result, Ok, Err}
use Prim.Native.Nat.{ℕ, suc, ◌≤◌, ◌<◌}
use mathlib.Core.Bool.{Bool, true, false, cond}
use mathlib.Core.List.{List, [], ◌∷◌, ◌++◌, map}
use mathlib.Core.Path.{◌≡◌, refl, sym, ap, subst, ◌∙◌}
use native.Mathlib.Omega.{arith}
use lib.Dec.{ltb}
use lib.ListN.{length, get_or, drop, drop_of_length-le}
use lib.Seq.{drop-cons}
use borrow.Author.Tests.{lt-ltb, le-ltb, ltb-true, ltb-false}
use Rattle.model.specs.Says.Feasible.{All}
use Rattle.model.specs.Says.Grammar.{LegalProgram}
use Rattle.model.specs.Rules.Outcome.{Outcome, accepted, refused, lower, lowest}
use Rattle.model.specs.Rules.Program.{Program, Read, Link, no_signal, count, signal_at, body_reads}
use Rattle.model.specs.Rules.Search.{join_from}
use Rattle.model.specs.declared.Fault.{Fault}
use Rattle.model.proofs.Basics.All.{all_append, all-at, all_map}
use Rattle.model.proofs.Basics.Outcomes.{lowest-least}
use Rattle.basics.specs.Judgement.{judgement_of}
use Rattle.basics.proofs.Judgements.{judgement-fine, judgement-refused}
use Rattle.text_program.specs.Tables.{no_chain, chain_at}
use Rattle.text_program.proofs.Rising.{
  Rising,
  InTurn,
  rising_le,
  turn-le,
  turn_at,
  signal_places,
  chain_places,
  rising-program,
}

-- The lowest of the faults of two lists.
abbrev pub or_lower : Outcome (Unit {0}) → Outcome (Unit {0}) → Outcome (Unit {0})
or_lower (accepted a) o = o
or_lower (refused f) o = lower f o

lower-again : (f g h : Fault) (a b c : Bool) → ltb h.place g.place ≡ a → ltb g.place f.place ≡ b →
    ltb h.place f.place ≡ c →
    cond (ltb (cond a h g).place f.place) (cond a h g) f ≡ cond (ltb h.place (cond b g f).place) h (cond b g f)
lower-again f g h true true c p q r =
    let k : h.place < f.place = omega (arith, ltb-true h.place g.place p, ltb-true g.place f.place q) in
    rw (lt-ltb h.place f.place k, p)
lower-again f g h true false c p q r = refl
lower-again f g h false true c p q r = rw (q, p)
lower-again f g h false false c p q r =
    let k : f.place ≤ h.place = omega (arith, ltb-false h.place g.place p, ltb-false g.place f.place q) in
    rw (q, le-ltb h.place f.place k)

pub lowest-append : (xs ys : List Fault) → lowest (xs ++ ys) ≡ or_lower (lowest xs) (lowest ys)
unfolding lowest
lowest-append [] ys = refl
lowest-append (f ∷ xs) ys = ap (lower f) (lowest-append xs ys) ∙ go (lowest xs) (lowest ys)
  where
    go : (o q : Outcome (Unit {0})) → lower f (or_lower o q) ≡ or_lower (lower f o) q
    go (accepted a) q = refl
    go (refused g) (accepted b) = refl
    go (refused g) (refused h) = ap refused (lower-again f g h _ _ _ refl refl refl)

-- Faults from a on, below b.
abbrev pub Within : ℕ → List Fault → ℕ → Type 0
Within a fs b = All (λ f. (a ≤ f.place) × (f.place < b)) fs

pub within_more : (a b c d : ℕ) (fs : List Fault) → c ≤ a → b ≤ d → Within a fs b → Within c fs d
within_more a b c d fs l r h =
    all_map (λ (f : Fault). (a ≤ f.place) × (f.place < b)) (λ f. (c ≤ f.place) × (f.place < d))
    (λ f i. (omega (arith, i.0), omega (arith, i.1))) fs h

lowest-within : (a b : ℕ) (fs : List Fault) (f : Fault) → Within a fs b → lowest fs ≡ refused f → (a ≤ f.place) × (f.place < b)
lowest-within a b fs f h e =
    let l = lowest-least f fs f e in
    subst (λ (g : Fault). (a ≤ g.place) × (g.place < b)) l.here
    (all-at (λ g. (a ≤ g.place) × (g.place < b)) fs f h l.index l.inside)

lowest-before : (a m b : ℕ) (fs gs : List Fault) (f : Fault) → Within a fs m → Within m gs b → lowest fs ≡ refused f →
    lowest (fs ++ gs) ≡ refused f
lowest-before a m b fs gs f h k e = lowest-append fs gs ∙ ap (λ o. or_lower o (lowest gs)) e ∙ go (lowest gs) refl
  where
    go : (o : Outcome (Unit {0})) → lowest gs ≡ o → lower f o ≡ refused f
    go (accepted u) q = refl
    go (refused g) q =
        rw (le-ltb g.place f.place (omega (arith, (lowest-within a m fs f h e).1, (lowest-within m b gs g k q).0)))

module _ {A : Type 0} (places : A → List ℕ) (F : ℕ → A → List Fault) where
  -- The faults of an element stand at its places.
  abbrev pub AtPlaces : Type 0
  AtPlaces = (i : ℕ) (x : A) (a b : ℕ) → Rising a (places x) b → Within a (F i x) b

  pub all-within : AtPlaces → (i : ℕ) (xs : List A) (a b : ℕ) → InTurn places a xs b → Within a (join_from i F xs) b
  unfolding join_from
  all-within h i [] a b t = tt
  all-within h i (x ∷ xs) a b t =
      let m = t.0 in
      all_append (λ f. (a ≤ f.place) × (f.place < b)) (F i x) (join_from (suc i) F xs)
      (within_more a m a b (F i x) (omega arith) (turn-le places m xs b t.2) (h i x a m t.1))
      (within_more m b a b (join_from (suc i) F xs) (rising_le a (places x) m t.1) (omega arith)
      (all-within h (suc i) xs m b t.2))

  -- What is left of a check from element j on.
  pub record Left (verdict : Outcome (Unit {0})) (xs : List A) (j : ℕ) : Type 0 where
    pub left : verdict ≡ lowest (join_from j F (drop j xs))
    pub least : ℕ
    pub end : ℕ
    pub turn : InTurn places least (drop j xs) end

  module _ (verdict : Outcome (Unit {0})) (xs : List A) where
    pub check-starts : (least end : ℕ) → InTurn places least xs end → verdict ≡ lowest (join_from 0 F xs) → Left verdict xs 0
    check-starts least end t e = record { left = e; least = least; end = end; turn = t }

    pub check-ends : (j : ℕ) → length xs ≤ j → Left verdict xs j → (Ok tt) ≡ judgement_of verdict
    unfolding judgement_of lowest join_from
    check-ends j le l =
        sym (ap judgement_of (l.left ∙ ap (λ ys. lowest (join_from j F ys)) (drop_of_length-le xs le)))

    module _ (j : ℕ) (d : A) (lt : j < length xs) (l : Left verdict xs j) where
      abbrev x : A
      x = get_or xs j d

      abbrev later : List Fault
      later = join_from (suc j) F (drop (suc j) xs)

      here : verdict ≡ lowest (F j x ++ later)
      unfolding join_from
      here = l.left ∙ ap (λ ys. lowest (join_from j F ys)) (drop-cons xs j d lt)

      turns : InTurn places l.least (x ∷ drop (suc j) xs) l.end
      turns = subst (λ (ys : List A). InTurn places l.least ys l.end) (drop-cons xs j d lt) l.turn

      module _ (r : Result (Unit {0}) Fault) (is : r ≡ judgement_of (lowest (F j x))) where
        pub check-passes : r ≡ Ok tt → Left verdict xs (suc j)
        check-passes e =
            record {
              left =
                  here ∙ lowest-append (F j x) later ∙
                  ap (λ o. or_lower o (lowest later)) (judgement-fine (lowest (F j x)) r is e);
              least = turns.0;
              end = l.end;
              turn = turns.2;
            }

        pub check-refuses : AtPlaces → (f : Fault) → r ≡ Err f → r ≡ judgement_of verdict
        unfolding judgement_of
        check-refuses h f e =
            let m = turns.0 in
            e ∙
            sym (ap judgement_of (here ∙ lowest-before l.least m l.end (F j x) later f (h j x l.least m turns.1)
            (all-within h (suc j) (drop (suc j) xs) m l.end turns.2) (judgement-refused (lowest (F j x)) r f is e)))

-- Elements that have one place each.
module _ {A : Type 0} (place : A → ℕ) where
  pub turn-single : (a : ℕ) (xs : List A) (b : ℕ) → Rising a (map place xs) b → InTurn (λ x. place x ∷ []) a xs b
  turn-single a [] b r = r
  turn-single a (x ∷ xs) b r = (suc (place x), (r.0, omega arith), turn-single (suc (place x)) xs b r.1)

  module _ (G : A → List Fault) (there : (x : A) → All (λ (f : Fault). f.place ≡ place x) (G x)) where
    pub single-at : AtPlaces (λ x. place x ∷ []) (λ i x. G x)
    single-at i x a b r =
        all_map (λ (f : Fault). f.place ≡ place x) (λ f. (a ≤ f.place) × (f.place < b))
        (λ f e. (omega (arith, e, r.0), omega (arith, e, r.1))) (G x) (there x)

    pub singles-within : (xs : List A) (a b : ℕ) → Rising a (map place xs) b → Within a (join_from 0 (λ i x. G x) xs) b
    singles-within xs a b r = all-within (λ x. place x ∷ []) (λ i x. G x) single-at 0 xs a b (turn-single a xs b r)

-- The reads of a signal, and the LINKs of a chain.
module _ (text : List ℕ) (p : Program) (e : LegalProgram text p) (x : ℕ) where
  pub reads-in-turn : x < count p →
      (a b : ℕ) × InTurn (λ (ρ : Read). ρ.place ∷ []) a (body_reads (signal_at p x).body) b
  reads-in-turn lt =
      let h = rising-program text p e in
      let r = turn_at signal_places 0 p.signals h.0 x no_signal lt h.1.signals in
      (r.0, r.1, turn-single (λ ρ. ρ.place) r.0 (body_reads (signal_at p x).body) r.1 r.2)

  pub links-in-turn : x < length p.chains → (a b : ℕ) × InTurn (λ (l : Link). l.place ∷ []) a (chain_at p x).links b
  links-in-turn lt =
      let h = rising-program text p e in
      let r = turn_at chain_places 0 p.chains h.0 x no_chain lt h.1.chains in
      (suc (chain_at p x).place, r.1, turn-single (λ l. l.place) _ (chain_at p x).links r.1 r.2.1)
