-- Laws of sums over tables, and of the load by tables. Assumes nothing.
use Rattle.std.specs.Prelude.{Option, Some, None, Result, Ok, Err}
use mathlib.Core.Path.{◌≡◌, refl, sym, ap, ap₂, ◌∙◌, fun_ext}
use mathlib.Core.Bool.{Bool, true, false, cond}
use mathlib.Core.List.{List}
use Prim.Native.Nat.{ℕ, zero, suc, ◌+◌, ◌-◌, ◌<◌}
use native.Mathlib.Nat.{add-zero, zero-add}
use native.Mathlib.Numerals.{add-one}
use native.Mathlib.Omega.{arith}
use lib.Dec.{ltb}
use lib.ListN.{get_or}
use Rattle.model.specs.Rules.Load.{load, is_over, loaded_of, loaded}
use Rattle.model.specs.Rules.Program.{Program, unlimited, limit, count, signal_at, weight_of}
use Rattle.model.specs.Rules.Reads.{due, rate_of}
use Rattle.model.specs.Rules.Schedule.{Schedule}
use Rattle.model.specs.Rules.Search.{sum, table, table_from, first_below, first_from}
use Rattle.model.proofs.Basics.Outcomes.{sum-from}
use Rattle.text_program.specs.Tables.{PeriodsOf, WeightsOf, cap_of}
use Rattle.model.specs.declared.Fault.{Fault}
use Rattle.basics.specs.Judgement.{judgement_of}
use Rattle.check_load.specs.Load.{added_in, load_in, LoadsOf, PhasesOf}
use Rattle.runs.specs.Raised.{Raised}

module _ (periods phases weights : List ℕ) (c : ℕ) where
  pub load-none : load_in periods phases weights 0 c ≡ 0
  unfolding load_in table table_from sum
  load-none = refl

  load-more : (x : ℕ) → load_in periods phases weights (x + 1) c ≡ load_in periods phases weights x c + added_in periods phases
      weights c x
  unfolding load_in table
  load-more x =
      ap (λ k. sum (table_from 0 k (added_in periods phases weights c))) (add-one x) ∙
      sum-from 0 x (added_in periods phases weights c) ∙
      ap (λ k. sum (table_from 0 x (added_in periods phases weights c)) + added_in periods phases weights c k) (zero-add x)

-- The loads of one signal more.
pub loads-more : (periods phases weights : List ℕ) (x h : ℕ) (old new : List ℕ) → LoadsOf periods phases weights x h old →
    Raised (record { period = get_or periods x 0; phase = get_or phases x 0 }) (get_or weights x 0) h old new →
    LoadsOf periods phases weights (x + 1) h new
loads-more periods phases weights x h old new l r c lt =
    r.raised c lt ∙ ap (◌+ added_in periods phases weights c x) (l c lt) ∙ sym (load-more periods phases weights c x)

-- Tables that are the same below n.
table_same : {A : Type 0} (i n : ℕ) (f g : ℕ → A) → ((x : ℕ) → x < n → f (i + x) ≡ g (i + x)) → table_from i n f ≡ table_from i n g
unfolding table_from
table_same i zero f g h = refl
table_same i (suc n) f g h =
    let a : f i ≡ g i = ap f (sym (add-zero i)) ∙ h 0 (omega arith) ∙ ap g (add-zero i) in
    let b = table_same (suc i) n f g (λ x lt. ap f (omega arith) ∙ h (suc x) (omega arith) ∙ ap g (omega arith)) in
    cc

-- The load by tables that are a program's and a schedule's.
pub load_is : (p : Program) (s : Schedule) (periods phases weights : List ℕ) → PeriodsOf p periods → WeightsOf p weights →
    PhasesOf p s phases → (c : ℕ) → load p s c ≡ load_in periods phases weights (count p) c
unfolding load load_in table
load_is p s periods phases weights hp hw hf c =
    ap sum (table_same 0 (count p) _ _ (λ x lt. same (0 + x) (omega arith)))
  where
    same : (x : ℕ) → x < count p →
        cond (due (rate_of p s x) c) (weight_of (signal_at p x).body) 0 ≡ added_in periods phases weights c x
    same x lt = rw (hp x lt, hw x lt, hf x lt)

-- The judgement from what a search over the cycles finds.
abbrev pub judged_at : Option ℕ → Result (Unit {0}) Fault
judged_at (Some c) = Err (record { number = 15; place = c })
judged_at None = Ok tt

judged-found : (f : Option ℕ) → judgement_of (loaded_of f) ≡ judged_at f
unfolding judgement_of
judged-found (Some c) = refl
judged-found None = refl

pub judged-load : (p : Program) (s : Schedule) (periods phases weights : List ℕ) (h m : ℕ) → PeriodsOf p periods →
    WeightsOf p weights → PhasesOf p s phases → p.cap ≡ limit m →
    judgement_of (loaded p s h) ≡ judged_at (first_below h (λ c. ltb m (load_in periods phases weights (count p) c)))
unfolding loaded
judged-load p s periods phases weights h m hp hw hf e =
    judged-found (first_below h (λ c. is_over p.cap (load p s c))) ∙
    ap (λ f. judged_at (first_below h f))
    (fun_ext (λ c. ap (λ l. is_over l (load p s c)) e ∙ ap (ltb m) (load_is p s periods phases weights hp hw hf c)))

-- With no CAP no cycle is over it.
never-found : (i n : ℕ) → first_from i n (λ c. false) ≡ None
unfolding first_from
never-found i zero = refl
never-found i (suc n) = never-found (suc i) n

pub judged-free : (p : Program) (s : Schedule) (h : ℕ) → p.cap ≡ unlimited → judgement_of (loaded p s h) ≡ Ok tt
unfolding loaded first_below
judged-free p s h e =
    judged-found (first_below h (λ c. is_over p.cap (load p s c))) ∙
    ap (λ f. judged_at (first_from 0 h f)) (fun_ext (λ c. ap (λ l. is_over l (load p s c)) e)) ∙ ap judged_at (never-found 0 h)

-- Searches by tests that are the same below n.
first-same : (i n : ℕ) (f g : ℕ → Bool) → ((x : ℕ) → x < n → f (i + x) ≡ g (i + x)) → first_from i n f ≡ first_from i n g
unfolding first_from
first-same i zero f g h = refl
first-same i (suc n) f g h =
    let a : f i ≡ g i = ap f (sym (add-zero i)) ∙ h 0 (omega arith) ∙ ap g (add-zero i) in
    let b = first-same (suc i) n f g (λ x lt. ap f (omega arith) ∙ h (suc x) (omega arith) ∙ ap g (omega arith)) in
    ap₂ (λ (t : Bool) (r : Option ℕ). elim t [ true ↦ Some i | false ↦ r ]) a b

-- Whether an entry of a table of loads is over m.
abbrev pub over : List ℕ → ℕ → ℕ → Bool
over loads m c = ltb m (get_or loads c 0)

pub judged-capped : (p : Program) (s : Schedule) (periods phases weights loads : List ℕ) (n h m : ℕ) (f : Option ℕ) →
    count p ≡ n → PeriodsOf p periods → WeightsOf p weights → PhasesOf p s phases → p.cap ≡ limit m →
    LoadsOf periods phases weights n h loads → first_below h (over loads m) ≡ f → judged_at f ≡ judgement_of (loaded p s h)
unfolding first_below
judged-capped p s periods phases weights loads n h m f e hp hw hf cap l g =
    sym (judged-load p s periods phases weights h m hp hw hf cap ∙
    ap (λ k. judged_at (first_below h (λ c. ltb m (load_in periods phases weights k c)))) e ∙
    ap judged_at (first-same 0 h _ _ (λ x lt. ap (ltb m) (sym (l (0 + x) (omega arith)))) ∙ g))

pub judged-uncapped : (p : Program) (s : Schedule) (h : ℕ) → p.cap ≡ unlimited → Ok tt ≡ judgement_of (loaded p s h)
judged-uncapped p s h cap = sym (judged-free p s h cap)
