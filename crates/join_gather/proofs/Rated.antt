-- The tables by part with one part more. Assumes nothing.
use Prim.Native.Nat.{ℕ, zero, ◌+◌, ◌*◌, ◌≤◌, ◌<◌}
use mathlib.Core.Bool.{Bool, true, false, cond, ◌&&◌, and-eq-true_iff}
use mathlib.Core.List.{List, [], ◌∷◌, ◌++◌}
use mathlib.Core.Path.{◌≡◌, sym, ap, ap₂, ◌∙◌}
use native.Mathlib.Decide.{dec_lt}
use native.Mathlib.Omega.{arith}
use borrow.Author.Tests.{ltb-true, lt-ltb, le-ltb}
use lib.Dec.{ltb, eqb}
use lib.ListN.{length, get_or, length-append, get_or-append}
use lib.Seq.{get_or_at}
use Rattle.model.specs.Rules.Join.{is_declared}
use Rattle.model.specs.Rules.Parts.{Part, no_part, part_at}
use Rattle.model.specs.Rules.Program.{Signal, count, signal_at, is_input}
use Rattle.model.specs.Rules.Word.{byte_at}
use Rattle.model.proofs.Texts.Legal.{stands, signal-spelled, signal-period, input-byte}
use Rattle.text_program.specs.declared.Tables.{Tables}
use Rattle.join_links.specs.ByPart.{signal_in, value_in}
use Rattle.join_gather.specs.Rates.{Filled, RatesOf, RatesBy}

module _ (parts : List Part) (a : Part) where
  longer : length (parts ++ (a ∷ [])) ≡ length parts + 1
  longer = length-append parts (a ∷ [])

  part-before : (k : ℕ) → k < length parts → part_at (parts ++ (a ∷ [])) k ≡ part_at parts k
  part-before k lt = get_or-append parts (a ∷ []) no_part k lt

  part-last : (k : ℕ) → k ≡ length parts → part_at (parts ++ (a ∷ [])) k ≡ a
  part-last k e = get_or_at parts a [] no_part k (sym e)

  declared-before : (k x : ℕ) → k < length parts → is_declared (parts ++ (a ∷ [])) k x ≡ is_declared parts k x
  declared-before k x lt =
      ap₂ ◌&&◌ (lt-ltb k (length (parts ++ (a ∷ []))) (omega (arith, longer)) ∙ sym (lt-ltb k (length parts) lt))
      (ap (λ (p : Part). ltb x (count p.program)) (part-before k lt))

  declared-last : (k x : ℕ) → k ≡ length parts → is_declared (parts ++ (a ∷ [])) k x ≡ ltb x (count a.program)
  declared-last k x e =
      ap₂ ◌&&◌ (lt-ltb k (length (parts ++ (a ∷ []))) (omega (arith, longer, e)))
      (ap (λ (p : Part). ltb x (count p.program)) (part-last k e))

  declared-past : (ps : List Part) (k x : ℕ) → length ps ≤ k → is_declared ps k x ≡ false
  declared-past ps k x le = ap (λ (b : Bool). b && ltb x (count (part_at ps k).program)) (le-ltb k (length ps) le)

  module _ {A : Type 0} (f : Signal → A) (d : A) where
    value_before : (k x : ℕ) → k < length parts → value_in f d (parts ++ (a ∷ [])) k x ≡ value_in f d parts k x
    value_before k x lt =
        ap₂ (λ (b : Bool) (p : Part). cond b (f (signal_at p.program x)) d) (declared-before k x lt) (part-before k lt)

    value-past : (ps : List Part) (k x : ℕ) → length ps ≤ k → value_in f d ps k x ≡ d
    value-past ps k x le = ap (λ (b : Bool). cond b (f (signal_in ps k x)) d) (declared-past ps k x le)

    value-last : (k x : ℕ) → k ≡ length parts → x < count a.program →
        value_in f d (parts ++ (a ∷ [])) k x ≡ f (signal_at a.program x)
    value-last k x e lt =
        ap₂ (λ (b : Bool) (p : Part). cond b (f (signal_at p.program x)) d)
        (declared-last k x e ∙ lt-ltb x (count a.program) lt) (part-last k e)

    value_none : (k x : ℕ) → k ≡ length parts → count a.program ≤ x → value_in f d (parts ++ (a ∷ [])) k x ≡ d
    value_none k x e le =
        ap (λ (b : Bool). cond b (f (signal_in (parts ++ (a ∷ [])) k x)) d)
        (declared-last k x e ∙ le-ltb x (count a.program) le)

    -- A table of values by part and number, with the values of the new part filled in.
    filled_next : (n : ℕ) (g : ℕ → A) (old new : List A) → n ≡ count a.program → count a.program ≤ 64 →
        Filled d g (64 * length parts) n old new →
        ((x : ℕ) → x < count a.program → g x ≡ f (signal_at a.program x)) →
        ((k x : ℕ) → k < 8 → x < 64 → get_or old (64 * k + x) d ≡ value_in f d parts k x) →
        (k x : ℕ) → k < 8 → x < 64 → get_or new (64 * k + x) d ≡ value_in f d (parts ++ (a ∷ [])) k x
    filled_next n g old new all small to values before k x lk lx = go (dec_lt k (length parts)) (dec_lt (length parts) k)
      where
        here : k ≡ length parts → Dec (x < count a.program) → get_or new (64 * k + x) d ≡ value_in f d (parts ++ (a ∷ [])) k x
        here e (yes l) =
            ap (λ (m : ℕ). get_or new (64 * m + x) d) e ∙ to.filled x (omega (arith, all)) ∙ values x l ∙
            sym (value-last k x e l)
        here e (no l) =
            to.after (64 * k + x) (omega (arith, e, all)) ∙ before k x lk lx ∙ value-past parts k x (omega (arith, e)) ∙
            sym (value_none k x e (omega arith))

        go : Dec (k < length parts) → Dec (length parts < k) → get_or new (64 * k + x) d ≡ value_in f d (parts ++ (a ∷ [])) k x
        go (yes l) c = to.before (64 * k + x) (omega arith) ∙ before k x lk lx ∙ sym (value_before k x l)
        go (no l) (yes m) =
            to.after (64 * k + x) (omega (arith, all, small)) ∙ before k x lk lx ∙ value-past parts k x (omega arith) ∙
            sym (value-past (parts ++ (a ∷ [])) k x (omega (arith, longer)))
        go (no l) (no m) = here (omega arith) (dec_lt x (count a.program))

  module _ (text : List ℕ) (tables : Tables) (periods periods' : List ℕ) (inputs inputs' : List Bool)
      (of : RatesOf text tables a) (old : RatesBy parts periods inputs) (few : length parts < 8)
      (new-periods : Filled 0 (λ y. get_or tables.periods y 0) (64 * length parts) tables.signals periods periods')
      (new-inputs : Filled false (λ y. eqb (byte_at text (get_or tables.places y 0)) 0x10) (64 * length parts) tables.signals
      inputs inputs') where
    all : tables.signals ≡ count a.program
    all = sym of.tables-are.counts.signals-are

    small : count a.program ≤ 64
    small = (stands text a.program of.declares).1.few_signals

    -- What holds of the declared signals of the parts before and of the new one.
    by-declared : (P : ℕ → ℕ → Type 0) → ((k x : ℕ) → k < length parts → is_declared parts k x ≡ true → P k x) →
        ((k x : ℕ) → k ≡ length parts → x < count a.program → P k x) → (k x : ℕ) →
        is_declared (parts ++ (a ∷ [])) k x ≡ true → P k x
    by-declared P f g k x d = go (dec_lt k (length parts))
      where
        h : (ltb k (length (parts ++ (a ∷ []))) ≡ true) ×
            (ltb x (count (part_at (parts ++ (a ∷ [])) k).program) ≡ true)
        h = (and-eq-true_iff (ltb k (length (parts ++ (a ∷ [])))) _).0 d

        go : Dec (k < length parts) → P k x
        go (yes l) = f k x l (sym (declared-before k x l) ∙ d)
        go (no l) =
            let e : k ≡ length parts = omega (arith, ltb-true k (length (parts ++ (a ∷ []))) h.0, longer) in
            g k x e (ltb-true x (count a.program) (sym (declared-last k x e) ∙ d))

    pub rates-next : RatesBy (parts ++ (a ∷ [])) periods' inputs'
    rates-next =
        record {
          periods-are =
              record {
                few = omega (arith, longer);
                small = λ k lt. go k (dec_lt k (length parts)) lt;
                positive =
                    by-declared (λ k x. zero < (signal_in (parts ++ (a ∷ [])) k x).period)
                    (λ k x l d.
                    rw (part-before k l) (old.periods-are.positive k x d))
                    (λ k x e l.
                    rw (part-last k e)
                    (omega (arith, (signal-period (stands text a.program of.declares).1 x l).0)));
                each =
                    filled_next (λ σ. σ.period) 0 tables.signals _ periods periods' all small new-periods
                    of.tables-are.periods old.periods-are.each;
              };
          room = new-periods.long ∙ old.room;
          long = new-inputs.long ∙ old.long;
          inputs_are =
              filled_next (λ σ. is_input σ.body) false tables.signals _ inputs inputs' all small new-inputs
              (λ x l.
              ap (λ (n : ℕ). eqb (byte_at text n) 0x10) (of.tables-are.places x l) ∙
              sym (input-byte text (signal_at a.program x) (signal_at a.program x).body
              (signal-spelled (stands text a.program of.declares).1 x l)))
              old.inputs_are;
        }
      where
        go : (k : ℕ) → Dec (k < length parts) → k < length (parts ++ (a ∷ [])) →
            count (part_at (parts ++ (a ∷ [])) k).program ≤ 64
        go k (yes l) lt = rw (part-before k l) (old.periods-are.small k l)
        go k (no l) lt =
            let e : k ≡ length parts = omega (arith, longer) in
            rw (part-last k e) small
