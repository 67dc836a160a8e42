-- The parts checked one after another. Assumes nothing.
use Rattle.std.specs.Prelude.{Some}
use Prim.Native.Nat.{ℕ, zero, suc, ◌+◌, ◌-◌, ◌*◌, ◌≤◌, ◌<◌}
use mathlib.Core.Bool.{false}
use mathlib.Core.List.{List, [], ◌∷◌, ◌++◌, append_assoc}
use mathlib.Core.Path.{◌≡◌, refl, sym, ap, subst, ◌∙◌}
use native.Mathlib.Decide.{dec_lt}
use native.Mathlib.Nat.{sub-zero, zero-add}
use native.Mathlib.Omega.{arith}
use lib.ListN.{length, get_or, length-append, length-take, length-drop}
use Rattle.model.specs.Rules.Compile.{Pair, pair_of}
use Rattle.model.specs.Rules.Image.{signal_code, codes, joined}
use Rattle.model.specs.Rules.Join.{
  parts_in,
  texts_at,
  program_total,
  lent,
  program_text,
  part_pair,
  parts_from,
  is_refused,
  named_after,
  part_named,
}
use Rattle.model.specs.Rules.Outcome.{Outcome, accepted, refused, ◌▷◌, provided, lowest}
use Rattle.model.specs.Rules.Parts.{Part, no_part, joined_parts, base}
use Rattle.model.specs.Rules.Program.{Signal, no_signal, count}
use Rattle.model.specs.Rules.Reads.{rank}
use Rattle.model.specs.Rules.Schedule.{Schedule, puts_faults, put_phase, is_put, schedule_of, placed}
use Rattle.model.specs.Rules.Search.{first_below, all_below, sum, table_from, table, join_from}
use Rattle.model.specs.declared.Fault.{Fault}
use Rattle.model.proofs.Joining.Parts.{join-count, join-chains, joined-last}
use Rattle.model.specs.Says.Feasible.{OrderedPart}
use Rattle.model.proofs.Basics.Outcomes.{
  then-then,
  then_same,
  then-accepted,
  accepted-same,
  accepted-then,
  refused-then,
  table-length,
  sum_first,
  sum-next,
}
use Rattle.model.proofs.Images.Stretches.{joined-cons}
use Rattle.model.proofs.Pairs.Verdict.{pair-passed}
use Rattle.model.proofs.Texts.Legal.{stands}
use Rattle.read_rule.proofs.Searches.{search-here, search-from}
use Rattle.check_pair.specs.Checked.{Checks}
use Rattle.text_program.specs.Tables.{code_in}
use Rattle.text_program.specs.declared.Tables.{Tables}
use Rattle.text_schedule.proofs.Arranged.{ordered}
use Rattle.text_schedule.specs.declared.PairTables.{PairTables}
use Rattle.text_schedule.specs.declared.Slots.{Slots}
use Rattle.join_gather.specs.Joint.{Nothing, PartTables, JointTables, CodeWithin, JointOf}
use Rattle.join_gather.specs.Rates.{RatesOf}
use Rattle.join_gather.specs.declared.Joint.{Joint}
use Rattle.join_texts.proofs.Lent.{Kept}

-- The code of a program by its table.
codes-total : (σs : List Signal) (i : ℕ) (t : List ℕ) →
    ((x : ℕ) → x < length σs → get_or t (suc (i + x)) 0 ≡ get_or t (i + x) 0 + code_in (i + x) (get_or σs x no_signal)) →
    get_or t (i + length σs) 0 ≡ get_or t i 0 + length (joined (join_from i (λ x σ. signal_code x σ.body ∷ []) σs))
unfolding join_from
codes-total [] i t rises = let e : i + 0 ≡ i = omega arith in rw e (omega arith)
codes-total (σ ∷ σs) i t rises =
    let rest = join_from (suc i) (λ x σ. signal_code x σ.body ∷ []) σs in
    let e : i + suc (length σs) ≡ suc i + length σs = omega arith in
    let z : i + 0 ≡ i = omega arith in
    let first = rw z at (rises 0 (omega arith)) in
    let ih =
    codes-total σs (suc i) t (λ x lt.
    let g : i + suc x ≡ suc i + x = omega arith in
    rw g at (rises (suc x) (omega arith))) in
    rw e
    (omega (
      arith,
      ih,
      first,
      ap length (joined-cons (signal_code i σ.body) rest),
      length-append (signal_code i σ.body) (joined rest),
    ))

-- The part that an accepted pair is, and its tables.
abbrev pub as_part : Pair → Part
as_part q = record { program = q.program; schedule = q.schedule }

module _ (program schedule : List ℕ) (q : Pair) (e : pair_of program schedule ≡ accepted q) (t : PairTables)
    (reads : List ℕ) (c : Checks program reads t q)
  where
    pub part-tables : PartTables (as_part q) t.tables t.slots
    part-tables = record { tables-are = c.arranged.stands.tables-are; slots-are = c.arranged.slots-are }

    pub part-ordered : OrderedPart (as_part q)
    unfolding placed schedule_of
    part-ordered =
        let passed = pair-passed program schedule q e in
        let a = then-accepted (lowest (puts_faults q.program [] passed.puts.value)) _ _ passed.places in
        let b =
        then-accepted (provided (all_below (count q.program) (is_put passed.puts.value)) 12 passed.puts.next) _ _
        a.2 in
        record {
          ordered = ordered c.arranged;
          phased =
              ap (λ (s : Schedule). length s.phases) (sym (accepted-same _ _ b.2)) ∙
              table-length (count q.program) (put_phase passed.puts.value);
        }

    pub part-rates : RatesOf program t.tables (as_part q)
    part-rates = record { declares = c.arranged.stands.declares; tables-are = c.arranged.stands.tables-are }

    pub part-within : CodeWithin t.tables (length program)
    unfolding codes
    part-within =
        let l = stands program q.program c.arranged.stands.declares in
        let s = c.arranged.stands.tables-are.codes in
        let total =
        codes-total q.program.signals 0 t.tables.codes (λ x lt.
        subst (λ (n : ℕ).
        get_or t.tables.codes (suc n) 0 ≡ get_or t.tables.codes n 0 + code_in n (get_or q.program.signals x no_signal))
        (sym (zero-add x)) (s.rises x lt)) in
        let n = c.arranged.stands.tables-are.counts.signals-are in
        omega (
          arith,
          total,
          s.from_zero,
          l.1.code,
          l.2,
          ap (λ (k : ℕ). get_or t.tables.codes k 0) (zero-add (count q.program) ∙ n),
        )

    pub part_small : (t.tables.signals ≤ 64) × (t.tables.chains ≤ 16)
    part_small =
        let l = (stands program q.program c.arranged.stands.declares).1 in
        let n = c.arranged.stands.tables-are.counts in
        (omega (arith, l.few_signals, n.signals-are), omega (arith, l.few_chains, n.chains-are))

-- The first k parts are checked.
pub record Gathering (texts numbers : List ℕ) (done : List Part) (k : ℕ) (joint : Joint) : Type 0 where
  pub count-is : length done ≡ k
  pub checked : parts_from texts numbers 0 k ≡ accepted done
  pub joint-of : JointOf done (sum (table k (λ j. (texts_at numbers j).program_length))) joint
  pub onward : parts_from texts numbers 0 (parts_in numbers) ≡
      (parts_from texts numbers k (parts_in numbers - k) ▷ λ rest. accepted (done ++ rest))
  pub passed : (j : ℕ) → j < k → is_refused (part_pair texts (texts_at numbers j)) ≡ false
  pub signals : joint.signals ≤ 64 * k
  pub chains : joint.chains ≤ 16 * k

then-itself : {A : Type 0} (o : Outcome A) → o ≡ (o ▷ λ a. accepted a)
unfolding ◌▷◌
then-itself (accepted a) = refl
then-itself (refused f) = refl

none-ordered : OrderedPart no_part
unfolding rank
none-ordered =
    record {
      ordered =
          record {
            phases = λ x lt. absurd (omega arith);
            put = λ x lt. absurd (omega arith);
            once = λ j lt. absurd (omega arith);
            only = λ j lt. absurd (omega arith);
          };
      phased = refl;
    }

none-tables : (t : Joint) → Nothing t → JointTables no_part t
none-tables t n =
    record {
      places = λ x lt. absurd (omega arith);
      periods = λ x lt. absurd (omega arith);
      weights = λ x lt. absurd (omega arith);
      labels = λ x lt. absurd (omega arith);
      codes = record { from_zero = n.code; rises = λ x lt. absurd (omega arith) };
      slots =
          record {
            order_is = λ j lt. absurd (omega arith);
            phases-are = λ x lt. absurd (omega arith);
            ranks-are = λ x lt. absurd (omega arith);
            all-put = refl;
          };
    }

pub gather-start : (texts numbers : List ℕ) (t : Joint) → Nothing t → Gathering texts numbers [] 0 t
unfolding parts_from joined_parts base table table_from sum
gather-start texts numbers t n =
    record {
      count-is = refl;
      checked = refl;
      joint-of =
          record {
            space = n.space;
            counted = n.no-parts;
            bases = λ k le. let e : k ≡ 0 = omega arith in rw e n.base;
            signals = n.no-signals;
            chains = n.no-chains;
            cap = rw n.no-cap;
            ordered = none-ordered;
            tables = λ few. none-tables t n;
            short = λ few. rw n.no-signals (omega (arith, n.code));
          };
      onward = then-itself (parts_from texts numbers 0 (parts_in numbers)) ∙
          ap (λ (m : ℕ). parts_from texts numbers 0 m ▷ λ rest. accepted rest) (sym (sub-zero (parts_in numbers)));
      passed = λ j lt. absurd (omega arith);
      signals = omega (arith, n.no-signals);
      chains = omega (arith, n.no-chains);
    }

-- The first n parts from part i on are accepted, and the next one is.
parts_next : (texts numbers : List ℕ) (i n : ℕ) (done : List Part) (q : Pair) → parts_from texts numbers i n ≡ accepted done →
    part_pair texts (texts_at numbers (i + n)) ≡ accepted q → parts_from texts numbers i (suc n) ≡ accepted (done ++ (as_part q ∷ []))
unfolding parts_from
parts_next texts numbers i zero done q e p =
    let z : i + 0 ≡ i = omega arith in
    accepted-then _ _ _ (rw z at p) ∙ accepted-then (parts_from texts numbers (suc i) zero) _ _ refl ∙
    ap (λ (d : List Part). accepted (d ++ (as_part q ∷ []))) (accepted-same _ _ e)
parts_next texts numbers i (suc n) done q e p =
    let a = then-accepted (part_pair texts (texts_at numbers i)) _ done e in
    let b = then-accepted (parts_from texts numbers (suc i) n) _ done a.2 in
    let s : i + suc n ≡ suc i + n = omega arith in
    accepted-then _ _ _ a.1 ∙
    accepted-then _ _ _ (parts_next texts numbers (suc i) n b.0 q b.1 (rw s at p)) ∙
    ap (λ (d : List Part). accepted (d ++ (as_part q ∷ []))) (accepted-same _ _ b.2)

-- One part more.
module _ (texts numbers : List ℕ) (done : List Part) (k : ℕ) (t : Joint) (g : Gathering texts numbers done k t)
    (lt : k < parts_in numbers) where
  more : parts_in numbers - k ≡ suc (parts_in numbers - (k + 1))
  more = omega arith

  module _ (q : Pair) (e : part_pair texts (texts_at numbers k) ≡ accepted q) where
    pub onward-next : parts_from texts numbers 0 (parts_in numbers) ≡
        (parts_from texts numbers (k + 1) (parts_in numbers - (k + 1)) ▷ λ rest. accepted ((done ++ (as_part q ∷ [])) ++ rest))
    unfolding parts_from
    onward-next =
        g.onward ∙
        ap (λ (m : ℕ). parts_from texts numbers k m ▷ λ rest. accepted (done ++ rest)) more ∙
        ap (λ o. o ▷ λ rest. accepted (done ++ rest)) (accepted-then _ _ _ e) ∙
        then-then (parts_from texts numbers (suc k) (parts_in numbers - (k + 1))) (λ parts. accepted (as_part q ∷ parts))
        (λ rest. accepted (done ++ rest)) ∙
        ap (λ (m : ℕ).
        parts_from texts numbers m (parts_in numbers - (k + 1)) ▷ λ parts.
        accepted (as_part q ∷ parts) ▷ λ rest.
        accepted (done ++ rest))
        (omega arith) ∙
        then_same (parts_from texts numbers (k + 1) (parts_in numbers - (k + 1))) _ _ (λ rest. step rest)
      where
        step : (rest : List Part) →
            (accepted (as_part q ∷ rest) ▷ λ rest. accepted (done ++ rest)) ≡
            accepted ((done ++ (as_part q ∷ [])) ++ rest)
        step rest =
            accepted-then (accepted (as_part q ∷ rest)) _ _ refl ∙
            ap accepted (sym (append_assoc done (as_part q ∷ []) rest))

    pub gather-next : (r : Joint) →
        JointOf (done ++ (as_part q ∷ []))
        (sum (table k (λ j. (texts_at numbers j).program_length)) + (texts_at numbers k).program_length) r →
        r.signals ≤ 64 * (k + 1) → r.chains ≤ 16 * (k + 1) → Gathering texts numbers (done ++ (as_part q ∷ [])) (k + 1) r
    gather-next r j few chains =
        record {
          count-is = length-append (done) (as_part q ∷ []) ∙ ap (λ (n : ℕ). n + 1) g.count-is;
          checked =
              ap (parts_from texts numbers 0) (omega arith) ∙
              parts_next texts numbers 0 k done q g.checked
              (ap (λ (n : ℕ). part_pair texts (texts_at numbers n)) (zero-add k) ∙ e);
          joint-of =
              subst (λ (n : ℕ). JointOf (done ++ (as_part q ∷ [])) n r)
              (sym (sum-next k (λ j. (texts_at numbers j).program_length))) j;
          onward = onward-next;
          passed = λ i l. go i l (dec_lt i k);
          signals = few;
          chains = chains;
        }
      where
        go : (i : ℕ) → i < k + 1 → Dec (i < k) → is_refused (part_pair texts (texts_at numbers i)) ≡ false
        go i l (yes h) = g.passed i h
        go i l (no h) =
            let s : k ≡ i = omega arith in
            subst (λ (n : ℕ). is_refused (part_pair texts (texts_at numbers n)) ≡ false) s (ap is_refused e)

  -- A part that is refused is the one named.
  module _ (f : Fault) (e : part_pair texts (texts_at numbers k) ≡ refused f) where
    pub onward-refused : parts_from texts numbers 0 (parts_in numbers) ≡ refused f
    unfolding parts_from
    onward-refused =
        g.onward ∙
        ap (λ (m : ℕ). parts_from texts numbers k m ▷ λ rest. accepted (done ++ rest)) more ∙
        ap (λ o. o ▷ λ rest. accepted (done ++ rest)) (refused-then _ _ _ e) ∙
        refused-then (refused f) _ f refl

    pub named-refused : lent texts numbers ≡ accepted tt → part_named texts numbers ≡ Some k
    unfolding part_named first_below
    named-refused l =
        ap (λ (o : Outcome (Unit {0})).
        named_after o (first_below (parts_in numbers) (λ k. is_refused (part_pair texts (texts_at numbers k))))) l ∙
        search-from (λ k. is_refused (part_pair texts (texts_at numbers k))) (parts_in numbers) k g.passed ∙
        search-here (λ k. is_refused (part_pair texts (texts_at numbers k))) k (parts_in numbers) lt (ap is_refused e)

-- All parts.
pub onward-all : (texts numbers : List ℕ) (done : List Part) (k : ℕ) (t : Joint) (g : Gathering texts numbers done k t) →
    k ≡ parts_in numbers →
    parts_from texts numbers 0 (parts_in numbers) ≡ accepted (done)
unfolding parts_from ◌▷◌
onward-all texts numbers done k t g e =
    let z : parts_in numbers - k ≡ 0 = omega arith in
    g.onward ∙ ap (λ (m : ℕ). parts_from texts numbers k m ▷ λ rest. accepted (done ++ rest)) z ∙
    ap accepted (append-none (done))
  where
    append-none : (xs : List Part) → xs ++ [] ≡ xs
    append-none [] = refl
    append-none (x ∷ xs) = ap (λ (ys : List Part). x ∷ ys) (append-none xs)

-- How many signals and chains there are with one part more.
pub counts-next : (parts : List Part) (a : Part) (m n : ℕ) (t r : Joint) (tables : Tables) (slots : Slots) → JointOf parts m t →
    JointOf (parts ++ (a ∷ [])) n r → PartTables a tables slots →
    (r.signals ≡ t.signals + tables.signals) × (r.chains ≡ t.chains + tables.chains)
counts-next parts a m n t r tables slots old new part =
    let last = joined-last parts a in
    let c = part.tables-are.counts in (
      omega (
        arith,
        new.signals,
        old.signals,
        ap (λ (p : Part). count p.program) last,
        join-count (joined_parts parts) a,
        c.signals-are,
      ),
      omega (
        arith,
        new.chains,
        old.chains,
        ap (λ (p : Part). length p.program.chains) last,
        join-chains (joined_parts parts) a,
        c.chains-are,
      ),
    )

-- The text of a part has the length given.
pub text-length : (texts numbers : List ℕ) (k : ℕ) → Kept texts numbers → k < parts_in numbers →
    length (program_text texts (texts_at numbers k)) ≡ (texts_at numbers k).program_length
text-length texts numbers k l lt = simp (length-take, length-drop) (omega (arith, l.programs k lt))

-- The programs so far and one more are within the total.
pub within-total : (texts numbers : List ℕ) (k : ℕ) → Kept texts numbers → k < parts_in numbers →
    sum (table k (λ j. (texts_at numbers j).program_length)) + (texts_at numbers k).program_length < 65536
unfolding program_total
within-total texts numbers k l lt =
    omega (arith, l.total, sum_first k (parts_in numbers) (λ j. (texts_at numbers j).program_length) lt)
