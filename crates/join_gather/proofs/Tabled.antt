-- The tables of joined parts with one part more. Assumes nothing.
use Rattle.std.specs.Prelude.{Option}
use Prim.Native.Nat.{ℕ, zero, suc, ◌+◌, ◌-◌, ◌%◌, ◌≤◌, ◌<◌}
use mathlib.Core.List.{List, [], ◌∷◌, ◌++◌}
use mathlib.Core.Path.{◌≡◌, sym, ap, ap₂, subst, ◌∙◌}
use native.Mathlib.Decide.{dec_lt}
use native.Mathlib.Nat.{mod-eq_of_lt}
use native.Mathlib.Omega.{arith}
use lib.ListN.{length, get_or, set, length-append, length-set}
use lib.Seq.{get_or-set_same, get_or-set_other}
use Rattle.model.specs.Rules.Parts.{Part, smaller, ◌⊕◌, joined_parts, base}
use Rattle.model.specs.Rules.Program.{Signal, count, signal_at, weight_of}
use Rattle.model.specs.Rules.Reads.{rank}
use Rattle.model.specs.Rules.Schedule.{phase_of}
use Rattle.text_program.specs.Tables.{cap_of, Sums, code_in}
use Rattle.text_schedule.specs.declared.PairTables.{PairTables}
use Rattle.text_program.specs.declared.Tables.{Tables}
use Rattle.text_schedule.specs.declared.Slots.{Slots}
use Rattle.model.proofs.Joining.Numbers.{base-all, base_kept}
use Rattle.model.proofs.Joining.Renumbered.{weight-kept, code-length}
use Rattle.model.proofs.Joining.Parts.{
  join-count,
  first-signal,
  second-signal,
  first-phase,
  second-phase,
  first-rank,
  second-rank,
  join-order,
  first-put,
  second-put,
  by-signals,
  by-puts,
  join-ordered,
  join-chains,
  joined-last,
}
use Rattle.model.specs.Says.Feasible.{OrderedPart}
use Rattle.join_gather.specs.Joint.{
  JointSpace,
  Copied,
  AddsSignals,
  WithSignals,
  PartTables,
  JointTables,
  CodeWithin,
  JointOf,
}
use Rattle.join_gather.specs.declared.Joint.{Joint}

module _ (q a : Part) (ok : OrderedPart q) (ok' : OrderedPart a) (t r : Joint) (tables : Tables) (slots : Slots)
    (old : JointTables q t) (part : PartTables a tables slots) (same : t.signals ≡ count q.program)
    (all : tables.signals ≡ count a.program) (few : count q.program + count a.program ≤ 64)
    (fits : get_or t.codes t.signals 0 + get_or tables.codes (count a.program) 0 < 65536)
    (added : AddsSignals t tables slots r) where
  n : ℕ
  n = count q.program

  -- A table that was copied on.
  kept : {f : ℕ → ℕ} {l l' : List ℕ} → Copied f t.signals tables.signals l l' → (x : ℕ) → x < count q.program →
      get_or l' x 0 ≡ get_or l x 0
  kept c x lt = c.kept x (omega (arith, same))

  copied : {f : ℕ → ℕ} {l l' : List ℕ} → Copied f t.signals tables.signals l l' → (y : ℕ) → y < count a.program →
      get_or l' (count q.program + y) 0 ≡ f y
  copied {f} {l} {l'} c y lt = ap (λ (m : ℕ). get_or l' (m + y) 0) (sym same) ∙ c.copied y (omega (arith, all))

  -- By signals: what f has of the first part's, and what it has of the second's.
  by_copy : {f : ℕ → ℕ} {l l' : List ℕ} → Copied f t.signals tables.signals l l' → (g : ℕ → ℕ) →
      ((x : ℕ) → x < count q.program → get_or l x 0 ≡ g x) →
      ((y : ℕ) → y < count a.program → f y ≡ g (count q.program + y)) → (x : ℕ) → x < count (q ⊕ a).program →
      get_or l' x 0 ≡ g x
  by_copy {l' = l'} c g one two =
      by-signals q a (λ x. get_or l' x 0 ≡ g x) (λ x lt. kept c x lt ∙ one x lt) (λ y lt. copied c y lt ∙ two y lt)

  -- Where codes end.
  rising : (y k : ℕ) → y + k ≤ count a.program → get_or tables.codes y 0 ≤ get_or tables.codes (y + k) 0
  rising y zero le = let e : y + 0 ≡ y = omega arith in rw e (omega arith)
  rising y (suc k) le =
      let e : y + suc k ≡ suc (y + k) = omega arith in
      rw e (omega (arith, rising y k (omega arith), part.tables-are.codes.rises (y + k) (omega arith)))

  pub code_at : (y : ℕ) → y ≤ count a.program →
      get_or r.codes (count q.program + y) 0 ≡ get_or t.codes t.signals 0 + get_or tables.codes y 0
  code_at zero le =
      let e : count q.program + 0 ≡ t.signals = omega (arith, same) in
      rw e (added.codes.kept t.signals (omega arith) ∙ omega (arith, part.tables-are.codes.from_zero))
  code_at (suc y) le =
      let e : count q.program + suc y ≡ t.signals + 1 + y = omega (arith, same) in
      let g : y + 1 ≡ suc y = omega arith in
      let up : get_or tables.codes (suc y) 0 ≤ get_or tables.codes (count a.program) 0 =
      below (suc y) le in
      rw e
      (added.codes.copied y (omega (arith, all)) ∙
      ap (λ (m : ℕ). (get_or t.codes t.signals 0 + get_or tables.codes m 0) % 65536) g ∙
      mod-eq_of_lt (omega (arith, fits, up)))
    where
      below : (z : ℕ) → z ≤ count a.program → get_or tables.codes z 0 ≤ get_or tables.codes (count a.program) 0
      below z l =
          let e : z + (count a.program - z) ≡ count a.program = omega arith in
          subst (λ (m : ℕ). get_or tables.codes z 0 ≤ get_or tables.codes m 0) e
          (rising z (count a.program - z) (omega arith))

  code-kept : (x : ℕ) → x ≤ count q.program → get_or r.codes x 0 ≡ get_or t.codes x 0
  code-kept x le = added.codes.kept x (omega (arith, same))

  codes-join : Sums code_in (q ⊕ a).program r.codes
  codes-join =
      record {
        from_zero = code-kept 0 (omega arith) ∙ old.codes.from_zero;
        rises =
            by-signals q a
            (λ x. get_or r.codes (suc x) 0 ≡ get_or r.codes x 0 + code_in x (signal_at (q ⊕ a).program x))
            (λ x lt.
            code-kept (suc x) (omega arith) ∙ old.codes.rises x lt ∙
            ap₂ ◌+◌ (sym (code-kept x (omega arith))) (sym (ap (code_in x) (first-signal q a x lt))))
            (λ y lt.
            let e : suc (count q.program + y) ≡ count q.program + suc y = omega arith in
            let s = second-signal q a y in
            let len : code_in (count q.program + y) (signal_at (q ⊕ a).program (count q.program + y)) ≡
            code_in y (signal_at a.program y) =
            ap (code_in (count q.program + y)) s ∙
            code-length (λ x. count q.program + x) (count q.program + y) y (signal_at a.program y).body in
            rw e
            (omega (
              arith,
              code_at (suc y) (omega arith),
              code_at y (omega arith),
              part.tables-are.codes.rises y lt,
              len,
            )));
      }

  pub tables-join : JointTables (q ⊕ a) r
  tables-join =
      record {
        places =
            by_copy added.places (λ x. (signal_at (q ⊕ a).program x).place)
            (λ x lt. old.places x lt ∙ sym (ap (λ (σ : Signal). σ.place) (first-signal q a x lt)))
            (λ y lt. part.tables-are.places y lt ∙ sym (ap (λ (σ : Signal). σ.place) (second-signal q a y)));
        periods =
            by_copy added.periods (λ x. (signal_at (q ⊕ a).program x).period)
            (λ x lt. old.periods x lt ∙ sym (ap (λ (σ : Signal). σ.period) (first-signal q a x lt)))
            (λ y lt. part.tables-are.periods y lt ∙ sym (ap (λ (σ : Signal). σ.period) (second-signal q a y)));
        weights =
            by_copy added.weights (λ x. weight_of (signal_at (q ⊕ a).program x).body)
            (λ x lt. old.weights x lt ∙ sym (ap (λ (σ : Signal). weight_of σ.body) (first-signal q a x lt)))
            (λ y lt.
            part.tables-are.weights y lt ∙ sym (weight-kept (λ x. count q.program + x) (signal_at a.program y).body) ∙
            sym (ap (λ (σ : Signal). weight_of σ.body) (second-signal q a y)));
        labels =
            by_copy added.labels (λ x. (signal_at (q ⊕ a).program x).label)
            (λ x lt. old.labels x lt ∙ sym (ap (λ (σ : Signal). σ.label) (first-signal q a x lt)))
            (λ y lt. part.tables-are.labels y lt ∙ sym (ap (λ (σ : Signal). σ.label) (second-signal q a y)));
        codes = codes-join;
        slots =
            record {
              order_is =
                  by-puts q a (λ j. get_or r.order j 0 ≡ get_or (q ⊕ a).schedule.order j 0)
                  (λ j lt.
                  kept added.order j (omega (arith, old.slots.all-put)) ∙ old.slots.order_is j lt ∙
                  sym (first-put q a j lt))
                  (λ j lt.
                  let e : length q.schedule.order + j ≡ count q.program + j = omega (arith, old.slots.all-put) in
                  let o = part.slots-are.order_is j lt in
                  let small = ok'.ordered.only j lt in
                  ap (λ (m : ℕ). get_or r.order m 0) e ∙
                  copied added.order j (omega (arith, part.slots-are.all-put)) ∙
                  mod-eq_of_lt (omega (arith, o, small, same, few)) ∙
                  omega (arith, o, same) ∙
                  sym (second-put q a j lt));
              phases-are =
                  by_copy added.phases (λ x. phase_of (q ⊕ a).schedule x)
                  (λ x lt. old.slots.phases-are x lt ∙ sym (first-phase q a ok ok' x lt))
                  (λ y lt. part.slots-are.phases-are y lt ∙ sym (second-phase q a ok ok' y));
              ranks-are =
                  by_copy added.ranks (λ x. rank (q ⊕ a).schedule.order x)
                  (λ x lt. old.slots.ranks-are x lt ∙ sym (first-rank q a ok ok' x lt))
                  (λ y lt.
                  let o = part.slots-are.ranks-are y lt in
                  let small = ok'.ordered.put y lt in
                  mod-eq_of_lt (omega (arith, o, small, same, few, part.slots-are.all-put)) ∙
                  omega (arith, o, same, old.slots.all-put, second-rank q a ok ok' y));
              all-put = omega (arith, join-order q a, join-count q a, old.slots.all-put, part.slots-are.all-put);
            };
      }

-- The tables have space as before.
pub space-kept : (t r : Joint) (tables : Tables) (slots : Slots) → JointSpace t → AddsSignals t tables slots r → JointSpace r
space-kept t r tables slots s a =
    record {
      bases = ap length a.bases ∙ s.bases;
      places = a.places.long ∙ s.places;
      periods = a.periods.long ∙ s.periods;
      weights = a.weights.long ∙ s.weights;
      labels = a.labels.long ∙ s.labels;
      codes = a.codes.long ∙ s.codes;
      order = a.order.long ∙ s.order;
      phases = a.phases.long ∙ s.phases;
      ranks = a.ranks.long ∙ s.ranks;
    }

-- One part more.
module _ (parts : List Part) (a : Part) (size more : ℕ) (t w : Joint) (pair : PairTables) (old : JointOf parts size t)
    (part : PartTables a pair.tables pair.slots) (ordered : OrderedPart a) (within : CodeWithin pair.tables more)
    (fits : size + more < 65536) (with_part : WithSignals t pair.tables pair.slots w) (room : t.parts < 8) (least : Option ℕ)
    (smallest : cap_of least ≡ smaller (cap_of t.cap) (cap_of pair.tables.cap)) where
  abbrev q : Part
  q = joined_parts parts

  abbrev next : Joint
  next =
      record {
        parts = t.parts + 1;
        bases = set w.bases (t.parts + 1) (t.signals + pair.tables.signals);
        signals = t.signals + pair.tables.signals;
        chains = t.chains + pair.tables.chains;
        cap = least;
        places = w.places;
        periods = w.periods;
        weights = w.weights;
        labels = w.labels;
        codes = w.codes;
        order = w.order;
        phases = w.phases;
        ranks = w.ranks;
      }

  all : pair.tables.signals ≡ count a.program
  all = sym part.tables-are.counts.signals-are

  last : joined_parts (parts ++ (a ∷ [])) ≡ q ⊕ a
  last = joined-last parts a

  joined-tables : t.signals + pair.tables.signals ≤ 64 → JointTables (q ⊕ a) next
  joined-tables few =
      let h =
      tables-join q a old.ordered ordered t w pair.tables pair.slots (old.tables (omega arith)) part old.signals all
      (omega (arith, old.signals, all))
      (omega (
        arith,
        old.short (omega arith),
        within,
        all,
        ap (λ (n : ℕ). get_or pair.tables.codes n 0) all,
      )) (with_part.added few) in
      record {
        places = h.places;
        periods = h.periods;
        weights = h.weights;
        labels = h.labels;
        codes = h.codes;
        slots = h.slots;
      }

  code-end : t.signals + pair.tables.signals ≤ 64 → get_or w.codes (t.signals + pair.tables.signals) 0 ≤ size + more
  code-end few =
      let e =
      code_at q a old.ordered ordered t w pair.tables pair.slots (old.tables (omega arith)) part old.signals all
      (omega (arith, old.signals, all))
      (omega (
        arith,
        old.short (omega arith),
        within,
        all,
        ap (λ (n : ℕ). get_or pair.tables.codes n 0) all,
      )) (with_part.added few) (count a.program) (omega arith) in
      let g : t.signals + pair.tables.signals ≡ count q.program + count a.program = omega (arith, old.signals, all) in
      rw g
      (omega (arith, e, old.short (omega arith), within, ap (λ (n : ℕ). get_or pair.tables.codes n 0) all))

  bases-next : (k : ℕ) → k ≤ length (parts ++ (a ∷ [])) → get_or next.bases k 0 ≡ base (parts ++ (a ∷ [])) k
  bases-next k le = go (dec_lt k (t.parts + 1))
    where
      size_is : length (parts ++ (a ∷ [])) ≡ length parts + 1
      size_is = length-append parts (a ∷ [])

      go : Dec (k < t.parts + 1) → get_or next.bases k 0 ≡ base (parts ++ (a ∷ [])) k
      go (yes lt) =
          get_or-set_other w.bases (t.parts + 1) k _ 0 (λ e. omega (arith, e)) ∙
          ap (λ (l : List ℕ). get_or l k 0) with_part.bases ∙ old.bases k (omega (arith, old.counted)) ∙
          sym (base_kept parts a k (omega (arith, old.counted)))
      go (no ge) =
          let e : k ≡ t.parts + 1 = omega (arith, old.counted, size_is) in
          let g : k ≡ length (parts ++ (a ∷ [])) = omega (arith, e, old.counted, size_is) in
          rw e
          (get_or-set_same w.bases (t.parts + 1) _ 0 (omega (arith, with_part.space.bases)) ∙
          omega (arith, old.signals, all) ∙
          sym (join-count q a) ∙
          sym (ap (λ (p : Part). count p.program) last) ∙
          sym (base-all (parts ++ (a ∷ []))) ∙ ap (base (parts ++ (a ∷ []))) (sym g ∙ e))

  pub joint-next : JointOf (parts ++ (a ∷ [])) (size + more) next
  unfolding ◌⊕◌
  joint-next =
      record {
        space =
            record {
              bases = length-set w.bases (t.parts + 1) _ ∙ with_part.space.bases;
              places = with_part.space.places;
              periods = with_part.space.periods;
              weights = with_part.space.weights;
              labels = with_part.space.labels;
              codes = with_part.space.codes;
              order = with_part.space.order;
              phases = with_part.space.phases;
              ranks = with_part.space.ranks;
            };
        counted = omega (arith, old.counted, length-append parts (a ∷ []));
        bases = bases-next;
        signals =
            omega (
              arith,
              old.signals,
              all,
              join-count q a,
              ap (λ (p : Part). count p.program) last,
            );
        chains =
            omega (
              arith,
              old.chains,
              part.tables-are.counts.chains-are,
              join-chains q a,
              ap (λ (p : Part). length p.program.chains) last,
            );
        cap =
            ap (λ (p : Part). p.program.cap) last ∙
            ap₂ smaller old.cap part.tables-are.cap ∙ sym smallest;
        ordered = subst OrderedPart (sym last) (join-ordered q a old.ordered ordered);
        tables = λ few. subst (λ (p : Part). JointTables p next) (sym last) (joined-tables few);
        short = code-end;
      }
