-- The tables of the joined parts are those of the joined pair: links change no rate and no weight. Assumes nothing.
use Prim.Native.Nat.{ℕ, ◌+◌, ◌*◌, ◌≤◌, ◌<◌}
use mathlib.Core.Bool.{true, ◌&&◌, and-eq-true_iff}
use mathlib.Core.List.{List, map}
use mathlib.Core.Path.{◌≡◌, refl, sym, ap, subst, ◌∙◌}
use native.Mathlib.Omega.{arith}
use borrow.Author.Tests.{ltb-true, leb-true}
use lib.Dec.{leb, ltb}
use lib.ListN.{length, get_or}
use Rattle.model.specs.Rules.Join.{link_at, links_in, links_of, is_named, is_right}
use Rattle.model.specs.Rules.Parts.{Part, joined_parts, base, part_at, PartLink, Wire, wire_of, wired_signal, wired_with, joined_pair}
use Rattle.model.specs.Rules.Program.{Signal, count, signal_at, weight_of, is_input}
use Rattle.model.specs.Rules.Schedule.{phase_of}
use Rattle.model.specs.Says.Feasible.{All, Ordered}
use Rattle.model.proofs.Basics.All.{at_all, all_of_map}
use Rattle.model.proofs.Basics.Outcomes.{table-length, table_at}
use Rattle.model.proofs.Joining.Lent.{link-back}
use Rattle.model.proofs.Joining.Numbers.{number-signal, wired-count as wired-count-is, wired-signal, wired-weight}
use Rattle.model.proofs.Joining.Renumbered.{input-kept}
use Rattle.text_program.specs.Tables.{cap_of, PeriodsOf, WeightsOf, LabelsOf, SlotsOf}
use Rattle.check_load.specs.Load.{PhasesOf}
use Rattle.join_links.specs.ByPart.{signal_in}
use Rattle.join_links.proofs.Right.{pieces, right_is, right-at, link_from}
use Rattle.join_gather.specs.declared.Joint.{Joint}
use Rattle.join_check.specs.Met.{Linking}
use Rattle.join_whole.specs.Whole.{Joining}

number-input : (parts : List Part) (k x : ℕ) → k < length parts → x < count (part_at parts k).program →
    is_input (signal_at (joined_parts parts).program (base parts k + x)).body ≡ is_input (signal_in parts k x).body
number-input parts k x lk lx =
    ap (λ (σ : Signal). is_input σ.body) (number-signal parts k x lk lx) ∙
    input-kept (λ y. base parts k + y) (signal_in parts k x).body

module _ {parts : List Part} {size : ℕ} {links : List ℕ} {t : Joint} (j : Joining parts size links t) where
  abbrev q : Part
  q = joined_pair parts (links_of links)

  abbrev wires : List Wire
  wires = map (wire_of parts) (links_of links)

  pub wired-count : count q.program ≡ t.signals
  unfolding joined_pair
  wired-count = wired-count-is wires (joined_parts parts).program ∙ sym j.joint-of.signals

  pub wired-chains : length q.program.chains ≡ t.chains
  unfolding joined_pair wired_with
  wired-chains = sym j.joint-of.chains

  pub wired-cap : q.program.cap ≡ cap_of t.cap
  unfolding joined_pair wired_with
  wired-cap = j.joint-of.cap

  wired-at : (x : ℕ) → x < count (joined_parts parts).program →
      signal_at q.program x ≡ wired_signal wires x (signal_at (joined_parts parts).program x)
  unfolding joined_pair
  wired-at x lt = wired-signal wires (joined_parts parts).program x lt

  below : {x : ℕ} → x < count q.program → x < count (joined_parts parts).program
  below lt = omega (arith, wired-count, j.joint-of.signals)

  -- The IN of link i is an input.
  linked-input : (i : ℕ) → i < links_in links → 4 * i < length links →
      is_input (signal_at (joined_parts parts).program (wire_of parts (link_at links i)).input).body ≡ true
  unfolding is_right
  linked-input i li lt =
      let r = j.right i lt in
      let e = right-at parts links i (4 * i) refl in
      let p = pieces parts links i (link_from links i (4 * i)) (sym e ∙ r) in
      let w = (and-eq-true_iff (leb (4 * i + 4) (length links) && is_named parts (link_at links i)) _).0 r in
      let whole = leb-true _ _ ((and-eq-true_iff (leb (4 * i + 4) (length links)) (is_named parts (link_at links i))).0 w.0).0 in
      let b = sym (right_is parts links i (link_from links i (4 * i)) whole p) ∙ sym e ∙ r in
      let d =
      (and-eq-true_iff (ltb (link_at links i).input_part (length parts))
      (ltb (link_at links i).input (count (part_at parts (link_at links i).input_part).program))).0 p.reader in
      number-input parts (link_at links i).input_part (link_at links i).input (ltb-true _ _ d.0) (ltb-true _ _ d.1) ∙
      ((and-eq-true_iff (is_input (signal_in parts (link_at links i).input_part (link_at links i).input).body) _).0 b).0

  -- Each linked signal is an input.
  pub linked-inputs : (x : ℕ) →
      All (λ (l : Wire). l.input ≡ x → is_input (signal_at (joined_parts parts).program x).body ≡ true) wires
  linked-inputs x =
      all_of_map LinkedTo (wire_of parts) (links_of links)
      (at_all (λ (m : PartLink). LinkedTo (wire_of parts m)) (links_of links) (link_at links 0) (λ i li.
      let n : i < links_in links = omega (arith, table-length (links_in links) (link_at links)) in
      subst (λ (m : PartLink). LinkedTo (wire_of parts m)) (sym (table_at (links_in links) (link_at links) i (link_at links 0) n))
      (λ e. subst IsIn e (linked-input i n (link-back links i n)))))
    where
      IsIn : ℕ → Type 0
      IsIn y = is_input (signal_at (joined_parts parts).program y).body ≡ true

      LinkedTo : Wire → Type 0
      LinkedTo w = w.input ≡ x → IsIn x

  module _ (small : t.signals ≤ 64) where
    pub linking : Linking parts links t.bases t.periods t.phases t.ranks
    linking =
        let h = j.joint-of.tables small in
        record {
          right = j.right;
          few = j.few;
          small = omega (arith, j.joint-of.signals);
          bases-are = j.joint-of.bases;
          periods-are = h.periods;
          phases-are = h.slots.phases-are;
          ranks-are = h.slots.ranks-are;
          ordered = j.joint-of.ordered.ordered;
        }

    pub wired-periods : PeriodsOf q.program t.periods
    wired-periods x lt =
        (j.joint-of.tables small).periods x (below lt) ∙ sym (ap (λ (σ : Signal). σ.period) (wired-at x (below lt)))

    pub wired-labels : LabelsOf q.program t.labels
    wired-labels x lt =
        (j.joint-of.tables small).labels x (below lt) ∙ sym (ap (λ (σ : Signal). σ.label) (wired-at x (below lt)))

    pub wired-slots : SlotsOf q.program q.schedule t.order t.phases t.ranks
    unfolding joined_pair
    wired-slots =
        let h = (j.joint-of.tables small).slots in
        record {
          order_is = h.order_is;
          phases-are = λ x lt. h.phases-are x (below lt);
          ranks-are = λ x lt. h.ranks-are x (below lt);
          all-put = h.all-put ∙ sym j.joint-of.signals ∙ sym wired-count;
        }

    pub wired-ordered : Ordered q.program q.schedule
    unfolding joined_pair
    wired-ordered =
        let h = j.joint-of.ordered.ordered in
        record {
          phases = λ x lt.
              subst (λ (σ : Signal). phase_of (joined_parts parts).schedule x < σ.period) (sym (wired-at x (below lt)))
              (h.phases x (below lt));
          put = λ x lt. h.put x (below lt);
          once = h.once;
          only = λ i lt. omega (arith, h.only i lt, wired-count, j.joint-of.signals);
        }

    pub wired-phases : PhasesOf q.program q.schedule t.phases
    wired-phases = wired-slots.phases-are

    pub wired-weights : WeightsOf q.program t.weights
    wired-weights x lt =
        let l = below lt in
        (j.joint-of.tables small).weights x l ∙
        sym (ap (λ (σ : Signal). weight_of σ.body) (wired-at x l) ∙
        wired-weight wires x (signal_at (joined_parts parts).program x).body (linked-inputs x))

    pub phases-below : (x : ℕ) → x < t.signals → get_or t.phases x 0 < get_or t.periods x 0
    phases-below x lt =
        let l : x < count (joined_parts parts).program = omega (arith, j.joint-of.signals) in
        let h = j.joint-of.tables small in
        omega (arith, h.periods x l, h.slots.phases-are x l, j.joint-of.ordered.ordered.phases x l)
