-- `join_check::link_met` meets its contract. Assumes nothing.
use Prim.Native.Nat.{ℕ, ◌<◌}
use mathlib.Core.Path.{◌≡◌, sym, ap, ap₂, ◌∙◌}
use native.Mathlib.Nat.{add_assoc}
use native.Mathlib.Omega.{arith}
use lib.Dec.{ltb}
use lib.ListN.{get_or}
use Rattle.model.specs.declared.Index.TheVariants.{Fixed}
use Rattle.model.specs.declared.Kind.TheVariants.{Now}
use Rattle.read_rule.specs.Reads.{met_by}
use Rattle.text_program.specs.Tables.{rate_at}
use Rattle.join_check.specs.Met.{source_at}
use Rattle.join_check.proofs.link_met.Goals as goal
use Rattle.join_check.proofs.link_met.Goals.{After-number_of-w, Start}

pub number_of-w-requires : goal.number_of-w-requires
number_of-w-requires c =
    let s = c in
    (omega (arith, s.requires.whole), s.requires.other, rw (add_assoc s.args.at 2 1) s.requires.source)

-- the joined number of the signal
module _ (k : After-number_of-w) where
  abbrev start : Start
  start = (goal.at.After-number_of-w k).Start

  source : k.number_of-w.result ≡ source_at start.args.links.now start.args.at start.args.joint.now.bases
  source = rw (add_assoc start.args.at 2 1) at k.number_of-w.ensures

  source-below : k.number_of-w.result < 64
  source-below = omega (arith, source, start.requires.source)

pub returns : goal.returns
returns c =
    let k = (goal.at.returns c).After-number_of-w in
    let s = c in
    let periods = s.args.joint.now.periods in
    let phases = s.args.joint.now.phases in
    let ranks = s.args.joint.now.ranks in
    let r = k.number_of-r.ensures in
    let w = source k in
    λ q.
    c.is_met.ensures
    (record {
      rule =
          ap (λ (n : ℕ). get_or periods n 0) r ∙ q.same ∙ sym (ap (λ (n : ℕ). get_or periods n 0) w);
      positive = omega arith;
      read_below = omega (arith, ap (λ (n : ℕ). get_or periods n 0) w, ap (λ (n : ℕ). get_or phases n 0) w, q.source);
      reader-below = omega (arith, ap (λ (n : ℕ). get_or periods n 0) r, ap (λ (n : ℕ). get_or phases n 0) r, q.reader);
    }) ∙
    ap₂ (λ (m n : ℕ).
    met_by Now (record { signal = 0; factor = 1; index = Fixed 0 }) (rate_at periods phases n) (rate_at periods phases m)
    (ltb (get_or ranks n 0) (get_or ranks m 0))) r w

pub bounds-joint-w : goal.bounds-joint-w
bounds-joint-w c = source-below (goal.at.bounds-joint-w c).After-number_of-w
