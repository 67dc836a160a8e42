-- `join_gather::Joint::add_signals` meets its contract. Assumes nothing.
use Prim.Native.Nat.{ℕ, ◌+◌, ◌%◌, ◌<◌}
use mathlib.Core.Path.{◌≡◌, refl, sym, ap}
use native.Mathlib.Omega.{arith}
use Rattle.join_gather.proofs.Copies.{copy-none, copy-next}
use Rattle.join_gather.proofs.Joint.add_signals.Goals as goal
use Rattle.join_gather.proofs.Joint.add_signals.Goals.{In-loop-x}

pub loop-x-init : goal.loop-x-init
loop-x-init c = (
  c.requires.0,
  record {
    places = copy-none _ _ _;
    periods = copy-none _ _ _;
    weights = copy-none _ _ _;
    labels = copy-none _ _ _;
    codes = copy-none _ _ _;
    order = copy-none _ _ _;
    phases = copy-none _ _ _;
    ranks = copy-none _ _ _;
    bases = refl;
  },
)

-- one signal more
module _ (t : In-loop-x) where
  abbrev first : ℕ
  first = t.args.self.now.signals

  room : first + t.loop-x.x < 64
  room = omega (arith, t.requires.1, t.loop-x-test.true)

pub loop-x-preserved : goal.loop-x-preserved
loop-x-preserved c =
    let t = (goal.at.loop-x-preserved c).In-loop-x in
    let l = t.loop-x in
    let a = l.invariant.1 in
    let sp = l.invariant.0 in
    let rm = room t in
    let e : first t + l.x + 1 ≡ first t + 1 + l.x = omega arith in (
      sp,
      record {
        places = copy-next _ _ l.x _ _ _ a.places (omega (arith, rm, sp.places)) refl;
        periods = copy-next _ _ l.x _ _ _ a.periods (omega (arith, rm, sp.periods)) refl;
        weights = copy-next _ _ l.x _ _ _ a.weights (omega (arith, rm, sp.weights)) refl;
        labels = copy-next _ _ l.x _ _ _ a.labels (omega (arith, rm, sp.labels)) refl;
        codes =
            rw e
            (copy-next _ _ l.x _ _ _ a.codes (omega (arith, rm, sp.codes))
            (ap (λ (n : ℕ). n % 65536) (omega (arith, c.from_entry.ensures.0))));
        order =
            copy-next _ _ l.x _ _ _ a.order (omega (arith, rm, sp.order))
            (ap (λ (n : ℕ). n % 256) (omega (arith, c.from_byte.ensures.0)));
        phases = copy-next _ _ l.x _ _ _ a.phases (omega (arith, rm, sp.phases)) refl;
        ranks =
            copy-next _ _ l.x _ _ _ a.ranks (omega (arith, rm, sp.ranks))
            (ap (λ (n : ℕ). n % 256) (omega (arith, c.from_byte-in-loop-x.ensures.0)));
        bases = a.bases;
      },
    )

pub returns : goal.returns
returns c =
    let l = c.loop-x in
    let e : l.x ≡ c.args.pair.now.tables.signals = omega (arith, l.auto.x-end, c.loop-x-test.false) in
    rw (sym c.from_entry-code.ensures.0, sym e) l.invariant.1
