-- `move_rule::narrow_by_read` meets its contract. Assumes nothing.
use Prim.Native.Nat.{ℕ, ◌<◌}
use mathlib.Core.Bool.{Bool, true, false}
use mathlib.Core.Path.{◌≡◌, sym, ap, transport, ◌∙◌}
use native.Mathlib.Omega.{arith}
use lib.Dec.{ltb}
use lib.ListN.{get_or}
use borrow.Author.Rules.{rules}
use Rattle.model.specs.Rules.Program.{Program, Read, count}
use Rattle.model.specs.Rules.Reads.{Rate, rate_of, before, settled_index, settled}
use Rattle.model.specs.Rules.Schedule.{Schedule}
use Rattle.model.specs.Says.Feasible.{Met}
use Rattle.read_rule.specs.Reads.{MetIn}
use Rattle.read_rule.specs.declared.Phases.{Phases}
use Rattle.text_program.specs.Tables.{rate_at}
use Rattle.text_program.proofs.ByIndex.{rate-is}
use Rattle.move_rule.specs.Narrowing.{MetTables}
use Rattle.move_rule.proofs.Narrowings.{
  unnarrowed,
  narrowed-both,
  narrowed_at,
  self-stays,
  other-stays,
  before-is,
}
use Rattle.move_rule.proofs.narrow_by_read.Goals as goal
use Rattle.move_rule.proofs.narrow_by_read.Goals.{After-from_byte-index, Start}

pub returns-then-read-reader : goal.returns-then-read-reader
returns-then-read-reader c =
    let a = c in
    λ p s ρ t lr k o m.
    unnarrowed a.requires.2 (λ x f lt below.
    self-stays p s a.args.reader ρ m (ap (λ y. y.signal) (sym o) ∙ sym c.from_byte-read.ensures.0 ∙ c.if-read-reader.true)
    (t.feasible.ordered.phases a.args.reader lr) x f below)

-- The read, by what the tables say of it.
module _ (c : After-from_byte-index) (p : Program) (s : Schedule) (ρ : Read) where
  abbrev start : Start
  start = (goal.at.After-from_byte-index c).Start

  abbrev reader : ℕ
  reader = start.args.reader

  abbrev read : ℕ
  read = c.from_byte-read.result

  abbrev rate : ℕ → Rate
  rate x = rate_at start.args.periods.now start.args.phases.now x

  abbrev first : Bool
  first = ltb (get_or start.args.ranks.now read 0) (get_or start.args.ranks.now reader 0)

  module _ (t : MetTables start.args.periods.now start.args.phases.now start.args.ranks.now p s)
      (lr : reader < count p) (k : start.args.kind ≡ ρ.kind) (o : start.args.operands ≡ ρ.operands) (m : Met p s reader ρ)
    where
      abbrev w : ℕ
      w = ρ.operands.signal

      signal-is : read ≡ w
      signal-is = c.from_byte-read.ensures.0 ∙ ap (λ y.
          y.signal) o

      read-rate : rate read ≡ rate_of p s w
      read-rate = ap rate signal-is ∙ rate-is start.args.periods.now t.periods-are t.slots-are w m.declared

      reader-rate : rate reader ≡ rate_of p s reader
      reader-rate = rate-is start.args.periods.now t.periods-are t.slots-are reader lr

      index_is : c.from_byte-index.result ≡ settled p s reader ρ
      unfolding settled
      index_is =
          c.from_byte-index.ensures.0 ∙ c.settled_index.ensures ∙
          (λ j. settled_index (k j) (read-rate j) (reader-rate j) (o j).factor (o j).index)

      before_here : first ≡ before s w reader
      before_here =
          ap (λ y. ltb (get_or start.args.ranks.now y 0) (get_or start.args.ranks.now reader 0)) signal-is ∙
          before-is t w reader m.declared lr

      met-in : (b : Bool) (q : Phases) → MetIn b start.args.kind (rate read) (rate reader) c.from_byte-index.result first q →
          MetIn b ρ.kind (rate_of p s w) (rate_of p s reader) (settled p s reader ρ) (before s w reader) q
      met-in b q h = transport (λ j. MetIn b (k j) (read-rate j) (reader-rate j) (index_is j) (before_here j) q) h

pub returns : goal.returns
returns c =
    let n = c in
    let e = (goal.at.returns c).After-from_byte-index in
    λ p s ρ t lr k o m.
    let a = c in
    let same = signal-is e p s ρ t lr k o m in
    narrowed-both (narrowed_at n.narrow.ensures) (narrowed_at c.narrow-2.ensures)
    (λ x f lt below.
    let stays = other-stays p s a.args.reader ρ m (t.feasible.ordered.phases _ m.declared)
    (t.feasible.ordered.phases _ lr) _ _ (met-in e p s ρ t lr k o m false _ n.phases_met-of_read.ensures)
    (met-in e p s ρ t lr k o m true _ c.phases_met-of_reader.ensures)
    (λ z. e.if-read-reader.false (same ∙ z)) x f below
    (omega (arith, t.short x lt)) in
    (λ h. stays.0 (λ z. h.0 (z ∙ sym same), h.1), λ h. let g = stays.1 h in (λ z. g.0 (z ∙ same), g.1)))
