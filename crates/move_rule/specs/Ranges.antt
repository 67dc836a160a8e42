-- What a move keeps, read by read and chain by chain, by the phases before it.
use Rattle.std.specs.Prelude.{ℕ, ◌+◌, ◌<◌, true, false, cond, List, [], ◌∷◌, ◌⊎◌, ◌≡◌, eqb, length}
use Rattle.model.specs.Rules.Latency.{reads_back, backwards, source, keeps}
use Rattle.model.specs.Rules.Load.{load, is_over}
use Rattle.model.specs.Rules.Program.{Program, Chain, Read, count, signal_at, body_reads, weight_of}
use Rattle.model.specs.Rules.Reads.{Rate, rate_of, due, before, settled}
use Rattle.model.specs.Rules.Schedule.{Schedule, phase_of}
use Rattle.model.specs.Says.Feasible.{All}
use Rattle.read_rule.specs.Reads.{met_at, at_phase}
use Rattle.text_program.specs.Tables.{chain_at}
use Rattle.check_latency.specs.Timely.{with_bound}

-- The phase and the rate of signal y where the phase of x is set to f.
abbrev pub phase_after : Schedule → ℕ → ℕ → ℕ → ℕ
phase_after s x f y = cond (eqb y x) f (phase_of s y)

abbrev pub rate_after : Program → Schedule → ℕ → ℕ → ℕ → Rate
rate_after p s x f y = record { period = (signal_at p y).period; phase = phase_after s x f y }

-- A read in the equation of r is then met at its index before.
abbrev pub ReadStays : Program → Schedule → ℕ → ℕ → ℕ → Read → Type 0
ReadStays p s x f r ρ =
    met_at ρ.kind (rate_after p s x f ρ.operands.signal) (rate_after p s x f r) (settled p s r ρ)
    (before s ρ.operands.signal r) ≡
    true

-- A chain then keeps its limit: every latency changes by as much as the last link's phase less the first one's, so that before
-- the move it kept the bound less that much.
abbrev pub StaysFrom : Program → Schedule → ℕ → ℕ → ℕ → Chain → List ℕ → Type 0
StaysFrom p s h x f c [] = Unit {0}
StaysFrom p s h x f c (r ∷ ws) =
    let a = source p s r (reads_back p r ws) in
    (b : ℕ) × (c.bound + (phase_after s x f a + phase_of s r) ≡ b + (phase_of s a + phase_after s x f r)) ×
    (keeps p s h (with_bound c b) ≡ true)

abbrev pub ChainStays : Program → Schedule → ℕ → ℕ → ℕ → Chain → Type 0
ChainStays p s h x f c = StaysFrom p s h x f c (backwards c)

-- There is room for signal x at phase f: it is the present one, or no cycle in which it is then due gets over CAP.
abbrev pub Room : Program → Schedule → ℕ → ℕ → ℕ → Type 0
Room p s h x f =
    (f ≡ phase_of s x) ⊎
    ((c : ℕ) → c < h → due (at_phase (rate_of p s x) f) c ≡ true →
    is_over p.cap (load p s c + weight_of (signal_at p x).body) ≡ false)

-- All reads and all chains stay.
abbrev pub ReadsStay : Program → Schedule → ℕ → ℕ → Type 0
ReadsStay p s x f = (r : ℕ) → r < count p → All (ReadStays p s x f r) (body_reads (signal_at p r).body)

abbrev pub ChainsStay : Program → Schedule → ℕ → ℕ → ℕ → Type 0
ChainsStay p s h x f = (j : ℕ) → j < length p.chains → ChainStays p s h x f (chain_at p j)
