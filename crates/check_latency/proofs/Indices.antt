-- Indices and rates by the tables. Assumes nothing.
use Rattle.std.specs.Prelude.{Option, Some, None}
use Prim.Native.Nat.{ℕ, ◌≤◌, ◌<◌}
use mathlib.Core.Path.{◌≡◌, refl}
use native.Mathlib.Omega.{arith}
use borrow.Author.Tests.{lt-ltb}
use mathlib.Core.List.{List, [], ◌∷◌}
use Rattle.model.specs.Says.Feasible.{All}
use Rattle.model.specs.Rules.Latency.{read_among}
use Rattle.model.specs.Rules.Rates.{count_reads}
use Rattle.model.proofs.Pairs.Links.{read_of}
use Rattle.model.specs.Rules.Program.{Program, Read, count}
use Rattle.model.specs.Rules.Reads.{Rate, rate_of, line, settle}
use Rattle.model.specs.Rules.Schedule.{Schedule}
use Rattle.model.specs.Rules.Search.{first_below}
use Rattle.model.specs.declared.Kind.{Kind}
use Rattle.model.proofs.Pairs.Decide.{is-first}
use Rattle.model.proofs.Texts.Legal.{stands}
use Rattle.check_rates.specs.Rates.{period_at}
use Rattle.text_program.specs.declared.Tables.{Tables}
use Rattle.check_latency.specs.Timely.{ByteFound, Known}

-- A settled index is below its factor.
pub settle-byte : (kind : Kind) (w r : Rate) (n : ℕ) → n < 256 → ByteFound (settle kind w r n)
unfolding settle
settle-byte kind w r n lt = go (first_below n (line kind w r)) refl
  where
    go : (f : Option ℕ) → first_below n (line kind w r) ≡ f → ByteFound f
    go (Some i) e = let h = is-first n (line kind w r) (Some i) e in omega arith
    go None e = tt

module _ {text reads : List ℕ} {tables : Tables} {periods phases : List ℕ} {p : Program} {s : Schedule}
    (k : Known text reads tables periods phases p s) where
  pub few : count p ≤ 64
  few = (stands text p k.stands.declares).1.few_signals

  -- The tables have the rate of every signal.
  pub rate-at : (x : ℕ) → x < count p →
      ◌≡◌ {A = Rate} (record { period = period_at periods x; phase = period_at phases x }) (rate_of p s x)
  unfolding period_at
  rate-at x lt =
      let b = lt-ltb x 64 (omega (arith, few)) in
      rw b (λ i. record { period = k.periods-are x lt i; phase = k.phases-are x lt i })

-- The read of w among reads of which one is of w.
pub read-signal : (w : ℕ) (ρs : List Read) → 1 ≤ count_reads w ρs → (read_among w ρs).operands.signal ≡ w
read-signal w ρs h = (read_of (λ ρ. Unit {0}) w ρs (all ρs) h).1
  where
    all : (ρs : List Read) → All (λ ρ. Unit {0}) ρs
    all [] = tt
    all (ρ ∷ ρs) = (tt, all ρs)
