-- What the answers of the check stand for.
use Rattle.std.specs.Prelude.{Result, Ok, Err, ℕ, Bool, true, false, cond, List, ltb, get_or}
use Rattle.model.specs.Rules.Outcome.{fault}
use Rattle.model.specs.Rules.Program.{Program, Signal, Chain, body_reads}
use Rattle.model.specs.Rules.Rates.{period_rule, read_faults, link_faults}
use Rattle.model.specs.Rules.Search.{join_from}
use Rattle.model.specs.declared.Fault.{Fault}
use Rattle.model.specs.declared.Kind.{Kind}
use Rattle.model.specs.declared.Kind.TheVariants.{Now, Last, When, LastWhen, Current}
use Rattle.model.specs.declared.Sampled.{Sampled}

-- 7 at a read or LINK of a signal that is not declared, then 8 at a read that breaks its period rule.
unfoldable pub rate_judged : Bool → Bool → ℕ → Result (Unit {0}) Fault
rate_judged true true at = Ok tt
rate_judged true false at = Err (fault 8 at)
rate_judged false kept at = Err (fault 7 at)

-- The period of signal s in a table of 64.
unfoldable pub period_at : List ℕ → ℕ → ℕ
period_at periods s = cond (ltb s 64) (get_or periods s 0) 0

-- The factor of a read: NOW and LAST are by 1.
abbrev pub factor_of : Kind → ℕ → ℕ
factor_of Now n = 1
factor_of Last n = 1
factor_of When n = n
factor_of LastWhen n = n
factor_of Current n = n

-- A read, by the number of signals and their periods.
unfoldable pub read_judged : ℕ → List ℕ → ℕ → ℕ → Kind → Sampled → Result (Unit {0}) Fault
read_judged count periods at reader kind x =
    rate_judged (ltb x.signal count)
    (period_rule kind (period_at periods x.signal) (period_at periods reader) x.factor) at

-- The faults of the reads of a signal, and of all of them.
abbrev pub signal_rates : Program → Signal → List Fault
signal_rates p x = join_from 0 (λ i ρ. read_faults p x ρ) (body_reads x.body)

abbrev pub read_rates : Program → List Fault
read_rates p = join_from 0 (λ s x. signal_rates p x) p.signals

-- The faults of the LINKs of a chain, and of all of them.
abbrev pub chain_rates : Program → Chain → List Fault
chain_rates p c = join_from 0 (λ i l. link_faults p l) c.links

abbrev pub link_rates : Program → List Fault
link_rates p = join_from 0 (λ j c. chain_rates p c) p.chains

-- The one of two refusals that has the lower place.
unfoldable pub lower_of : Result (Unit {0}) Fault → Result (Unit {0}) Fault → Result (Unit {0}) Fault
lower_of (Ok tt) b = b
lower_of (Err f) (Ok tt) = Err f
lower_of (Err f) (Err g) = Err (cond (ltb g.place f.place) g f)
