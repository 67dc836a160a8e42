-- `check_latency::hop_at` meets its contract. Assumes nothing.
use mathlib.Core.Path.{◌≡◌, sym, ap, ◌∙◌}
use native.Mathlib.Omega.{arith}
use borrow.Author.Rules.{rules}
use borrow.Author.Tests.{eqb-false}
use Rattle.text_command.specs.declared.Taken.{Taken}
use Rattle.model.specs.Rules.Latency.{read_among}
use Rattle.model.specs.Rules.Program.{Read, signal_at, body_reads}
use Rattle.model.specs.Rules.Rates.{count_reads}
use Rattle.model.specs.Rules.Reads.{rate_of, settled_index, settled}
use Rattle.check_links.proofs.Counting.{found_none, one-spelled, one-stands}
use Rattle.text_program.proofs.ByIndex.{few-signals, indexes}
use Rattle.read_rule.specs.Reads.{rate_in}
use Rattle.check_latency.proofs.Indices.{rate-at, read-signal}
use Rattle.check_latency.proofs.hop_at.Goals as goal

pub one_read-found-requires : goal.one_read-found-requires
one_read-found-requires c =
    let s = c in
    let k = s.requires.1 in
    (few-signals _ _ _ k.declares k.tables-are, (s.requires.0, indexes k))

pub returns-in_default : goal.returns-in_default
returns-in_default c =
    let c3 = c in
    let c8 = c in
    let a = c8.args in
    λ p s k lw lr n.
    let f = c3.one_read-found.ensures p (indexes k.stands) in
    let z = found_none _ _ (sym f ∙ c.in_default.is) in
    absurd (eqb-false (count_reads a.w (body_reads (signal_at p a.r).body)) 1 z n)

pub taken_at-taken-requires : goal.taken_at-taken-requires
taken_at-taken-requires c =
    let c3 = c in
    let c8 = c in
    let s = c in
    let f = c3.one_read-found.ensures s.requires.0 (indexes s.requires.1) in
    one-stands _ _ s.requires.1.declares _ _ _ (sym f ∙ c.in-Some.is)

pub returns : goal.returns
unfolding settled
returns c =
    let c3 = c in
    let c4 = c in
    let c6 = c in
    let c8 = c in
    let c13 = c in
    let a = c13.args in
    let t = c4.taken_at-taken in
    let read = c3.timing_at-read in
    let reader = c.timing_at-reader in
    λ p s k lw lr n.
    let f = c8.one_read-found.ensures p (indexes k.stands) in
    let ρ : Read = read_among a.w (body_reads (signal_at p a.r).body) in
    let taken : ◌≡◌ {A = Taken} t.result (record { kind = ρ.kind; operands = ρ.operands }) =
    t.ensures.is ρ.kind ρ.operands (one-spelled _ p k.stands.declares _ _ _ (sym f ∙ c6.in-Some.is)) in
    let w : rate_in read.result ≡ rate_of p s ρ.operands.signal =
    ap rate_in read.ensures ∙ rate-at k a.w lw ∙
    ap (rate_of p s) (sym (read-signal a.w (body_reads (signal_at p a.r).body) (omega (arith, n)))) in
    let r : rate_in reader.result ≡ rate_of p s a.r = ap rate_in reader.ensures ∙ rate-at k a.r lr in
    let index : c.settled_index-index.result ≡ settled p s a.r ρ =
    c.settled_index-index.ensures ∙ (λ i.
    settled_index (taken i).kind (w i) (r i) (taken i).operands.factor (taken i).operands.index) in
    λ i. record { kind = (taken i).kind; factor = (taken i).operands.factor; index = index i }
