-- The reads by their index in the table. Assumes nothing.
use Prim.Native.Nat.{ℕ, suc, ◌+◌, ◌-◌, ◌≤◌, ◌<◌}
use mathlib.Core.List.{List}
use mathlib.Core.Path.{◌≡◌, ap, ◌∙◌}
use native.Mathlib.Omega.{arith}
use lib.ListN.{length, get_or, get_or-map}
use Rattle.model.specs.Rules.Command.{operator_at}
use Rattle.model.specs.Rules.Program.{Program, Read, Link, count, signal_at, body_reads}
use Rattle.model.specs.Rules.Reads.{rate_of}
use Rattle.model.specs.Rules.Schedule.{Schedule}
use Rattle.model.specs.declared.Operator.TheVariants as Operator
use Rattle.model.specs.declared.Index.TheVariants.{Fixed}
use Rattle.model.specs.declared.Kind.TheVariants.{Now}
use Rattle.model.proofs.Basics.All.{all-at}
use Rattle.model.proofs.Texts.Commands.{declaration-sound}
use Rattle.model.proofs.Texts.Legal.{stands, signal-reads}
use Rattle.model.specs.Says.Grammar.{LegalProgram}
use Rattle.model.specs.Says.Stands.{SpellsRead, SpellsChain}
use Rattle.text_command.specs.Operator.{ReadStands, ReadTaken}
use Rattle.text_command.specs.declared.Taken.{Taken}
use Rattle.text_program.specs.Tables.{
  no_chain,
  chain_at,
  PeriodsOf,
  rate_at,
  reads_in,
  TablesOf,
  Stands,
  Indexes,
  SlotsOf,
}
use Rattle.text_program.specs.declared.Tables.{Tables}
use Rattle.text_program.proofs.Sums.{sums-below}

abbrev pub no_read : Read
no_read = record { place = 0; kind = Now; operands = record { signal = 0; factor = 1; index = Fixed 0 } }

abbrev pub no_link : Link
no_link = record { place = 0; signal = 0 }

abbrev pub read_at : Program → ℕ → ℕ → Read
read_at p x j = get_or (body_reads (signal_at p x).body) j no_read

-- A program that is read has few signals.
pub few-signals : (text : List ℕ) (t : Tables) (p : Program) → LegalProgram text p → TablesOf p t → t.signals ≤ 64
few-signals text t p e tables = omega (arith, (stands text p e).1.few_signals, tables.counts.signals-are)

-- It has few chains, and each LAT lies within the text.
module _ {text reads : List ℕ} {t : Tables} {p : Program} (h : Stands text reads t p) where
  pub few-chains : t.chains ≤ 16
  few-chains = omega (arith, h.tables-are.counts.chains-are, (stands text p h.declares).1.few_chains)

  pub chain-inside : (x : ℕ) → x < t.chains → get_or t.starts x 0 + 4 ≤ length text
  chain-inside x lt =
      let l : x < length p.chains = omega (arith, h.tables-are.counts.chains-are) in
      let c : SpellsChain text (chain_at p x) =
      all-at (SpellsChain text) p.chains no_chain (stands text p h.declares).1.chains x l in
      let inside : (chain_at p x).place + 4 ≤ length text = declaration-sound text _ _ c.command in
      omega (arith, h.tables-are.starts x l, inside)

-- Its reads stand in their table.
pub indexes : {text reads : List ℕ} {t : Tables} {p : Program} → Stands text reads t p →
    Indexes text reads t.firsts t.signals p
indexes h = record { declares = h.declares; count-is = h.tables-are.counts.signals-are; reads-are = h.reads-are }

-- The rate of a signal by the tables of periods and phases.
pub rate-is : {p : Program} {s : Schedule} {order phases ranks : List ℕ} (periods : List ℕ) → PeriodsOf p periods →
    SlotsOf p s order phases ranks → (x : ℕ) → x < count p → rate_at periods phases x ≡ rate_of p s x
rate-is periods table slots x lt = λ i. record { period = table x lt i; phase = slots.phases-are x lt i }

-- The entries of the table.
module _ {text reads firsts : List ℕ} {n : ℕ} {p : Program} (ix : Indexes text reads firsts n p) where
  module _ (x i : ℕ) (lt : x < n) (low : get_or firsts x 0 ≤ i) where
    -- It ends where those of the next signal start.
    pub all_seen : get_or firsts (x + 1) 0 ≡ i → i - get_or firsts x 0 ≡ length (body_reads (signal_at p x).body)
    all_seen h =
        let l : x < count p = omega (arith, ix.count-is) in
        let z : suc x ≡ x + 1 = omega arith in
        omega (arith, rw z at (ix.reads-are.sums.rises x l))

    module _ (high : i < get_or firsts (x + 1) 0) where
      below-count : x < count p
      below-count = omega (arith, ix.count-is)

      pub seen : i - get_or firsts x 0 < length (body_reads (signal_at p x).body)
      seen = let z : suc x ≡ x + 1 = omega arith in omega (arith, rw z at (ix.reads-are.sums.rises x below-count))

      pub in_table : i < length reads
      in_table =
          omega (
            arith,
            seen,
            sums-below reads_in ix.reads-are.sums x (count p) below-count (omega arith),
            ix.reads-are.fits,
          )

      pub place_is : get_or reads i 0 ≡ (read_at p x (i - get_or firsts x 0)).place
      place_is =
          let z : get_or firsts x 0 + (i - get_or firsts x 0) ≡ i = omega arith in
          (rw z at (ix.reads-are.stand x (i - get_or firsts x 0) below-count seen)) ∙
          get_or-map (λ (ρ : Read). ρ.place) (body_reads (signal_at p x).body) (i - get_or firsts x 0) no_read

      pub spells : operator_at text (read_at p x (i - get_or firsts x 0)).place ≡
          Operator.Read (read_at p x (i - get_or firsts x 0)).kind (read_at p x (i - get_or firsts x 0)).operands
      spells =
          all-at (SpellsRead text) (body_reads (signal_at p x).body) no_read
          (signal-reads (stands text p ix.declares).1 x below-count)
          (i - get_or firsts x 0) seen

      pub read-stands : ReadStands text (get_or reads i 0)
      read-stands =
          record {
            kind = (read_at p x (i - get_or firsts x 0)).kind;
            operands = (read_at p x (i - get_or firsts x 0)).operands;
            is = ap (operator_at text) place_is ∙ spells;
          }

      pub taken_is : (r : Taken) → ReadTaken text (get_or reads i 0) r →
          r ≡ record {
            kind = (read_at p x (i - get_or firsts x 0)).kind;
            operands = (read_at p x (i - get_or firsts x 0)).operands;
          }
      taken_is r h = h.is _ _ (ap (operator_at text) place_is ∙ spells)

pub rises-at : {text reads firsts : List ℕ} {n : ℕ} {p : Program} (ix : Indexes text reads firsts n p) (x : ℕ) → x < n →
    get_or firsts x 0 ≤ get_or firsts (x + 1) 0
rises-at ix x lt =
    let z : suc x ≡ x + 1 = omega arith in
    omega (arith, rw z at (ix.reads-are.sums.rises x (omega (arith, ix.count-is))))
