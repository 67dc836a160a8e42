-- What stands in a program text, by its decoded commands: each signal, chain, read and row of a program at the place that it names.
use Rattle.std.specs.Prelude.{ℕ, ◌+◌, ◌≤◌, List, ◌≡◌, length}
use Rattle.model.specs.Rules.Command.{declaration_at, operator_at}
use Rattle.model.specs.Rules.Program.{least_factor, Read, Body, input, equation, Signal, Chain}
use Rattle.model.specs.Rules.Table.{Row}
use Rattle.model.specs.Rules.Width.{in_program}
use Rattle.model.specs.Says.Grammar.{depth, Spells, SpellsLinks}
use Rattle.model.specs.declared.Declaration.TheVariants as Declaration
use Rattle.model.specs.declared.Operator.TheVariants as Operator

-- A signal's command and what stands after it.
abbrev pub SpellsBody : List ℕ → Signal → Body → Type 0
SpellsBody text x input = declaration_at text x.place ≡ Declaration.Input x.period x.initial
SpellsBody text x (equation weight e) =
    (declaration_at text x.place ≡ Declaration.Equation x.period x.initial weight) × (next : ℕ) ×
    Spells least_factor text (x.place + in_program 0x11) e next × (depth e ≤ 16)

abbrev pub SpellsSignal : List ℕ → Signal → Type 0
SpellsSignal text x = SpellsBody text x x.body

-- A chain's command and its links.
pub record SpellsChain (text : List ℕ) (c : Chain) : Type 0 where
  pub command : declaration_at text c.place ≡ Declaration.Latency c.mode c.bound
  pub end : ℕ
  pub links : SpellsLinks text (c.place + 4) c.links end
  pub several : 2 ≤ length c.links
  pub few : length c.links ≤ 16

-- A read stands where it says.
abbrev pub SpellsRead : List ℕ → Read → Type 0
SpellsRead text ρ = operator_at text ρ.place ≡ Operator.Read ρ.kind ρ.operands

-- A row's command.
abbrev pub SpellsRow : List ℕ → Row → Type 0
SpellsRow text r = declaration_at text r.place ≡ Declaration.Row r.low r.high r.result
