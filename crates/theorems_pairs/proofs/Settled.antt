-- The index of a read of an accepted pair is the only one that the paper's words allow. Assumes nothing.
use Prim.Native.Nat.{ℕ}
use mathlib.Core.List.{List}
use mathlib.Core.Logic.{◌↔◌}
use mathlib.Core.Path.{◌≡◌}
use Rattle.model.specs.Says.Feasible.{SettlesAt}
use Rattle.model.specs.Rules.Compile.{Pair}
use Rattle.theorems_pairs.specs.Conditions.{ReadIn, LegalPair}
use Rattle.model.specs.Rules.Program.{Read}
use Rattle.model.specs.Rules.Reads.{rate_of, settled}
use Rattle.model.proofs.Texts.Commands.{operator-sound}
use Rattle.model.proofs.Pairs.Decide.{settles-once}
use Rattle.theorems_pairs.proofs.Judged.{read-spelled}

pub settled-exactly : (program schedule : List ℕ) (q : Pair) → LegalPair program schedule q → (r : ℕ) (ρ : Read) →
    ReadIn q.program r ρ → (i : ℕ) →
    let p = q.program in
    let s = q.schedule in
    let x = ρ.operands in
    SettlesAt ρ.kind (rate_of p s x.signal) (rate_of p s r) x.factor x.index i ↔ (i ≡ settled p s r ρ)
unfolding settled
settled-exactly program schedule q legal r ρ within i =
    let p = q.program in
    let s = q.schedule in
    let x = ρ.operands in
    let met = legal.met r ρ within in
    let spelled = read-spelled program p legal.places.rates.legal r ρ within in
    settles-once ρ.kind (rate_of p s x.signal) (rate_of p s r) x.factor x.index
    (operator-sound program ρ.place _ spelled).2 met.periods met.line i
