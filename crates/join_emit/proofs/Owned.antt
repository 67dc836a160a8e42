-- The signals that the text of an accepted part declares are its own. Assumes nothing.
use Prim.Native.Nat.{ℕ, ◌+◌, ◌≤◌, ◌<◌}
use mathlib.Core.List.{List}
use mathlib.Core.Path.{◌≡◌, sym, ap, subst, ◌∙◌}
use native.Mathlib.Omega.{arith}
use lib.ListN.{get_or}
use Rattle.model.specs.Rules.Join.{texts_at, program_text}
use Rattle.model.specs.Rules.Parts.{Part, part_at}
use Rattle.model.specs.Rules.Program.{Signal, Read, no_signal, body_reads, count, signal_at}
use Rattle.model.proofs.Basics.All.{all_map}
use Rattle.model.proofs.Pairs.Verdict.{pair-passed, reads-rated}
use Rattle.model.proofs.Texts.Legal.{legal, signal-spelled}
use Rattle.model.specs.Says.Stands.{SpellsSignal}
use Rattle.image_write.specs.Codes.{signals_in, declared_by}
use Rattle.join_gather.proofs.Each.{PartOf}
use Rattle.join_emit.specs.Code.{ReadsFit}

module _ {texts numbers : List ℕ} {parts : List Part} {k : ℕ} (p : PartOf texts numbers parts k) where
  abbrev text : List ℕ
  text = program_text texts (texts_at numbers k)

  pub declared-is : declared_by text ≡ (part_at parts k).program.signals
  unfolding declared_by
  declared-is =
      ap signals_in (pair-passed _ _ p.pair p.checked).parses ∙ ap (λ (a : Part). a.program.signals) (sym p.is)

  pub declared-at : (y : ℕ) → get_or (declared_by text) y no_signal ≡ signal_at (part_at parts k).program y
  declared-at y = ap (λ (l : List Signal). get_or l y no_signal) declared-is

  count-few : count (part_at parts k).program ≤ 64
  count-few =
      let l = legal text p.pair.program (pair-passed _ _ p.pair p.checked).parses in
      omega (arith, l.1.few_signals, ap (λ (a : Part). count a.program) p.is)

  pub spelled_at : (y : ℕ) → y < count (part_at parts k).program → SpellsSignal text (signal_at (part_at parts k).program y)
  spelled_at y lt =
      let l = legal text p.pair.program (pair-passed _ _ p.pair p.checked).parses in
      subst (λ (a : Part). SpellsSignal text (signal_at a.program y)) (sym p.is)
      (signal-spelled l.1 y (omega (arith, ap (λ (a : Part). count a.program) p.is)))

  pub reads_fit : (y b : ℕ) → y < count (part_at parts k).program → b ≤ 64 →
      ReadsFit b (signal_at (part_at parts k).program y).body
  reads_fit y b lt low =
      let q = p.pair.program in
      let n : count (part_at parts k).program ≡ count q = ap (λ (a : Part). count a.program) p.is in
      let few = count-few in
      subst (λ (a : Part). ReadsFit b (signal_at a.program y).body) (sym p.is)
      (all_map _ (λ (ρ : Read). ρ.operands.signal + b < 256) (λ ρ r. omega (arith, r.0, n, few, low))
      (body_reads (signal_at q y).body)
      (reads-rated q (pair-passed _ _ p.pair p.checked).rated y (omega arith)))
