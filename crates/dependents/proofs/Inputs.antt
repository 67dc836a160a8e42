-- Inputs by the byte of their declaration, reads of an accepted pair, what the call answers and leaves. Assumes nothing.
use Prim.Native.Nat.{ℕ, ◌≤◌, ◌<◌}
use mathlib.Core.Bool.{true, false, cond}
use mathlib.Core.List.{List}
use mathlib.Core.Path.{◌≡◌, refl, sym, ap, ◌∙◌}
use native.Mathlib.Omega.{arith}
use borrow.Author.Tests.{lt-ltb, le-ltb}
use lib.Dec.{eqb}
use lib.ListN.{length, get_or}
use Rattle.model.specs.Rules.Compile.{Pair, pair_of}
use Rattle.model.specs.Rules.Dependents.{mark_bytes, dependents_of}
use Rattle.model.specs.Rules.Outcome.{accepted, refused, fault, ◌▷◌, provided}
use Rattle.model.specs.Rules.Program.{
  Program,
  Read,
  count,
  signal_at,
  body_reads,
  is_input,
}
use Rattle.model.specs.Rules.Script.{is_input_of}
use Rattle.model.specs.Rules.Word.{byte_at}
use Rattle.model.specs.declared.Fault.{Fault}
use Rattle.model.proofs.Texts.Legal.{stands, signal-spelled, input-byte, place_inside}
use Rattle.model.specs.Says.Feasible.{Met}
use Rattle.model.proofs.Basics.All.{all_map}
use Rattle.model.proofs.Pairs.Verdict.{pair-accepted}
use Rattle.text_program.specs.Tables.{TablesOf, Stands}
use Rattle.text_program.specs.declared.Tables.{Tables}
use Rattle.text_program.proofs.ByIndex.{few-signals, indexes}
use Rattle.dependents.specs.Marks.{ReadsDeclared}

-- A signal of a program that is read.
module _ {text reads : List ℕ} {t : Tables} {p : Program} (known : Stands text reads t p) (x : ℕ) where
  abbrev tables : TablesOf p t
  tables = known.tables-are

  pub no-signal : t.signals ≤ x → is_input_of p x ≡ false
  unfolding is_input_of
  no-signal le =
      ap (λ b. cond b (is_input (signal_at p x).body) false)
      (le-ltb x (count p) (omega (arith, tables.counts.signals-are)))

  module _ (lt : x < t.signals) where
    below : x < count p
    below = omega (arith, tables.counts.signals-are)

    pub place-stands : get_or t.places x 0 < length text
    place-stands =
        omega (
          arith,
          tables.places x below,
          place_inside text (signal_at p x) (signal_at p x).body (signal-spelled (stands text p known.declares).1 x below),
        )

    pub by_byte : eqb (byte_at text (get_or t.places x 0)) 0x10 ≡ is_input_of p x
    unfolding is_input_of
    by_byte =
        ap (λ (n : ℕ). eqb (byte_at text n) 0x10) (tables.places x below) ∙
        sym (input-byte text (signal_at p x) (signal_at p x).body (signal-spelled (stands text p known.declares).1 x below)) ∙
        sym (ap (λ b. cond b (is_input (signal_at p x).body) false) (lt-ltb x (count p) below))

-- The reads of an accepted pair are of its signals.
pub reads-declared : (text schedule reads : List ℕ) (t : Tables) (q : Pair) → pair_of text schedule ≡ accepted q →
    Stands text reads t q.program → ReadsDeclared text reads t.firsts t.signals
reads-declared text schedule reads t q e h =
    let n = h.tables-are.counts.signals-are in
    record {
      indexed = (q.program, indexes h);
      few = few-signals text t q.program h.declares h.tables-are;
      declared = λ x lt.
          all_map (Met q.program q.schedule x) (λ (ρ : Read). ρ.operands.signal < t.signals)
          (λ ρ m. omega (arith, m.declared, n)) (body_reads (signal_at q.program x).body)
          ((pair-accepted text schedule q e).met x (omega (arith, n)));
    }

-- What the call answers and leaves.
module _ (program schedule : List ℕ) (i : ℕ) (marks : List ℕ) where
  pub pair-refused : (f : Fault) → pair_of program schedule ≡ refused f →
      (refused f ≡ (dependents_of program schedule i marks).answer) × (marks ≡ (dependents_of program schedule i marks).left)
  unfolding dependents_of ◌▷◌
  pair-refused f e = rw e (refl, refl)

  module _ (q : Pair) (e : pair_of program schedule ≡ accepted q) where
    pub input-refused : is_input_of q.program i ≡ false →
        (refused (fault 48 0) ≡ (dependents_of program schedule i marks).answer) ×
        (marks ≡ (dependents_of program schedule i marks).left)
    unfolding dependents_of ◌▷◌ provided
    input-refused h = rw e (rw h (refl, refl))

    pub marks-done : is_input_of q.program i ≡ true →
        (accepted 0 ≡ (dependents_of program schedule i marks).answer) ×
        (mark_bytes q.program i ≡ (dependents_of program schedule i marks).left)
    unfolding dependents_of ◌▷◌ provided
    marks-done h = rw e (rw h (refl, refl))
