-- `join_gather::keep_rates` meets its contract. Assumes nothing.
use native.Mathlib.Omega.{arith}
use Rattle.model.specs.Rules.Join.{texts_at, program_text}
use Rattle.model.specs.Rules.Program.{signal_at}
use Rattle.model.proofs.Texts.Legal.{stands, signal-spelled, place_inside}
use Rattle.join_texts.proofs.Lent.{kept}
use Rattle.join_gather.proofs.keep_rates.Goals as goal

pub add_rates-requires : goal.add_rates-requires
add_rates-requires c =
    let s = c in
    let r = s.requires.2.1 in
    let l = (stands _ s.requires.2.0.program r.declares).1 in
    let all = r.tables-are.counts.signals-are in (
      omega (arith, (kept s.args.texts.now s.args.numbers.now s.requires.1).few, s.requires.0),
      omega (arith, l.few_signals, all),
      λ x lt.
          rw c.program_of.ensures (omega (
            arith,
            r.tables-are.places x (omega (arith, all)),
            place_inside (program_text s.args.texts.now (texts_at s.args.numbers.now s.args.k))
                (signal_at s.requires.2.0.program x) (signal_at s.requires.2.0.program x).body
                (signal-spelled l x (omega (arith, all))),
          )),
    )

pub returns : goal.returns
returns c = rw c.program_of.ensures at c.add_rates.ensures
