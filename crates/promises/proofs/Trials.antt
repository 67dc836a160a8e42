-- Request e. Assumes nothing.
use mathlib.Core.Path.{refl, sym, subst}
use lib.ListN.{length}
use Rattle.promises.specs.Trials.{RequestE}
use Rattle.theorems_trials.specs.Trials.{Makes, SetInputs}
use Rattle.model.proofs.Pairs.Verdict.{pair-bounded}
use Rattle.theorems_pairs.proofs.Exact as Pairs
use Rattle.theorems_trials.proofs.Decimals as Decimals
use Rattle.theorems_trials.proofs.Scripts.{script-actions}
use Rattle.theorems_trials.proofs.TrialLines.{set-inputs, tried-count, tried-line}
use Rattle.theorems_trials.proofs.Trials.{lines_of, Tried, trial-refused, trial-accepts}

pub request-e : RequestE
request-e =
    record {
      trial-refused-exactly = trial-refused;
      trial-lines = λ program schedule text bytes q actions legal script.
          let p = q.program in
          let s = q.schedule in
          let same = script-actions text script.spells in
          let lines = lines_of q text in
          let tried : Tried program schedule text lines =
          record { pair = q; legal = legal; script = rw same script; lines_are = refl } in
          record {
            lines = lines;
            prints = trial-accepts program schedule text legal script;
            number = subst (λ acts. Makes acts (length lines)) same (tried-count program schedule text bytes lines tried);
            line = λ inputs X given.
                tried-line program schedule text bytes lines tried inputs X
                (subst (λ acts. SetInputs p s acts inputs) (sym same) given);
          };
      trial-inputs = λ program schedule bytes q legal actions.
          let b = pair-bounded program schedule q ((Pairs.accepted-exactly program schedule q).1 legal) bytes in
          (_, set-inputs q.program q.schedule actions b.signals);
      natural-says = Decimals.natural-says;
      decimal-says = Decimals.decimal-says;
    }
