-- Demand 3. Assumes nothing.
use mathlib.Core.Path.{◌≡◌, sym, ap, ◌∙◌}
use Rattle.model.specs.Rules.Image.{image_of}
use Rattle.model.specs.Rules.Rates.{hypercycle}
use Rattle.promises.specs.ForEver.{ForEver}
use Rattle.theorems_streams.specs.Lists.{owns}
use Rattle.model.proofs.Images.Tails as Tails
use Rattle.model.proofs.Pairs.Verdict.{pair-passed, pair-multiple, pair-accepted, pair-bounded}
use Rattle.theorems_images.proofs.FormedExactly as FormedExactly
use Rattle.theorems_pairs.proofs.Exact as Pairs
use Rattle.theorems_pairs.proofs.Settled as Settled
use Rattle.theorems_streams.proofs.Alike.{open-alike, alike-satisfy}
use Rattle.theorems_streams.proofs.AlikeLent.{words-alike}
use Rattle.theorems_streams.proofs.Among as Among
use Rattle.theorems_streams.proofs.Demand as Demand
use Rattle.theorems_streams.proofs.Lending as Lending
use Rattle.theorems_streams.proofs.Unique as Unique

pub for-ever : ForEver
for-ever =
    record {
      settled-exactly = λ program schedule q e.
          Settled.settled-exactly program schedule q ((Pairs.accepted-exactly program schedule q).0 e);
      of_pair = λ program schedule bytes p s h e.
          let accepts = pair-accepted program schedule _ e in
          let multiple = pair-multiple program schedule _ e in
          let bounded = pair-bounded program schedule _ e bytes in
          record {
            streams-exist = λ inputs. (Unique.streams p s accepts inputs, Unique.streams-satisfy p s accepts inputs);
            streams-unique = Unique.streams-unique p s accepts;
            calls-hold = λ tail lent bears. Demand.calls-hold program schedule bytes p s h e bears;
            calls-among = λ size buffer tail bears old r ls own others.
                let a = Lending.among p s h accepts multiple bounded size buffer bears old ls own others in
                rw (a.0, a.1, a.2)
                (Demand.calls-hold program schedule bytes p s h e (Tails.bears-itself (image_of p s h)) old
                (Lending.reset-itself p s h accepts multiple bounded size buffer bears old r) (owns ls));
          };
      others-nothing = λ image formed. Among.others-nothing ((FormedExactly.well-formed-exactly image).1 formed);
      of-alike = λ program schedule schedule' bytes p s s' h e e' alike.
          record {
            alike-streams = alike-satisfy p s s' (open-alike p s s' alike);
            alike-words =
                words-alike p s s' h (pair-accepted program schedule _ e) (pair-accepted program schedule' _ e')
                (pair-multiple program schedule _ e) (pair-bounded program schedule _ e bytes)
                (pair-bounded program schedule' _ e' bytes) alike;
          };
      same-program = λ program schedule schedule' q q' e e'.
          let t = pair-passed program schedule q e in
          let t' = pair-passed program schedule' q' e' in
          let one : q.program ≡ q'.program = cc (sym t.parses ∙ t'.parses) in
          (one, cc (sym t.hyper ∙ ap hypercycle one ∙ t'.hyper));
    }
