-- The text form. Assumes nothing.
use Rattle.promises.specs.TextForm.{TextForm}
use Rattle.theorems_examples.proofs.FormExamples as FormExamples
use Rattle.theorems_forms.proofs.FormCalls as Calls
use Rattle.theorems_forms.proofs.FormLegal as Legal
use Rattle.theorems_forms.proofs.FormLists as Lists
use Rattle.theorems_forms.proofs.FormStops as Stops
use Rattle.theorems_forms.proofs.FormTokens as Tokens
use Rattle.theorems_forms.proofs.FormWords as Words
use Rattle.theorems_forms.proofs.Forms as Forms

pub text-form : TextForm
text-form =
    record {
      assembled-exactly = Tokens.assembled-exactly;
      listed-exactly = Forms.listed-exactly;
      words-mean = (Words.declarations-mean, Words.operators-mean, Words.others-mean);
      assemble-lists = Forms.assemble-lists;
      list-assembles = Forms.list-assembles;
      assemble-exactly = Stops.assemble-exactly;
      list-exactly = Lists.list-exactly;
      calls-inverse = Calls.calls-inverse;
      pair-listed = λ program schedule bytes bytes' q legal. (
        Legal.said-listed program bytes (Legal.program-said program bytes legal.places.rates.legal.1),
        Legal.said-listed schedule bytes' (Legal.schedule-said schedule bytes' legal.places.legal),
      );
      script-listed = λ q text actions bytes legal. Legal.script-listed text actions bytes legal.spells;
      text-examples = FormExamples.text-examples;
    }
