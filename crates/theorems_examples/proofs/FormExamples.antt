-- The text form by examples, which the definitions answer by computation. Assumes nothing.
use mathlib.Core.Path.{refl}
use Rattle.model.specs.Rules.Decimal.{digits_up_to, natural, decimal}
use Rattle.model.specs.Rules.Outcome.{◌▷◌, provided}
use Rattle.model.specs.Rules.Search.{first_from, first_below, table_from, table}
use Rattle.model.specs.Rules.Word.{word_of}
use Rattle.model.specs.Rules.TextForm.{
  keywords,
  names,
  same_bytes,
  spelled,
  coded,
  low_at,
  low_bytes,
  operand_token,
  listed_at,
  list_from,
  listing,
  class_of,
  tokens_from,
  number_from,
  number_of,
  ranged,
  operand_of,
  assembled_of,
  assemble_from,
  assembly,
  assemble_of,
  listing_of,
}
use Rattle.theorems_examples.specs.TextExamples.{TextExamples}
use Rattle.theorems_forms.specs.TextStops.{FormRefusedAt}
use Rattle.theorems_forms.proofs.FormLists.{list-exactly}
use Rattle.theorems_forms.proofs.FormStops.{assemble-exactly}

pub text-examples : TextExamples
unfolding digits_up_to natural decimal ◌▷◌ provided first_from first_below table_from table word_of low_at low_bytes keywords names
    same_bytes spelled coded operand_token listed_at list_from listing class_of tokens_from number_from number_of ranged operand_of
    assembled_of assemble_from assembly assemble_of listing_of
text-examples =
    record {
      program = record { listed = refl; assembled = refl };
      ends = record { listed = refl; assembled = refl };
      negative = record { listed = refl; assembled = refl };
      free = refl;
      unknown_token = refl;
      operand_missing = refl;
      no_number = refl;
      leading_zero = refl;
      outside_range = refl;
      word_range = refl;
      short_buffer = refl;
      short_listing = refl;
      unknown_byte = refl;
      operand_cut = refl;
      long_text = λ text buffer h. (((assemble-exactly text buffer).refuses _ buffer).1 (FormRefusedAt.long h, refl)).0;
      long_bytes = λ bytes buffer are h. (((list-exactly bytes buffer are).refuses _ buffer).1 (FormRefusedAt.long h, refl)).0;
    }
