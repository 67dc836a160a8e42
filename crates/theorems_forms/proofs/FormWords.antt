-- The words of the text form, by what the readers of the papers' texts take their bytes for: each by computation. Assumes
-- nothing.
use mathlib.Core.List.{[], ◌∷◌}
use mathlib.Core.Path.{refl}
use Rattle.model.specs.Rules.Command.{declaration_of, declaration_at, plain_read, sampled_read, operator_of, operator_at}
use Rattle.model.specs.Rules.Outcome.{◌▷◌, provided}
use Rattle.model.specs.Rules.Schedule.{schedule_command_at}
use Rattle.model.specs.Rules.Script.{script_command_at}
use Rattle.model.specs.Rules.Search.{first_from, first_below, table_from, table}
use Rattle.model.specs.Rules.TextForm.{
  keywords,
  names,
  same_bytes,
  spelled,
  low_bytes,
  class_of,
  tokens_from,
  number_from,
  number_of,
  ranged,
  operand_of,
  assembled_of,
  assemble_from,
  assembly,
}
use Rattle.model.specs.Rules.Word.{two_at, four_at, word_at, word_of}
use Rattle.theorems_forms.specs.TextWords.{DeclarationsMean, OperatorsMean, OthersMean}

pub declarations-mean : DeclarationsMean
unfolding ◌▷◌ provided first_from first_below table_from table low_bytes keywords names same_bytes spelled class_of tokens_from
    number_from number_of ranged operand_of assembled_of assemble_from assembly two_at four_at word_at word_of declaration_of declaration_at
declarations-mean =
    record {
      end = record { bytes = 0 ∷ []; assembled = refl; read = refl };
      input = record { bytes = 0x10 ∷ 2 ∷ 0xFD ∷ 0xFF ∷ 0xFF ∷ 0xFF ∷ []; assembled = refl; read = refl };
      equation = record { bytes = 0x11 ∷ 2 ∷ 5 ∷ 0 ∷ 0 ∷ 0 ∷ 0xBC ∷ 2 ∷ []; assembled = refl; read = refl };
      exists = record { bytes = 0x12 ∷ 0 ∷ 0xBC ∷ 2 ∷ []; assembled = refl; read = refl };
      backward = record { bytes = 0x12 ∷ 1 ∷ 0xBC ∷ 2 ∷ []; assembled = refl; read = refl };
      link = record { bytes = 0x13 ∷ 9 ∷ []; assembled = refl; read = refl };
      cap = record { bytes = 0x14 ∷ 0x70 ∷ 0x11 ∷ 1 ∷ 0 ∷ []; assembled = refl; read = refl };
      tag = record { bytes = 0x15 ∷ 0xBC ∷ 2 ∷ []; assembled = refl; read = refl };
      row =
          record {
            bytes = 0x16 ∷ 0xFD ∷ 0xFF ∷ 0xFF ∷ 0xFF ∷ 4 ∷ 0 ∷ 0 ∷ 0 ∷ 5 ∷ 0 ∷ 0 ∷ 0 ∷ [];
            assembled = refl;
            read = refl;
          };
    }

pub operators-mean : OperatorsMean
unfolding ◌▷◌ provided first_from first_below table_from table low_bytes keywords names same_bytes spelled class_of tokens_from
    number_from number_of ranged operand_of assembled_of assemble_from assembly two_at four_at word_at word_of plain_read
    sampled_read operator_of operator_at
operators-mean =
    record {
      constant = record { bytes = 0x20 ∷ 0xFD ∷ 0xFF ∷ 0xFF ∷ 0xFF ∷ []; assembled = refl; read = refl };
      now = record { bytes = 0x21 ∷ 7 ∷ []; assembled = refl; read = refl };
      last = record { bytes = 0x22 ∷ 7 ∷ []; assembled = refl; read = refl };
      when = record { bytes = 0x23 ∷ 7 ∷ 1 ∷ 4 ∷ []; assembled = refl; read = refl };
      last_when = record { bytes = 0x24 ∷ 7 ∷ 1 ∷ 4 ∷ []; assembled = refl; read = refl };
      current = record { bytes = 0x25 ∷ 7 ∷ 1 ∷ 4 ∷ []; assembled = refl; read = refl };
      open_index = record { bytes = 0x23 ∷ 7 ∷ 255 ∷ 4 ∷ []; assembled = refl; read = refl };
      add = record { bytes = 0x30 ∷ []; assembled = refl; read = refl };
      sub = record { bytes = 0x31 ∷ []; assembled = refl; read = refl };
      mul = record { bytes = 0x32 ∷ []; assembled = refl; read = refl };
      less = record { bytes = 0x33 ∷ []; assembled = refl; read = refl };
      same = record { bytes = 0x34 ∷ []; assembled = refl; read = refl };
      min = record { bytes = 0x35 ∷ []; assembled = refl; read = refl };
      max = record { bytes = 0x36 ∷ []; assembled = refl; read = refl };
      neg = record { bytes = 0x38 ∷ []; assembled = refl; read = refl };
      choice = record { bytes = 0x3A ∷ []; assembled = refl; read = refl };
      table = record { bytes = 0x3B ∷ []; assembled = refl; read = refl };
    }

pub others-mean : OthersMean
unfolding ◌▷◌ provided first_from first_below table_from table low_bytes keywords names same_bytes spelled class_of tokens_from
    number_from number_of ranged operand_of assembled_of assemble_from assembly two_at four_at word_at word_of schedule_command_at
    script_command_at
others-mean =
    record {
      put = record { bytes = 0x40 ∷ 7 ∷ 1 ∷ []; assembled = refl; read = refl };
      schedule-end = record { bytes = 0 ∷ []; assembled = refl; read = refl };
      set = record { bytes = 0x70 ∷ 7 ∷ 0xFD ∷ 0xFF ∷ 0xFF ∷ 0xFF ∷ []; assembled = refl; read = refl };
      run = record { bytes = 0x71 ∷ 9 ∷ []; assembled = refl; read = refl };
      script-end = record { bytes = 0 ∷ []; assembled = refl; read = refl };
    }
