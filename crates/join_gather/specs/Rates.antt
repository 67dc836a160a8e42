-- What the links are judged by: the signals of the parts, by part and number.
use Rattle.std.specs.Prelude.{ℕ, ◌+◌, ◌*◌, ◌≤◌, ◌<◌, Bool, false, List, ◌≡◌, length, get_or}
use Rattle.model.specs.Says.Grammar.{LegalProgram}
use Rattle.model.specs.Rules.Parts.{Part}
use Rattle.text_program.specs.Tables.{TablesOf}
use Rattle.text_program.specs.declared.Tables.{Tables}
use Rattle.join_links.specs.ByPart.{input_in, PeriodsBy}

-- Of a table, `old`, the table `new` has the n values of f from entry `from` on; the others stay.
pub record Filled {A : Type 0} (d : A) (f : ℕ → A) (from n : ℕ) (old new : List A) : Type 0 where
  pub long : length new ≡ length old
  pub before : (y : ℕ) → y < from → get_or new y d ≡ get_or old y d
  pub filled : (y : ℕ) → y < n → get_or new (from + y) d ≡ f y
  pub after : (y : ℕ) → from + n ≤ y → get_or new y d ≡ get_or old y d

-- The text declares a part's program, and the tables are its own.
pub record RatesOf (text : List ℕ) (tables : Tables) (a : Part) : Type 0 where
  pub declares : LegalProgram text a.program
  pub tables-are : TablesOf a.program tables

-- The tables of the parts: periods, and which signals are INs.
pub record RatesBy (parts : List Part) (periods : List ℕ) (inputs : List Bool) : Type 0 where
  pub periods-are : PeriodsBy parts periods
  pub room : length periods ≡ 512
  pub long : length inputs ≡ 512
  pub inputs_are : (k x : ℕ) → k < 8 → x < 64 → get_or inputs (64 * k + x) false ≡ input_in parts k x
