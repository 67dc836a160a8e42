-- The code and the records of joined signals, part by part.
use Rattle.std.specs.Prelude.{Option, None, ℕ, ◌+◌, ◌-◌, ◌≤◌, ◌<◌, List, ◌++◌, ◌≡◌, get_or}
use Rattle.model.specs.Rules.Image.{joined}
use Rattle.model.specs.Rules.Join.{parts_in, texts_at, lent, program_text}
use Rattle.model.specs.Rules.Outcome.{accepted}
use Rattle.model.specs.Rules.Program.{Signal, no_signal}
use Rattle.model.specs.Rules.Search.{table_from}
use Rattle.model.specs.Rules.Word.{two_bytes, word_bytes}
use Rattle.model.specs.Says.Stands.{SpellsSignal}
use Rattle.image_write.specs.Codes.{declared_by}
use Rattle.join_emit.specs.Code.{joined_code, ReadsFit}

-- The signal that a part's text declares, by its joined number.
abbrev pub declared_as : List ℕ → ℕ → ℕ → Signal
declared_as text base x = get_or (declared_by text) (x - base) no_signal

-- The code of the joined signals from `base` up to `last`, which a text declares.
unfoldable pub code_as : List ℕ → ℕ → List (Option ℕ) → ℕ → List ℕ
code_as text base sources x = joined_code base (get_or sources x None) x (declared_as text base x).body

unfoldable pub part_codes : List ℕ → ℕ → ℕ → List (Option ℕ) → List ℕ
part_codes text base last sources = joined (table_from base (last - base) (code_as text base sources))

-- Their records: initial word, code offset.
unfoldable pub record_as : List ℕ → ℕ → List ℕ → ℕ → ℕ → List ℕ
record_as text base codes start x = word_bytes (declared_as text base x).initial ++ two_bytes (start + get_or codes x 0)

unfoldable pub part_records : List ℕ → ℕ → ℕ → List ℕ → ℕ → List ℕ
part_records text base last codes start = joined (table_from base (last - base) (record_as text base codes start))

-- The text declares the joined signals from `base` up to `last`, and `places` says where.
pub record PartDeclared (text places : List ℕ) (base last : ℕ) : Type 0 where
  pub few : last ≤ 64
  pub stands : (x : ℕ) → base ≤ x → x < last → (declared_as text base x).place ≡ get_or places x 0
  pub spelled : (x : ℕ) → base ≤ x → x < last → SpellsSignal text (declared_as text base x)
  pub reads : (x : ℕ) → base ≤ x → x < last → ReadsFit base (declared_as text base x).body

-- The parts of a list of numbers, by where their signals start.
module _ (texts numbers bases : List ℕ) where
  abbrev pub text_of : ℕ → List ℕ
  text_of k = program_text texts (texts_at numbers k)

  abbrev pub base_of : ℕ → ℕ
  base_of k = get_or bases k 0

  unfoldable pub codes_of : List (Option ℕ) → ℕ → List ℕ
  codes_of sources k = part_codes (text_of k) (base_of k) (base_of (k + 1)) sources

  unfoldable pub records_of : List ℕ → ℕ → ℕ → List ℕ
  records_of codes start k = part_records (text_of k) (base_of k) (base_of (k + 1)) codes start

  -- Each declares its signals.
  pub record PartsDeclared (places : List ℕ) (parts : ℕ) : Type 0 where
    pub are-lent : lent texts numbers ≡ accepted tt
    pub counted : parts ≤ parts_in numbers
    pub declared : (k : ℕ) → k < parts → PartDeclared (text_of k) places (base_of k) (base_of (k + 1))
