-- The table of keywords in bytes, a row of 15 each: 9 letters with zeros after the last, whether it starts a line, its byte, its
-- operands by their numbers with zeros after the last.
use Rattle.std.specs.Prelude.{ℕ, ◌+◌, ◌*◌, cond, List, [], ◌∷◌, ◌++◌, map, eqb, take, drop, replicate}
use Rattle.model.specs.Rules.Search.{join_from}
use Rattle.model.specs.Rules.TextForm.{Keyword, keywords, names}
use Rattle.model.specs.Rules.Word.{byte_at}
use Rattle.model.specs.declared.Operand.{Operand}
use Rattle.model.specs.declared.Operand.TheVariants.{One, Two, Four, Signed, Index, Mode}

-- The number of an operand in the table, and back.
abbrev pub number_of_operand : Operand → ℕ
number_of_operand One = 1
number_of_operand Two = 2
number_of_operand Four = 3
number_of_operand Signed = 4
number_of_operand Index = 5
number_of_operand Mode = 6

abbrev pub operand_by : ℕ → Operand
operand_by n =
    cond (eqb n 1) One (cond (eqb n 2) Two (cond (eqb n 3) Four (cond (eqb n 4) Signed (cond (eqb n 5) Index Mode))))

abbrev pub padded : ℕ → List ℕ → List ℕ
padded n xs = take n (xs ++ replicate n 0)

abbrev pub row_cells : Keyword → List ℕ
row_cells k =
    padded 9 k.spelling ++
    (cond k.opens 1 0 ∷ k.byte ∷ padded 4 (map number_of_operand k.operands))

-- The keywords, then the names of an index and of a mode.
unfoldable pub rows : List Keyword
rows = keywords ++ (names Index ++ names Mode)

unfoldable pub cells : List ℕ
cells = join_from 0 (λ i k. row_cells k) rows

-- How many rows are commands, how many there are, and how many cells.
abbrev pub command_rows : ℕ
command_rows = 27

abbrev pub all_rows : ℕ
all_rows = 30

abbrev pub all_cells : ℕ
all_cells = 450

-- The row of the first name of an operand.
abbrev pub names_from : Operand → ℕ
names_from One = command_rows
names_from Two = command_rows
names_from Four = command_rows
names_from Signed = command_rows
names_from Index = command_rows
names_from Mode = command_rows + 1

-- How many names an operand has.
abbrev pub names_count : Operand → ℕ
names_count One = 0
names_count Two = 0
names_count Four = 0
names_count Signed = 0
names_count Index = 1
names_count Mode = 2

-- What stands in cells up to a zero: letters, operands.
unfoldable pub letters_of : List ℕ → List ℕ
letters_of [] = []
letters_of (c ∷ cs) = cond (eqb c 0) [] (c ∷ letters_of cs)

unfoldable pub operands_in : List ℕ → List Operand
operands_in [] = []
operands_in (c ∷ cs) = cond (eqb c 0) [] (operand_by c ∷ operands_in cs)

-- The spelling, the byte and the operands of a row.
abbrev pub spelling_at : List ℕ → ℕ → List ℕ
spelling_at table row = letters_of (drop (15 * row) table)

abbrev pub byte_of : List ℕ → ℕ → ℕ
byte_of table row = byte_at table (15 * row + 10)

-- The operands that are to follow, by where they stand in the table.
abbrev pub pending_at : ℕ → List Operand
pending_at at = operands_in (drop at cells)
