-- The command lists of the paper, read as widths: how many bytes each command takes, its own byte and its operands. The
-- expression or the LINKs that follow a command are commands of their own and don't count. A byte that is not listed for its kind
-- of text has no width.
use Rattle.std.specs.Prelude.{Option, Some, None, ℕ, Bool, true, false, cond, ◌&&◌, leb, eqb}
use Rattle.model.specs.declared.Kind.{Kind}
use Rattle.model.specs.declared.Kind.TheVariants.{Now, Last, When, LastWhen, Current}

-- A byte of a range, both ends included.
abbrev pub within : ℕ → ℕ → ℕ → Bool
within low high b = leb low b && leb b high

-- Program.
abbrev pub program_width : ℕ → Option ℕ
program_width b =
    -- END
    cond (eqb b 0x00) (Some 1)
    -- IN period, word
    (cond (eqb b 0x10) (Some 6)
    -- EQ period, word, weight
    (cond (eqb b 0x11) (Some 8)
    -- LAT mode, bound
    (cond (eqb b 0x12) (Some 4)
    -- LINK signal
    (cond (eqb b 0x13) (Some 2)
    -- CAP limit
    (cond (eqb b 0x14) (Some 5)
    -- TAG label
    (cond (eqb b 0x15) (Some 3)
    -- ROW low, high, result
    (cond (eqb b 0x16) (Some 13) None)))))))

-- Expression.
abbrev pub expression_width : ℕ → Option ℕ
expression_width b =
    -- CONST word
    cond (eqb b 0x20) (Some 5)
    -- NOW, LAST signal
    (cond (within 0x21 0x22 b) (Some 2)
    -- WHEN, LASTWHEN, CURRENT signal, i, n
    (cond (within 0x23 0x25 b) (Some 4)
    -- ADD to MAX
    (cond (within 0x30 0x36 b) (Some 1)
    -- NEG
    (cond (eqb b 0x38) (Some 1)
    -- IF
    (cond (eqb b 0x3A) (Some 1)
    -- TABLE
    (cond (eqb b 0x3B) (Some 1) None))))))

-- Schedule.
abbrev pub schedule_width : ℕ → Option ℕ
schedule_width b =
    -- END
    cond (eqb b 0x00) (Some 1)
    -- PUT signal, phase
    (cond (eqb b 0x40) (Some 3) None)

-- Image code.
abbrev pub code_width : ℕ → Option ℕ
code_width b =
    -- ADD to MAX
    cond (within 0x30 0x36 b) (Some 1)
    -- NEG
    (cond (eqb b 0x38) (Some 1)
    -- IF
    (cond (eqb b 0x3A) (Some 1)
    -- TABLE
    (cond (eqb b 0x3B) (Some 1)
    -- PUSH word
    (cond (eqb b 0x50) (Some 5)
    -- LOAD, FETCH signal
    (cond (within 0x51 0x52 b) (Some 2)
    -- STORE signal
    (cond (eqb b 0x5F) (Some 2) None))))))

-- Script of a bench trial (request e).
abbrev pub script_width : ℕ → Option ℕ
script_width b =
    -- END
    cond (eqb b 0x00) (Some 1)
    -- SET signal, word
    (cond (eqb b 0x70) (Some 6)
    -- RUN count
    (cond (eqb b 0x71) (Some 2) None))

abbrev pub is_listed : Option ℕ → Bool
is_listed (Some n) = true
is_listed None = false

-- How far the command of a listed byte reaches; of another there is no command to go past.
abbrev pub reach : Option ℕ → ℕ
reach (Some n) = n
reach None = 0

abbrev pub in_program : ℕ → ℕ
in_program b = reach (program_width b)

abbrev pub in_expression : ℕ → ℕ
in_expression b = reach (expression_width b)

abbrev pub in_schedule : ℕ → ℕ
in_schedule b = reach (schedule_width b)

abbrev pub in_code : ℕ → ℕ
in_code b = reach (code_width b)

abbrev pub in_script : ℕ → ℕ
in_script b = reach (script_width b)

-- The reads, by their kinds.
abbrev pub read_width : Kind → ℕ
read_width Now = in_expression 0x21
read_width Last = in_expression 0x22
read_width When = in_expression 0x23
read_width LastWhen = in_expression 0x24
read_width Current = in_expression 0x25
