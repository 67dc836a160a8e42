-- The text form: words to read for the bytes of a program, a schedule and a script. A word of this form is called a token here,
-- since a word is a signed 32-bit integer. Both directions go over tokens by one table, `keywords`. What is legal is judged by
-- compile, and not here.
use Rattle.std.specs.Prelude.{Option, Some, None, ℕ, zero, suc, ◌+◌, ◌-◌, ◌*◌, ◌/◌, ◌%◌, ◌^◌, Bool, true, false, cond, ◌&&◌, ◌||◌, List, [], ◌∷◌, ◌++◌, leb, ltb, eqb, length, get_or, drop}
use Prim.Native.Char.{code}
use Prim.Native.String.{String, len, char_at}
use Rattle.model.specs.Rules.Decimal.{natural, decimal}
use Rattle.model.specs.Rules.Machine.{Effect, Job, effect}
use Rattle.model.specs.Rules.Outcome.{Outcome, accepted, refuse, ◌▷◌, provided}
use Rattle.model.specs.Rules.Search.{first_below, table}
use Rattle.model.specs.Rules.Width.{within}
use Rattle.model.specs.Rules.Word.{word_of, byte_at}
use Rattle.model.specs.declared.Operand.{Operand}
use Rattle.model.specs.declared.Operand.TheVariants.{One, Two, Four, Signed, Index, Mode}

-- A token that stands for a byte, the operands that follow it, and whether it starts a line where it is listed.
pub record Keyword : Type 0 where
  pub spelling : List ℕ
  pub byte : ℕ
  pub operands : List Operand
  pub opens : Bool

-- A spelling in ASCII.
abbrev pub ascii : String → List ℕ
ascii s = table (len s) (λ i. code (char_at s i))

abbrev pub own_line : String → ℕ → List Operand → Keyword
own_line s b operands = record { spelling = ascii s; byte = b; operands = operands; opens = true }

abbrev pub in_line : String → ℕ → List Operand → Keyword
in_line s b operands = record { spelling = ascii s; byte = b; operands = operands; opens = false }

-- The commands of the three texts, with their operands in the order of the bytes.
unfoldable pub keywords : List Keyword
keywords =
    own_line "END" 0x00 [] ∷
    -- program
    own_line "IN" 0x10 (One ∷ Signed ∷ []) ∷
    own_line "EQ" 0x11 (One ∷ Signed ∷ Two ∷ []) ∷
    own_line "LAT" 0x12 (Mode ∷ Two ∷ []) ∷
    in_line "LINK" 0x13 (One ∷ []) ∷
    own_line "CAP" 0x14 (Four ∷ []) ∷
    own_line "TAG" 0x15 (Two ∷ []) ∷
    -- expressions
    in_line "CONST" 0x20 (Signed ∷ []) ∷
    in_line "NOW" 0x21 (One ∷ []) ∷
    in_line "LAST" 0x22 (One ∷ []) ∷
    in_line "WHEN" 0x23 (One ∷ Index ∷ One ∷ []) ∷
    in_line "LASTWHEN" 0x24 (One ∷ Index ∷ One ∷ []) ∷
    in_line "CURRENT" 0x25 (One ∷ Index ∷ One ∷ []) ∷
    in_line "ADD" 0x30 [] ∷
    in_line "SUB" 0x31 [] ∷
    in_line "MUL" 0x32 [] ∷
    in_line "LESS" 0x33 [] ∷
    in_line "SAME" 0x34 [] ∷
    in_line "MIN" 0x35 [] ∷
    in_line "MAX" 0x36 [] ∷
    in_line "NEG" 0x38 [] ∷
    in_line "IF" 0x3A [] ∷
    -- schedule
    own_line "PUT" 0x40 (One ∷ One ∷ []) ∷
    -- script
    own_line "SET" 0x70 (One ∷ Signed ∷ []) ∷
    own_line "RUN" 0x71 (One ∷ []) ∷
    -- the table of request j
    own_line "ROW" 0x16 (Signed ∷ Signed ∷ Signed ∷ []) ∷
    in_line "TABLE" 0x3B [] ∷
    []

-- The tokens besides numbers that stand for an operand.
unfoldable pub names : Operand → List Keyword
names One = []
names Two = []
names Four = []
names Signed = []
names Index = in_line "open" 255 [] ∷ []
names Mode = in_line "exists" 0 [] ∷ in_line "backward" 1 [] ∷ []

-- The refusals of this form.
abbrev pub unknown_token : ℕ
unknown_token = 40

abbrev pub operand_missing : ℕ
operand_missing = 41

abbrev pub no_number : ℕ
no_number = 42

abbrev pub outside_range : ℕ
outside_range = 43

abbrev pub short_buffer : ℕ
short_buffer = 44

abbrev pub unknown_byte : ℕ
unknown_byte = 45

abbrev pub operand_cut : ℕ
operand_cut = 46

abbrev pub too_long : ℕ
too_long = 47

-- Looking up a table: by the spelling, by the byte.
unfoldable pub same_bytes : List ℕ → List ℕ → Bool
same_bytes [] [] = true
same_bytes [] (y ∷ ys) = false
same_bytes (x ∷ xs) [] = false
same_bytes (x ∷ xs) (y ∷ ys) = eqb x y && same_bytes xs ys

abbrev pub keyword_at : List Keyword → ℕ → Keyword
keyword_at ks i = get_or ks i (record { spelling = []; byte = 0; operands = []; opens = false })

unfoldable pub spelled : List ℕ → List Keyword → Option ℕ
spelled token ks = first_below (length ks) (λ i. same_bytes (keyword_at ks i).spelling token)

unfoldable pub coded : ℕ → List Keyword → Option ℕ
coded b ks = first_below (length ks) (λ i. eqb (keyword_at ks i).byte b)

-- How many bytes an operand takes.
abbrev pub size : Operand → ℕ
size One = 1
size Two = 2
size Four = 4
size Signed = 4
size Index = 1
size Mode = 1

-- A number of n bytes from an offset on, low byte first; and its bytes.
unfoldable pub low_at : ℕ → List ℕ → ℕ → ℕ
low_at zero s at = 0
low_at (suc n) s at = byte_at s at + 256 * low_at n s (at + 1)

unfoldable pub low_bytes : ℕ → ℕ → List ℕ
low_bytes zero v = []
low_bytes (suc n) v = v % 256 ∷ low_bytes n (v / 256)

-- LISTING.
-- The token of an operand: its name where it has one, else its number.
abbrev pub is_signed : Operand → Bool
is_signed One = false
is_signed Two = false
is_signed Four = false
is_signed Signed = true
is_signed Index = false
is_signed Mode = false

abbrev pub number_token : Operand → ℕ → List ℕ
number_token o v = cond (is_signed o) (decimal (word_of v)) (natural v)

abbrev pub name_or : List Keyword → List ℕ → Option ℕ → List ℕ
name_or ks token (Some i) = (keyword_at ks i).spelling
name_or ks token None = token

unfoldable pub operand_token : Operand → ℕ → List ℕ
operand_token o v = name_or (names o) (number_token o v) (coded v (names o))

-- What stands at an offset: its token, how many bytes it takes, the operands that are to follow.
pub record Listed : Type 0 where
  pub token : List ℕ
  pub width : ℕ
  pub pending : List Operand
  pub opens : Bool

abbrev pub listed_keyword : ℕ → Option ℕ → Outcome Listed
listed_keyword at (Some i) =
    let k = keyword_at keywords i in
    accepted (record { token = k.spelling; width = 1; pending = k.operands; opens = k.opens })
listed_keyword at None = refuse unknown_byte at

unfoldable pub listed_at : List ℕ → ℕ → List Operand → Outcome Listed
listed_at bytes at [] = listed_keyword at (coded (byte_at bytes at) keywords)
listed_at bytes at (o ∷ os) =
    provided (leb (at + size o) (length bytes)) operand_cut at ▷ λ _.
    accepted (record { token = operand_token o (low_at (size o) bytes at); width = size o; pending = os; opens = false })

-- What separates a token from the one before it: nothing before the first, a newline or a space.
abbrev pub lead : ℕ → Bool → List ℕ
lead at opens = cond (eqb at 0) [] (cond opens (10 ∷ []) (32 ∷ []))

-- The bytes may end where no operand is to follow.
abbrev pub ended : ℕ → ℕ → List Operand → Outcome (List ℕ)
ended number place [] = accepted []
ended number place (o ∷ os) = refuse number place

-- The bytes from `at` on: `left` bytes hold no more than `left` tokens.
unfoldable pub list_from : ℕ → List ℕ → ℕ → List Operand → Outcome (List ℕ)
list_from zero bytes at pending = ended operand_cut at pending
list_from (suc left) bytes at pending =
    elim (ltb at (length bytes)) [
      | true ↦
          listed_at bytes at pending ▷ λ x. list_from left bytes (at + x.width) x.pending ▷ λ text.
          accepted (lead at x.opens ++ (x.token ++ text))
      | false ↦ ended operand_cut at pending
    ]

-- The text of a list of bytes, with a newline at its end.
unfoldable pub listing : List ℕ → Outcome (List ℕ)
listing bytes = list_from (length bytes) bytes 0 [] ▷ λ text. accepted (text ++ (10 ∷ []))

-- TOKENS: separated by space, tab, CR and LF; a comment goes from ';' to the end of its line.
pub record Token : Type 0 where
  pub place : ℕ
  pub spelling : List ℕ

abbrev pub token : ℕ → List ℕ → Token
token place spelling = record { place = place; spelling = spelling }

pub data Class : Type 0 where
  newline : Class
  blank : Class
  semicolon : Class
  other : Class

unfoldable pub class_of : ℕ → Class
class_of b =
    cond (eqb b 10) newline
    (cond (eqb b 32 || eqb b 9 || eqb b 13) blank
    (cond (eqb b 59) semicolon other))

-- Where the reading stands: between tokens, in a comment, within a token that started at a place.
pub data Scan : Type 0 where
  between : Scan
  comment : Scan
  inside : ℕ → List ℕ → Scan

-- After the byte b at `at`.
abbrev pub scanned : ℕ → ℕ → Class → Scan → Scan
scanned at b newline s = between
scanned at b blank between = between
scanned at b blank comment = comment
scanned at b blank (inside start w) = between
scanned at b semicolon s = comment
scanned at b other between = inside at (b ∷ [])
scanned at b other comment = comment
scanned at b other (inside start w) = inside start (w ++ (b ∷ []))

-- The token that a byte or the end of the text ends.
abbrev pub finished : Scan → List Token
finished between = []
finished comment = []
finished (inside start w) = token start w ∷ []

abbrev pub finished_by : Class → Scan → List Token
finished_by newline s = finished s
finished_by blank s = finished s
finished_by semicolon s = finished s
finished_by other s = []

unfoldable pub tokens_from : ℕ → Scan → List ℕ → List Token
tokens_from at s [] = finished s
tokens_from at s (b ∷ bs) = finished_by (class_of b) s ++ tokens_from (suc at) (scanned at b (class_of b) s) bs

-- ASSEMBLING.
-- The number that digits say, from the first on after the value v.
unfoldable pub number_from : ℕ → List ℕ → Option ℕ
number_from v [] = Some v
number_from v (d ∷ ds) = elim (within 48 57 d) [ true ↦ number_from (10 * v + (d - 48)) ds | false ↦ None ]

-- A number: at least one digit, and the first is no 0 where more follow.
unfoldable pub number_of : List ℕ → Option ℕ
number_of [] = None
number_of (d ∷ ds) = cond (eqb d 48 && leb 1 (length ds)) None (number_from 0 (d ∷ ds))

-- A number from `low` on and below `limit`.
unfoldable pub ranged : ℕ → ℕ → ℕ → Option ℕ → Outcome ℕ
ranged place low limit (Some n) = provided (leb low n && ltb n limit) outside_range place ▷ λ _. accepted n
ranged place low limit None = refuse no_number place

-- A word by its bits: '-' and a number up to 2^31, or a number below 2^31.
abbrev pub signed_of : ℕ → List ℕ → Outcome ℕ
signed_of place w =
    cond (eqb (get_or w 0 0) 45)
    (ranged place 1 (2 ^ 31 + 1) (number_of (drop 1 w)) ▷ λ n. accepted (2 ^ 32 - n))
    (ranged place 0 (2 ^ 31) (number_of w))

abbrev pub value_or : List Keyword → Outcome ℕ → Option ℕ → Outcome ℕ
value_or ks value (Some i) = accepted (keyword_at ks i).byte
value_or ks value None = value

-- The value of an operand's token.
unfoldable pub operand_of : Operand → Token → Outcome ℕ
operand_of o t =
    value_or (names o)
    (cond (is_signed o) (signed_of t.place t.spelling) (ranged t.place 0 (256 ^ size o) (number_of t.spelling)))
    (spelled t.spelling (names o))

-- What a token stands for: its bytes, the operands that are to follow.
pub record Assembled : Type 0 where
  pub bytes : List ℕ
  pub pending : List Operand

abbrev pub assembled_keyword : ℕ → Option ℕ → Outcome Assembled
assembled_keyword place (Some i) =
    let k = keyword_at keywords i in accepted (record { bytes = k.byte ∷ []; pending = k.operands })
assembled_keyword place None = refuse unknown_token place

unfoldable pub assembled_of : List Operand → Token → Outcome Assembled
assembled_of [] t = assembled_keyword t.place (spelled t.spelling keywords)
assembled_of (o ∷ os) t = operand_of o t ▷ λ v. accepted (record { bytes = low_bytes (size o) v; pending = os })

unfoldable pub assemble_from : ℕ → List Operand → List Token → Outcome (List ℕ)
assemble_from end pending [] = ended operand_missing end pending
assemble_from end pending (t ∷ ts) =
    assembled_of pending t ▷ λ x. assemble_from end x.pending ts ▷ λ bytes. accepted (x.bytes ++ bytes)

-- The bytes of a text.
unfoldable pub assembly : List ℕ → Outcome (List ℕ)
assembly text = assemble_from (length text) [] (tokens_from 0 between text)

-- The two calls: at most 2^24 bytes are taken; what is written has to fit the buffer; bytes past it stay.
abbrev pub write_job : List ℕ → Outcome (List ℕ) → List ℕ → Outcome (Job ℕ ℕ)
write_job taken o buffer =
    provided (leb (length taken) 16777216) too_long 0 ▷ λ _.
    o ▷ λ written. provided (leb (length written) (length buffer)) short_buffer (length written) ▷ λ _.
    accepted (record { yields = length written; leaves = written ++ drop (length written) buffer })

unfoldable pub assemble_of : List ℕ → List ℕ → Effect ℕ ℕ
assemble_of text buffer = effect buffer (write_job text (assembly text) buffer)

unfoldable pub listing_of : List ℕ → List ℕ → Effect ℕ ℕ
listing_of bytes buffer = effect buffer (write_job bytes (listing bytes) buffer)
