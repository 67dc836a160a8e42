-- The image of an accepted pair and its tail, to the byte.
use Rattle.std.specs.Prelude.{ℕ, ◌+◌, ◌*◌, List, [], ◌∷◌, ◌++◌, length}
use Rattle.model.specs.Rules.Program.{
  Program,
  Signal,
  Body,
  input,
  equation,
  Expr,
  constant,
  read,
  binary,
  unary,
  choose,
  count,
  signal_at,
}
use Rattle.model.specs.Rules.Reads.{rate_of, due}
use Rattle.model.specs.Rules.Schedule.{Schedule, phase_of}
use Rattle.model.specs.Rules.Search.{chosen, table, join_from}
use Rattle.model.specs.Rules.Table.{by_low, table_bytes}
use Rattle.model.specs.Rules.Word.{two_bytes, word_bytes}
use Rattle.model.specs.declared.Binary.{Binary}
use Rattle.model.specs.declared.Binary.TheVariants.{Add, Sub, Mul, Less, Same, Min, Max}
use Rattle.model.specs.declared.Unary.{Unary}
use Rattle.model.specs.declared.Unary.TheVariants.{Negate, Table}

-- Operators as in the text.
abbrev pub binary_byte : Binary → ℕ
binary_byte Add = 0x30
binary_byte Sub = 0x31
binary_byte Mul = 0x32
binary_byte Less = 0x33
binary_byte Same = 0x34
binary_byte Min = 0x35
binary_byte Max = 0x36

abbrev pub unary_byte : Unary → ℕ
unary_byte Negate = 0x38
unary_byte Table = 0x3B

-- The code of an expression: operands first, operator after. 50 PUSH word, 51 LOAD s for every read.
unfoldable pub expr_code : Expr → List ℕ
expr_code (constant w) = 0x50 ∷ word_bytes w
expr_code (read ρ) = 0x51 ∷ ρ.operands.signal ∷ []
expr_code (binary operator x y) = expr_code x ++ (expr_code y ++ (binary_byte operator ∷ []))
expr_code (unary operator x) = expr_code x ++ (unary_byte operator ∷ [])
expr_code (choose x y z) = expr_code x ++ (expr_code y ++ (expr_code z ++ (0x3A ∷ [])))

-- The code of signal x: 52 FETCH x for an input; last 5F STORE x.
abbrev pub signal_code : ℕ → Body → List ℕ
signal_code x input = 0x52 ∷ x ∷ 0x5F ∷ x ∷ []
signal_code x (equation weight e) = expr_code e ++ (0x5F ∷ x ∷ [])

-- Code by signal number.
unfoldable pub codes : Program → List (List ℕ)
codes p = join_from 0 (λ x signal. signal_code x signal.body ∷ []) p.signals

-- The run list of cycle c: one signal byte per run, in PUT order.
unfoldable pub run_list : Program → Schedule → ℕ → List ℕ
run_list p s c = chosen (λ x. due (rate_of p s x) c) s.order

unfoldable pub run_lists : Program → Schedule → ℕ → List (List ℕ)
run_lists p s h = table h (run_list p s)

abbrev pub joined : List (List ℕ) → List ℕ
joined xs = join_from 0 (λ i x. x) xs

-- Where the parts that follow one another from `at` on start, and last where they end.
unfoldable pub offsets : ℕ → List (List ℕ) → List ℕ
offsets at [] = at ∷ []
offsets at (x ∷ xs) = at ∷ offsets (at + length x) xs

-- N records: initial word, code offset.
unfoldable pub records : List Signal → List ℕ → List ℕ
records [] os = []
records (x ∷ xs) [] = []
records (x ∷ xs) (o ∷ os) = word_bytes x.initial ++ (two_bytes o ++ records xs os)

-- Where the record of signal x stands, and where the areas start: head, records, H + 1 offsets of run lists, lists, table,
-- code.
abbrev pub record_at : ℕ → ℕ
record_at x = 4 + 6 * x

abbrev pub offsets_at : ℕ → ℕ
offsets_at n = 4 + 6 * n

abbrev pub lists_at : ℕ → ℕ → ℕ
lists_at n h = 4 + 6 * n + 2 * (h + 1)

unfoldable pub rows_at : Program → Schedule → ℕ → ℕ
rows_at p s h = lists_at (count p) h + length (joined (run_lists p s h))

unfoldable pub codes_at : Program → Schedule → ℕ → ℕ
codes_at p s h = rows_at p s h + length (table_bytes (by_low p.rows))

-- L, the length of the image.
unfoldable pub length_of : Program → Schedule → ℕ → ℕ
length_of p s h = codes_at p s h + length (joined (codes p))

-- L + 4N, the length of an image of n signals with its tail: four bytes a signal.
abbrev pub with_tail : ℕ → ℕ → ℕ
with_tail length n = length + 4 * n

-- Byte 0 H, byte 1 N, bytes 2-3 length L.
unfoldable pub head : Program → Schedule → ℕ → List ℕ
head p s h = h ∷ count p ∷ two_bytes (length_of p s h)

unfoldable pub image_of : Program → Schedule → ℕ → List ℕ
image_of p s h =
    head p s h ++
    (records p.signals (offsets (codes_at p s h) (codes p)) ++
    (join_from 0 (λ i o. two_bytes o) (offsets (lists_at (count p) h) (run_lists p s h)) ++
    (joined (run_lists p s h) ++ (table_bytes (by_low p.rows) ++ joined (codes p)))))

-- The tail, after the L bytes: per signal its label, period and phase (2, 1, 1 bytes).
abbrev pub tail_entry : ℕ → ℕ → ℕ → List ℕ
tail_entry label period phase = two_bytes label ++ (period ∷ phase ∷ [])

unfoldable pub tail_of : Program → Schedule → List ℕ
tail_of p s = joined (table (count p) (λ x. tail_entry (signal_at p x).label (signal_at p x).period (phase_of s x)))

-- What compile writes: the image and its tail, and how many bytes these are.
unfoldable pub written_of : Program → Schedule → ℕ → List ℕ
written_of p s h = image_of p s h ++ tail_of p s

abbrev pub written_length : Program → Schedule → ℕ → ℕ
written_length p s h = with_tail (length_of p s h) (count p)
