-- Any image: whether it is well formed, and what reset and cycle make of it (20 to 23). What is called an image here is the first
-- L bytes of what is lent, with its tail or without (`image_part`).
use Rattle.std.specs.Prelude.{Result, Ok, Err, ℕ, zero, suc, ◌+◌, ◌-◌, ◌*◌, Bool, true, false, cond, ◌&&◌, ◌||◌, List, [], ◌∷◌, ◌++◌, ◌≡◌, leb, ltb, eqb, ℤ, pos, negsuc, length, get_or, take, drop, set}
use Rattle.model.specs.Rules.Cover.{area_ok}
use Rattle.model.specs.Rules.Image.{record_at, offsets_at, lists_at, with_tail}
use Rattle.model.specs.Rules.Outcome.{Outcome, accepted, refused, ◌▷◌, provided}
use Rattle.model.specs.Rules.Search.{all_below, table}
use Rattle.model.specs.Rules.Table.{Row, area_rows, unary_word}
use Rattle.model.specs.Rules.Width.{in_code}
use Rattle.model.specs.Rules.Word.{byte_at, two_at, word_at, binary_word, if_word}
use Rattle.model.specs.declared.Binary.TheVariants as Binary
use Rattle.model.specs.declared.Code.{Code}
use Rattle.model.specs.declared.Code.TheVariants as Code
use Rattle.model.specs.declared.Fault.{Fault}
use Rattle.model.specs.declared.Unary.{Unary}
use Rattle.model.specs.declared.Unary.TheVariants.{Negate, Table}

-- The operators, by their bytes.
unfoldable pub operator_code : ℕ → Code
operator_code b =
    cond (eqb b 0x30) (Code.Binary Binary.Add)
    (cond (eqb b 0x31) (Code.Binary Binary.Sub)
    (cond (eqb b 0x32) (Code.Binary Binary.Mul)
    (cond (eqb b 0x33) (Code.Binary Binary.Less)
    (cond (eqb b 0x34) (Code.Binary Binary.Same)
    (cond (eqb b 0x35) (Code.Binary Binary.Min)
    (cond (eqb b 0x36) (Code.Binary Binary.Max)
    (cond (eqb b 0x38) (Code.Unary Negate)
    (cond (eqb b 0x3A) Code.If
    (cond (eqb b 0x3B) (Code.Unary Table) Code.Unknown)))))))))

abbrev pub whole_code : List ℕ → ℕ → ℕ → Code → Code
whole_code code at n command = cond (leb (at + n) (length code)) command Code.EndsEarly

-- The command at an offset of a code.
unfoldable pub code_at : List ℕ → ℕ → Code
code_at code at =
    cond (ltb at (length code))
    (cond (eqb (byte_at code at) 0x50) (whole_code code at (in_code 0x50) (Code.Push (word_at code (at + 1))))
    (cond (eqb (byte_at code at) 0x51) (whole_code code at (in_code 0x51) (Code.Load (byte_at code (at + 1))))
    (cond (eqb (byte_at code at) 0x52) (whole_code code at (in_code 0x52) (Code.Fetch (byte_at code (at + 1))))
    (cond (eqb (byte_at code at) 0x5F) (whole_code code at (in_code 0x5F) (Code.Store (byte_at code (at + 1))))
    (operator_code (byte_at code at))))))
    Code.EndsEarly

-- The stretch of an image between two offsets.
abbrev pub stretch : List ℕ → ℕ → ℕ → List ℕ
stretch image from to = take (to - from) (drop from image)

-- H, N, L, and the offsets that an image gives.
abbrev pub hyper_of : List ℕ → ℕ
hyper_of image = byte_at image 0

abbrev pub count_of : List ℕ → ℕ
count_of image = byte_at image 1

abbrev pub stated_length : List ℕ → ℕ
stated_length image = two_at image 2

unfoldable pub list_offset : List ℕ → ℕ → ℕ
list_offset image c = two_at image (offsets_at (count_of image) + 2 * c)

-- The table stands where the last list ends: a count byte, then the rows; the code after it.
unfoldable pub table_offset : List ℕ → ℕ
table_offset image = list_offset image (hyper_of image)

abbrev pub row_count : List ℕ → ℕ
row_count image = byte_at image (table_offset image)

abbrev pub rows_in : List ℕ → List Row
rows_in image = area_rows image (table_offset image)

-- The code of signal x ends where the next one starts, the last at the image's end.
unfoldable pub code_offset : List ℕ → ℕ → ℕ
code_offset image x = cond (ltb x (count_of image)) (two_at image (8 + 6 * x)) (length image)

-- The list of cycle c is the stretch between offsets c and c + 1.
unfoldable pub list_of : List ℕ → ℕ → List ℕ
list_of image c = stretch image (list_offset image c) (list_offset image (c + 1))

unfoldable pub code_of : List ℕ → ℕ → List ℕ
code_of image x = stretch image (code_offset image x) (code_offset image (x + 1))

-- TABLE needs rows.
abbrev pub is_served : Bool → Unary → Bool
is_served hasRows Negate = true
is_served hasRows Table = hasRows

-- One command of the code of signal `own` in an image of n signals, with rows or without, where the stack holds `height` words;
-- `next` judges on.
-- Only the codes named; loads below N; it ends with STORE and has no other; FETCH and STORE only of its own signal; the
-- stack is never short or over 32 and holds one word at STORE.
unfoldable pub command_ok : (ℕ → ℕ → Bool) → Bool → ℕ → ℕ → ℕ → ℕ → ℕ → Code → Bool
command_ok next hasRows size n own at height Code.EndsEarly = false
command_ok next hasRows size n own at height Code.Unknown = false
command_ok next hasRows size n own at height (Code.Push w) = ltb height 32 && next (at + in_code 0x50) (height + 1)
command_ok next hasRows size n own at height (Code.Load x) = ltb x n && ltb height 32 && next (at + in_code 0x51) (height + 1)
command_ok next hasRows size n own at height (Code.Fetch x) = eqb x own && ltb height 32 && next (at + in_code 0x52) (height + 1)
command_ok next hasRows size n own at height (Code.Store x) = eqb x own && eqb height 1 && eqb (at + in_code 0x5F) size
command_ok next hasRows size n own at height (Code.Binary operator) = leb 2 height && next (at + in_code 0x30) (height - 1)
command_ok next hasRows size n own at height (Code.Unary operator) =
    is_served hasRows operator && leb 1 height && next (at + in_code 0x38) height
command_ok next hasRows size n own at height Code.If = leb 3 height && next (at + in_code 0x3A) (height - 2)

-- The code from `at` on: `left` bytes hold no more than `left` commands.
unfoldable pub code_ok_from : ℕ → Bool → List ℕ → ℕ → ℕ → ℕ → ℕ → Bool
code_ok_from zero hasRows code n own at height = false
code_ok_from (suc left) hasRows code n own at height =
    command_ok (λ a h. code_ok_from left hasRows code n own a h) hasRows (length code) n own at height (code_at code at)

unfoldable pub code_ok : Bool → List ℕ → ℕ → ℕ → Bool
code_ok hasRows code n own = code_ok_from (length code) hasRows code n own 0 0

-- The image is L bytes; H 1 to 240; N up to 64; the fixed areas are there.
unfoldable pub head_ok : List ℕ → Bool
head_ok image =
    leb 4 (length image) && eqb (stated_length image) (length image) && leb 1 (hyper_of image) && leb (hyper_of image) 240 &&
    leb (count_of image) 64 && leb (lists_at (count_of image) (hyper_of image)) (length image)

-- Every list starts where the one before ended, the first after the offsets; the last ends within the image.
unfoldable pub lists_ok : List ℕ → Bool
lists_ok image =
    eqb (list_offset image 0) (lists_at (count_of image) (hyper_of image)) &&
    all_below (hyper_of image) (λ c. leb (list_offset image c) (list_offset image (c + 1))) &&
    leb (table_offset image) (length image)

-- The table after the lists is well formed, and the code starts where it ends.
unfoldable pub table_ok : List ℕ → Bool
table_ok image = area_ok image (table_offset image) && eqb (code_offset image 0) (table_offset image + 1 + 12 * row_count image)

-- List entries are below N.
unfoldable pub entries_ok : List ℕ → Bool
entries_ok image =
    let start = lists_at (count_of image) (hyper_of image) in
    all_below (table_offset image - start) (λ i. ltb (byte_at image (start + i)) (count_of image))

-- Every code starts where the one before ended, the last ending at L, and is well formed.
unfoldable pub codes_ok : List ℕ → Bool
codes_ok image =
    all_below (count_of image)
    (λ x. leb (code_offset image x) (code_offset image (x + 1)) && leb (code_offset image (x + 1)) (length image) &&
    code_ok (ltb 0 (row_count image)) (code_of image x) (count_of image) x)

-- Well formed.
unfoldable pub well_formed : List ℕ → Bool
well_formed image =
    elim (head_ok image) [
      | true ↦
          elim (lists_ok image) [
            | true ↦ elim (table_ok image) [ true ↦ entries_ok image && codes_ok image | false ↦ false ]
            | false ↦ false
          ]
      | false ↦ false
    ]

-- The image in what is lent: its first L bytes.
unfoldable pub image_part : List ℕ → List ℕ
image_part lent = take (stated_length lent) lent

-- What is lent is exactly L bytes, or exactly L + 4N with the tail, whose bytes may be any.
abbrev pub length_ok : List ℕ → Bool
length_ok lent = eqb (length lent) (stated_length lent) || eqb (length lent) (with_tail (stated_length lent) (count_of lent))

-- It is accepted if its image is well formed besides (20).
unfoldable pub lent_ok : List ℕ → Bool
lent_ok lent = length_ok lent && well_formed (image_part lent)

-- The working stack, its top first; one that is short is left empty.
abbrev pub on_one : (ℤ → ℤ) → List ℤ → List ℤ
on_one f [] = []
on_one f (a ∷ stack) = f a ∷ stack

abbrev pub on_two : (ℤ → ℤ → ℤ) → List ℤ → List ℤ
on_two f [] = []
on_two f (b ∷ []) = []
on_two f (b ∷ (a ∷ stack)) = f a b ∷ stack

abbrev pub on_three : (ℤ → ℤ → ℤ → ℤ) → List ℤ → List ℤ
on_three f [] = []
on_three f (b ∷ []) = []
on_three f (b ∷ (a ∷ [])) = []
on_three f (b ∷ (a ∷ (c ∷ stack))) = f c a b ∷ stack

-- One command; `next` runs on. At STORE the word on top is the one stored.
unfoldable pub run_command : (ℕ → List ℤ → ℤ) → List Row → List ℤ → List ℤ → ℕ → List ℤ → Code → ℤ
run_command next rows state samples at stack Code.EndsEarly = pos 0
run_command next rows state samples at stack Code.Unknown = pos 0
run_command next rows state samples at stack (Code.Push w) = next (at + in_code 0x50) (w ∷ stack)
run_command next rows state samples at stack (Code.Load x) = next (at + in_code 0x51) (get_or state (x + 1) (pos 0) ∷ stack)
run_command next rows state samples at stack (Code.Fetch x) = next (at + in_code 0x52) (get_or samples x (pos 0) ∷ stack)
run_command next rows state samples at stack (Code.Store x) = get_or stack 0 (pos 0)
run_command next rows state samples at stack (Code.Binary operator) = next (at + in_code 0x30) (on_two (binary_word operator) stack)
run_command next rows state samples at stack (Code.Unary operator) = next (at + in_code 0x38)
    (on_one (unary_word rows operator) stack)
run_command next rows state samples at stack Code.If = next (at + in_code 0x3A) (on_three if_word stack)

unfoldable pub run_from : ℕ → List Row → List ℕ → List ℤ → List ℤ → ℕ → List ℤ → ℤ
run_from zero rows code state samples at stack = pos 0
run_from (suc left) rows code state samples at stack =
    run_command (λ a k. run_from left rows code state samples a k) rows state samples at stack (code_at code at)

-- The word that a code stores, in an image with these rows.
unfoldable pub run_code : List Row → List ℕ → List ℤ → List ℤ → ℤ
run_code rows code state samples = run_from (length code) rows code state samples 0 []

-- How many commands a code runs: one for each, up to and with its STORE; `next` counts on.
unfoldable pub count_command : (ℕ → ℕ) → ℕ → Code → ℕ
count_command next at Code.EndsEarly = 0
count_command next at Code.Unknown = 0
count_command next at (Code.Push w) = suc (next (at + in_code 0x50))
count_command next at (Code.Load x) = suc (next (at + in_code 0x51))
count_command next at (Code.Fetch x) = suc (next (at + in_code 0x52))
count_command next at (Code.Store x) = 1
count_command next at (Code.Binary operator) = suc (next (at + in_code 0x30))
count_command next at (Code.Unary operator) = suc (next (at + in_code 0x38))
count_command next at Code.If = suc (next (at + in_code 0x3A))

unfoldable pub count_from : ℕ → List ℕ → ℕ → ℕ
count_from zero code at = 0
count_from (suc left) code at = count_command (λ a. count_from left code a) at (code_at code at)

unfoldable pub count_code : List ℕ → ℕ
count_code code = count_from (length code) code 0

-- The state after the signals of a list have run, in order.
unfoldable pub run_signals : List ℕ → List ℕ → List ℤ → List ℤ → List ℤ
run_signals image [] samples state = state
run_signals image (x ∷ xs) samples state =
    run_signals image xs samples (set state (x + 1) (run_code (rows_in image) (code_of image x) state samples))

-- How many commands the signals of a list run: a signal that stands twice in it counts twice.
unfoldable pub count_signals : List ℕ → List ℕ → ℕ
count_signals image [] = 0
count_signals image (x ∷ xs) = count_code (code_of image x) + count_signals image xs

-- Word 0 is the position, 0 to H − 1.
abbrev pub is_position : ℕ → ℤ → Bool
is_position h (pos c) = ltb c h
is_position h (negsuc c) = false

abbrev pub position_of : ℤ → ℕ
position_of (pos c) = c
position_of (negsuc c) = 0

-- The position moves on by one, from H − 1 to 0.
unfoldable pub next_position : ℕ → ℕ → ℕ
next_position h c = cond (eqb (c + 1) h) 0 (c + 1)

-- 0 in word 0 and each signal's initial word after it; words beyond N stay.
unfoldable pub reset_words : List ℕ → List ℤ → List ℤ
reset_words image state =
    pos 0 ∷ (table (count_of image) (λ x. word_at image (record_at x)) ++ drop (count_of image + 1) state)

-- The code of each signal in the position's list, in order; then the position.
unfoldable pub cycle_words : List ℕ → List ℤ → List ℤ → List ℤ
cycle_words image state samples =
    let c = position_of (get_or state 0 (pos 0)) in
    set (run_signals image (list_of image c) samples state) 0 (pos (next_position (hyper_of image) c))

-- How many commands that list runs.
unfoldable pub cycle_count : List ℕ → List ℤ → ℕ
cycle_count image state = count_signals image (list_of image (position_of (get_or state 0 (pos 0))))

-- What a call answers, and what it leaves in what was lent to it.
pub record Effect (Y A : Type 0) : Type 0 where
  pub answer : Outcome Y
  pub left : List A

-- A call does what a definition says: it answers its answer, and leaves what it leaves.
abbrev pub Does : {Y A : Type 0} → Effect Y A → Outcome Y → List A → Type 0
Does e answer left = (answer ≡ e.answer) × (left ≡ e.left)

-- What a call that does its job yields and leaves.
pub record Job (Y A : Type 0) : Type 0 where
  pub yields : Y
  pub leaves : List A

-- A refused call changes nothing that was lent to it.
abbrev pub effect : {Y A : Type 0} → List A → Outcome (Job Y A) → Effect Y A
effect lent (accepted job) = record { answer = accepted job.yields; left = job.leaves }
effect lent (refused f) = record { answer = refused f; left = lent }

-- What the answers of reset and of cycle stand for.
abbrev pub ran_of : Result (Unit {0}) Fault → Outcome ℕ
ran_of (Ok tt) = accepted 0
ran_of (Err f) = refused f

abbrev pub cycled_of : Result ℕ Fault → Outcome ℕ
cycled_of (Ok n) = accepted n
cycled_of (Err f) = refused f

-- The job of reset.
abbrev pub reset_job : List ℕ → List ℤ → Outcome (Job ℕ ℤ)
reset_job lent state =
    let image = image_part lent in
    provided (lent_ok lent) 20 0 ▷ λ _.
    provided (ltb (count_of image) (length state)) 21 0 ▷ λ _.
    accepted (record { yields = 0; leaves = reset_words image state })

unfoldable pub reset_of : List ℕ → List ℤ → Effect ℕ ℤ
reset_of lent state = effect state (reset_job lent state)

-- The job of cycle, which yields the number of commands that it ran.
abbrev pub cycle_job : List ℕ → List ℤ → List ℤ → Outcome (Job ℕ ℤ)
cycle_job lent state samples =
    let image = image_part lent in
    provided (lent_ok lent) 20 0 ▷ λ _.
    provided (ltb (count_of image) (length state)) 21 0 ▷ λ _.
    provided (is_position (hyper_of image) (get_or state 0 (pos 0))) 22 0 ▷ λ _.
    provided (leb (count_of image) (length samples)) 23 0 ▷ λ _.
    accepted (record { yields = cycle_count image state; leaves = cycle_words image state samples })

unfoldable pub cycle_of : List ℕ → List ℤ → List ℤ → Effect ℕ ℤ
cycle_of lent state samples = effect state (cycle_job lent state samples)
