-- The examples of paper 01 that are marked m, and some of request j: one table of questions, each with the answer that the paper
-- gives.
use Rattle.std.specs.Prelude.{ℕ, suc, false, List, [], ◌∷◌, ◌++◌, map, ◌≡◌, ℤ, pos, negsuc, length, get_or, replicate}
use Rattle.model.specs.Rules.Search.{table, chosen, join_from}
use Rattle.model.specs.Rules.Word.{neg_word, binary_word, if_word}
use Rattle.model.specs.Rules.Reads.{settled}
use Rattle.model.specs.Rules.Machine.{Effect, code_offset, list_of, hyper_of, count_of, stated_length}
use Rattle.model.specs.Rules.Compile.{pair_of, verdict_of, compile_of, Pair}
use Rattle.model.specs.Rules.Report.{report_of}
use Rattle.model.specs.Says.Calls.{call_of, reset, cycle}
use Rattle.model.specs.Rules.Trial.{trial_of}
use Rattle.model.specs.Rules.Outcome.{Outcome, accepted, refused}
use Rattle.model.specs.Rules.Program.{Program, count, body_reads}
use Rattle.model.specs.declared.Binary.{Binary}
use Rattle.model.specs.declared.Sizes.{Sizes}
use Rattle.model.specs.declared.Binary.TheVariants.{Add, Sub, Mul, Less, Same, Min, Max}
use Rattle.model.specs.Rules.Dependents.{dependents}

-- A question about a program and its schedule, or about an operator.
pub data Question : Type 0 where
  verdict hypercycles indices runs code_offsets size written needs : List ℕ → List ℕ → Question
  -- what compile answers, given the length of its buffer, and what it leaves there
  intoBuffer leaves : List ℕ → List ℕ → ℕ → Question
  -- the words of a signal after each cycle, given the words of input 0
  words : List ℕ → List ℕ → ℕ → List ℤ → Question
  -- the signals that depend on one
  dependent : List ℕ → List ℕ → ℕ → Question
  -- what a trial prints, given the script
  printed : List ℕ → List ℕ → List ℕ → Question
  -- what a reset answers, given what is lent for an image
  resets : List ℕ → Question
  binary : Binary → ℤ → ℤ → Question
  negation : ℤ → Question
  -- IF, given the condition and both operands
  choice : ℤ → ℤ → ℤ → Question

pub data Answer : Type 0 where
  accepts : Answer
  refuses : ℕ → ℕ → Answer
  numbers : List ℕ → Answer
  lists : List (List ℕ) → Answer
  signals : List ℤ → Answer

-- What is asked of an accepted pair, or of its image.
abbrev of_pair : (Pair → Answer) → Outcome Pair → Answer
of_pair f (accepted q) = f q
of_pair f (refused e) = refuses e.number e.place

abbrev of_image : (List ℕ → Answer) → Outcome (List ℕ) → Answer
of_image f (accepted image) = f image
of_image f (refused e) = refuses e.number e.place

abbrev of_compile : Outcome ℕ → Answer
of_compile (accepted n) = numbers (n ∷ [])
of_compile (refused e) = refuses e.number e.place

abbrev of_trial : Outcome (List (List ℕ)) → Answer
of_trial (accepted ls) = lists ls
of_trial (refused e) = refuses e.number e.place

-- The numbers of a report: L, L + 4N, the stack use, and the counts.
abbrev of_answer : List ℕ → Outcome Sizes → Answer
of_answer counts (accepted x) = numbers (x.length ∷ x.written ∷ x.stack ∷ counts)
of_answer counts (refused e) = refuses e.number e.place

abbrev of_report : Effect Sizes ℕ → Answer
of_report r = of_answer r.left r.answer

-- The settled index of every read, from left to right.
abbrev settled_indices : Pair → List ℕ
settled_indices q =
    join_from 0
    (λ r x. join_from 0 (λ i ρ. settled q.program q.schedule r ρ ∷ []) (body_reads x.body))
    q.program.signals

-- The words of a signal after each of some cycles, in which word 0 of the samples is given.
abbrev words_from : List ℕ → List ℤ → ℕ → List ℤ → List ℤ
words_from image state x [] = []
words_from image state x (w ∷ ws) =
    let next = (call_of image state (cycle (w ∷ replicate 63 (pos 0)))).left in
    get_or next (suc x) (pos 0) ∷ words_from image next x ws

-- The signals that depend on signal i.
abbrev dependent_signals : Program → ℕ → List ℕ
dependent_signals p i = chosen (λ y. get_or (dependents p i) y false) (table (count p) (λ y. y))

abbrev pub answer_to : Question → Answer
answer_to (verdict program schedule) = of_image (λ image. accepts) (verdict_of program schedule)
answer_to (hypercycles program schedule) = of_pair (λ q. numbers (q.hypercycle ∷ [])) (pair_of program schedule)
answer_to (indices program schedule) = of_pair (λ q. numbers (settled_indices q)) (pair_of program schedule)
answer_to (runs program schedule) =
    of_image (λ image. lists (table (hyper_of image) (list_of image))) (verdict_of program schedule)
answer_to (code_offsets program schedule) =
    of_image (λ image. numbers (table (count_of image) (code_offset image))) (verdict_of program schedule)
answer_to (size program schedule) =
    of_image (λ image. numbers (stated_length image ∷ length image ∷ [])) (verdict_of program schedule)
answer_to (written program schedule) = of_image (λ bytes. numbers bytes) (verdict_of program schedule)
answer_to (intoBuffer program schedule n) = of_compile (compile_of program schedule (replicate n 7)).answer
answer_to (leaves program schedule n) = numbers (compile_of program schedule (replicate n 7)).left
answer_to (needs program schedule) = of_report (report_of program schedule [])
answer_to (words program schedule x inputs) =
    of_image (λ image. signals (words_from image (call_of image (replicate 65 (pos 9)) reset).left x inputs))
    (verdict_of program schedule)
answer_to (dependent program schedule i) =
    of_pair (λ q. numbers (dependent_signals q.program i)) (pair_of program schedule)
answer_to (printed program schedule text) = of_trial (trial_of program schedule text)
answer_to (resets lent) = of_compile (call_of lent (replicate 65 (pos 0)) reset).answer
answer_to (binary operator a b) = signals (binary_word operator a b ∷ [])
answer_to (negation a) = signals (neg_word a ∷ [])
answer_to (choice c a b) = signals (if_word c a b ∷ [])

-- Program A without its END, with what is added before END, and its schedule.
abbrev open-A : List ℕ
open-A =
    0x10 ∷ 0x01 ∷ 0x00 ∷ 0x00 ∷ 0x00 ∷ 0x00 ∷
    0x11 ∷ 0x02 ∷ 0x05 ∷ 0x00 ∷ 0x00 ∷ 0x00 ∷ 0x03 ∷ 0x00 ∷ 0x23 ∷ 0x00 ∷ 0x01 ∷ 0x02 ∷
    0x11 ∷ 0x01 ∷ 0x00 ∷ 0x00 ∷ 0x00 ∷ 0x00 ∷ 0x01 ∷ 0x00 ∷ 0x30 ∷ 0x25 ∷ 0x01 ∷ 0xFF ∷ 0x02 ∷ 0x22 ∷ 0x02 ∷ []

abbrev A-with : List ℕ → List ℕ
A-with more = open-A ++ (more ++ (0x00 ∷ []))

abbrev pub A : List ℕ
A = A-with []

-- Its image from before request j, without its tail: 48 bytes, no table.
abbrev former-A : List ℕ
former-A =
    2 ∷ 3 ∷ 48 ∷ 0 ∷ 0 ∷ 0 ∷ 0 ∷ 0 ∷ 33 ∷ 0 ∷ 5 ∷ 0 ∷ 0 ∷ 0 ∷ 37 ∷ 0 ∷ 0 ∷ 0 ∷ 0 ∷ 0 ∷ 41 ∷ 0 ∷ 28 ∷ 0 ∷ 30 ∷ 0 ∷ 33 ∷ 0 ∷
    0 ∷ 2 ∷ 0 ∷ 1 ∷ 2 ∷
    0x52 ∷ 0 ∷ 0x5F ∷ 0 ∷ 0x51 ∷ 0 ∷ 0x5F ∷ 1 ∷ 0x51 ∷ 1 ∷ 0x51 ∷ 2 ∷ 0x30 ∷ 0x5F ∷ 2 ∷ []

abbrev pub in_order : List ℕ
in_order = 0x40 ∷ 0 ∷ 0 ∷ 0x40 ∷ 1 ∷ 1 ∷ 0x40 ∷ 2 ∷ 0 ∷ 0x00 ∷ []

abbrev other-order : List ℕ
other-order = 0x40 ∷ 1 ∷ 1 ∷ 0x40 ∷ 0 ∷ 0 ∷ 0x40 ∷ 2 ∷ 0 ∷ 0x00 ∷ []

abbrev cap : ℕ → List ℕ
cap n = 0x14 ∷ n ∷ 0 ∷ 0 ∷ 0 ∷ []

-- The chain 0, 1, 2 in a mode with a bound.
abbrev chain : ℕ → ℕ → List ℕ
chain mode bound = 0x12 ∷ mode ∷ bound ∷ 0 ∷ 0x13 ∷ 0 ∷ 0x13 ∷ 1 ∷ 0x13 ∷ 2 ∷ []

-- One more input.
abbrev one_input : List ℕ
one_input = 0x10 ∷ 1 ∷ 0 ∷ 0 ∷ 0 ∷ 0 ∷ []

-- An input, a signal that adds 5 to itself, and one that reads the input; all put at phase 0.
abbrev battery-and-arc : List ℕ
battery-and-arc =
    0x10 ∷ 1 ∷ 0 ∷ 0 ∷ 0 ∷ 0 ∷
    0x11 ∷ 1 ∷ 0 ∷ 0 ∷ 0 ∷ 0 ∷ 0 ∷ 0 ∷ 0x30 ∷ 0x22 ∷ 1 ∷ 0x20 ∷ 5 ∷ 0 ∷ 0 ∷ 0 ∷
    0x11 ∷ 1 ∷ 0 ∷ 0 ∷ 0 ∷ 0 ∷ 0 ∷ 0 ∷ 0x21 ∷ 0 ∷ 0x00 ∷ []

abbrev all-at-once : List ℕ
all-at-once = 0x40 ∷ 0 ∷ 0 ∷ 0x40 ∷ 1 ∷ 0 ∷ 0x40 ∷ 2 ∷ 0 ∷ 0x00 ∷ []

-- Two inputs of given periods.
abbrev two-inputs : ℕ → ℕ → List ℕ
two-inputs a b = 0x10 ∷ a ∷ 0 ∷ 0 ∷ 0 ∷ 0 ∷ 0x10 ∷ b ∷ 0 ∷ 0 ∷ 0 ∷ 0 ∷ 0x00 ∷ []

-- An input, and an equation that is one read of it with the index byte i and n = 2.
abbrev one-read : ℕ → ℕ → ℕ → ℕ → List ℕ
one-read command input-period equation-period i =
    0x10 ∷ input-period ∷ 0 ∷ 0 ∷ 0 ∷ 0 ∷
    0x11 ∷ equation-period ∷ 0 ∷ 0 ∷ 0 ∷ 0 ∷ 0 ∷ 0 ∷ command ∷ 0 ∷ i ∷ 2 ∷ 0x00 ∷ []

-- The same with the index byte 0 and n = 1.
abbrev single-read : ℕ → List ℕ
single-read command =
    0x10 ∷ 1 ∷ 0 ∷ 0 ∷ 0 ∷ 0 ∷ 0x11 ∷ 1 ∷ 0 ∷ 0 ∷ 0 ∷ 0 ∷ 0 ∷ 0 ∷ command ∷ 0 ∷ 0 ∷ 1 ∷ 0x00 ∷ []

-- Signal 0 put before signal 1, at given phases.
abbrev at-phases : ℕ → ℕ → List ℕ
at-phases a b = 0x40 ∷ 0 ∷ a ∷ 0x40 ∷ 1 ∷ b ∷ 0x00 ∷ []

-- Rows of the words from 0 on and of those below 0, with the results 9 and 7.
abbrev upper : List ℕ
upper = 0x16 ∷ 0 ∷ 0 ∷ 0 ∷ 0 ∷ 0xFF ∷ 0xFF ∷ 0xFF ∷ 0x7F ∷ 9 ∷ 0 ∷ 0 ∷ 0 ∷ []

abbrev lower : List ℕ
lower = 0x16 ∷ 0 ∷ 0 ∷ 0 ∷ 0x80 ∷ 0xFF ∷ 0xFF ∷ 0xFF ∷ 0xFF ∷ 7 ∷ 0 ∷ 0 ∷ 0 ∷ []

-- An input, an equation that looks it up, and rows.
abbrev looks-up : List ℕ → List ℕ
looks-up more =
    0x10 ∷ 1 ∷ 0 ∷ 0 ∷ 0 ∷ 0 ∷ 0x11 ∷ 1 ∷ 0 ∷ 0 ∷ 0 ∷ 0 ∷ 0 ∷ 0 ∷ 0x3B ∷ 0x21 ∷ 0 ∷ (more ++ (0x00 ∷ []))

-- SET of signal x to a small word, and a RUN.
abbrev set_to : ℕ → ℕ → List ℕ
set_to x w = 0x70 ∷ x ∷ w ∷ 0 ∷ 0 ∷ 0 ∷ []

abbrev run-for : ℕ → List ℕ
run-for n = 0x71 ∷ n ∷ []

abbrev end : List ℕ
end = 0x00 ∷ []

pub record Case : Type 0 where
  pub question : Question
  pub answer : Answer

infix 5 ◌gives◌
abbrev ◌gives◌ : Question → Answer → Case
q gives a = record { question = q; answer = a }

abbrev pub cases : List Case
cases =
    -- accepted; H 2; open index 1; run lists 0,2 and 0,1,2; code offsets 34, 38, 42; L = 49
    (verdict A in_order gives accepts) ∷
    (hypercycles A in_order gives numbers (2 ∷ [])) ∷
    (indices A in_order gives numbers (1 ∷ 1 ∷ 0 ∷ [])) ∷
    (runs A in_order gives lists ((0 ∷ 2 ∷ []) ∷ (0 ∷ 1 ∷ 2 ∷ []) ∷ [])) ∷
    (code_offsets A in_order gives numbers (34 ∷ 38 ∷ 42 ∷ [])) ∷
    (size A in_order gives numbers (49 ∷ 61 ∷ [])) ∷
    -- a buffer of 48: 17, place 61, with the tail (requests f, j)
    (intoBuffer A in_order 48 gives refuses 17 61) ∷
    -- its bytes: the head; the records; the offsets and the lists; the count byte; the codes; the tail; then the buffer's own
    (leaves A in_order 62 gives
    numbers (
    2 ∷ 3 ∷ 49 ∷ 0 ∷
    0 ∷ 0 ∷ 0 ∷ 0 ∷ 34 ∷ 0 ∷ 5 ∷ 0 ∷ 0 ∷ 0 ∷ 38 ∷ 0 ∷ 0 ∷ 0 ∷ 0 ∷ 0 ∷ 42 ∷ 0 ∷
    28 ∷ 0 ∷ 30 ∷ 0 ∷ 33 ∷ 0 ∷ 0 ∷ 2 ∷ 0 ∷ 1 ∷ 2 ∷
    0 ∷
    0x52 ∷ 0 ∷ 0x5F ∷ 0 ∷ 0x51 ∷ 0 ∷ 0x5F ∷ 1 ∷ 0x51 ∷ 1 ∷ 0x51 ∷ 2 ∷ 0x30 ∷ 0x5F ∷ 2 ∷
    0 ∷ 0 ∷ 1 ∷ 0 ∷ 0 ∷ 0 ∷ 2 ∷ 1 ∷ 0 ∷ 0 ∷ 1 ∷ 0 ∷
    7 ∷ []
    )) ∷
    -- the report: L 49, 61 with the tail, stack 2, and 6, 8 commands in its two cycles (requests a, f)
    (needs A in_order gives numbers (49 ∷ 61 ∷ 2 ∷ 6 ∷ 8 ∷ replicate 238 0)) ∷
    -- inputs 10, 11, 12, 13: signal 2 is 5, 16, 27, 40
    (words A in_order 2 (pos 10 ∷ pos 11 ∷ pos 12 ∷ pos 13 ∷ []) gives signals (pos 5 ∷ pos 16 ∷ pos 27 ∷ pos 40 ∷ [])) ∷
    -- input 0 reaches signal 1, and through it signal 2; one more input reaches none (request m)
    (dependent A in_order 0 gives numbers (1 ∷ 2 ∷ [])) ∷
    (dependent (A-with one_input) (0x40 ∷ 3 ∷ 0 ∷ in_order) 3 gives numbers []) ∷
    (dependent (A-with one_input) (0x40 ∷ 3 ∷ 0 ∷ in_order) 0 gives numbers (1 ∷ 2 ∷ [])) ∷
    -- the input reaches its reader, signal 2, and leaves signal 1 as it is: with 10, 11 as with 90, 91 it is 5, 10
    (dependent battery-and-arc all-at-once 0 gives numbers (2 ∷ [])) ∷
    (words battery-and-arc all-at-once 1 (pos 10 ∷ pos 11 ∷ []) gives signals (pos 5 ∷ pos 10 ∷ [])) ∷
    (words battery-and-arc all-at-once 1 (pos 90 ∷ pos 91 ∷ []) gives signals (pos 5 ∷ pos 10 ∷ [])) ∷
    (words battery-and-arc all-at-once 2 (pos 90 ∷ pos 91 ∷ []) gives signals (pos 90 ∷ pos 91 ∷ [])) ∷
    -- RUN 1 after each SET of 10, 11, 12: `0 10 5 5`, `1 11 11 16`, `2 12 11 27` (request e)
    (printed A in_order (set_to 0 10 ++ run-for 1 ++ set_to 0 11 ++ run-for 1 ++ set_to 0 12 ++ run-for 1 ++ end) gives
    lists ((48 ∷ 32 ∷ 49 ∷ 48 ∷ 32 ∷ 53 ∷ 32 ∷ 53 ∷ 10 ∷ []) ∷ (49 ∷ 32 ∷ 49 ∷ 49 ∷ 32 ∷ 49 ∷ 49 ∷ 32 ∷ 49 ∷ 54 ∷ 10 ∷ []) ∷
    (50 ∷ 32 ∷ 49 ∷ 50 ∷ 32 ∷ 49 ∷ 49 ∷ 32 ∷ 50 ∷ 55 ∷ 10 ∷ []) ∷ [])) ∷
    -- cut, unknown, after END; SET of no input and of no signal; 24 anywhere before 25
    (printed A in_order [] gives refuses 24 0) ∷
    (printed A in_order (set_to 0 1 ++ (0x71 ∷ [])) gives refuses 24 7) ∷
    (printed A in_order (run-for 1 ++ (0x72 ∷ [])) gives refuses 24 2) ∷
    (printed A in_order (run-for 1 ++ end ++ end) gives refuses 24 3) ∷
    (printed A in_order (run-for 1 ++ set_to 1 0 ++ end) gives refuses 25 2) ∷
    (printed A in_order (set_to 3 0 ++ end) gives refuses 25 0) ∷
    (printed A in_order (set_to 1 0 ++ (5 ∷ [])) gives refuses 24 6) ∷
    -- signals 1 and 0 put in the other order: 14, place 14
    (verdict A other-order gives refuses 14 14) ∷
    -- CAP 4 accepted; CAP 3 refused 15, place 1
    (verdict (A-with (cap 4)) in_order gives accepts) ∷
    (verdict (A-with (cap 3)) in_order gives refuses 15 1) ∷
    -- chain 0, 1, 2: backward 2 accepted, 1 refused 16 at the LAT; exists 1 accepted, 0 refused 16 (request c)
    (verdict (A-with (chain 1 2)) in_order gives accepts) ∷
    (verdict (A-with (chain 1 1)) in_order gives refuses 16 33) ∷
    (verdict (A-with (chain 0 1)) in_order gives accepts) ∷
    (verdict (A-with (chain 0 0)) in_order gives refuses 16 33) ∷
    -- periods 15 and 16 give H 240; 16 and 17 refused 9
    (hypercycles (two-inputs 15 16) (at-phases 0 0) gives numbers (240 ∷ [])) ∷
    (verdict (two-inputs 16 17) (at-phases 0 0) gives refuses 9 0) ∷
    -- WHEN i = 0, n = 2, P_w 2, p_w 1, w put first: p_r 1 and 2 accepted, 0 and 3 refused 14
    (verdict (one-read 0x23 2 4 0) (at-phases 1 0) gives refuses 14 14) ∷
    (verdict (one-read 0x23 2 4 0) (at-phases 1 1) gives accepts) ∷
    (verdict (one-read 0x23 2 4 0) (at-phases 1 2) gives accepts) ∷
    (verdict (one-read 0x23 2 4 0) (at-phases 1 3) gives refuses 14 14) ∷
    -- open CURRENT, P_w 4, p_w 3, P_r 2, w put first: p_r 1 settles i = 1; p_r 0 refused 14
    (indices (one-read 0x25 4 2 255) (at-phases 3 1) gives numbers (1 ∷ [])) ∷
    (verdict (one-read 0x25 4 2 255) (at-phases 3 0) gives refuses 14 14) ∷
    -- n = 1 in WHEN, LASTWHEN and CURRENT: 5 at the read (request g)
    (verdict (single-read 0x23) (at-phases 0 0) gives refuses 5 14) ∷
    (verdict (single-read 0x24) (at-phases 0 0) gives refuses 5 14) ∷
    (verdict (single-read 0x25) (at-phases 0 0) gives refuses 5 14) ∷
    -- 2147483647 ADD 1, NEG of −2147483648 and 65536 MUL 65536 are 2147483647 (request d)
    (binary Add (pos 2147483647) (pos 1) gives signals (pos 2147483647 ∷ [])) ∷
    (negation (negsuc 2147483647) gives signals (pos 2147483647 ∷ [])) ∷
    (binary Mul (pos 65536) (pos 65536) gives signals (pos 2147483647 ∷ [])) ∷
    -- 0 SUB −2147483648 and −1 SUB it are 2147483647: SUB is not ADD of NEG, which gives 2147483646 for the second
    (binary Sub (pos 0) (negsuc 2147483647) gives signals (pos 2147483647 ∷ [])) ∷
    (binary Sub (negsuc 0) (negsuc 2147483647) gives signals (pos 2147483647 ∷ [])) ∷
    -- −1 is LESS than 0, and 0 is not LESS than −1 or than itself; SAME; MIN and MAX of −1 and 0
    (binary Less (negsuc 0) (pos 0) gives signals (pos 1 ∷ [])) ∷
    (binary Less (pos 0) (negsuc 0) gives signals (pos 0 ∷ [])) ∷
    (binary Less (pos 0) (pos 0) gives signals (pos 0 ∷ [])) ∷
    (binary Same (negsuc 0) (negsuc 0) gives signals (pos 1 ∷ [])) ∷
    (binary Same (negsuc 0) (pos 0) gives signals (pos 0 ∷ [])) ∷
    (binary Min (negsuc 0) (pos 0) gives signals (negsuc 0 ∷ [])) ∷
    (binary Max (negsuc 0) (pos 0) gives signals (pos 0 ∷ [])) ∷
    -- IF takes the second operand for −1, and the third for 0
    (choice (negsuc 0) (pos 5) (pos 6) gives signals (pos 5 ∷ [])) ∷
    (choice (pos 0) (pos 5) (pos 6) gives signals (pos 6 ∷ [])) ∷
    -- request j: the result of the row that contains the word, both ends included
    (words (looks-up (upper ++ lower)) (at-phases 0 0) 1 (negsuc 0 ∷ pos 0 ∷ pos 2147483647 ∷ []) gives
    signals (pos 7 ∷ pos 9 ∷ pos 9 ∷ [])) ∷
    -- its image: the table after the lists, by rising low, each row low, high, result; the tail
    (written (looks-up (upper ++ lower)) (at-phases 0 0) gives
    numbers (
    1 ∷ 2 ∷ 56 ∷ 0 ∷ 0 ∷ 0 ∷ 0 ∷ 0 ∷ 47 ∷ 0 ∷ 0 ∷ 0 ∷ 0 ∷ 0 ∷ 51 ∷ 0 ∷ 20 ∷ 0 ∷ 22 ∷ 0 ∷ 0 ∷ 1 ∷
    2 ∷ 0 ∷ 0 ∷ 0 ∷ 0x80 ∷ 0xFF ∷ 0xFF ∷ 0xFF ∷ 0xFF ∷ 7 ∷ 0 ∷ 0 ∷ 0 ∷
    0 ∷ 0 ∷ 0 ∷ 0 ∷ 0xFF ∷ 0xFF ∷ 0xFF ∷ 0x7F ∷ 9 ∷ 0 ∷ 0 ∷ 0 ∷
    0x52 ∷ 0 ∷ 0x5F ∷ 0 ∷ 0x51 ∷ 0 ∷ 0x3B ∷ 0x5F ∷ 1 ∷ 0 ∷ 0 ∷ 1 ∷ 0 ∷ 0 ∷ 0 ∷ 1 ∷ 0 ∷ []
    )) ∷
    -- an image from before
    (resets former-A gives refuses 20 0) ∷
    -- 30 for a gap, for a TABLE without rows and a ROW without a TABLE
    (verdict (looks-up upper) (at-phases 0 0) gives refuses 30 0) ∷
    (verdict (looks-up []) (at-phases 0 0) gives refuses 30 0) ∷
    (verdict (A-with upper) in_order gives refuses 30 0) ∷
    -- 29 at the first ROW that meets an earlier one; 5 before the result is looked for
    (verdict (looks-up (upper ++ lower ++ upper)) (at-phases 0 0) gives refuses 29 43) ∷
    (verdict (looks-up (0x16 ∷ 1 ∷ 0 ∷ 0 ∷ 0 ∷ 0 ∷ 0 ∷ 0 ∷ 0 ∷ [])) (at-phases 0 0) gives refuses 5 17) ∷
    []

-- The definitions answer every question of the table as the paper does.
abbrev pub ExamplesHold : Type 0
ExamplesHold = map (λ c. answer_to c.question) cases ≡ map (λ c. c.answer) cases
