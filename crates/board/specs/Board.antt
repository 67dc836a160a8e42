-- A board with four places: its record, and what load, mark and turn make of it (21, 23, 26 to 28). Any record, images, state
-- and samples.
use Rattle.std.specs.Prelude.{Option, Some, None, Result, Ok, Err, ℕ, ◌+◌, ◌*◌, ◌%◌, Bool, true, false, cond, List, [], ◌∷◌, ◌++◌, leb, ltb, ℤ, length, get_or, take, drop, set}
use Rattle.model.specs.Rules.Machine.{Effect, stretch, reset_of, cycle_of, cycled_of}
use Rattle.model.specs.Rules.Outcome.{Outcome, accepted, refused, refuse, ◌▷◌, provided}
use Rattle.model.specs.Rules.Search.{first_below}
use Rattle.model.specs.declared.Fault.{Fault}
use Rattle.board.specs.declared.Taken.{Taken}

-- A place: whether it is loaded and due, its stretch of the images, and the number of turns that took it since its load.
pub record Place : Type 0 where
  pub loaded : Bool
  pub due : Bool
  pub start : ℕ
  pub size : ℕ
  pub count : ℕ

-- A record: the places, and the one last taken.
pub record Board : Type 0 where
  pub places : List Place
  pub last : ℕ

-- A place that was never loaded.
abbrev pub vacant : Place
vacant = record { loaded = false; due = false; start = 0; size = 0; count = 0 }

-- The new record: nothing loaded or due, its counts 0, the first turn starting after place 3.
abbrev pub new_board : Board
new_board = record { places = vacant ∷ (vacant ∷ (vacant ∷ (vacant ∷ []))); last = 3 }

abbrev pub place_at : Board → ℕ → Place
place_at b k = get_or b.places k vacant

-- A place's 65 of the state words and 64 of the samples, in place order; and the state with other words for a place.
abbrev pub place_words : ℕ → List ℤ → List ℤ
place_words k state = take 65 (drop (65 * k) state)

abbrev pub place_samples : ℕ → List ℤ → List ℤ
place_samples k samples = take 64 (drop (64 * k) samples)

abbrev pub with_words : ℕ → List ℤ → List ℤ → List ℤ
with_words k state words = take (65 * k) state ++ (words ++ drop 65 (drop (65 * k) state))

-- A count: 32 bits, held at its maximum.
unfoldable pub count_up : ℕ → ℕ
count_up n = cond (ltb n 4294967295) (n + 1) n

-- A place that is loaded with a stretch: not due, its count 0; with its due mark set or cleared; once a turn has taken it.
abbrev pub place_with : ℕ → ℕ → Place
place_with start size = record { loaded = true; due = false; start = start; size = size; count = 0 }

abbrev pub with_due : Bool → Place → Place
with_due d p = record { loaded = p.loaded; due = d; start = p.start; size = p.size; count = p.count }

abbrev pub taken_place : Place → Place
taken_place p = record { loaded = p.loaded; due = false; start = p.start; size = p.size; count = count_up p.count }

-- The record once a place is loaded with a stretch; once it is due; once a turn has taken it.
unfoldable pub loaded_at : Board → ℕ → ℕ → ℕ → Board
loaded_at b k start size = record { places = set b.places k (place_with start size); last = b.last }

unfoldable pub marked_at : Board → ℕ → Board
marked_at b k = record { places = set b.places k (with_due true (place_at b k)); last = b.last }

unfoldable pub taken_at : Board → ℕ → Board
taken_at b k = record { places = set b.places k (taken_place (place_at b k)); last = k }

-- The places in cyclic order after the one last taken, i from 0 to 3, and whether each is due.
abbrev pub place_after : Board → ℕ → ℕ
place_after b i = (b.last + 1 + i) % 4

abbrev pub due_after : Board → ℕ → Bool
due_after b i = (place_at b (place_after b i)).due

abbrev pub place_found : Board → Option ℕ → Option ℕ
place_found b (Some i) = Some (place_after b i)
place_found b None = None

-- The next due place in this order.
unfoldable pub next_due : Board → Option ℕ
next_due b = place_found b (first_below 4 (due_after b))

-- A reset or a cycle on a place's words, its image a stretch of the lent buffer: 27 if the stretch lies outside, else what it
-- makes of the image.
unfoldable pub on_stretch : List ℕ → ℕ → ℕ → List ℤ → (List ℕ → Effect ℕ ℤ) → Effect ℕ ℤ
on_stretch images start size words run =
    cond (leb (start + size) (length images)) (run (stretch images start (start + size)))
    (record { answer = refuse 27 0; left = words })

abbrev pub reset_in : List ℕ → ℕ → ℕ → List ℤ → Effect ℕ ℤ
reset_in images start size words = on_stretch images start size words (λ image. reset_of image words)

abbrev pub cycle_in : List ℕ → ℕ → ℕ → List ℤ → List ℤ → Effect ℕ ℤ
cycle_in images start size words samples = on_stretch images start size words (λ image. cycle_of image words samples)

-- What a call answers, and the record and the state that it leaves.
pub record BoardEffect (A : Type 0) : Type 0 where
  pub answer : Outcome A
  pub board : Board
  pub left : List ℤ

-- What a call that is not refused yields and leaves.
pub record BoardJob (A : Type 0) : Type 0 where
  pub yields : A
  pub leaves : Board
  pub words : List ℤ

-- A refused call changes nothing.
abbrev pub board_effect : {A : Type 0} → Board → List ℤ → Outcome (BoardJob A) → BoardEffect A
board_effect b state (accepted w) = record { answer = accepted w.yields; board = w.leaves; left = w.words }
board_effect b state (refused f) = record { answer = refused f; board = b; left = state }

-- Loading a place resets it and clears its due mark.
unfoldable pub load_of : Board → List ℕ → List ℤ → ℕ → ℕ → ℕ → BoardEffect ℕ
load_of b images state k start size =
    board_effect b state
    (provided (ltb k 4) 26 0 ▷ λ _.
    provided (leb 260 (length state)) 21 0 ▷ λ _.
    let run = reset_in images start size (place_words k state) in
    run.answer ▷ λ n.
    accepted (record { yields = n; leaves = loaded_at b k start size; words = with_words k state run.left }))

-- Marking a loaded place makes it due. No state is lent.
unfoldable pub mark_place_of : Board → ℕ → BoardEffect ℕ
mark_place_of b k =
    board_effect b []
    (provided (ltb k 4) 26 0 ▷ λ _.
    provided (place_at b k).loaded 28 0 ▷ λ _.
    accepted (record { yields = 0; leaves = marked_at b k; words = [] }))

-- What a turn that is not refused yields: idle, as nothing is due; or the place taken, and what its run answers: what a cycle
-- yields, or the refusal 27, 20 or 22.
pub data Yield : Type 0 where
  idle : Yield
  took : ℕ → Outcome ℕ → Yield

-- The run of a place: one cycle of its image, words and samples.
abbrev pub run_in : List ℕ → ℕ → ℕ → List ℤ → List ℤ → ℕ → Effect ℕ ℤ
run_in images start size state samples k = cycle_in images start size (place_words k state) (place_samples k samples)

unfoldable pub run_of : Board → List ℕ → List ℤ → List ℤ → ℕ → Effect ℕ ℤ
run_of b images state samples k = run_in images (place_at b k).start (place_at b k).size state samples k

-- A turn runs the next due place and clears its mark; a run that is refused does the same and leaves the state.
unfoldable pub turn_with : Board → List ℕ → List ℤ → List ℤ → Option ℕ → BoardJob Yield
turn_with b images state samples None = record { yields = idle; leaves = b; words = state }
turn_with b images state samples (Some k) =
    let run = run_of b images state samples k in
    record { yields = took k run.answer; leaves = taken_at b k; words = with_words k state run.left }

unfoldable pub turn_of : Board → List ℕ → List ℤ → List ℤ → BoardEffect Yield
turn_of b images state samples =
    board_effect b state
    (provided (leb 260 (length state)) 21 0 ▷ λ _.
    provided (leb 256 (length samples)) 23 0 ▷ λ _.
    accepted (turn_with b images state samples (next_due b)))

-- What the answer of a turn stands for.
abbrev pub turned_of : Result (Option Taken) Fault → Outcome Yield
turned_of (Ok None) = accepted idle
turned_of (Ok (Some t)) = accepted (took t.place (cycled_of t.run))
turned_of (Err f) = refused f
