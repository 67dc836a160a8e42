-- The board's record as an array of 17 numbers, and a turn's outcome as three, for a C caller.
use Rattle.std.specs.Prelude.{Option, ℕ, ◌+◌, ◌-◌, ◌*◌, ◌/◌, ◌%◌, Bool, List, [], ◌∷◌, eqb, get_or, set}
use Rattle.model.specs.Rules.Outcome.{Outcome, accepted, refused}
use Rattle.model.specs.Rules.Search.{first_from}
use Rattle.board.specs.Board.{count_up, place_at, Yield, idle, took}
use Rattle.board.specs.Board.{Board}
use Rattle.board.specs.Board.{Place}

-- The flags of a place: 1 loaded, 2 due.
abbrev pub loaded_in : ℕ → Bool
loaded_in flags = eqb (flags % 2) 1

abbrev pub due_in : ℕ → Bool
due_in flags = eqb (flags / 2 % 2) 1

abbrev pub place_from : ℕ → ℕ → ℕ → ℕ → Place
place_from flags start size count =
    record { loaded = loaded_in flags; due = due_in flags; start = start; size = size; count = count % 4294967296 }

-- Flags, start, size and count of each place in place order; then the place last taken. Any numbers are a record.
unfoldable pub board_of : List ℕ → Board
board_of w =
    record {
      places =
          place_from (get_or w 0 0) (get_or w 1 0) (get_or w 2 0) (get_or w 3 0) ∷
          (place_from (get_or w 4 0) (get_or w 5 0) (get_or w 6 0) (get_or w 7 0) ∷
          (place_from (get_or w 8 0) (get_or w 9 0) (get_or w 10 0) (get_or w 11 0) ∷
          (place_from (get_or w 12 0) (get_or w 13 0) (get_or w 14 0) (get_or w 15 0) ∷ [])));
      last = get_or w 16 0;
    }

-- The array of a new record.
abbrev pub new_words : List ℕ
new_words =
    0 ∷ (0 ∷ (0 ∷ (0 ∷ (0 ∷ (0 ∷ (0 ∷ (0 ∷ (0 ∷ (0 ∷ (0 ∷ (0 ∷ (0 ∷ (0 ∷ (0 ∷ (0 ∷ (3 ∷ []))))))))))))))))

-- The first due place from one on.
abbrev pub first_due : Board → ℕ → Option ℕ
first_due b from = first_from from (4 - from) (λ k. (place_at b k).due)

-- The array once a place is loaded with a stretch; once it is due; once a turn has taken it. The numbers of other places stay.
unfoldable pub loaded_words : List ℕ → ℕ → ℕ → ℕ → List ℕ
loaded_words w k start size = set (set (set (set w (4 * k) 1) (4 * k + 1) start) (4 * k + 2) size) (4 * k + 3) 0

abbrev pub marked_words : List ℕ → ℕ → List ℕ
marked_words w k = set w (4 * k) 3

abbrev pub count_in : ℕ → ℕ
count_in count = count_up (count % 4294967296)

unfoldable pub taken_words : List ℕ → ℕ → List ℕ
taken_words w k = set (set (set w (4 * k) (get_or w (4 * k) 0 % 2)) (4 * k + 3) (count_in (get_or w (4 * k + 3) 0))) 16 k

-- The array after a call: a refused call and an idle turn leave it as it was.
abbrev pub load_record : List ℕ → ℕ → ℕ → ℕ → Outcome ℕ → List ℕ
load_record w k start size (accepted n) = loaded_words w k start size
load_record w k start size (refused f) = w

abbrev pub mark_record : List ℕ → ℕ → Outcome ℕ → List ℕ
mark_record w k (accepted n) = marked_words w k
mark_record w k (refused f) = w

abbrev pub turn_record : List ℕ → Outcome Yield → List ℕ
turn_record w (accepted idle) = w
turn_record w (accepted (took k o)) = taken_words w k
turn_record w (refused f) = w

-- Of what a turn answers: done, or the refusal.
abbrev pub turn_done : Outcome Yield → Outcome ℕ
turn_done (accepted y) = accepted 0
turn_done (refused f) = refused f

-- The outcome of a turn as three numbers: 0 0 0 idle; 1, the place and the commands that it ran; 2, the place and the number
-- of its run's refusal. A refused turn leaves what was there.
abbrev pub run_outcome : ℕ → Outcome ℕ → List ℕ
run_outcome k (accepted n) = 1 ∷ (k ∷ (n ∷ []))
run_outcome k (refused f) = 2 ∷ (k ∷ (f.number ∷ []))

abbrev pub outcome_in : List ℕ → Outcome Yield → List ℕ
outcome_in old (accepted idle) = 0 ∷ (0 ∷ (0 ∷ []))
outcome_in old (accepted (took k o)) = run_outcome k o
outcome_in old (refused f) = old
