-- A list of calls in demand 3 as a whole: what holds of it, the calls that may stand between, and two lists of one program.
use Rattle.std.specs.Prelude.{ℕ, zero, suc, ◌-◌, ◌/◌, ◌≤◌, ◌<◌, List, [], ◌∷◌, ◌++◌, ◌≡◌, ℤ, pos, length, get_or, take, drop}
use Rattle.model.specs.Says.Feasible.{All}
use Rattle.model.specs.Says.Calls.{Call, call_of, logged, after, log_after}
use Rattle.theorems_streams.specs.Held.{answers_of, state_by, log_by, answers_by, Answered, lent_at, IsInput, Supplied, Holds}
use Rattle.model.specs.Rules.Compile.{compile_of}
use Rattle.model.specs.Rules.Join.{join_of}
use Rattle.model.specs.Rules.Machine.{Effect, reset_of}
use Rattle.model.specs.Rules.Outcome.{Outcome, accepted, refused}
use Rattle.model.specs.Rules.Program.{Program, count, signal_at, body_reads}
use Rattle.model.specs.Rules.Reads.{rate_of, run_cycle, settled}
use Rattle.model.specs.Rules.Report.{report_of}
use Rattle.model.specs.Rules.Rewrite.{convert_of}
use Rattle.model.specs.Rules.Schedule.{Schedule, phase_of}
use Rattle.model.specs.Rules.Tail.{Bears}
use Rattle.theorems_streams.specs.Streams.{Satisfies}
use Rattle.model.specs.declared.Fault.{Fault}
use Rattle.model.specs.declared.Index.TheVariants.{Open}

-- What holds of a list of calls, its answers, its log and the state that it leaves: no reset is refused, a cycle exactly when it
-- is lent fewer than N samples (23), and else answers the report's count of its position; and with every streams that satisfy
-- the equations with the inputs that the cycles were lent, the state is what `Holds` says.
pub record Kept (program schedule : List ℕ) (p : Program) (s : Schedule) (h : ℕ) (old : List ℤ) (cs : List Call)
    (answers : List (Outcome ℕ)) (log : List (List ℤ)) (state : List ℤ) : Type 0 where
  pub answered : (counts : List ℕ) → Answered p h (report_of program schedule counts).left 0 cs answers (length log)
  pub holds : (inputs X : ℕ → ℕ → ℤ) → Supplied p s log inputs → Satisfies p (settled p s) inputs X →
      Holds p s h X old (length log) state

-- The same of a list after a reset of `old`, all calls lent `lent`.
abbrev pub KeptBy : List ℕ → List ℕ → Program → Schedule → ℕ → List ℕ → List ℤ → List Call → Type 0
KeptBy program schedule p s h lent old cs =
    Kept program schedule p s h old cs (answers_by lent old cs) (log_by lent old cs) (state_by lent old cs)

-- A stretch of a list: n elements from one on, or those that are left; and what it is with other elements in that place.
abbrev pub part_of : {A : Type 0} → ℕ → ℕ → List A → List A
part_of from n xs = take n (drop from xs)

abbrev pub with_part : {A : Type 0} → ℕ → ℕ → List A → List A → List A
with_part from n part xs = take from xs ++ (part ++ drop n (drop from xs))

-- The calls that are lent bytes to write to.
pub data Writer : Type 0 where
  compiles : (program schedule : List ℕ) → Writer
  converts : (program : List ℕ) → Writer
  joins : (texts numbers links : List ℕ) → Writer

abbrev pub writer_of : List ℕ → Writer → Effect ℕ ℕ
writer_of buffer (compiles program schedule) = compile_of program schedule buffer
writer_of buffer (converts program) = convert_of program buffer
writer_of buffer (joins texts numbers links) = join_of texts numbers links buffer

-- The image's buffer and the state.
pub record Memory : Type 0 where
  pub buffer : List ℕ
  pub state : List ℤ

-- After the reset before a list, lent the first `size` bytes of the buffer and the state `old`.
abbrev pub after_reset : ℕ → List ℕ → List ℤ → Memory
after_reset size buffer old = record { buffer = buffer; state = (reset_of (take size buffer) old).left }

-- A call of another kind that is lent words, as a load or a turn of a board: what it answers and leaves. Refused, it leaves them.
pub record WordsCall : Type 0 where
  pub makes : List ℤ → Effect ℕ ℤ
  pub keeps : (words : List ℤ) (f : Fault) → (makes words).answer ≡ refused f → (makes words).left ≡ words

-- A call of the list, lent the first `size` bytes of the buffer; or one that is lent something else: a reset or cycle with any
-- image, this one or another, and any stretch of this state; a call of another kind with any stretch of this state; a compile,
-- conversion or join with any stretch of the image's own buffer.
pub data Lent : Type 0 where
  own : (size : ℕ) → Call → Lent
  words : (image : List ℕ) (from n : ℕ) → Call → Lent
  called : (from n : ℕ) → WordsCall → Lent
  bytes : (from n : ℕ) → Writer → Lent

-- The calls of the list.
abbrev pub owns : List Lent → List Call
owns [] = []
owns (own size c ∷ ls) = c ∷ owns ls
owns (words image from n c ∷ ls) = owns ls
owns (called from n c ∷ ls) = owns ls
owns (bytes from n w ∷ ls) = owns ls

abbrev pub answer_in : Memory → Lent → Outcome ℕ
answer_in m (own size c) = (call_of (take size m.buffer) m.state c).answer
answer_in m (words image from n c) = (call_of image (part_of from n m.state) c).answer
answer_in m (called from n c) = (c.makes (part_of from n m.state)).answer
answer_in m (bytes from n w) = (writer_of (part_of from n m.buffer) w).answer

abbrev pub left_in : Memory → Lent → Memory
left_in m (own size c) = record { buffer = m.buffer; state = (call_of (take size m.buffer) m.state c).left }
left_in m (words image from n c) =
    record { buffer = m.buffer; state = with_part from n (call_of image (part_of from n m.state) c).left m.state }
left_in m (called from n c) =
    record { buffer = m.buffer; state = with_part from n (c.makes (part_of from n m.state)).left m.state }
left_in m (bytes from n w) =
    record { buffer = with_part from n (writer_of (part_of from n m.buffer) w).left m.buffer; state = m.state }

-- What all of them leave, and of the calls of the list the answers and the log.
abbrev pub left_all : Memory → List Lent → Memory
left_all m [] = m
left_all m (l ∷ ls) = left_all (left_in m l) ls

abbrev pub own_answers : Memory → List Lent → List (Outcome ℕ)
own_answers m [] = []
own_answers m (own size c ∷ ls) = answer_in m (own size c) ∷ own_answers (left_in m (own size c)) ls
own_answers m (words image from n c ∷ ls) = own_answers (left_in m (words image from n c)) ls
own_answers m (called from n c ∷ ls) = own_answers (left_in m (called from n c)) ls
own_answers m (bytes from n w ∷ ls) = own_answers (left_in m (bytes from n w)) ls

abbrev pub own_log : Memory → List (List ℤ) → List Lent → List (List ℤ)
own_log m log [] = log
own_log m log (own size c ∷ ls) = own_log (left_in m (own size c)) (logged c (answer_in m (own size c)) log) ls
own_log m log (words image from n c ∷ ls) = own_log (left_in m (words image from n c)) log ls
own_log m log (called from n c ∷ ls) = own_log (left_in m (called from n c)) log ls
own_log m log (bytes from n w ∷ ls) = own_log (left_in m (bytes from n w)) log ls

-- Every call of the list is lent the image, one with a tail, another without.
abbrev pub OwnsBear : List ℕ → List ℕ → List Lent → Type 0
OwnsBear image buffer [] = Unit {0}
OwnsBear image buffer (own size c ∷ ls) =
    ((tail : List ℕ) × Bears image tail (take size buffer)) × OwnsBear image buffer ls
OwnsBear image buffer (words other from n c ∷ ls) = OwnsBear image buffer ls
OwnsBear image buffer (called from n c ∷ ls) = OwnsBear image buffer ls
OwnsBear image buffer (bytes from n w ∷ ls) = OwnsBear image buffer ls

-- The calls that are lent something else are refused.
abbrev pub OtherRefused : Memory → Lent → Type 0
OtherRefused m (own size c) = Unit {0}
OtherRefused m (words image from n c) = (f : Fault) × (answer_in m (words image from n c) ≡ refused f)
OtherRefused m (called from n c) = (f : Fault) × (answer_in m (called from n c) ≡ refused f)
OtherRefused m (bytes from n w) = (f : Fault) × (answer_in m (bytes from n w) ≡ refused f)

abbrev pub OthersRefused : Memory → List Lent → Type 0
OthersRefused m [] = Unit {0}
OthersRefused m (l ∷ ls) = OtherRefused m l × OthersRefused (left_in m l) ls

-- They change nothing and are no part of the list: the buffer stays, and state, answers and log are those of the list without
-- them, lent the image alone.
pub record AsWithout (image : List ℕ) (m : Memory) (log : List (List ℤ)) (ls : List Lent) : Type 0 where
  pub buffer : (left_all m ls).buffer ≡ m.buffer
  pub state : (left_all m ls).state ≡ after image m.state (owns ls)
  pub answers : own_answers m ls ≡ answers_of image m.state (owns ls)
  pub logs : own_log m log ls ≡ log_after image m.state log (owns ls)

-- Two schedules of one program settle alike: each open read has the same index under both.
abbrev pub SettleAlike : Program → Schedule → Schedule → Type 0
SettleAlike p s s' =
    (x : ℕ) → x < count p →
    All (λ ρ. ρ.operands.index ≡ Open → settled p s x ρ ≡ settled p s' x ρ) (body_reads (signal_at p x).body)

-- The word that a log supplies for element k of input x.
abbrev pub sample : Program → Schedule → List (List ℤ) → ℕ → ℕ → ℤ
sample p s log x k = get_or (lent_at log (run_cycle (rate_of p s x) k)) x (pos 0)

-- The input elements agree wherever both logs supply them.
abbrev pub Agree : Program → Schedule → Schedule → List (List ℤ) → List (List ℤ) → Type 0
Agree p s s' log log' =
    (x k : ℕ) → x < count p → IsInput (signal_at p x).body → run_cycle (rate_of p s x) k < length log →
    run_cycle (rate_of p s' x) k < length log' → sample p s log x k ≡ sample p s' log' x k

-- After c cycles signal x holds entry j of its history: its initial word, element −1, is entry 0, and element k entry k + 1.
abbrev pub EndsWith : Program → Schedule → (c x j : ℕ) → Type 0
EndsWith p s c x zero = c ≤ phase_of s x
EndsWith p s c x (suc k) = (phase_of s x < c) × ((c - 1 - phase_of s x) / (signal_at p x).period ≡ k)

-- A list of calls on an image of each, lent with a tail or without, with input elements that agree wherever both lists supply
-- them: if both end holding one element of signal x, element −1 included, it is the same word.
abbrev pub SameWords : Program → Schedule → Schedule → List ℕ → List ℕ → Type 0
SameWords p s s' image image' =
    (tail tail' lent lent' : List ℕ) → Bears image tail lent → Bears image' tail' lent' → (old old' : List ℤ) →
    (reset_of lent old).answer ≡ accepted 0 → (reset_of lent' old').answer ≡ accepted 0 → (cs cs' : List Call) →
    Agree p s s' (log_by lent old cs) (log_by lent' old' cs') → (x j : ℕ) → x < count p →
    EndsWith p s (length (log_by lent old cs)) x j → EndsWith p s' (length (log_by lent' old' cs')) x j →
    get_or (state_by lent old cs) (suc x) (pos 0) ≡ get_or (state_by lent' old' cs') (suc x) (pos 0)
