-- Request l: where one job may go. What a list of moves is, in the paper's words, and what `moves` promises.
use Rattle.std.specs.Prelude.{ℕ, ◌+◌, ◌*◌, ◌≤◌, ◌<◌, List, ◌↔◌, ◌⊎◌, ◌≡◌, ℤ, length, get_or}
use Rattle.model.specs.Rules.Compile.{Pair, pair_of}
use Rattle.model.specs.Rules.Image.{image_of}
use Rattle.model.specs.Rules.Moves.{Entry, all_entries, moves_of}
use Rattle.model.specs.Rules.Outcome.{accepted, refused}
use Rattle.model.specs.Rules.Program.{Read, Program, count}
use Rattle.model.specs.Rules.Reads.{rate_of, settled}
use Rattle.model.specs.Rules.Report.{report_of}
use Rattle.model.specs.Rules.Schedule.{Schedule, phase_of}
use Rattle.model.specs.Rules.Word.{byte_at, AreBytes}
use Rattle.model.specs.Says.Feasible.{SettlesAt}
use Rattle.model.specs.declared.Fault.{Fault}
use Rattle.model.specs.declared.Index.TheVariants.{Open}
use Rattle.theorems_pairs.specs.Conditions.{◌among◌, ReadIn, LegalPair}
use Rattle.theorems_streams.specs.Lists.{SameWords}
use Rattle.theorems_streams.specs.Streams.{Satisfies}

-- s' is s with only the phase of signal x set to f, and has the same PUT order.
pub record OnlyPhase (p : Program) (s : Schedule) (x f : ℕ) (s' : Schedule) : Type 0 where
  pub order : s'.order ≡ s.order
  pub here : phase_of s' x ≡ f
  pub others : (y : ℕ) → y < count p → ¬ (y ≡ x) → phase_of s' y ≡ phase_of s y

-- The index settled of a read in the equation of r is i.
abbrev pub SettlesIn : Program → Schedule → ℕ → Read → ℕ → Type 0
SettlesIn p s r ρ i =
    SettlesAt ρ.kind (rate_of p s ρ.operands.signal) (rate_of p s r) ρ.operands.factor ρ.operands.index i

-- s' settles each open read as s does.
abbrev pub SettlesAsBefore : Program → Schedule → Schedule → Type 0
SettlesAsBefore p s s' =
    (r : ℕ) (ρ : Read) → ReadIn p r ρ → ρ.operands.index ≡ Open → (i : ℕ) → SettlesIn p s r ρ i ↔ SettlesIn p s' r ρ i

-- Signal x of the pair q may go to phase f: a schedule text that sets only that phase makes a legal pair with the program, which
-- settles each open read as before.
pub record MayGo (program : List ℕ) (q : Pair) (x f : ℕ) : Type 0 where
  pub schedule : List ℕ
  pub pair : Pair
  pub legal : LegalPair program schedule pair
  pub only : OnlyPhase q.program q.schedule x f pair.schedule
  pub alike : SettlesAsBefore q.program q.schedule pair.schedule

abbrev pub move_to : ℕ → ℕ → Entry
move_to x f = record { signal = x; phase = f }

-- By signal, then by phase.
abbrev pub Before : Entry → Entry → Type 0
Before a b = (a.signal < b.signal) ⊎ ((a.signal ≡ b.signal) × (a.phase < b.phase))

-- Entry j of a list, counted from 0.
abbrev pub entry_at : List Entry → ℕ → Entry
entry_at es j = get_or es j (move_to 0 0)

-- Of these entries as many are written as the list has space for whole, each at its two bytes; every other byte stays.
pub record WrittenTo (es : List Entry) (list left : List ℕ) : Type 0 where
  pub long : length left ≡ length list
  pub whole : (j : ℕ) → j < length es → 2 * j + 2 ≤ length list →
      (byte_at left (2 * j) ≡ (entry_at es j).signal) × (byte_at left (2 * j + 1) ≡ (entry_at es j).phase)
  pub rest : (j b : ℕ) → b < 2 → (length es ≤ j) ⊎ (length list < 2 * j + 2) → byte_at left (2 * j + b) ≡ byte_at list (2 * j + b)

-- The list of an accepted pair q: every move, the present phases included, each once, by signal and then by rising phase; the
-- full count is returned.
pub record ListsMoves (program : List ℕ) (q : Pair) (list : List ℕ) (n : ℕ) (left : List ℕ) : Type 0 where
  pub entries : List Entry
  pub exactly : (x f : ℕ) → (move_to x f among entries) ↔ ((x < count q.program) × MayGo program q x f)
  pub present : (x : ℕ) → x < count q.program → move_to x (phase_of q.schedule x) among entries
  pub rising : (i j : ℕ) → i < j → j < length entries → Before (entry_at entries i) (entry_at entries j)
  pub full : n ≡ length entries
  pub left_is : WrittenTo entries list left

-- A pair that is not accepted is refused as by the report, and leaves the list; an accepted one has its moves listed.
pub record MovesExactly (program schedule list : List ℕ) : Type 0 where
  pub refuses : (counts : List ℕ) (f : Fault) →
      ((moves_of program schedule list).answer ≡ refused f) ↔ ((report_of program schedule counts).answer ≡ refused f)
  pub keeps : (f : Fault) → (moves_of program schedule list).answer ≡ refused f → (moves_of program schedule list).left ≡ list
  pub lists : (q : Pair) → LegalPair program schedule q →
      (n : ℕ) × ((moves_of program schedule list).answer ≡ accepted n) ×
      ListsMoves program q list n (moves_of program schedule list).left

pub record RequestL : Type 0 where
  -- List every signal and phase, the present phase included, such that the pair with only that signal's phase set to it and the
  -- same PUT order is accepted and settles each open read as before. As many whole entries as the lent list has space for are
  -- written, the rest of it stays, and the full count is returned. A pair that isn't accepted is refused as by the report.
  pub moves-exactly : (program schedule list : List ℕ) → MovesExactly program schedule list
  -- From the same input elements every listed pair yields the streams of the first ..
  pub moves-streams : (program schedule : List ℕ) (q : Pair) → pair_of program schedule ≡ accepted q → (x f : ℕ) →
      x < count q.program → (m : MayGo program q x f) → (inputs X : ℕ → ℕ → ℤ) →
      let p = q.program in
      Satisfies p (settled p q.schedule) inputs X ↔ Satisfies p (settled p m.pair.schedule) inputs X
  -- .. and its words, where two lists of calls both end holding one element of a signal.
  pub moves-words : (program schedule : List ℕ) (q : Pair) → pair_of program schedule ≡ accepted q → (x f : ℕ) →
      x < count q.program → (m : MayGo program q x f) → AreBytes program →
      let p = q.program in
      let s = q.schedule in
      let s' = m.pair.schedule in
      SameWords p s s' (image_of p s q.hypercycle) (image_of p s' q.hypercycle)
  -- There are at most 64 × 240 moves.
  pub moves-few : (program schedule : List ℕ) (q : Pair) → pair_of program schedule ≡ accepted q →
      length (all_entries program schedule q) ≤ 15360
