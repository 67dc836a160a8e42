-- Parts joined with links: what a link has to name, when its read is met, the equations of all parts and links together, and the
-- refusals of a join, in the paper's words.
use Rattle.std.specs.Prelude.{Option, Some, None, ℕ, suc, ◌+◌, ◌*◌, ◌≤◌, ◌<◌, cond, ◌&&◌, List, [], ◌∷◌, ◌⊎◌, ◌≡◌, eqb, ℤ, length}
use Rattle.model.specs.Rules.Compile.{Pair}
use Rattle.model.specs.Rules.Join.{
  PartTexts,
  parts_in,
  texts_at,
  program_total,
  program_text,
  schedule_text,
  link_at,
  links_of,
}
use Rattle.model.specs.Rules.Load.{load}
use Rattle.model.specs.Rules.Outcome.{fault}
use Rattle.model.specs.Rules.Parts.{Part, base, part_at, PartLink, joined_pair}
use Rattle.model.specs.Rules.Program.{Program, Signal, count, signal_at, body_lookups}
use Rattle.model.specs.Rules.Reads.{settled}
use Rattle.model.specs.Rules.Schedule.{phase_of}
use Rattle.model.specs.Says.Feasible.{All, Feasible, Multiple, Least}
use Rattle.model.specs.declared.Fault.{Fault}
use Rattle.theorems_pairs.specs.Conditions.{◌among◌, Over, LegalPair}
use Rattle.theorems_streams.specs.Held.{IsInput}
use Rattle.theorems_pairs.specs.Refusals.{LowestFault, LoadFault, RefusedAt}
use Rattle.theorems_streams.specs.Streams.{Satisfies}

-- X satisfies the equations of a part.
abbrev pub PartSatisfies : Part → (ℕ → ℕ → ℤ) → (ℕ → ℕ → ℤ) → Type 0
PartSatisfies a inputs X = Satisfies a.program (settled a.program a.schedule) inputs X

-- Where a TABLE stands, there are rows.
abbrev pub Served : Program → Type 0
Served p = (x : ℕ) → x < count p → 0 < body_lookups (signal_at p x).body → 0 < length p.rows

-- A part that is feasible by itself, with a phase for each of its signals and rows for its TABLEs.
pub record FeasiblePart (a : Part) : Type 0 where
  pub feasible : Feasible a.program a.schedule
  pub phased : length a.schedule.phases ≡ count a.program
  pub served : Served a.program

-- Rows stand in one part only.
abbrev pub OneTable : List Part → Type 0
OneTable parts =
    (j k : ℕ) → j < length parts → k < length parts → 0 < length (part_at parts j).program.rows →
    0 < length (part_at parts k).program.rows → j ≡ k

-- The signals that a link names: its IN, and the signal that it reads.
module _ (parts : List Part) (l : PartLink) where
  abbrev pub input_of : Signal
  input_of = signal_at (part_at parts l.input_part).program l.input

  abbrev pub signal_of : Signal
  signal_of = signal_at (part_at parts l.signal_part).program l.signal

  -- It names an IN of one part and a signal of another, of equal periods.
  pub record LinkNames : Type 0 where
    pub input_part : l.input_part < length parts
    pub input : l.input < count (part_at parts l.input_part).program
    pub is_input : IsInput input_of.body
    pub signal_part : l.signal_part < length parts
    pub signal : l.signal < count (part_at parts l.signal_part).program
    pub other : ¬ (l.input_part ≡ l.signal_part)
    pub periods : input_of.period ≡ signal_of.period

  abbrev pub input_phase : ℕ
  input_phase = phase_of (part_at parts l.input_part).schedule l.input

  abbrev pub signal_phase : ℕ
  signal_phase = phase_of (part_at parts l.signal_part).schedule l.signal

  -- Its read is met: the signal runs in an earlier cycle, or in the same one and its part comes first.
  abbrev pub LinkMet : Type 0
  LinkMet = (signal_phase < input_phase) ⊎ ((signal_phase ≡ input_phase) × (l.signal_part < l.input_part))

-- Element j of input x of part k: if a link names it, element j of the signal that the link names. Inputs and streams are given
-- by part, signal and number.
unfoldable pub part_inputs : List PartLink → (ℕ → ℕ → ℕ → ℤ) → (ℕ → ℕ → ℕ → ℤ) → ℕ → ℕ → ℕ → ℤ
part_inputs [] inputs X k x j = inputs k x j
part_inputs (l ∷ ls) inputs X k x j =
    cond (eqb l.input_part k && eqb l.input x) (X l.signal_part l.signal (suc j)) (part_inputs ls inputs X k x j)

-- For each part, what X has from its first signal on satisfies the part's equations, linked inputs being what they name.
abbrev pub LinkedSatisfies : List Part → List PartLink → (ℕ → ℕ → ℤ) → (ℕ → ℕ → ℤ) → Type 0
LinkedSatisfies parts links inputs X =
    (k : ℕ) → k < length parts →
    PartSatisfies (part_at parts k)
    (part_inputs links (λ m x j. inputs (base parts m + x) j) (λ m x j. X (base parts m + x) j) k)
    (λ x j. X (base parts k + x) j)

-- 4: at most 64 signals and 16 chains together.
abbrev pub FewJoined : List Part → List PartLink → Type 0
FewJoined parts links =
    (count (joined_pair parts links).program ≤ 64) × (length (joined_pair parts links).program.chains ≤ 16)

-- The joined bounds and H hold, every link read is met, and in no cycle is the joined load over CAP.
pub record JoinedLegal (parts : List Part) (links : List PartLink) (q : Pair) : Type 0 where
  pub program : q.program ≡ (joined_pair parts links).program
  pub schedule : q.schedule ≡ (joined_pair parts links).schedule
  pub few : FewJoined parts links
  pub hypercycle : Least (joined_pair parts links).program q.hypercycle
  pub met : All (LinkMet parts) links
  pub loads : (c : ℕ) →
      ¬ Over (joined_pair parts links).program.cap (load (joined_pair parts links).program (joined_pair parts links).schedule c)

-- 14 a link's read unmet (the link's number).
pub data LinkFault (parts : List Part) (links : List PartLink) : Fault → Type 0 where
  unmet : (l : PartLink) → l among links → ¬ LinkMet parts l → LinkFault parts links (fault 14 l.place)

-- The refusals of the joined checks, in the order stated.
pub data JoinedRefused (parts : List Part) (links : List PartLink) : Fault → Type 0 where
  many : ¬ FewJoined parts links → JoinedRefused parts links (fault 4 0)
  unbounded : FewJoined parts links → ((h : ℕ) → h ≤ 240 → ¬ Multiple (joined_pair parts links).program h) →
      JoinedRefused parts links (fault 9 0)
  unmet : {f : Fault} {h : ℕ} → FewJoined parts links → Least (joined_pair parts links).program h →
      LowestFault (LinkFault parts links) f → JoinedRefused parts links f
  overloaded : {f : Fault} {h : ℕ} → FewJoined parts links → Least (joined_pair parts links).program h →
      All (LinkMet parts) links → LowestFault (LoadFault (joined_pair parts links).program (joined_pair parts links).schedule) f →
      JoinedRefused parts links f

-- Both texts of a part lie in the lent buffer.
abbrev pub BothLent : List ℕ → PartTexts → Type 0
BothLent buffer t =
    (t.program + t.program_length ≤ length buffer) × (t.schedule + t.schedule_length ≤ length buffer)

-- Text total, part count and buffers are kept.
pub record TextsLent (buffer numbers : List ℕ) : Type 0 where
  pub short : program_total numbers ≤ 8192
  pub few : parts_in numbers ≤ 8
  pub inside : (k : ℕ) → k < parts_in numbers → BothLent buffer (texts_at numbers k)

-- A part is accepted alone.
abbrev pub PartLegal : List ℕ → PartTexts → Part → Type 0
PartLegal buffer t a =
    (h : ℕ) ×
    LegalPair (program_text buffer t) (schedule_text buffer t)
    (record { program = a.program; schedule = a.schedule; hypercycle = h })

-- Every part is accepted alone.
pub record PartsLegal (buffer numbers : List ℕ) (parts : List Part) : Type 0 where
  pub count-is : length parts ≡ parts_in numbers
  pub each : (k : ℕ) → k < length parts → PartLegal buffer (texts_at numbers k) (part_at parts k)

-- Link i is whole, names an IN of one part and a signal of another of equal periods, and no link before it has its IN.
pub record LinkRight (parts : List Part) (links : List ℕ) (i : ℕ) : Type 0 where
  pub whole : 4 * i + 4 ≤ length links
  pub names : LinkNames parts (link_at links i)
  pub first : (j : ℕ) → j < i →
      ¬ (((link_at links j).input_part ≡ (link_at links i).input_part) × ((link_at links j).input ≡ (link_at links i).input))

-- Every link, one that is cut included.
abbrev pub LinksRight : List Part → List ℕ → Type 0
LinksRight parts links = (i : ℕ) → 4 * i < length links → LinkRight parts links i

-- 31 a wrong link (its number).
pub data WrongLink (parts : List Part) (links : List ℕ) : Fault → Type 0 where
  wrong : (i : ℕ) → 4 * i < length links → ¬ LinkRight parts links i → WrongLink parts links (fault 31 i)

module _ (buffer numbers links : List ℕ) where
  -- A join is accepted: text total, part count and buffers are kept, every part is accepted, links and rows are free of 31, the
  -- joined bounds and H hold, every link read is met and the joined load fits.
  pub record JoinLegal (q : Pair) : Type 0 where
    pub lent : TextsLent buffer numbers
    pub parts : List Part
    pub legal : PartsLegal buffer numbers parts
    pub right : LinksRight parts links
    pub table : OneTable parts
    pub joined : JoinedLegal parts (links_of links) q

  -- It is refused, in the order stated; a refusal inside a part names the part.
  pub data JoinRefused : Option ℕ → Fault → Type 0 where
    -- 1 the program texts together over 8,192 bytes (0).
    long : ¬ (program_total numbers ≤ 8192) → JoinRefused None (fault 1 0)
    -- 4 a ninth part (0).
    ninth : program_total numbers ≤ 8192 → ¬ (parts_in numbers ≤ 8) → JoinRefused None (fault 4 0)
    -- 27 a text that leaves its lent buffer (0).
    outside : program_total numbers ≤ 8192 → parts_in numbers ≤ 8 → (k : ℕ) → k < parts_in numbers →
        ¬ BothLent buffer (texts_at numbers k) → JoinRefused None (fault 27 0)
    -- A refusal inside part k, those before it being accepted.
    inside : {f : Fault} → TextsLent buffer numbers → (k : ℕ) → k < parts_in numbers →
        ((j : ℕ) → j < k → (a : Part) × PartLegal buffer (texts_at numbers j) a) →
        RefusedAt (program_text buffer (texts_at numbers k)) (schedule_text buffer (texts_at numbers k)) f →
        JoinRefused (Some k) f
    -- 31 the lowest wrong link.
    wrong : {f : Fault} {parts : List Part} → TextsLent buffer numbers → PartsLegal buffer numbers parts →
        LowestFault (WrongLink parts links) f → JoinRefused None f
    -- 31 rows in two parts (0), after the links.
    tables : {parts : List Part} → TextsLent buffer numbers → PartsLegal buffer numbers parts → LinksRight parts links →
        ¬ OneTable parts → JoinRefused None (fault 31 0)
    -- 4, 9, 14, 15 of the joined pair.
    joined : {f : Fault} {parts : List Part} → TextsLent buffer numbers → PartsLegal buffer numbers parts →
        LinksRight parts links → OneTable parts → JoinedRefused parts (links_of links) f → JoinRefused None f
