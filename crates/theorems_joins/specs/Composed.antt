-- What parts and links come to when they are joined, part by part and signal by signal, in the paper's words.
use Rattle.std.specs.Prelude.{ℕ, suc, ◌+◌, ◌≤◌, ◌<◌, List, [], map, ◌≡◌, length, get_or}
use Rattle.model.specs.Rules.Load.{load}
use Rattle.model.specs.Rules.Parts.{Part, base, part_at, PartLink}
use Rattle.model.specs.Rules.Program.{
  Program,
  Signal,
  Chain,
  Limit,
  unlimited,
  limit,
  read,
  equation,
  count,
  signal_at,
  weight_of,
}
use Rattle.model.specs.Rules.Schedule.{Schedule, phase_of}
use Rattle.model.specs.Rules.Search.{sum}
use Rattle.model.specs.declared.Index.TheVariants.{Fixed}
use Rattle.model.specs.declared.Kind.TheVariants.{Now}
use Rattle.model.specs.declared.Mode.TheVariants.{Exists}
use Rattle.theorems_pairs.specs.Conditions.{◌among◌}
use Rattle.theorems_streams.specs.Held.{IsInput}

-- Stretches of these sizes follow one another from 0 on: stretch k starts at `first k`, and n of them have `total`.
pub record Follow (first size : ℕ → ℕ) (n total : ℕ) : Type 0 where
  pub start : first 0 ≡ 0
  pub next : (k : ℕ) → k < n → first (suc k) ≡ first k + size k
  pub end : first n ≡ total

-- A list is made of n others, one after the other: element j of list k is kept, in the way that `Kept k` says.
pub record Sequence {A : Type 0} (default : A) (Kept : ℕ → A → A → Type 0) (n : ℕ) (part : ℕ → List A) (whole : List A) : Type 0
  where
    pub first : ℕ → ℕ
    pub follow : Follow first (λ k. length (part k)) n (length whole)
    pub kept : (k j : ℕ) → k < n → j < length (part k) → Kept k (get_or (part k) j default) (get_or whole (first k + j) default)

-- The CAP of joined parts: none where no part has one, else the smallest of those that have one.
pub data SmallestCap (parts : List Part) : Limit → Type 0 where
  none : ((k : ℕ) → k < length parts → (part_at parts k).program.cap ≡ unlimited) → SmallestCap parts unlimited
  least : (n k : ℕ) → k < length parts → (part_at parts k).program.cap ≡ limit n →
      ((j m : ℕ) → j < length parts → (part_at parts j).program.cap ≡ limit m → n ≤ m) → SmallestCap parts (limit n)

-- A signal keeps its period, initial word, label and weight.
pub record SignalKept (own joint : Signal) : Type 0 where
  pub period : joint.period ≡ own.period
  pub initial : joint.initial ≡ own.initial
  pub label : joint.label ≡ own.label
  pub weight : weight_of joint.body ≡ weight_of own.body

-- A chain keeps its place, mode and bound; its links are renumbered.
pub record ChainKept (from : ℕ) (own joint : Chain) : Type 0 where
  pub place : joint.place ≡ own.place
  pub mode : joint.mode ≡ own.mode
  pub bound : joint.bound ≡ own.bound
  pub links : map (λ l. l.signal) joint.links ≡ map (λ l. from + l.signal) own.links

abbrev pub no_chain : Chain
no_chain = record { place = 0; mode = Exists; bound = 0; links = [] }

-- A link names signal x of part k as its IN.
abbrev pub NamedBy : List PartLink → ℕ → ℕ → Type 0
NamedBy links k x = (l : PartLink) × (l among links) × (l.input_part ≡ k) × (l.input ≡ x)

module _ (parts : List Part) (links : List PartLink) (p : Program) (s : Schedule) where
  abbrev pub of_part : ℕ → Part
  of_part k = part_at parts k

  abbrev pub own_signal : ℕ → ℕ → Signal
  own_signal k x = signal_at (of_part k).program x

  abbrev pub joint_signal : ℕ → ℕ → Signal
  joint_signal k x = signal_at p (base parts k + x)

  -- Over every signal of every part.
  abbrev pub EachSignal : (ℕ → ℕ → Type 0) → Type 0
  EachSignal P = (k x : ℕ) → k < length parts → x < count (of_part k).program → P k x

  -- The program p and the schedule s are the parts and links joined.
  pub record Composed : Type 0 where
    -- Signals are renumbered part after part.
    pub numbers : Follow (base parts) (λ k. count (of_part k).program) (length parts) (count p)
    pub signals : EachSignal (λ k x. SignalKept (own_signal k x) (joint_signal k x))
    pub phases : EachSignal (λ k x. phase_of s (base parts k + x) ≡ phase_of (of_part k).schedule x)
    -- An EQ stays one, and so does an IN that no link names.
    pub equations : EachSignal (λ k x. ¬ IsInput (own_signal k x).body → ¬ IsInput (joint_signal k x).body)
    pub inputs : EachSignal (λ k x. IsInput (own_signal k x).body → ¬ NamedBy links k x → IsInput (joint_signal k x).body)
    -- A linked IN becomes an EQ of weight 0 that reads its signal by NOW.
    pub linked : (l : PartLink) → l among links →
        (joint_signal l.input_part l.input).body ≡
        equation 0
        (read (record {
          place = l.place;
          kind = Now;
          operands = record { signal = base parts l.signal_part + l.signal; factor = 1; index = Fixed 0 };
        }))
    -- PUTs follow in part order.
    pub puts : Sequence 0 (λ k own joint. joint ≡ base parts k + own) (length parts) (λ k. (of_part k).schedule.order) s.order
    pub chains : Sequence no_chain (λ k. ChainKept (base parts k)) (length parts) (λ k. (of_part k).program.chains) p.chains
    -- The smallest CAP stands for all, and the rows are those of the one part that has some.
    pub cap : SmallestCap parts p.cap
    pub rows : (k : ℕ) → k < length parts → 0 < length (of_part k).program.rows → p.rows ≡ (of_part k).program.rows
    pub no_rows : ((k : ℕ) → k < length parts → length (of_part k).program.rows ≡ 0) → p.rows ≡ []
    -- The load of a cycle is the sum of the parts'.
    pub loads : (c : ℕ) → load p s c ≡ sum (map (λ a. load a.program a.schedule c) parts)
