-- Refused because of the input: each number with its place, as a statement in the paper's words, under all the conditions of
-- the numbers before it. That the verdict refuses exactly so is the theorem `refused-exactly`.
use Rattle.std.specs.Prelude.{ℕ, ◌≤◌, ◌<◌, List, ◌≡◌, length}
use Rattle.model.specs.Says.Feasible.{Met, Multiple}
use Rattle.theorems_pairs.specs.Conditions.{
  ◌among◌,
  ShortEnough,
  ReadIn,
  LinkIn,
  ReadRule,
  DeclaredAndRated,
  Linked,
  HasTable,
  LegalRates,
  put_at,
  Fresh,
  PhaseBelow,
  PutsLegal,
  IsPut,
  LegalPlaces,
  Over,
  KeepsTime,
}
use Rattle.model.specs.Says.Feasible.{Least}
use Rattle.model.specs.Says.Grammar.{LegalProgram, LegalSchedule}
use Rattle.model.specs.Rules.Load.{load}
use Rattle.model.specs.Rules.Outcome.{fault, Parsed}
use Rattle.model.specs.Rules.Program.{least_factor, Program, Read, Link, Chain, empty, count}
use Rattle.model.specs.Rules.Schedule.{Schedule, Put}
use Rattle.model.specs.Rules.Table.{row_at}
use Rattle.model.specs.Says.Rows.{Disjoint, FirstMeets, Gap}
use Rattle.model.specs.declared.Fault.{Fault}
use Rattle.theorems_texts.specs.Stops.{Stops, StopsPuts}

-- One of the faults, and none at a lower place.
pub record LowestFault (F : Fault → Type 0) (f : Fault) : Type 0 where
  pub fault : F f
  pub least : (g : Fault) → F g → f.place ≤ g.place

-- 7 undeclared signal (the read or LINK), 8 period rule broken (the read); 7 first at one read.
pub data RateFault (p : Program) : Fault → Type 0 where
  undeclared_read : (r : ℕ) (ρ : Read) → ReadIn p r ρ → ¬ (ρ.operands.signal < count p) → RateFault p (fault 7 ρ.place)
  undeclared_link : (l : Link) → LinkIn p l → ¬ (l.signal < count p) → RateFault p (fault 7 l.place)
  broken_rule : (r : ℕ) (ρ : Read) → ReadIn p r ρ → ρ.operands.signal < count p → ¬ ReadRule p r ρ →
      RateFault p (fault 8 ρ.place)

-- A chain that does not keep Q, at its LAT.
pub data ChainFault (p : Program) (Q : Chain → Type 0) (number : ℕ) : Fault → Type 0 where
  broken : (c : Chain) → c among p.chains → ¬ Q c → ChainFault p Q number (fault number c.place)

-- 29 a word in two rows (the first ROW that meets an earlier one), 30 a word in none (0); 29 before 30.
pub data TableFault (p : Program) : Fault → Type 0 where
  meets : (n : ℕ) → FirstMeets p.rows n → TableFault p (fault 29 (row_at p.rows n).place)
  gap : HasTable p → Disjoint p.rows → Gap p.rows → TableFault p (fault 30 0)

-- 12 signal undeclared (PUT) or put twice (the second PUT), 13 phase not below period (PUT); 12 first at one PUT.
pub data PutFault (p : Program) (puts : List Put) : Fault → Type 0 where
  undeclared : (j : ℕ) → j < length puts → ¬ ((put_at puts j).signal < count p) → PutFault p puts (fault 12 (put_at puts j).place)
  twice : (i j : ℕ) → i < j → j < length puts → (put_at puts i).signal ≡ (put_at puts j).signal →
      PutFault p puts (fault 12 (put_at puts j).place)
  late : (j : ℕ) → j < length puts → (put_at puts j).signal < count p → Fresh puts j → ¬ PhaseBelow p (put_at puts j) →
      PutFault p puts (fault 13 (put_at puts j).place)

-- 14 a read unmet (the read).
pub data MetFault (p : Program) (s : Schedule) : Fault → Type 0 where
  unmet : (r : ℕ) (ρ : Read) → ReadIn p r ρ → ¬ Met p s r ρ → MetFault p s (fault 14 ρ.place)

-- 15 over CAP (the cycle).
pub data LoadFault (p : Program) (s : Schedule) : Fault → Type 0 where
  over : (c : ℕ) → Over p.cap (load p s c) → LoadFault p s (fault 15 c)

-- The refusals of two texts, in the order stated.
pub data RefusedAt (program schedule : List ℕ) : Fault → Type 0 where
  -- 1 text too long (0).
  long : ¬ ShortEnough program schedule → RefusedAt program schedule (fault 1 0)
  -- 2 to 6: the program text stops.
  stopped : {f : Fault} → ShortEnough program schedule → Stops least_factor program 0 0 empty f → RefusedAt program schedule f
  -- 7 and 8 in order of offset.
  unrated : {f : Fault} {p : Program} → ShortEnough program schedule → LegalProgram program p →
      LowestFault (RateFault p) f → RefusedAt program schedule f
  -- 9 H over 240 (0).
  unbounded : {p : Program} → ShortEnough program schedule → LegalProgram program p → DeclaredAndRated p →
      ((h : ℕ) → h ≤ 240 → ¬ Multiple p h) → RefusedAt program schedule (fault 9 0)
  -- 10 link without exactly one read (lowest such LAT).
  unlinked : {f : Fault} {h : ℕ} {p : Program} → ShortEnough program schedule → LegalProgram program p → DeclaredAndRated p →
      Least p h → LowestFault (ChainFault p (Linked p) 10) f → RefusedAt program schedule f
  -- 29 and 30.
  uncovered : {f : Fault} {h : ℕ} {p : Program} → ShortEnough program schedule → LegalProgram program p → DeclaredAndRated p →
      Least p h → ((c : Chain) → c among p.chains → Linked p c) → TableFault p f → RefusedAt program schedule f
  -- 11: the schedule text stops.
  unread : {h : ℕ} {f : Fault} {p : Program} → LegalRates program schedule p h → StopsPuts schedule 0 f →
      RefusedAt program schedule f
  -- 12 and 13 together, PUT after PUT.
  misplaced : {f : Fault} {h : ℕ} {p : Program} {puts : Parsed (List Put)} → LegalRates program schedule p h →
      LegalSchedule schedule puts → LowestFault (PutFault p puts.value) f → RefusedAt program schedule f
  -- 12 missing (END), after all PUTs.
  missing : {h : ℕ} {p : Program} {puts : Parsed (List Put)} → LegalRates program schedule p h →
      LegalSchedule schedule puts → PutsLegal p puts.value → (x : ℕ) → x < count p → ¬ IsPut puts.value x →
      RefusedAt program schedule (fault 12 puts.next)
  -- 14 a read unmet (lowest read offset).
  unmet : {f : Fault} {h : ℕ} {p : Program} {s : Schedule} → LegalPlaces program schedule p h s →
      LowestFault (MetFault p s) f → RefusedAt program schedule f
  -- 15 over CAP (lowest cycle).
  overloaded : {f : Fault} {h : ℕ} {p : Program} {s : Schedule} → LegalPlaces program schedule p h s →
      ((r : ℕ) (ρ : Read) → ReadIn p r ρ → Met p s r ρ) → LowestFault (LoadFault p s) f →
      RefusedAt program schedule f
  -- 16 latency (lowest LAT).
  untimely : {f : Fault} {h : ℕ} {p : Program} {s : Schedule} → LegalPlaces program schedule p h s →
      ((r : ℕ) (ρ : Read) → ReadIn p r ρ → Met p s r ρ) → ((c : ℕ) → ¬ Over p.cap (load p s c)) →
      LowestFault (ChainFault p (KeepsTime p s) 16) f → RefusedAt program schedule f
