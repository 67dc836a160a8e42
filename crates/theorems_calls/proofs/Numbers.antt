-- The number of every refusal is above 0, and what a call yields is small: one number can tell a refusal from the rest.
-- Assumes nothing.
use Prim.Native.Nat.{ℕ, ◌*◌, ◌≤◌}
use mathlib.Core.List.{List}
use mathlib.Core.Logic.{⊎_elim}
use mathlib.Core.Path.{◌≡◌, refl}
use native.Mathlib.Omega.{arith}
use lib.IntN.{ℤ}
use lib.ListN.{length}
use Rattle.model.specs.Rules.Compile.{Pair, pair_of, compile_of}
use Rattle.model.specs.Rules.Machine.{count_of}
use Rattle.model.specs.Rules.Outcome.{accepted}
use Rattle.model.specs.Rules.Program.{Program, Chain}
use Rattle.model.specs.Rules.Schedule.{Schedule, Put}
use Rattle.model.specs.Rules.Tail.{Bears}
use Rattle.model.specs.Rules.Word.{AreBytes}
use Rattle.theorems_calls.specs.Exactness.{size_of, WriteRefusedAt, CompileRefusedAt, ResetRefusedAt, CycleRefusedAt}
use Rattle.theorems_pairs.specs.Refusals.{TableFault, RateFault, ChainFault, PutFault, MetFault, LoadFault, RefusedAt}
use Rattle.theorems_texts.specs.Stops.{StopsExpr, StopsLinks, Stops, StopsPuts}
use Rattle.theorems_images.specs.WellFormed.{WellFormed}
use Rattle.model.specs.declared.Fault.{Fault}
use Rattle.model.proofs.Pairs.Verdict.{pair-bounded}
use Rattle.theorems_calls.proofs.CallsExact.{compile-exactly}
use Rattle.theorems_pairs.proofs.Exact.{accepted-exactly}

-- 2 to 6.
links-number : {text : List ℕ} {room at : ℕ} {f : Fault} → StopsLinks text room at f → 1 ≤ f.number
links-number (StopsLinks.many e) = omega arith
links-number (StopsLinks.cut e lt) = omega arith
links-number (StopsLinks.link e le s) = links-number s

module _ {least : ℕ} {text : List ℕ} where
  expr-number : {d at : ℕ} {f : Fault} → StopsExpr least text d at f → 1 ≤ f.number
  expr-number (StopsExpr.early le) = omega arith
  expr-number (StopsExpr.unknown lt u) = omega arith
  expr-number (StopsExpr.deep i) = omega arith
  expr-number (StopsExpr.cut e) = omega arith
  expr-number (StopsExpr.outside e) = omega arith
  expr-number (StopsExpr.single e i lt) = omega arith
  expr-number (StopsExpr.operand w h lt u s) = expr-number s

  pub stops-number : {at label : ℕ} {p : Program} {f : Fault} → Stops least text at label p f → 1 ≤ f.number
  stops-number (Stops.onward d s) = stops-number s
  stops-number (Stops.early le) = omega arith
  stops-number (Stops.unknown lt u) = omega arith
  stops-number (Stops.signals i le) = omega arith
  stops-number (Stops.chains e le) = omega arith
  stops-number (Stops.rows e le) = omega arith
  stops-number (Stops.second e u) = omega arith
  stops-number (Stops.cut r e) = omega arith
  stops-number (Stops.outside r e) = omega arith
  stops-number (Stops.expression room e s) = expr-number s
  stops-number (Stops.links room e s) = links-number s
  stops-number (Stops.short room e u lt) = omega arith
  stops-number (Stops.trailing e lt) = omega arith
  stops-number (Stops.unfollowed e le) = omega arith
  stops-number (Stops.stray e lt u) = omega arith

-- 11.
puts-number : {text : List ℕ} {at : ℕ} {f : Fault} → StopsPuts text at f → 1 ≤ f.number
puts-number (StopsPuts.onward e s) = puts-number s
puts-number (StopsPuts.early le) = omega arith
puts-number (StopsPuts.cut c) = omega arith
puts-number (StopsPuts.unknown lt u) = omega arith
puts-number (StopsPuts.trailing e lt) = omega arith

-- 7 to 10, 29 and 30, 12 to 16.
rate-number : {p : Program} {f : Fault} → RateFault p f → 1 ≤ f.number
rate-number (RateFault.undeclared_read r ρ i u) = omega arith
rate-number (RateFault.undeclared_link l i u) = omega arith
rate-number (RateFault.broken_rule r ρ i d u) = omega arith

chain-number : {p : Program} {Q : Chain → Type 0} {number : ℕ} {f : Fault} → 1 ≤ number → ChainFault p Q number f → 1 ≤ f.number
chain-number le (ChainFault.broken c i u) = le

put-number : {p : Program} {puts : List Put} {f : Fault} → PutFault p puts f → 1 ≤ f.number
put-number (PutFault.undeclared j lt u) = omega arith
put-number (PutFault.twice i j lt below e) = omega arith
put-number (PutFault.late j lt d f u) = omega arith

table-number : {p : Program} {f : Fault} → TableFault p f → 1 ≤ f.number
table-number (TableFault.meets n h) = omega arith
table-number (TableFault.gap some u g) = omega arith

met-number : {p : Program} {s : Schedule} {f : Fault} → MetFault p s f → 1 ≤ f.number
met-number (MetFault.unmet r ρ i u) = omega arith

pub load-number : {p : Program} {s : Schedule} {f : Fault} → LoadFault p s f → 1 ≤ f.number
load-number (LoadFault.over c o) = omega arith

pub pair-number : {program schedule : List ℕ} {f : Fault} → RefusedAt program schedule f → 1 ≤ f.number
pair-number (RefusedAt.long u) = omega arith
pair-number (RefusedAt.stopped short f) = stops-number f
pair-number (RefusedAt.unrated short l f) = rate-number f.fault
pair-number (RefusedAt.unbounded short l r f) = omega arith
pair-number (RefusedAt.unlinked short l r h f) = chain-number (omega arith) f.fault
pair-number (RefusedAt.uncovered short l r h c f) = table-number f
pair-number (RefusedAt.unread r f) = puts-number f
pair-number (RefusedAt.misplaced r l f) = put-number f.fault
pair-number (RefusedAt.missing r l c x lt u) = omega arith
pair-number (RefusedAt.unmet c f) = met-number f.fault
pair-number (RefusedAt.overloaded c m f) = load-number f.fault
pair-number (RefusedAt.untimely c m o f) = chain-number (omega arith) f.fault

-- The calls.
pub compile-number : {program schedule buffer : List ℕ} {f : Fault} → CompileRefusedAt program schedule buffer f → 1 ≤ f.number
compile-number (WriteRefusedAt.pair r) = pair-number r
compile-number (WriteRefusedAt.space legal lt) = omega arith

pub reset-number : {lent : List ℕ} {state : List ℤ} {f : Fault} → ResetRefusedAt lent state f → 1 ≤ f.number
reset-number (ResetRefusedAt.unformed none) = omega arith
reset-number (ResetRefusedAt.short lends lt) = omega arith

pub cycle-number : {lent : List ℕ} {state samples : List ℤ} {f : Fault} → CycleRefusedAt lent state samples f → 1 ≤ f.number
cycle-number (CycleRefusedAt.unready r) = reset-number r
cycle-number (CycleRefusedAt.outside usable none) = omega arith
cycle-number (CycleRefusedAt.unsampled usable positioned lt) = omega arith

-- 24,679 bytes hold the image of every accepted pair, with its tail.
pub size-most : (program schedule : List ℕ) → AreBytes program → (q : Pair) → pair_of program schedule ≡ accepted q →
    size_of q ≤ 24679
size-most program schedule bytes q e =
    let b = pair-bounded program schedule q e bytes in
    omega (arith, b.size, b.signals)

-- So what compile yields is small.
pub length_most : (program schedule buffer : List ℕ) → AreBytes program → (n : ℕ) →
    (compile_of program schedule buffer).answer ≡ accepted n → n ≤ 24679
length_most program schedule buffer bytes n e =
    let d = ((compile-exactly program schedule buffer).done n _).0 (e, refl) in
    omega (
      arith,
      d.is,
      size-most program schedule bytes d.pair ((accepted-exactly program schedule d.pair).1 d.legal),
    )

-- A tail of a well-formed image is at most 256 bytes long.
pub tail-most : {image tail lent : List ℕ} → WellFormed image → Bears image tail lent → length tail ≤ 256
tail-most {image} {tail} w b =
    ⊎_elim (λ (e : length tail ≡ 0). omega arith) (λ (e : length tail ≡ 4 * count_of image). omega (arith, w.signals)) b.size
