-- Every refusal has a small place: within the text that is refused, below the hypercycle, or L + 4N. Assumes nothing.
use Prim.Native.Nat.{ℕ, zero, suc, ◌%◌, ◌≤◌, ◌<◌}
use mathlib.Core.Bool.{Bool}
use mathlib.Core.List.{List}
use mathlib.Core.Path.{◌≡◌, refl, ap}
use native.Mathlib.Nat.{mod-lt}
use native.Mathlib.Omega.{arith}
use lib.Dec.{leb}
use lib.IntN.{ℤ}
use lib.ListN.{length}
use Rattle.model.specs.Says.Feasible.{Multiple}
use Rattle.model.specs.Says.Calls.{Call, call_of}
use Rattle.model.specs.Rules.Compile.{Pair, pair_of, verdict_of, compile_job, compile_of}
use Rattle.model.specs.Says.Grammar.{LegalProgram, SpellsPuts}
use Rattle.model.specs.Rules.Machine.{Job, effect, reset_job, reset_of, cycle_job, cycle_of}
use Rattle.model.specs.Rules.Outcome.{Outcome, accepted, refused, ◌▷◌, provided, fault}
use Rattle.model.specs.Rules.Program.{Program, Read, Chain}
use Rattle.model.specs.Rules.Schedule.{Schedule, Put}
use Rattle.model.specs.Rules.Word.{AreBytes}
use Rattle.theorems_pairs.specs.Conditions.{ReadIn, put_at}
use Rattle.model.specs.Rules.Table.{row_at}
use Rattle.theorems_pairs.specs.Refusals.{TableFault, RateFault, ChainFault, PutFault, MetFault, LoadFault, RefusedAt}
use Rattle.theorems_texts.specs.Stops.{StopsExpr, StopsLinks, Stops, StopsPuts}
use Rattle.model.specs.declared.Fault.{Fault}
use Rattle.model.proofs.Texts.Commands.{declaration-sound, operator-sound}
use Rattle.model.proofs.Texts.Picks.{byte_inside, signal-inside, operator-inside}
use Rattle.model.proofs.Basics.Outcomes.{accepted≢refused, accepted-same, then-accepted}
use Rattle.model.proofs.Texts.Puts.{put-sound, puts-end}
use Rattle.model.proofs.Images.Tails.{written-length}
use Rattle.model.proofs.Pairs.Verdict.{pair-bounded}
use Rattle.model.proofs.Texts.Written.{declaration-outside-inside, operator-outside-byte, decoded, operator-decoded, put-decoded}
use Rattle.theorems_pairs.proofs.Exact.{refused-exactly}
use Rattle.theorems_pairs.proofs.Judged.{read-spelled, chain-spelled, link-spelled}
use Rattle.theorems_pairs.proofs.JudgedRows.{row_written}
use Rattle.theorems_pairs.proofs.JudgedRuns.{load-repeats}
use Rattle.theorems_texts.proofs.Stopped.{Refuses, refuses-fault, refuses-then, refuses-provided}

-- 2 to 6 and 11: a text stops within it or at its end.
module _ (text : List ℕ) where
  expr-inside : {least d at : ℕ} {f : Fault} → StopsExpr least text d at f → f.place ≤ length text
  expr-inside (StopsExpr.early le) = omega arith
  expr-inside (StopsExpr.unknown lt u) = omega arith
  expr-inside (StopsExpr.deep {at = at} o) = omega (arith, operator-inside text at o)
  expr-inside (StopsExpr.cut e) = omega arith
  expr-inside (StopsExpr.outside {at = at} u) = omega (arith, operator-inside text at (operator-outside-byte text at u))
  expr-inside (StopsExpr.single {at = at} w i lt) = omega (arith, (operator-sound text at _ (operator-decoded w)).1)
  expr-inside (StopsExpr.operand w h lt u s) = expr-inside s

  links-inside : {room at : ℕ} {f : Fault} → at ≤ length text → StopsLinks text room at f → f.place ≤ length text
  links-inside le (StopsLinks.many e) = le
  links-inside le (StopsLinks.cut e lt) = omega arith
  links-inside le (StopsLinks.link e next s) = links-inside next s

  pub commands-inside : {least at label : ℕ} {p : Program} {f : Fault} → Stops least text at label p f → f.place ≤ length text
  commands-inside (Stops.onward d s) = commands-inside s
  commands-inside (Stops.early le) = omega arith
  commands-inside (Stops.unknown lt u) = omega arith
  commands-inside (Stops.signals {at = at} s many) = omega (arith, signal-inside text at s)
  commands-inside (Stops.chains {at = at} b many) = omega (arith, byte_inside text at (omega arith))
  commands-inside (Stops.rows {at = at} b many) = omega (arith, byte_inside text at (omega arith))
  commands-inside (Stops.second {at = at} b u) = omega (arith, byte_inside text at (omega arith))
  commands-inside (Stops.cut r e) = omega arith
  commands-inside (Stops.outside {at = at} r o) = omega (arith, declaration-outside-inside text at o)
  commands-inside (Stops.expression room e s) = expr-inside s
  commands-inside (Stops.links {at = at} room e s) = links-inside (declaration-sound text at _ (decoded e)) s
  commands-inside (Stops.short {at = at} room e u lt) = omega (arith, declaration-sound text at _ (decoded e))
  commands-inside (Stops.trailing e lt) = omega arith
  commands-inside (Stops.unfollowed e le) = omega arith
  commands-inside (Stops.stray e lt u) = omega arith

  puts-inside : {at : ℕ} {f : Fault} → StopsPuts text at f → f.place ≤ length text
  puts-inside (StopsPuts.onward e s) = puts-inside s
  puts-inside (StopsPuts.early le) = omega arith
  puts-inside (StopsPuts.cut c) = omega arith
  puts-inside (StopsPuts.unknown lt u) = omega arith
  puts-inside (StopsPuts.trailing e lt) = omega arith

  -- 12, 13: the PUTs of a legal text stand in it.
  put-inside : {at end : ℕ} {qs : List Put} → SpellsPuts text at qs end → (j : ℕ) → j < length qs →
      (put_at qs j).place ≤ length text
  put-inside (SpellsPuts.ends e le) j lt = absurd (omega arith)
  put-inside (SpellsPuts.put {at = at} e r) zero lt = omega (arith, (put-sound text at _ (put-decoded e)).2)
  put-inside (SpellsPuts.put e r) (suc j) lt = put-inside r j (omega arith)

  put-fault-inside : {end : ℕ} {f : Fault} {p : Program} {qs : List Put} → SpellsPuts text 0 qs end → PutFault p qs f →
      f.place ≤ length text
  put-fault-inside l (PutFault.undeclared j lt u) = put-inside l j lt
  put-fault-inside l (PutFault.twice i j lt below e) = put-inside l j below
  put-fault-inside l (PutFault.late j lt d f u) = put-inside l j lt

  -- 7, 8, 10, 14, 16, 29: and so do the reads, LINKs, LATs and ROWs.
  module _ (p : Program) (l : LegalProgram text p) where
    read-inside : (r : ℕ) (ρ : Read) → ReadIn p r ρ → ρ.place ≤ length text
    read-inside r ρ i = omega (arith, (operator-sound text ρ.place _ (read-spelled text p l r ρ i)).1)

    rate-inside : {f : Fault} → RateFault p f → f.place ≤ length text
    rate-inside (RateFault.undeclared_read r ρ i u) = read-inside r ρ i
    rate-inside (RateFault.undeclared_link a i u) = omega (arith, declaration-sound text a.place _ (link-spelled text p l a i))
    rate-inside (RateFault.broken_rule r ρ i d u) = read-inside r ρ i

    chain-inside : {Q : Chain → Type 0} {number : ℕ} {f : Fault} → ChainFault p Q number f → f.place ≤ length text
    chain-inside (ChainFault.broken c i u) =
        omega (arith, declaration-sound text c.place _ (chain-spelled text p l c i).command)

    table-inside : {f : Fault} → TableFault p f → f.place ≤ length text
    table-inside (TableFault.meets n h) =
        omega (arith, (declaration-sound text (row_at p.rows n).place _ (row_written text p l n h.inside)).4)
    table-inside (TableFault.gap some u g) = omega arith

    met-inside : {s : Schedule} {f : Fault} → MetFault p s f → f.place ≤ length text
    met-inside (MetFault.unmet r ρ i u) = read-inside r ρ i

-- 15: the lowest cycle over CAP is one of the hypercycle, since the load repeats.
pub load_below : {p : Program} {s : Schedule} {f : Fault} (h : ℕ) → Multiple p h → LoadFault p s f →
    ((g : Fault) → LoadFault p s g → f.place ≤ g.place) → f.place < h
load_below {p} {s} h whole (LoadFault.over c o) least =
    omega (
      arith,
      least (fault 15 (c % h)) (LoadFault.over (c % h) (rw (load-repeats p s h whole c) o)),
      mod-lt c whole.positive,
    )

-- What the two texts are refused with.
pub refusal-small : {program schedule : List ℕ} {f : Fault} → RefusedAt program schedule f → f.place ≤ 65535
refusal-small (RefusedAt.long u) = omega arith
refusal-small {program} (RefusedAt.stopped short f) = omega (arith, short.0, commands-inside program f)
refusal-small {program} (RefusedAt.unrated {p = p} short l f) = omega (arith, short.0, rate-inside program p l f.fault)
refusal-small (RefusedAt.unbounded short l r f) = omega arith
refusal-small {program} (RefusedAt.unlinked {p = p} short l r h f) =
    omega (arith, short.0, chain-inside program p l f.fault)
refusal-small {program} (RefusedAt.uncovered {p = p} short l r h c f) = omega (arith, short.0, table-inside program p l f)
refusal-small {schedule = schedule} (RefusedAt.unread r f) = omega (arith, r.short.1, puts-inside schedule f)
refusal-small {schedule = schedule} (RefusedAt.misplaced r l f) =
    omega (arith, r.short.1, put-fault-inside schedule l f.fault)
refusal-small (RefusedAt.missing r l c x lt u) = omega (arith, r.short.1, (puts-end l).1)
refusal-small {program} (RefusedAt.unmet {p = p} c f) =
    omega (arith, c.rates.short.0, met-inside program p c.rates.legal f.fault)
refusal-small (RefusedAt.overloaded {h = h} c m f) =
    let least = c.rates.hypercycle in
    omega (arith, least.bound, load_below h least.multiple f.fault f.least)
refusal-small {program} (RefusedAt.untimely {p = p} c m o f) =
    omega (arith, c.rates.short.0, chain-inside program p c.rates.legal f.fault)

-- What holds of a call's refusal.
call-refused : {A : Type 0} (R : Fault → Type 0) (lent : List A) (o : Outcome (Job ℕ A)) (f : Fault) → Refuses R o →
    (effect lent o).answer ≡ refused f → R f
call-refused R lent (accepted job) f h e = absurd (accepted≢refused _ job.yields f refl e)
call-refused R lent (refused g) f h e = refuses-fault {A = ℕ} R (refused g) f h e

abbrev Small : Fault → Type 0
Small f = f.place ≤ 65791

abbrev Zero : Fault → Type 0
Zero f = f.place ≡ 0

module _ (program schedule : List ℕ) where
  pair_small : Refuses Small (pair_of program schedule)
  pair_small = go (pair_of program schedule) refl
    where
      go : (o : Outcome Pair) → pair_of program schedule ≡ o → Refuses Small o
      go (accepted q) e = tt
      go (refused f) e = omega (arith, refusal-small ((refused-exactly program schedule f).0 e))

  image-small : AreBytes program → (image : List ℕ) → verdict_of program schedule ≡ accepted image → length image ≤ 65791
  unfolding verdict_of
  image-small bytes image e =
      let h = then-accepted (pair_of program schedule) _ image e in
      let q = h.0 in
      let same = ap length (accepted-same _ image h.2) in
      let bounded = pair-bounded program schedule q h.1 bytes in
      omega (arith, written-length q.program q.schedule q.hypercycle, bounded.size, bounded.signals)

-- A compile refuses the texts, or answers 17 with L + 4N.
pub places-small : (program schedule buffer : List ℕ) → AreBytes program → (f : Fault) →
    (compile_of program schedule buffer).answer ≡ refused f → f.place ≤ 65791
unfolding compile_of verdict_of
places-small program schedule buffer bytes f e =
    call-refused Small buffer (compile_job program schedule buffer) f
    (refuses-then Small (verdict_of program schedule) _
    (refuses-then Small (pair_of program schedule) _ (pair_small program schedule) (λ q t. tt)) (λ image t.
    refuses-then Small (provided (leb (length image) (length buffer)) 17 (length image)) _
    (refuses-provided Small _ 17 (length image) (λ u. image-small program schedule bytes image t)) (λ u v. tt))) e

at_zero : {A : Type 0} (t : Bool) (n : ℕ) (o : Outcome A) → Refuses Zero o → Refuses Zero (provided t n 0 ▷ λ _. o)
at_zero t n o h = refuses-then Zero (provided t n 0) _ (refuses-provided Zero t n 0 (λ u. refl)) (λ u v. h)

-- A reset or a cycle refuses at 0.
pub places-zero : (lent : List ℕ) (state : List ℤ) (c : Call) (f : Fault) → (call_of lent state c).answer ≡ refused f →
    f.place ≡ 0
unfolding call_of reset_of cycle_of
places-zero lent state Call.reset f e =
    call-refused Zero state (reset_job lent state) f
    (at_zero _ 20 _ (at_zero _ 21 (accepted _) tt)) e
places-zero lent state (Call.cycle samples) f e =
    call-refused Zero state (cycle_job lent state samples) f
    (at_zero _ 20 _ (at_zero _ 21 _ (at_zero _ 22 _ (at_zero _ 23 (accepted _) tt)))) e
