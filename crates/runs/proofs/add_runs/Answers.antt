-- `runs::add_runs` meets its contract. Assumes nothing.
use Prim.Native.Nat.{ℕ, ◌+◌, ◌^◌, ◌≤◌, ◌<◌}
use mathlib.Core.List.{List}
use mathlib.Core.Path.{◌≡◌, refl, ◌∙◌}
use native.Mathlib.Omega.{arith}
use lib.ListN.{length, get_or, length-set}
use lib.Seq.{get_or-set_other}
use Rattle.model.specs.Rules.Reads.{Rate}
use Rattle.runs.specs.Raised.{Raised}
use Rattle.runs.proofs.Runs.{RaisedTo, due-first, due-next, raised-none, raised-next, added-most}
use Rattle.runs.proofs.add_runs.Goals as goal

pub loop-c-init : goal.loop-c-init
loop-c-init c =
    let v = c.requires.0 in
    (v, c.requires.1, c.requires.3, c.requires.2, due-first _ v, raised-none _ v c.args.weight c.args.sums.now, (λ d le. refl))

pub overflow_add-sums : goal.overflow_add-sums
overflow_add-sums c =
    let l = c.loop-c in
    omega (arith, l.invariant.2 l.c (omega arith), l.invariant.5.1 l.c (omega arith))

pub loop-c-preserved : goal.loop-c-preserved
loop-c-preserved c =
    let l = c.loop-c in
    let i = l.invariant in
    let v = i.0 in (
      v,
      i.1,
      i.2,
      length-set l.sums l.c _ ∙ i.3,
      due-next _ v l.c i.4,
      raised-next _ v _ c.args.sums.now l.sums l.c i.4 (omega arith) i.5,
      (λ d le. get_or-set_other l.sums l.c d _ 0 (λ e. omega arith) ∙ i.6 d le),
    )

-- the sums at the end of the loop
ended : (a : Rate) (w h : ℕ) (old new : List ℕ) (next : ℕ) → w < 2 ^ 16 → h ≤ next → length new ≡ 240 →
    RaisedTo a w old new next → ((c : ℕ) → h ≤ c → get_or new c 0 ≡ get_or old c 0) → Raised a w h old new
ended a w h old new next fits over long up beyond =
    record {
      long = long;
      raised = λ d lt. up.0 d (omega arith);
      bounded = λ d lt. omega (arith, up.0 d (omega arith), added-most a w d 65535 (omega arith));
      beyond = beyond;
    }

pub returns : goal.returns
returns c =
    let i = c.loop-c.invariant in
    ended _ c.args.weight c.args.hypercycle c.args.sums.now c.loop-c.sums c.loop-c.c (omega arith) (omega arith) i.3 i.5 i.6

pub returns-2 : goal.returns-2
returns-2 c =
    let l = c.loop-c in
    let i = l.invariant in
    let a : Rate = record { period = c.args.period; phase = c.args.phase } in
    let w = c.args.weight in
    ended a w c.args.hypercycle c.args.sums.now _ (l.c + c.args.period) (omega arith) (omega arith)
    (length-set l.sums l.c _ ∙ i.3)
    (raised-next a i.0 w c.args.sums.now l.sums l.c i.4 (omega arith) i.5)
    (λ d le. get_or-set_other l.sums l.c d _ 0 (λ e. omega arith) ∙ i.6 d le)
