-- `image_write::lay_out_code` meets its contract. Assumes nothing.
use Prim.Native.Nat.{◌+◌, ◌≤◌, ◌<◌}
use mathlib.Core.Path.{refl}
use native.Mathlib.Omega.{arith}
use Rattle.image_write.proofs.Joined.{lists-most}
use Rattle.image_write.proofs.lay_out_code.Goals as goal
use Rattle.image_write.proofs.lay_out_code.Goals.{After-lists_length-runs, Start}

few : (s : Start) → (s.args.n ≤ 64) × (s.args.h ≤ 240)
few s = (s.requires.0.few, s.requires.2)

-- where the code starts
start-most : (c : After-lists_length-runs) → c.lists_at-lists.result + c.lists_length-runs.result < 65536
start-most c =
    let s = (goal.at.After-lists_length-runs c).Start in
    let b = few s in
    omega (
      arith,
      c.lists_length-runs.ensures,
      c.lists_at-lists.ensures,
      b.0,
      b.1,
      lists-most s.args.periods.now s.args.order.now s.args.phases.now s.args.n s.args.h b.0,
    )

pub lists_length-runs-requires : goal.lists_length-runs-requires
lists_length-runs-requires c = let p = c.requires in (p.0, p.1, p.2)

pub overflow_add-end : goal.overflow_add-end
overflow_add-end c = omega (arith, start-most c, c.requires.3, c.requires.4)

pub overflow_mul-written : goal.overflow_mul-written
overflow_mul-written c = omega (arith, (few (goal.at.overflow_mul-written c).Start).0)

pub overflow_add-written : goal.overflow_add-written
overflow_add-written c = omega (arith, start-most c, c.requires.3, (few (goal.at.overflow_add-written c).Start).0, c.requires.4)

pub returns : goal.returns
returns c =
    let a = c.lists_at-lists.ensures in
    let e = c.lists_length-runs.ensures in
    record { lists-at = a; code_at = omega (arith, a, e); ends = refl; tail-ends = refl }

pub lists_at-lists-requires : goal.lists_at-lists-requires
lists_at-lists-requires c = few c

pub overflow_mul-table : goal.overflow_mul-table
overflow_mul-table c = omega (arith, c.requires.4)

pub overflow_add-table : goal.overflow_add-table
overflow_add-table c = omega (arith, c.requires.4)

pub overflow_add-code : goal.overflow_add-code
overflow_add-code c = omega (arith, start-most c)

pub overflow_add-code-2 : goal.overflow_add-code-2
overflow_add-code-2 c = omega (arith, start-most c, c.requires.4)
