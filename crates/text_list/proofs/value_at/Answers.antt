-- `text_list::value_at` meets its contract. Assumes nothing.
use Prim.Native.Nat.{ℕ, ◌+◌, ◌*◌, ◌-◌, ◌^◌, ◌<◌}
use mathlib.Core.Path.{◌≡◌, sym, ap, ◌∙◌}
use native.Mathlib.Omega.{arith}
use Rattle.model.specs.Rules.TextForm.{low_at}
use Rattle.text_list.proofs.Writes.{low-next, low_small, low-none, power_small}
use Rattle.text_list.proofs.value_at.Goals as goal
use Rattle.text_list.proofs.value_at.Goals.{At-loop-i}

small : (l : At-loop-i) → l.loop-i.value < 2 ^ 32
small l =
    let k = l.args.n - l.loop-i.i in
    omega (
      arith,
      l.loop-i.invariant.1,
      low_small l.args.bytes.now (λ i. omega (arith, l.shared_slice_known-1.given i)) k (l.args.at + l.loop-i.i),
      power_small k (omega (arith, l.requires.0)),
    )

pub loop-i-preserved : goal.loop-i-preserved
loop-i-preserved c = (
  omega (arith, c.loop-i.invariant.0),
  sym (low-next c.args.bytes.now c.args.n c.args.at c.loop-i.i (omega arith) c.loop-i.invariant.0 ∙
      sum (ap (λ (m : ℕ). 256 * m) (sym c.loop-i.invariant.1)) (sym c.from_byte-byte.ensures.0)),
)
  where
    sum : {a b c d : ℕ} → a ≡ b → c ≡ d → a + c ≡ b + d
    sum p q = omega arith

pub returns : goal.returns
returns c =
    let l = (goal.at.returns c).At-loop-i in
    let s = c in
    let zero : l.loop-i.i ≡ 0 = omega arith in
    let n : s.args.n - l.loop-i.i ≡ s.args.n = omega arith in
    let at : s.args.at + l.loop-i.i ≡ s.args.at = omega arith in (
      l.loop-i.invariant.1 ∙ ap (λ (k : ℕ). low_at k s.args.bytes.now (s.args.at + l.loop-i.i)) n ∙
          ap (low_at s.args.n s.args.bytes.now) at,
      small l,
    )

pub loop-i-init : goal.loop-i-init
loop-i-init c = (omega arith, sym (low-none c.args.bytes.now c.args.n _))

pub overflow_add-at : goal.overflow_add-at
overflow_add-at c = omega (arith, c.loop-i.invariant.0, c.requires.1)

pub bounds-bytes-at : goal.bounds-bytes-at
bounds-bytes-at c = omega (arith, c.loop-i.invariant.0, c.requires.1)

pub overflow_mul-value : goal.overflow_mul-value
overflow_mul-value c = omega (arith, small (goal.at.overflow_mul-value c).At-loop-i)

pub overflow_add-value : goal.overflow_add-value
overflow_add-value c = omega
    (arith, small (goal.at.overflow_add-value c).At-loop-i, c.from_byte-byte.ensures.1)
