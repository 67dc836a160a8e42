-- `latency_rule::entry_of` meets its contract. Assumes nothing.
use native.Mathlib.Omega.{arith}
use native.Mathlib.Numerals.{add-one}
use Rattle.latency_rule.specs.Back.{used_by}
use Rattle.latency_rule.proofs.Hops.{times-byte}
use borrow.Author.Rules.{rules}
use Rattle.latency_rule.proofs.entry_of.Goals as goal

pub overflow_mul-result : goal.overflow_mul-result
overflow_mul-result c = let b = c in
    omega (arith, times-byte b.args.k b.args.hop.factor b.requires.0 (omega arith))

pub overflow_add-result-in-When : goal.overflow_add-result-in-When
overflow_add-result-in-When c = let b = c in
    omega (arith, times-byte b.args.k b.args.hop.factor b.requires.0 (omega arith))

pub overflow_add-result-in-When-2 : goal.overflow_add-result-in-When-2
overflow_add-result-in-When-2 c = let b = c in
    omega (arith, times-byte b.args.k b.args.hop.factor b.requires.0 (omega arith))

pub overflow_mul-result-in-LastWhen : goal.overflow_mul-result-in-LastWhen
overflow_mul-result-in-LastWhen c = let b = c in
    omega (arith, times-byte b.args.k b.args.hop.factor b.requires.0 (omega arith))

pub overflow_add-result-in-LastWhen : goal.overflow_add-result-in-LastWhen
overflow_add-result-in-LastWhen c = let b = c in
    omega (arith, times-byte b.args.k b.args.hop.factor b.requires.0 (omega arith))

pub returns-in-Now : goal.returns-in-Now
unfolding used_by
returns-in-Now c = rw c.in-Now.is (add-one _)

pub returns-in-Last : goal.returns-in-Last
unfolding used_by
returns-in-Last c = rw c.in-Last.is

pub returns-in-When : goal.returns-in-When
unfolding used_by
returns-in-When c = rw c.in-When.is (add-one _)

pub returns-in-LastWhen : goal.returns-in-LastWhen
unfolding used_by
returns-in-LastWhen c = rw c.in-LastWhen.is

pub returns-in-Current : goal.returns-in-Current
unfolding used_by
returns-in-Current c = rw c.in-Current.is
