-- `image_valid::greatest_byte` meets its contract. Assumes nothing.
use mathlib.Core.Path.{◌≡◌, sym, ap, ◌∙◌}
use Prim.Native.Nat.{ℕ}
use native.Mathlib.Omega.{arith}
use borrow.Author.Tests.{lt-ltb}
use lib.Dec.{ltb}
use lib.ListN.{length}
use Rattle.model.specs.Rules.Search.{all_below}
use Rattle.model.specs.Rules.Word.{byte_at}
use Rattle.model.proofs.Pairs.Decide.{all_none, all_one}
use Rattle.image_valid.proofs.All.{both-below}
use Rattle.image_valid.proofs.greatest_byte.Goals as goal

pub loop-x-init : goal.loop-x-init
loop-x-init c = ((λ n h. all_none _ ∙ sym (lt-ltb 0 n h)), omega arith)

pub loop-x-preserved : goal.loop-x-preserved
loop-x-preserved c =
    let l = c.loop-x in
    let list = c.args.list.now in (
      λ n h. all_one l.x-index (λ k. ltb (byte_at list k) n) ∙ rw (l.invariant.0 n h) (both-below l.most (byte_at list l.x-index) n) ∙
          ap (λ (k : ℕ). ltb k n) (sym c.max-most.ensures),
      omega arith,
    )

pub returns : goal.returns
returns c = λ n h.
    let l = c in
    let e : l.loop-x.x-index ≡ length l.args.list.now = omega arith in
    ap (λ (k : ℕ). all_below k (λ j. ltb (byte_at l.args.list.now j) n)) (sym e) ∙ l.loop-x.invariant.0 n h
