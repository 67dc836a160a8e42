-- A block that fills, line after line. Assumes nothing.
use Prim.Native.Nat.{ℕ, suc, ◌+◌, ◌≤◌, ◌<◌}
use mathlib.Core.Bool.{Bool, true, false, cond}
use mathlib.Core.List.{List, [], ◌++◌, append_assoc, append-nil}
use mathlib.Core.Path.{◌≡◌, refl, sym, ap, ◌∙◌}
use native.Mathlib.Omega.{arith}
use lib.IntN.{ℤ}
use lib.ListN.{length, take, length-append, length-take}
use lib.Seq.{take-append-le, take-append-add}
use Rattle.model.specs.Rules.Image.{joined}
use Rattle.model.specs.Rules.Search.{join_from}
use Rattle.model.proofs.Images.Stretches.{joined-cons}
use Rattle.trial_step.specs.Underway.{lines_left, Underway, Lined, Filled}
use Rattle.trial_step.specs.declared.Block.{Block}
use Rattle.trial_step.specs.declared.Progress.{Progress}

-- So many bytes of the block are lines, and what was left then is these and what is left now.
pub record Filling (image text : List ℕ) (p₀ : Progress) (samples₀ state₀ : List ℤ) (block₀ : List ℕ)
    (samples state : List ℤ) (block : List ℕ) (p : Progress) (size : ℕ) : Type 0 where
  pub bytes : joined (lines_left image text p₀ samples₀ state₀) ≡
      take size block ++ joined (lines_left image text p samples state)
  pub fits : size ≤ length block
  pub underway : Underway image text p samples state
  pub most : length (lines_left image text p samples state) ≤ length (lines_left image text p₀ samples₀ state₀)
  pub fewer : 0 < size → length (lines_left image text p samples state) < length (lines_left image text p₀ samples₀ state₀)
  pub samples-kept : length samples ≡ length samples₀
  pub state-kept : length state ≡ length state₀
  pub block-kept : length block ≡ length block₀

pub filling-none : {image text : List ℕ} {p : Progress} {samples state : List ℤ} (block : List ℕ) →
    Underway image text p samples state →
    Filling image text p samples state block samples state block p 0
filling-none block u =
    record {
      bytes = refl;
      fits = omega arith;
      underway = u;
      most = omega arith;
      fewer = λ h. absurd (omega arith);
      samples-kept = refl;
      state-kept = refl;
      block-kept = refl;
    }

-- Where no line is left, all bytes are there.
pub filling-all : {image text : List ℕ} {p₀ : Progress} {samples₀ state₀ : List ℤ} {block₀ : List ℕ} {samples state : List ℤ}
    {block : List ℕ}
    {p : Progress} {size : ℕ} → Filling image text p₀ samples₀ state₀ block₀ samples state block p size →
    lines_left image text p samples state ≡ [] → joined (lines_left image text p₀ samples₀ state₀) ≡ take size block
unfolding join_from
filling-all {block = block} {size = size} f none =
    f.bytes ∙ ap (λ (ls : List (List ℕ)). take size block ++ joined ls) none ∙ append-nil (take size block)

-- The bytes of a line, written behind those that are there.
module _ (block line rest : List ℕ) (size n : ℕ) (fits : size ≤ length block) (inside : n ≤ length line) where
  behind-taken : take (size + n) (take size block ++ (line ++ rest)) ≡ take size block ++ take n line
  behind-taken = go (take size block) (rw (length-take size block) (omega arith))
    where
      go : (a : List ℕ) → length a ≡ size → take (size + n) (a ++ (line ++ rest)) ≡ a ++ take n line
      go a e = rw (← e) (take-append-add a (line ++ rest) n ∙ ap (a ++◌) (take-append-le n line rest inside))

-- One line more.
module _ {image text : List ℕ} {p₀ : Progress} {samples₀ state₀ : List ℤ} {block₀ : List ℕ}
    {samples state samples' state' : List ℤ}
    {block line' : List ℕ} {p next : Progress} {size n : ℕ} (rest : List ℕ)
    (f : Filling image text p₀ samples₀ state₀ block₀ samples state block p size)
    (l : Lined image text p samples state samples' state' line' n next)
    (samples-same : length samples' ≡ length samples) (state-same : length state' ≡ length state)
    (block_same : length (take size block ++ (line' ++ rest)) ≡ length block) where
  pub filling-more : Filling image text p₀ samples₀ state₀ block₀ samples' state' (take size block ++ (line' ++ rest)) next
      (size + n)
  filling-more =
      let after = lines_left image text next samples' state' in
      let falls : length after < length (lines_left image text p₀ samples₀ state₀) = omega
      (arith, f.most, ap length l.next-line) in
      record {
        bytes =
            f.bytes ∙ ap (λ (ls : List (List ℕ)). take size block ++ joined ls) l.next-line ∙
            ap (take size block ++◌) (joined-cons (take n line') after) ∙
            sym (append_assoc (take size block) (take n line') (joined after)) ∙
            ap (λ (b : List ℕ). b ++ joined after) (sym (behind-taken block line' rest size n f.fits l.fits));
        fits =
            omega (
              arith,
              l.fits,
              f.fits,
              length-take size block,
              length-append line' rest,
              length-append (take size block) (line' ++ rest),
            );
        underway = l.underway;
        most = omega arith;
        fewer = λ h. falls;
        samples-kept = samples-same ∙ f.samples-kept;
        state-kept = state-same ∙ f.state-kept;
        block-kept = block_same ∙ f.block-kept;
      }

-- A loop over blocks that ends with the script: fewer lines are left after each block, or it is the last.
pub falls : {image text : List ℕ} {p : Progress} {samples state samples' state' : List ℤ} {block' : List ℕ} {r : Block} →
    Filled image text p samples state samples' state' block' r →
    cond r.ended 0 (suc (length (lines_left image text r.progress samples' state'))) < suc
    (length (lines_left image text p samples state))
falls {image} {text} {p} {samples} {state} {samples'} {state'} {block'} {r} f = go r.ended refl
  where
    go : (b : Bool) → r.ended ≡ b →
        cond b 0 (suc (length (lines_left image text r.progress samples' state'))) < suc
        (length (lines_left image text p samples state))
    go true e = omega arith
    go false e = omega (arith, f.fewer e)

-- Blocks one after another to the end, and the bytes that they hold.
pub data Blocks (image text : List ℕ) : Progress → List ℤ → List ℤ → List ℕ → Type 0 where
  final : {p : Progress} {samples state : List ℤ} (samples' state' : List ℤ) (block' : List ℕ) (r : Block) →
      Filled image text p samples state samples' state' block' r → r.ended ≡ true →
      Blocks image text p samples state (take r.size block')
  onward : {p : Progress} {samples state : List ℤ} {out : List ℕ} (samples' state' : List ℤ) (block' : List ℕ) (r : Block) →
      Filled image text p samples state samples' state' block' r → r.ended ≡ false →
      Blocks image text r.progress samples' state' out → Blocks image text p samples state (take r.size block' ++ out)

-- They hold all lines that were left, and nothing else.
pub blocks-hold : {image text : List ℕ} {p : Progress} {samples state : List ℤ} {out : List ℕ} →
    Blocks image text p samples state out →
    out ≡ joined (lines_left image text p samples state)
blocks-hold (Blocks.final samples' state' block' r f e) = sym (f.last e)
blocks-hold (Blocks.onward samples' state' block' r f e b) = ap (take r.size block' ++◌) (blocks-hold b) ∙ sym (f.more e)
