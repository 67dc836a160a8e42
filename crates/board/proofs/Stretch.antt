-- A reset and a cycle by their cases, on an image and on a stretch of the images. Assumes nothing.
use Prim.Native.Nat.{ℕ, ◌+◌, ◌≤◌, ◌<◌}
use mathlib.Core.Bool.{Bool, true, false}
use mathlib.Core.List.{List, []}
use mathlib.Core.Path.{◌≡◌, refl, sym, ap, subst, ◌∙◌}
use native.Mathlib.Nat.{min-le_right}
use native.Mathlib.Omega.{arith}
use borrow.Author.Tests.{ltb-true, ltb-false, leb-true, leb-false, lt-ltb, le-leb}
use lib.Dec.{leb, ltb}
use lib.IntN.{ℤ, pos}
use lib.ListN.{length, get_or, take, replicate, length-take, length-append, length-drop}
use Rattle.model.specs.Rules.Machine.{
  Effect,
  stretch,
  hyper_of,
  count_of,
  stated_length,
  head_ok,
  well_formed,
  image_part,
  lent_ok,
  is_position,
  reset_words,
  cycle_words,
  cycle_count,
  reset_of,
  cycle_of,
}
use Rattle.model.specs.Rules.Outcome.{Outcome, accepted, refused, fault}
use Rattle.model.specs.declared.Fault.{Fault}
use Rattle.model.proofs.Images.Cycles.{cycle-length}
use Rattle.model.proofs.Basics.Outcomes.{table-length}
use Rattle.model.proofs.Images.Tails.{lent-formed}
use Rattle.image_valid.proofs.Parts.{head, formed}
use Rattle.image_valid.specs.Lends.{Lends}
use Rattle.machine.specs.Runnable.{Runnable}
use Rattle.machine.proofs.Machine.{done}
use Rattle.machine.proofs.Machine as Answers
use Rattle.machine.proofs.Runnable.{stays-runnable, reset-runnable}
use Rattle.board.specs.Board.{on_stretch}
use Rattle.board.specs.Events.{RunFault, bad-image, bad-position}

abbrev pub answer_of : Effect ℕ ℤ → Outcome ℕ
answer_of e = e.answer

abbrev pub left_of : Effect ℕ ℤ → List ℤ
left_of e = e.left

-- a refused call changes nothing
abbrev pub kept : Fault → List ℤ → Effect ℕ ℤ
kept f words = record { answer = refused f; left = words }

pub never : {A : Type 0} (a : A) (f : Fault) → ◌≡◌ {A = Outcome A} (accepted a) (refused f) → ⊥
never a f e = let z : ◌≡◌ {A = ℕ} 0 1 = cc in omega arith

-- what a call hands back, once its definition is known
pub gives-effect : {e r : Effect ℕ ℤ} {a : Outcome ℕ} {s : List ℤ} → e ≡ r → a ≡ r.answer → s ≡ r.left →
    (a ≡ e.answer) × (s ≡ e.left)
gives-effect q x z = (x ∙ sym (ap answer_of q), z ∙ sym (ap left_of q))

-- A well-formed image has at most 64 signals, and some bytes.
pub few-signals : (image : List ℕ) → well_formed image ≡ true → count_of image ≤ 64
few-signals image w = (head image (formed image w).good).signals

some_bytes : (image : List ℕ) → well_formed image ≡ true → 0 < length image
some_bytes image w = omega (arith, (head image (formed image w).good).four)

-- What is accepted has an image in it; what is not has none that is well formed.
lends : (lent : List ℕ) → lent_ok lent ≡ true → Lends lent (image_part lent)
lends lent e = record { judged = e ∙ sym (lent-formed lent e); part = λ w. refl }

nothing-formed : well_formed [] ≡ false
unfolding well_formed head_ok
nothing-formed = refl

lends_nothing : (lent : List ℕ) → lent_ok lent ≡ false → Lends lent []
lends_nothing lent e =
    record {
      judged = e ∙ sym nothing-formed;
      part = λ w. let q = sym w ∙ nothing-formed in let z : ◌≡◌ {A = ℕ} 0 1 = cc in absurd (omega arith);
    }

-- A reset is refused, or leaves the initial words of the image in what is lent.
data ResetCase (lent : List ℕ) (words : List ℤ) : Type 0 where
  reset-stays : (f : Fault) → reset_of lent words ≡ kept f words → ResetCase lent words
  reset-does : lent_ok lent ≡ true → count_of (image_part lent) < length words →
      reset_of lent words ≡ done 0 (reset_words (image_part lent) words) → ResetCase lent words

reset-case : (lent : List ℕ) (words : List ℤ) → ResetCase lent words
reset-case lent words = go (lent_ok lent) (ltb (count_of (image_part lent)) (length words)) refl refl
  where
    go : (a b : Bool) → lent_ok lent ≡ a → ltb (count_of (image_part lent)) (length words) ≡ b → ResetCase lent words
    go false b w l = reset-stays (fault 20 0) (Answers.reset-image (lends_nothing lent w) words nothing-formed)
    go true false w l = reset-stays (fault 21 0) (Answers.reset-state (lends lent w) words (lent-formed lent w) l)
    go true true w l =
        reset-does w (ltb-true (count_of (image_part lent)) (length words) l)
        (Answers.reset-done (lends lent w) words (lent-formed lent w) l)

-- A cycle is refused, on the words and samples of a place by 20 or 22 alone, or runs.
data CycleCase (lent : List ℕ) (words samples : List ℤ) : Type 0 where
  cycle-stays : (f : Fault) → (64 < length words → 64 ≤ length samples → RunFault f) →
      cycle_of lent words samples ≡ kept f words →
      CycleCase lent words samples
  cycle-does : lent_ok lent ≡ true → Runnable (image_part lent) words samples → CycleCase lent words samples

cycle_runs : (lent : List ℕ) (words samples : List ℤ) → lent_ok lent ≡ true → Runnable (image_part lent) words samples →
    cycle_of lent words samples ≡ done (cycle_count (image_part lent) words) (cycle_words (image_part lent) words samples)
cycle_runs lent words samples w r =
    Answers.cycle-done (lends lent w) words samples r.formed (lt-ltb (count_of (image_part lent)) (length words) r.long)
    r.position (le-leb (count_of (image_part lent)) (length samples) r.enough)

cycle-case : (lent : List ℕ) (words samples : List ℤ) → CycleCase lent words samples
cycle-case lent words samples =
    go (lent_ok lent) (ltb (count_of image) (length words)) (is_position (hyper_of image) (get_or words 0 (pos 0)))
    (leb (count_of image) (length samples)) refl refl refl refl
  where
    image : List ℕ
    image = image_part lent

    go : (a b c d : Bool) → lent_ok lent ≡ a → ltb (count_of (image_part lent)) (length words) ≡ b →
        is_position (hyper_of (image_part lent)) (get_or words 0 (pos 0)) ≡ c →
        leb (count_of (image_part lent)) (length samples) ≡ d →
        CycleCase lent words samples
    go false b c d w l p m =
        cycle-stays (fault 20 0) (λ h i. bad-image refl) (Answers.cycle-image (lends_nothing lent w) words samples nothing-formed)
    go true false c d w l p m =
        cycle-stays (fault 21 0)
        (λ h i. absurd
        (omega (
          arith,
          few-signals (image_part lent) (lent-formed lent w),
          ltb-false (count_of (image_part lent)) (length words) l,
        )))
        (Answers.cycle-state (lends lent w) words samples (lent-formed lent w) l)
    go true true false d w l p m =
        cycle-stays (fault 22 0) (λ h i. bad-position refl)
        (Answers.cycle-position (lends lent w) words samples (lent-formed lent w) l p)
    go true true true false w l p m =
        cycle-stays (fault 23 0)
        (λ h i. absurd
        (omega (
          arith,
          few-signals (image_part lent) (lent-formed lent w),
          leb-false (count_of (image_part lent))
              (length samples) m,
        )))
        (Answers.cycle-samples (lends lent w) words samples (lent-formed lent w) l p m)
    go true true true true w l p m =
        cycle-does w
        (record {
          formed = lent-formed lent w;
          long = ltb-true (count_of (image_part lent)) (length words) l;
          position = p;
          enough = leb-true (count_of (image_part lent)) (length samples) m;
        })

-- Both keep the number of words, and a refused one the words.
reset-words-length : (image : List ℕ) (words : List ℤ) → count_of image < length words →
    length (reset_words image words) ≡ length words
unfolding reset_words
reset-words-length image words lt = simp (length-append, length-drop, table-length) (omega arith)

pub reset-length : (image : List ℕ) (words : List ℤ) → length (reset_of image words).left ≡ length words
reset-length image words = go (reset-case image words)
  where
    go : ResetCase image words → length (reset_of image words).left ≡ length words
    go (reset-stays f e) = ap (λ (x : Effect ℕ ℤ). length x.left) e
    go (reset-does w lt e) = ap (λ (x : Effect ℕ ℤ). length x.left) e ∙ reset-words-length (image_part image) words lt

pub cycle-of-length : (image : List ℕ) (words samples : List ℤ) → length (cycle_of image words samples).left ≡ length words
cycle-of-length image words samples = go (cycle-case image words samples)
  where
    go : CycleCase image words samples → length (cycle_of image words samples).left ≡ length words
    go (cycle-stays f n e) = ap (λ (x : Effect ℕ ℤ). length x.left) e
    go (cycle-does w r) = ap (λ (x : Effect ℕ ℤ). length x.left) (cycle_runs image words samples w r) ∙
        cycle-length (image_part image) words samples

pub reset-keeps : (words : List ℤ) (image : List ℕ) (f : Fault) → (reset_of image words).answer ≡ refused f →
    (reset_of image words).left ≡ words
reset-keeps words image f h = go (reset-case image words)
  where
    go : ResetCase image words → (reset_of image words).left ≡ words
    go (reset-stays g e) = ap left_of e
    go (reset-does w lt e) = absurd (never 0 f (sym (ap answer_of e) ∙ h))

pub cycle-keeps : (words samples : List ℤ) (image : List ℕ) (f : Fault) → (cycle_of image words samples).answer ≡ refused f →
    (cycle_of image words samples).left ≡ words
cycle-keeps words samples image f h = go (cycle-case image words samples)
  where
    go : CycleCase image words samples → (cycle_of image words samples).left ≡ words
    go (cycle-stays g n e) = ap left_of e
    go (cycle-does w r) =
        absurd (never (cycle_count (image_part image) words) f (sym (ap answer_of (cycle_runs image words samples w r)) ∙ h))

-- What is lent can be run on these words: with 64 samples or more a cycle is accepted.
abbrev pub CanRun : List ℕ → List ℤ → Type 0
CanRun image words = (samples : List ℤ) → 64 ≤ length samples → (n : ℕ) × ((cycle_of image words samples).answer ≡ accepted n)

runnable-can : (image : List ℕ) (words : List ℤ) → lent_ok image ≡ true →
    ((samples : List ℤ) → 64 ≤ length samples → Runnable (image_part image) words samples) → CanRun image words
runnable-can image words w r samples many =
    (cycle_count (image_part image) words, ap answer_of (cycle_runs image words samples w (r samples many)))

pub take_short : (n : ℕ) (l : List ℕ) → length (take n l) ≤ length l
take_short n l = rw length-take (min-le_right n (length l))

part-short : (image : List ℕ) → length (image_part image) ≤ length image
unfolding image_part
part-short image = take_short (stated_length image) image

-- It has some bytes; a reset leaves it so, and so does a cycle.
pub can-some : (image : List ℕ) (words : List ℤ) → CanRun image words → 0 < length image
can-some image words can = go (cycle-case image words samples) (can samples (omega arith))
  where
    samples : List ℤ
    samples = replicate 64 (pos 0)

    go : CycleCase image words samples → ((n : ℕ) × ((cycle_of image words samples).answer ≡ accepted n)) → 0 < length image
    go (cycle-stays f known e) (n, h) = absurd (never n f (sym h ∙ ap answer_of e))
    go (cycle-does w r) x = omega (arith, some_bytes (image_part image) r.formed, part-short image)

pub reset-can : (image : List ℕ) (words : List ℤ) (n : ℕ) → (reset_of image words).answer ≡ accepted n →
    CanRun image (reset_of image words).left
reset-can image words n h = go (reset-case image words)
  where
    go : ResetCase image words → CanRun image (reset_of image words).left
    go (reset-stays f e) = absurd (never n f (sym h ∙ ap answer_of e))
    go (reset-does w l e) =
        subst (CanRun image) (sym (ap left_of e))
        (runnable-can image (reset_words (image_part image) words) w
        (λ samples many. reset-runnable (image_part image) words samples (lent-formed image w) l many))

pub cycle-can : (image : List ℕ) (words samples : List ℤ) (n : ℕ) → (cycle_of image words samples).answer ≡ accepted n →
    CanRun image (cycle_of image words samples).left
cycle-can image words samples n h = go (cycle-case image words samples)
  where
    go : CycleCase image words samples → CanRun image (cycle_of image words samples).left
    go (cycle-stays f known e) = absurd (never n f (sym h ∙ ap answer_of e))
    go (cycle-does w r) =
        let m = stays-runnable r in
        subst (CanRun image) (sym (ap left_of (cycle_runs image words samples w r)))
        (runnable-can image (cycle_words (image_part image) words samples) w
        (λ next many.
        record {
          formed = m.formed;
          long = m.long;
          position = m.position;
          enough = omega (arith, few-signals (image_part image) m.formed);
        }))

-- A reset yields 0; a cycle on the words and samples of a place is refused by 20 or 22 alone.
pub reset-zero : (image : List ℕ) (words : List ℤ) (n : ℕ) → (reset_of image words).answer ≡ accepted n →
    (reset_of image words).answer ≡ accepted 0
reset-zero image words n h = go (reset-case image words)
  where
    go : ResetCase image words → (reset_of image words).answer ≡ accepted 0
    go (reset-stays f e) = absurd (never n f (sym h ∙ ap answer_of e))
    go (reset-does w l e) = ap answer_of e

pub cycle-fault : (image : List ℕ) (words samples : List ℤ) → 64 < length words → 64 ≤ length samples → (f : Fault) →
    (cycle_of image words samples).answer ≡ refused f → RunFault f
cycle-fault image words samples long many f h = go (cycle-case image words samples)
  where
    go : CycleCase image words samples → RunFault f
    go (cycle-stays g known e) =
        let q : refused g ≡ refused f = sym (ap answer_of e) ∙ h in
        let same : g ≡ f = cc in
        subst RunFault same (known long many)
    go (cycle-does w r) =
        absurd (never (cycle_count (image_part image) words) f (sym (ap answer_of (cycle_runs image words samples w r)) ∙ h))

-- On a stretch of the images: 27 outside them, and else what the call makes of the image there.
module _ (images : List ℕ) (start size : ℕ) (words : List ℤ) (run : List ℕ → Effect ℕ ℤ) where
  pub outside-27 : leb (start + size) (length images) ≡ false → on_stretch images start size words run ≡ kept (fault 27 0) words
  unfolding on_stretch
  outside-27 e = rw e

  pub inside-runs : leb (start + size) (length images) ≡ true →
      on_stretch images start size words run ≡ run (stretch images start (start + size))
  unfolding on_stretch
  inside-runs e = rw e

  pub on-keeps : ((image : List ℕ) (f : Fault) → (run image).answer ≡ refused f → (run image).left ≡ words) → (f : Fault) →
      (on_stretch images start size words run).answer ≡ refused f → (on_stretch images start size words run).left ≡ words
  on-keeps keeps f h = go (leb (start + size) (length images)) refl
    where
      go : (t : Bool) → leb (start + size) (length images) ≡ t → (on_stretch images start size words run).left ≡ words
      go true e =
          ap left_of (inside-runs e) ∙ keeps (stretch images start (start + size)) f (sym (ap answer_of (inside-runs e)) ∙ h)
      go false e = ap left_of (outside-27 e)

  pub on-length : ((image : List ℕ) → length (run image).left ≡ length words) →
      length (on_stretch images start size words run).left ≡ length words
  on-length keeps = go (leb (start + size) (length images)) refl
    where
      go : (t : Bool) → leb (start + size) (length images) ≡ t →
          length (on_stretch images start size words run).left ≡ length words
      go true e = ap (λ (x : Effect ℕ ℤ). length x.left) (inside-runs e) ∙ keeps (stretch images start (start + size))
      go false e = ap (λ (x : Effect ℕ ℤ). length x.left) (outside-27 e)

  -- A call that is not refused lies inside.
  pub accepted-inside : (n : ℕ) → (on_stretch images start size words run).answer ≡ accepted n →
      leb (start + size) (length images) ≡ true
  accepted-inside n h = go (leb (start + size) (length images)) refl
    where
      go : (t : Bool) → leb (start + size) (length images) ≡ t → leb (start + size) (length images) ≡ true
      go true e = e
      go false e = absurd (never n (fault 27 0) (sym h ∙ ap answer_of (outside-27 e)))

  pub accepted-runs : (n : ℕ) → (on_stretch images start size words run).answer ≡ accepted n →
      on_stretch images start size words run ≡ run (stretch images start (start + size))
  accepted-runs n h = inside-runs (accepted-inside n h)
