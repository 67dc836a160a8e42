-- From the image of an accepted pair to its trial. Assumes nothing.
use Rattle.std.specs.Prelude.{Result, Ok, Err}
use Prim.Native.Nat.{ℕ, ◌≤◌, ◌<◌}
use mathlib.Core.Bool.{Bool, true}
use mathlib.Core.List.{List, ◌++◌, append_assoc}
use mathlib.Core.Path.{◌≡◌, refl, sym, ap, ap₂, subst, ◌∙◌}
use native.Mathlib.Omega.{arith}
use borrow.Author.Tests.{leb-true, le-leb, lt-ltb}
use lib.IntN.{ℤ, pos}
use lib.ListN.{length, take, drop, replicate, take-append-drop, length-append, length-replicate}
use lib.Seq.{take-append_seam}
use Rattle.model.specs.Rules.Compile.{Pair, pair_of, verdict_of, compile_of}
use Rattle.model.specs.Rules.Image.{image_of, tail_of, written_of}
use Rattle.model.specs.Rules.Machine.{Effect, well_formed, count_of, stated_length, reset_words}
use Rattle.model.specs.Rules.Outcome.{Outcome, accepted, refused, ◌▷◌, provided}
use Rattle.model.specs.Rules.Program.{Program}
use Rattle.model.specs.Rules.Schedule.{Schedule}
use Rattle.model.specs.Rules.Script.{is_input_of, script_of, no_samples, check_of, calls_of}
use Rattle.model.specs.Rules.Trial.{lines_from, start_of, trial_of}
use Rattle.model.specs.Rules.Word.{AreBytes}
use Rattle.model.specs.declared.Fault.{Fault}
use Rattle.model.proofs.Images.Bounds.{Bounded}
use Rattle.model.proofs.Images.Formed.{image-well-formed}
use Rattle.model.proofs.Basics.Outcomes.{
  accepted≢refused,
  accepted-same,
  accepted-then,
  refused-then,
  then-accepted,
  provided-true,
}
use Rattle.model.proofs.Bench.Scripts.{calls_count}
use Rattle.model.proofs.Images.Stretches.{image-length, image-count}
use Rattle.model.proofs.Images.Tails.{headed, stated-length, written-bears, written-length}
use Rattle.model.proofs.Bench.Scripts.{lines-count}
use Rattle.model.proofs.Pairs.Verdict.{pair-accepted, pair-multiple, pair-bounded}
use Rattle.machine.specs.Runnable.{Runnable}
use Rattle.machine.proofs.Machine.{reset-done, lends-itself}
use Rattle.machine.proofs.Runnable.{reset-runnable}
use Rattle.trial_script.specs.Inputs.{fetches}
use Rattle.trial_script.proofs.Marks.{fetches-are}
use Rattle.trial_step.specs.Underway.{lines_left, at_start, Underway}
use Rattle.trial_step.proofs.Left.{left-all, left-count}
use Rattle.trial_prepare.specs.Prepares.{Started, Prepares, Begun, PreparesOn}
use Rattle.trial_prepare.specs.declared.Prepared.{Prepared}
use Rattle.trial_prepare.specs.declared.Start.{Start}

refused-inside : {A : Type 0} {f g : Fault} → ◌≡◌ {A = Outcome A} (refused f) (refused g) → f ≡ g
refused-inside e = cc

-- The image of a pair.
abbrev pub image_in : Pair → List ℕ
image_in q = image_of q.program q.schedule q.hypercycle

-- A pair that compiles into a buffer with space for every image and its tail: n bytes are written at the buffer's start.
pub record Written (program schedule image : List ℕ) (n : ℕ) : Type 0 where
  pub pair : Pair
  pub accepts : pair_of program schedule ≡ accepted pair
  pub bounded : Bounded pair.program pair.schedule pair.hypercycle
  pub formed : well_formed (image_in pair) ≡ true
  pub inside : n ≤ length image
  pub whole : take n image ≡ written_of pair.program pair.schedule pair.hypercycle

-- The first l of them are its image.
pub record Compiles (program schedule image : List ℕ) (l : ℕ) : Type 0 where
  pub pair : Pair
  pub accepts : pair_of program schedule ≡ accepted pair
  pub bounded : Bounded pair.program pair.schedule pair.hypercycle
  pub formed : well_formed (image_in pair) ≡ true
  pub inside : l ≤ length image
  pub here : take l image ≡ image_in pair

module _ (program schedule image : List ℕ) (n : ℕ) (w : Written program schedule image n) where
  abbrev p : Program
  p = w.pair.program

  abbrev s : Schedule
  s = w.pair.schedule

  abbrev h : ℕ
  h = w.pair.hypercycle

  image-first : image_of p s h ++ (tail_of p s ++ drop n image) ≡ image
  unfolding written_of
  image-first =
      sym (append_assoc (image_of p s h) (tail_of p s) (drop n image)) ∙
      ap (λ (l : List ℕ). l ++ drop n image) (sym w.whole) ∙ take-append-drop n image

  -- There is a head, which holds L.
  pub has-head : 4 ≤ length (take n image)
  has-head =
      omega (
        arith,
        ap length w.whole,
        written-length p s h,
        image-length p s h,
        (headed (image_of p s h) w.formed).four,
      )

  pub first-bytes : (l : ℕ) → l ≡ stated_length (take n image) → Compiles program schedule image l
  first-bytes l e =
      let size : l ≡ length (image_of p s h) =
      e ∙ ap stated_length w.whole ∙ stated-length w.formed (written-bears p s h) in
      record {
        pair = w.pair;
        accepts = w.accepts;
        bounded = w.bounded;
        formed = w.formed;
        inside = omega (arith, ap length image-first, length-append (image_of p s h) (tail_of p s ++ drop n image));
        here =
            ap₂ (λ (k : ℕ) (z : List ℕ). take k z) size (sym image-first) ∙
            take-append_seam (image_of p s h) (tail_of p s ++ drop n image);
      }

module _ (program schedule buffer : List ℕ) (bytes : AreBytes program) (room : 65791 ≤ length buffer) where
  abbrev both : Pair → List ℕ
  both q = written_of q.program q.schedule q.hypercycle

  short : (q : Pair) → pair_of program schedule ≡ accepted q → length (both q) ≤ length buffer
  short q e =
      let b = pair-bounded program schedule q e bytes in
      omega (arith, written-length q.program q.schedule q.hypercycle, b.size, b.signals)

  written : (q : Pair) → pair_of program schedule ≡ accepted q →
      compile_of program schedule buffer ≡
      record { answer = accepted (length (both q)); left = both q ++ drop (length (both q)) buffer }
  unfolding compile_of verdict_of ◌▷◌ provided
  written q e = rw (e, le-leb (length (both q)) (length buffer) (short q e))

  unwritten : (f : Fault) → pair_of program schedule ≡ refused f → (compile_of program schedule buffer).answer ≡ refused f
  unfolding compile_of verdict_of ◌▷◌
  unwritten f e = rw e

  -- What the answer of compile says of the pair.
  pub compiles : (n : ℕ) (image : List ℕ) → (compile_of program schedule buffer).answer ≡ accepted n →
      image ≡ (compile_of program schedule buffer).left → Written program schedule image n
  compiles n image a l = go (pair_of program schedule) refl
    where
      go : (o : Outcome Pair) → pair_of program schedule ≡ o → Written program schedule image n
      go (accepted q) e =
          let w = written q e in
          let size : n ≡ length (both q) = accepted-same n (length (both q)) (sym a ∙ ap (λ (x : Effect ℕ ℕ). x.answer) w) in
          let is : image ≡ both q ++ drop (length (both q)) buffer = l ∙ ap (λ (x : Effect ℕ ℕ). x.left) w in
          let b = pair-bounded program schedule q e bytes in
          record {
            pair = q;
            accepts = e;
            bounded = b;
            formed =
                image-well-formed q.program q.schedule q.hypercycle (pair-accepted program schedule q e)
                (pair-multiple program schedule q e) b;
            inside = omega (arith, size, ap length is, length-append (both q) (drop (length (both q)) buffer));
            whole = ap₂ (λ (k : ℕ) (z : List ℕ). take k z) size is ∙ take-append_seam (both q) (drop (length (both q)) buffer);
          }
      go (refused f) e = absurd (accepted≢refused _ n f a (unwritten f e))

  pub compile-refuses : (f : Fault) → (compile_of program schedule buffer).answer ≡ refused f →
      pair_of program schedule ≡ refused f
  compile-refuses f a = go (pair_of program schedule) refl
    where
      go : (o : Outcome Pair) → pair_of program schedule ≡ o → o ≡ refused f
      go (accepted q) e = absurd (accepted≢refused _ _ f (ap (λ (x : Effect ℕ ℕ). x.answer) (written q e)) a)
      go (refused g) e = let same : g ≡ f = refused-inside (sym (unwritten g e) ∙ a) in ap refused same

-- The state before the first line can be run, and the lines left are all.
module _ (image text : List ℕ) (r : Prepared) (formed : well_formed image ≡ true) (few : count_of image ≤ 64)
    (b : Begun image text r) where
  zeros : List ℤ
  zeros = replicate 65 (pos 0)

  long : count_of image < length zeros
  unfolding zeros
  long = omega (arith, few, length-replicate {A = ℤ} 65 (pos 0))

  start_is : start_of image ≡ reset_words image zeros
  unfolding zeros
  start_is =
      ap (λ (e : Effect ℕ ℤ). e.left)
      (reset-done (lends-itself formed) zeros formed (lt-ltb (count_of image) (length zeros) long))

  runnable : Runnable image (start_of image) no_samples
  runnable =
      subst (λ (s : List ℤ). Runnable image s no_samples) (sym start_is)
      (reset-runnable image zeros no_samples formed long (omega (arith, length-replicate {A = ℤ} 64 (pos 0))))

  pub all_left : lines_left image text at_start r.samples r.state ≡ lines_from image 0 (start_of image) (calls_of text)
  all_left =
      ap₂ (lines_left image text at_start) b.samples-are b.state-is ∙ left-all image text no_samples (start_of image)

  pub begun-count : r.lines ≡ length (lines_left image text at_start r.samples r.state)
  begun-count =
      b.lines-is ∙
      sym (ap length all_left ∙ lines-count image 0 (start_of image) (calls_of text) ∙ calls_count no_samples
      (script_of text).actions)

  pub begun-underway : Underway image text at_start r.samples r.state
  begun-underway =
      rw (b.samples-are, b.state-is)
      (record { runnable = runnable; few = omega (arith, left-count text no_samples, b.lines-is, b.few) })

module _ (program schedule text : List ℕ) (r : Start) (c : Compiles program schedule r.image r.length) where
  abbrev image : List ℕ
  image = image_in c.pair

  inputs_are : check_of (fetches image) text ≡ check_of (is_input_of c.pair.program) text
  inputs_are = ap (λ (f : ℕ → Bool). check_of f text) (fetches-are _ _ _ c.bounded)

  few : count_of image ≤ 64
  few = rw (image-count c.pair.program c.pair.schedule c.pair.hypercycle) c.bounded.signals

  started : (p : Prepared) → Begun (take r.length r.image) text p → Started program schedule text r p
  unfolding trial_of
  started p b =
      let on : Begun image text p = rw c.here at b in
      record {
        samples-are = on.samples-are;
        state-is = rw c.here on.state-is;
        fits = c.inside;
        lines_are =
            rw c.here
            (accepted-then _ _ _ c.accepts ∙ accepted-then _ _ _ (sym inputs_are ∙ on.checked) ∙
            ap accepted (sym (all_left image text p c.formed few on)));
        count = rw c.here (begun-count image text p c.formed few on);
        underway = rw c.here (begun-underway image text p c.formed few on);
      }

  unstarted : (f : Fault) → check_of (fetches (take r.length r.image)) text ≡ refused f →
      trial_of program schedule text ≡ refused f
  unfolding trial_of
  unstarted f e = accepted-then _ _ _ c.accepts ∙ refused-then _ _ _ (sym inputs_are ∙ (rw c.here at e))

  -- What is prepared on the image is prepared for the pair.
  pub prepared : (ready : Result Prepared Fault) → PreparesOn (take r.length r.image) text ready →
      Prepares program schedule text r ready
  unfolding PreparesOn Prepares
  prepared (Ok p) b = started p b
  prepared (Err f) e = unstarted f e

pub uncompiled : (program schedule text : List ℕ) (f : Fault) → pair_of program schedule ≡ refused f →
    trial_of program schedule text ≡ refused f
unfolding trial_of
uncompiled program schedule text f e = refused-then _ _ _ e

-- A script that is not refused is short.
pub checked-short : (is_input : ℕ → Bool) (text : List ℕ) → check_of is_input text ≡ accepted tt → length text ≤ 2048
unfolding check_of
checked-short is_input text e =
    leb-true (length text) 2048 (provided-true _ 24 0 (then-accepted _ _ tt e).1)

-- A start that is fine.
pub is-started : (program schedule text : List ℕ) (r : Start) {p : Prepared} {ready : Result Prepared Fault} → ready ≡ Ok p →
    Prepares program schedule text r ready → Started program schedule text r p
unfolding Prepares
is-started program schedule text r e s = subst (λ (j : Result Prepared Fault). Prepares program schedule text r j) e s
