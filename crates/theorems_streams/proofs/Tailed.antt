-- What is lent is accepted exactly if it is an image, with its tail or without, and calls on it are calls on the image.
-- Assumes nothing.
use Prim.Native.Nat.{ℕ, ◌<◌}
use mathlib.Core.Bool.{Bool, true, false}
use mathlib.Core.List.{List, [], ◌∷◌}
use mathlib.Core.Logic.{◌↔◌}
use mathlib.Core.Path.{◌≡◌, refl, ap, subst, ◌∙◌}
use native.Mathlib.Omega.{arith}
use borrow.Author.Tests.{ltb-true, ltb-false}
use lib.Dec.{ltb}
use lib.IntN.{ℤ}
use lib.ListN.{get_or, take, drop, length-take, get_or-eq_default}
use lib.Seq.{get_or-take}
use Rattle.model.specs.Says.Calls.{Call, reset, cycle, call_of, logged, after, log_after}
use Rattle.model.specs.Rules.Machine.{stated_length, well_formed, image_part, lent_ok, Effect, reset_of, cycle_of}
use Rattle.model.specs.Rules.Outcome.{Outcome, accepted, ◌▷◌, provided}
use Rattle.model.specs.Rules.Tail.{tail_in, Bears}
use Rattle.model.specs.Rules.Word.{AreBytes}
use Rattle.theorems_streams.specs.Held.{answers_of}
use Rattle.model.proofs.Images.Tails.{part-is, tail-is, lent-ok, bears-itself, lent-formed, lent-bears}

-- The bytes of the image are bytes.
pub part_bytes : (lent : List ℕ) → AreBytes lent → AreBytes (image_part lent)
unfolding image_part
part_bytes lent bytes i = go (stated_length lent) lent bytes i
  where
    go : (n : ℕ) (l : List ℕ) → AreBytes l → (i : ℕ) → get_or (take n l) i 0 < 256
    go n l b i = cut (ltb i n) refl
      where
        cut : (t : Bool) → ltb i n ≡ t → get_or (take n l) i 0 < 256
        cut true e = rw (get_or-take n l i 0 (ltb-true i n e)) (b i)
        cut false e =
            rw (get_or-eq_default (take n l) 0 {n = i} (omega (arith, length-take n l, ltb-false i n e))) (omega arith)

-- The tail: of what is accepted the bytes after the image, and 20 for all else.
pub tail-exactly : (lent tail : List ℕ) →
    (tail_in lent ≡ accepted tail) ↔ ((image : List ℕ) × (well_formed image ≡ true) × Bears image tail lent)
unfolding tail_in provided ◌▷◌
tail-exactly lent tail = (λ e. forth (lent_ok lent) refl e, λ (i, f, b). back f b)
  where
    forth : (b : Bool) → lent_ok lent ≡ b → provided b 20 0 ▷ (λ _. accepted (drop (stated_length lent) lent)) ≡ accepted tail →
        (image : List ℕ) × (well_formed image ≡ true) × Bears image tail lent
    forth true q e =
        let same : drop (stated_length lent) lent ≡ tail = cc in
        (image_part lent, lent-formed lent q, subst (λ (t : List ℕ). Bears (image_part lent) t lent) same (lent-bears lent q))
    forth false q e = let z : ◌≡◌ {A = ℕ} 0 1 = cc in absurd (omega arith)

    back : {image : List ℕ} → well_formed image ≡ true → Bears image tail lent → tail_in lent ≡ accepted tail
    back f b = rw (lent-ok f b) (ap accepted (tail-is f b))

-- Calls on what bears a well-formed image answer and leave what they do on the image alone.
pub call-alike : {image tail lent : List ℕ} → well_formed image ≡ true → Bears image tail lent → (state : List ℤ) (c : Call) →
    call_of lent state c ≡ call_of image state c
unfolding call_of reset_of cycle_of
call-alike {image} f b state reset =
    let own = bears-itself image in
    rw (lent-ok f b, lent-ok f own, part-is f b, part-is f own)
call-alike {image} f b state (cycle samples) =
    let own = bears-itself image in
    rw (lent-ok f b, lent-ok f own, part-is f b, part-is f own)

-- So do lists of calls.
pub list-alike : {image tail lent : List ℕ} → well_formed image ≡ true → Bears image tail lent → (state : List ℤ)
    (cs : List Call) → after lent state cs ≡ after image state cs
unfolding after
list-alike f b state [] = refl
list-alike {image} {lent = lent} f b state (c ∷ cs) =
    list-alike f b (call_of lent state c).left cs ∙ ap (λ (e : Effect ℕ ℤ). after image e.left cs) (call-alike f b state c)

pub log-alike : {image tail lent : List ℕ} → well_formed image ≡ true → Bears image tail lent → (state : List ℤ)
    (log : List (List ℤ)) (cs : List Call) → log_after lent state log cs ≡ log_after image state log cs
unfolding log_after
log-alike f b state log [] = refl
log-alike {image} {lent = lent} f b state log (c ∷ cs) =
    let e = call_of lent state c in
    log-alike f b e.left (logged c e.answer log) cs ∙
    ap (λ (e : Effect ℕ ℤ). log_after image e.left (logged c e.answer log) cs) (call-alike f b state c)

pub answers-alike : {image tail lent : List ℕ} → well_formed image ≡ true → Bears image tail lent → (state : List ℤ)
    (cs : List Call) → answers_of lent state cs ≡ answers_of image state cs
unfolding answers_of
answers-alike f b state [] = refl
answers-alike {image} {lent = lent} f b state (c ∷ cs) =
    ap (λ (rest : List (Outcome ℕ)). (call_of lent state c).answer ∷ rest) (answers-alike f b (call_of lent state c).left cs) ∙
    ap (λ (e : Effect ℕ ℤ). e.answer ∷ answers_of image e.left cs) (call-alike f b state c)
