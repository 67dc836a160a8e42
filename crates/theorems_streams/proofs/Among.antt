-- Calls that are lent something else and are refused change nothing and are no part of a list. Assumes nothing.
use Prim.Native.Nat.{ℕ}
use mathlib.Core.List.{List, [], ◌∷◌, ◌++◌}
use mathlib.Core.Bool.{true}
use mathlib.Core.Path.{◌≡◌, refl, sym, ap, subst, ◌∙◌}
use lib.IntN.{ℤ}
use lib.ListN.{take, drop, take-append-drop}
use Rattle.model.specs.Says.Calls.{Call, call_of, logged, after, log_after}
use Rattle.model.specs.Rules.Machine.{Effect, well_formed}
use Rattle.model.specs.Rules.Outcome.{Outcome, refused}
use Rattle.theorems_streams.specs.Held.{answers_of}
use Rattle.theorems_streams.specs.Lists.{
  Memory,
  WordsCall,
  Lent,
  Writer,
  part_of,
  with_part,
  owns,
  answer_in,
  left_in,
  left_all,
  own_answers,
  own_log,
  OwnsBear,
  OthersRefused,
  AsWithout,
}
use Rattle.model.specs.declared.Fault.{Fault}
use Rattle.theorems_streams.proofs.Refused.{reset-keeps, cycle-keeps, writer-keeps}
use Rattle.theorems_streams.proofs.Tailed.{call-alike}

put_back : {A : Type 0} (from n : ℕ) (xs : List A) → with_part from n (part_of from n xs) xs ≡ xs
put_back {A} from n xs =
    ap (λ (ys : List A). take from xs ++ ys) (take-append-drop n (drop from xs)) ∙ take-append-drop from xs

-- A refused call that is lent something else leaves the memory.
put-left : (m : Memory) (from n : ℕ) (left : List ℤ) → left ≡ part_of from n m.state →
    ◌≡◌ {A = Memory} (record { buffer = m.buffer; state = with_part from n left m.state }) m
put-left m from n left e =
    ap (λ (st : List ℤ). record { buffer = m.buffer; state = st })
    (ap (λ (part : List ℤ). with_part from n part m.state) e ∙ put_back from n m.state)

call-keeps : (image : List ℕ) (words : List ℤ) (c : Call) (f : Fault) → (call_of image words c).answer ≡ refused f →
    (call_of image words c).left ≡ words
unfolding call_of
call-keeps image words Call.reset f e = reset-keeps image words f e
call-keeps image words (Call.cycle samples) f e = cycle-keeps image words samples f e

words_left : (m : Memory) (image : List ℕ) (from n : ℕ) (c : Call) (f : Fault) →
    answer_in m (Lent.words image from n c) ≡ refused f → left_in m (Lent.words image from n c) ≡ m
words_left m image from n c f e = put-left m from n _ (call-keeps image (part_of from n m.state) c f e)

called-left : (m : Memory) (from n : ℕ) (c : WordsCall) (f : Fault) → answer_in m (Lent.called from n c) ≡ refused f →
    left_in m (Lent.called from n c) ≡ m
called-left m from n c f e = put-left m from n _ (c.keeps (part_of from n m.state) f e)

bytes_left : (m : Memory) (from n : ℕ) (w : Writer) (f : Fault) → answer_in m (Lent.bytes from n w) ≡ refused f →
    left_in m (Lent.bytes from n w) ≡ m
bytes_left m from n w f e =
    ap (λ (bs : List ℕ). record { buffer = bs; state = m.state })
    (ap (λ (part : List ℕ). with_part from n part m.buffer) (writer-keeps (part_of from n m.buffer) w f e) ∙
    put_back from n m.buffer)

-- What is so of the memory after a call that left it is so of the memory before.
module _ {image : List ℕ} {m m' : Memory} {log : List (List ℤ)} {ls : List Lent} (e : m' ≡ m)
    (a : AsWithout image m' log ls) where
  buffer-back : (left_all m' ls).buffer ≡ m.buffer
  buffer-back = a.buffer ∙ ap (λ (k : Memory). k.buffer) e

  state-back : (left_all m' ls).state ≡ after image m.state (owns ls)
  state-back = a.state ∙ ap (λ (k : Memory). after image k.state (owns ls)) e

  answers-back : own_answers m' ls ≡ answers_of image m.state (owns ls)
  answers-back = a.answers ∙ ap (λ (k : Memory). answers_of image k.state (owns ls)) e

  log_back : own_log m' log ls ≡ log_after image m.state log (owns ls)
  log_back = a.logs ∙ ap (λ (k : Memory). log_after image k.state log (owns ls)) e

module _ {image : List ℕ} (formed : well_formed image ≡ true) where
  pub others-nothing : (m : Memory) (log : List (List ℤ)) (ls : List Lent) → OwnsBear image m.buffer ls →
      OthersRefused m ls → AsWithout image m log ls
  unfolding after answers_of log_after
  others-nothing m log [] b r = record { buffer = refl; state = refl; answers = refl; logs = refl }
  others-nothing m log (Lent.own size c ∷ ls) b r =
      let a =
      others-nothing (left_in m (Lent.own size c)) (logged c (answer_in m (Lent.own size c)) log) ls b.1 r.1 in
      let e = call-alike formed b.0.1 m.state c in
      record {
        buffer = a.buffer;
        state = a.state ∙ ap (λ (x : Effect ℕ ℤ). after image x.left (owns ls)) e;
        answers =
            ap (λ (rest : List (Outcome ℕ)). answer_in m (Lent.own size c) ∷ rest) a.answers ∙
            ap (λ (x : Effect ℕ ℤ). x.answer ∷ answers_of image x.left (owns ls)) e;
        logs = a.logs ∙ ap (λ (x : Effect ℕ ℤ). log_after image x.left (logged c x.answer log) (owns ls)) e;
      }
  others-nothing m log (Lent.words other from n c ∷ ls) b r =
      let e = words_left m other from n c r.0.0 r.0.1 in
      let a = others-nothing (left_in m (Lent.words other from n c)) log ls b r.1 in
      record { buffer = buffer-back e a; state = state-back e a; answers = answers-back e a; logs = log_back e a }
  others-nothing m log (Lent.called from n c ∷ ls) b r =
      let e = called-left m from n c r.0.0 r.0.1 in
      let a = others-nothing (left_in m (Lent.called from n c)) log ls b r.1 in
      record { buffer = buffer-back e a; state = state-back e a; answers = answers-back e a; logs = log_back e a }
  others-nothing m log (Lent.bytes from n w ∷ ls) b r =
      let e = bytes_left m from n w r.0.0 r.0.1 in
      let still = subst (λ (k : Memory). OwnsBear image k.buffer ls) (sym e) b in
      let a = others-nothing (left_in m (Lent.bytes from n w)) log ls still r.1 in
      record { buffer = buffer-back e a; state = state-back e a; answers = answers-back e a; logs = log_back e a }
