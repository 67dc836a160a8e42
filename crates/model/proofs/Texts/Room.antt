-- What is judged at a command before its operands: its byte, then counts and second CAP. Assumes nothing.
use Prim.Native.Nat.{ℕ, ◌<◌}
use mathlib.Core.Bool.{Bool, true, false, ◌||◌, false≢true}
use mathlib.Core.List.{List}
use mathlib.Core.Logic.{◌↔◌, inl, inr}
use mathlib.Core.Path.{◌≡◌, refl, ◌∙◌}
use native.Mathlib.Omega.{arith}
use borrow.Author.Tests.{ltb-true, lt-ltb, eqb-true}
use lib.Dec.{eqb}
use lib.ListN.{length}
use Rattle.model.specs.Rules.Command.{is_operator, is_signal}
use Rattle.model.specs.Rules.Outcome.{Outcome, accepted}
use Rattle.model.specs.Rules.Program.{
  Program,
  Limit,
  unlimited,
  limit,
  count,
  is_unlimited,
  operator_here,
  room_for,
  declaration_here,
}
use Rattle.model.specs.Rules.Word.{byte_at}
use Rattle.model.specs.Says.Grammar.{IsSignal}
use Rattle.model.specs.Says.Grammar.{HasRoom}
use Rattle.model.specs.Says.Written.{OperatorByte}
use Rattle.model.proofs.Basics.Outcomes.{then-accepted, accepted-then, provided-true, true-provided, accepted≢refused}
use Rattle.model.proofs.Texts.Picks.{picked, chosen-all, operator-inside, operator-byte}

-- IN or EQ, as a test.
pub signal-is : (b : ℕ) → (is_signal b ≡ true) ↔ IsSignal b
signal-is b = (go (eqb b 0x10) (eqb b 0x11) refl refl, back)
  where
    go : (i e : Bool) → eqb b 0x10 ≡ i → eqb b 0x11 ≡ e → i || e ≡ true → IsSignal b
    go true e f g t = inl (eqb-true b 0x10 f)
    go false true f g t = inr (eqb-true b 0x11 g)
    go false false f g t = absurd (false≢true t)

    back : IsSignal b → is_signal b ≡ true
    back (inl h) = rw h
    back (inr h) = rw h

no-limit : (l : Limit) → is_unlimited l ≡ true → l ≡ unlimited
no-limit unlimited e = refl
no-limit (limit n) e = absurd (false≢true e)

-- An operator.
module _ (text : List ℕ) (at : ℕ) where
  pub operator-fit : OperatorByte (byte_at text at) → operator_here text at ≡ accepted tt
  unfolding operator_here
  operator-fit o =
      accepted-then _ _ tt (true-provided _ 2 (length text) (lt-ltb _ _ (operator-inside text at o))) ∙
      true-provided _ 3 at ((operator-byte (byte_at text at)).1 o)

  pub fit-operator : operator_here text at ≡ accepted tt → OperatorByte (byte_at text at)
  unfolding operator_here
  fit-operator e =
      let h = then-accepted _ _ tt e in
      (operator-byte (byte_at text at)).0 (provided-true (is_operator (byte_at text at)) 3 at h.2)

-- A declaration, after those of p.
module _ (p : Program) where
  abbrev GivesRoom : ℕ → Outcome (Unit {0}) → Type 0
  GivesRoom b o = o ≡ accepted tt → HasRoom p b

  room_fits : (at b : ℕ) → GivesRoom b (room_for at p b)
  unfolding room_for
  room_fits at b =
      picked (GivesRoom b) b 0x00 _ _ (λ h e. HasRoom.end h) (λ n.
      chosen-all (GivesRoom b) (is_signal b) _ _
      (λ t e. HasRoom.signal ((signal-is b).0 t) (ltb-true _ _ (provided-true _ 4 at e))) (λ s.
      picked (GivesRoom b) b 0x12 _ _ (λ h e. HasRoom.latency h (ltb-true _ _ (provided-true _ 4 at e))) (λ l.
      picked (GivesRoom b) b 0x14 _ _ (λ h e. HasRoom.cap h (no-limit p.cap (provided-true _ 5 at e))) (λ c.
      picked (GivesRoom b) b 0x15 _ _ (λ h e. HasRoom.tag h) (λ t.
      picked (GivesRoom b) b 0x16 _ _ (λ h e. HasRoom.row h (ltb-true _ _ (provided-true _ 4 at e)))
      (λ r e. absurd (accepted≢refused _ tt _ e refl)))))))

  has_room : (at b : ℕ) → HasRoom p b → room_for at p b ≡ accepted tt
  unfolding room_for
  has_room at b (HasRoom.end e) = rw e
  has_room at b (HasRoom.signal (inl e) h) = rw e (true-provided _ 4 at (lt-ltb _ _ h))
  has_room at b (HasRoom.signal (inr e) h) = rw e (true-provided _ 4 at (lt-ltb _ _ h))
  has_room at b (HasRoom.latency e h) = rw e (true-provided _ 4 at (lt-ltb _ _ h))
  has_room at b (HasRoom.cap e h) = rw (e, h) (true-provided true 5 at refl)
  has_room at b (HasRoom.tag e) = rw e
  has_room at b (HasRoom.row e h) = rw e (true-provided _ 4 at (lt-ltb _ _ h))

  -- It is judged fit exactly if its byte is there and has room.
  pub declaration-fit : (text : List ℕ) (at : ℕ) → at < length text → HasRoom p (byte_at text at) →
      declaration_here text at p ≡ accepted tt
  unfolding declaration_here
  declaration-fit text at lt r =
      accepted-then _ _ tt (true-provided _ 2 (length text) (lt-ltb _ _ lt)) ∙ has_room at (byte_at text at) r

  pub fit-declaration : (text : List ℕ) (at : ℕ) → declaration_here text at p ≡ accepted tt →
      (at < length text) × HasRoom p (byte_at text at)
  unfolding declaration_here
  fit-declaration text at e =
      let h = then-accepted _ _ tt e in
      (ltb-true at (length text) (provided-true _ 2 (length text) h.1), room_fits at (byte_at text at) h.2)

  -- The room of each byte.
  pub signal-room : {b : ℕ} → HasRoom p b → IsSignal b → count p < 64
  signal-room (HasRoom.signal s h) i = h
  signal-room (HasRoom.end e) (inl i) = absurd (omega arith)
  signal-room (HasRoom.end e) (inr i) = absurd (omega arith)
  signal-room (HasRoom.latency e h) (inl i) = absurd (omega arith)
  signal-room (HasRoom.latency e h) (inr i) = absurd (omega arith)
  signal-room (HasRoom.cap e h) (inl i) = absurd (omega arith)
  signal-room (HasRoom.cap e h) (inr i) = absurd (omega arith)
  signal-room (HasRoom.tag e) (inl i) = absurd (omega arith)
  signal-room (HasRoom.tag e) (inr i) = absurd (omega arith)
  signal-room (HasRoom.row e h) (inl i) = absurd (omega arith)
  signal-room (HasRoom.row e h) (inr i) = absurd (omega arith)

  pub chain-room : {b : ℕ} → HasRoom p b → b ≡ 0x12 → length p.chains < 16
  chain-room (HasRoom.latency e h) i = h
  chain-room (HasRoom.end e) i = absurd (omega arith)
  chain-room (HasRoom.signal (inl e) h) i = absurd (omega arith)
  chain-room (HasRoom.signal (inr e) h) i = absurd (omega arith)
  chain-room (HasRoom.cap e h) i = absurd (omega arith)
  chain-room (HasRoom.tag e) i = absurd (omega arith)
  chain-room (HasRoom.row e h) i = absurd (omega arith)

  pub cap-room : {b : ℕ} → HasRoom p b → b ≡ 0x14 → p.cap ≡ unlimited
  cap-room (HasRoom.cap e h) i = h
  cap-room (HasRoom.end e) i = absurd (omega arith)
  cap-room (HasRoom.signal (inl e) h) i = absurd (omega arith)
  cap-room (HasRoom.signal (inr e) h) i = absurd (omega arith)
  cap-room (HasRoom.latency e h) i = absurd (omega arith)
  cap-room (HasRoom.tag e) i = absurd (omega arith)
  cap-room (HasRoom.row e h) i = absurd (omega arith)

  pub row_room : {b : ℕ} → HasRoom p b → b ≡ 0x16 → length p.rows < 32
  row_room (HasRoom.row e h) i = h
  row_room (HasRoom.end e) i = absurd (omega arith)
  row_room (HasRoom.signal (inl e) h) i = absurd (omega arith)
  row_room (HasRoom.signal (inr e) h) i = absurd (omega arith)
  row_room (HasRoom.latency e h) i = absurd (omega arith)
  row_room (HasRoom.cap e h) i = absurd (omega arith)
  row_room (HasRoom.tag e) i = absurd (omega arith)

  pub no-link-room : {b : ℕ} → HasRoom p b → b ≡ 0x13 → ⊥
  no-link-room (HasRoom.end e) i = omega arith
  no-link-room (HasRoom.signal (inl e) h) i = omega arith
  no-link-room (HasRoom.signal (inr e) h) i = omega arith
  no-link-room (HasRoom.latency e h) i = omega arith
  no-link-room (HasRoom.cap e h) i = omega arith
  no-link-room (HasRoom.tag e) i = omega arith
  no-link-room (HasRoom.row e h) i = omega arith
