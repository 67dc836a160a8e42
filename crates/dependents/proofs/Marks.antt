-- Laws of marks: of the reads of one signal, of a round, of all rounds. Assumes nothing.
use Prim.Native.Nat.{ℕ, zero, suc, ◌+◌, ◌≤◌, ◌<◌}
use mathlib.Core.Bool.{Bool, true, false, ◌||◌}
use mathlib.Core.List.{List, [], ◌∷◌}
use mathlib.Core.Path.{◌≡◌, refl, sym, ap, ap₂, subst, ◌∙◌}
use native.Mathlib.Decide.{dec_lt}
use native.Mathlib.Omega.{arith}
use borrow.Author.Tests.{eqb-true, eqb-false}
use lib.Dec.{eqb}
use lib.ListN.{length, get_or, set, replicate, get_or-replicate, get_or-eq_default}
use lib.Seq.{get_or-set_same, get_or-set_other, ext_get_or}
use Rattle.model.specs.Rules.Dependents.{any_read, mark_readers, marks_after, dependents, mark_byte, mark_bytes}
use Rattle.model.specs.Rules.Program.{Program, Read, count, signal_at, body_reads}
use Rattle.model.specs.Rules.Search.{table}
use Rattle.model.proofs.Basics.Outcomes.{table-length, table_at}
use Rattle.text_program.proofs.ByIndex.{no_read}
use Rattle.dependents.specs.Marks.{is_marked, MarksBy}

-- One read that passes is enough; else none does.
pub any_at : (test : ℕ → Bool) (ρs : List Read) (j : ℕ) → j < length ρs → test (get_or ρs j no_read).operands.signal ≡ true →
    any_read test ρs ≡ true
unfolding any_read
any_at test [] j lt e = absurd (omega arith)
any_at test (ρ ∷ ρs) zero lt e = ap (λ b. b || any_read test ρs) e
any_at test (ρ ∷ ρs) (suc j) lt e = go (test ρ.operands.signal) (any_at test ρs j (omega arith) e)
  where
    go : (b : Bool) → any_read test ρs ≡ true → (b || any_read test ρs) ≡ true
    go true h = refl
    go false h = h

pub none_any : (test : ℕ → Bool) (ρs : List Read) →
    ((j : ℕ) → j < length ρs → test (get_or ρs j no_read).operands.signal ≡ false) → any_read test ρs ≡ false
unfolding any_read
none_any test [] h = refl
none_any test (ρ ∷ ρs) h =
    ap₂ ◌||◌ (h 0 (omega arith)) (none_any test ρs (λ j lt. h (suc j) (omega arith)))

any_same : (f g : ℕ → Bool) → ((w : ℕ) → f w ≡ g w) → (ρs : List Read) → any_read f ρs ≡ any_read g ρs
unfolding any_read
any_same f g h [] = refl
any_same f g h (ρ ∷ ρs) = ap₂ ◌||◌ (h ρ.operands.signal) (any_same f g h ρs)

byte-mark : (b : Bool) → eqb (mark_byte b) 1 ≡ b
byte-mark true = refl
byte-mark false = refl

marked-is : {bs : List Bool} {marks : List ℕ} (i : ℕ) → MarksBy bs marks → (w : ℕ) →
    is_marked marks i w ≡ (eqb w i || get_or bs w false)
marked-is {bs} i m w = ap (λ b. eqb w i || b) (ap (λ n. eqb n 1) (m.are w) ∙ byte-mark (get_or bs w false))

-- No signal is marked.
abbrev pub none : List ℕ
none = replicate 64 0

none-long : length none ≡ 64
none-long = refl

pub unmarked : (y : ℕ) → get_or none y 0 ≡ 0
unmarked y = go (dec_lt y 64)
  where
    go : Dec (y < 64) → get_or none y 0 ≡ 0
    go (yes lt) = get_or-replicate 64 y _ _ lt
    go (no ge) = get_or-eq_default none _ {n = y} (omega (arith, none-long))

-- A table of marks, past its end too.
table-mark : (n : ℕ) (f : ℕ → Bool) (y : ℕ) → n ≤ y → get_or (table n f) y false ≡ false
table-mark n f y le = get_or-eq_default (table n f) false {n = y} (omega (arith, table-length n f))

module _ (p : Program) (i : ℕ) where
  pub no-marks : MarksBy (marks_after p i 0) none
  unfolding marks_after
  no-marks = record { long = none-long; are = λ y. unmarked y ∙ sym (ap mark_byte (go y (dec_lt y (count p)))) }
    where
      go : (y : ℕ) → Dec (y < count p) → get_or (table (count p) (λ y. false)) y false ≡ false
      go y (yes lt) = table_at (count p) (λ y. false) y false lt
      go y (no ge) = table-mark (count p) (λ y. false) y (omega arith)

  -- The marks of a round, signal by signal, by those before it.
  pub round-marks : {bs : List Bool} {old marks : List ℕ} → MarksBy bs old → length marks ≡ 64 →
      ((y : ℕ) → count p ≤ y → get_or marks y 0 ≡ 0) →
      ((y : ℕ) → y < count p → get_or marks y 0 ≡ mark_byte (any_read (is_marked old i) (body_reads (signal_at p y).body))) →
      MarksBy (mark_readers p i bs) marks
  unfolding mark_readers
  round-marks {bs} {old} {marks} m long past here = record { long = long; are = λ y. go y (dec_lt y (count p)) }
    where
      mark : ℕ → Bool
      mark y = any_read (λ w. eqb w i || get_or bs w false) (body_reads (signal_at p y).body)

      go : (y : ℕ) → Dec (y < count p) → get_or marks y 0 ≡ mark_byte (get_or (table (count p) mark) y false)
      go y (yes lt) =
          here y lt ∙
          ap mark_byte (any_same _ _ (marked-is i m) (body_reads (signal_at p y).body) ∙ sym (table_at (count p) mark y false lt))
      go y (no ge) = past y (omega arith) ∙ sym (ap mark_byte (table-mark (count p) mark y (omega arith)))

  -- One round more; and after N rounds they are the definition's.
  pub after-round : {marks : List ℕ} (n : ℕ) → MarksBy (mark_readers p i (marks_after p i n)) marks →
      MarksBy (marks_after p i (n + 1)) marks
  unfolding marks_after
  after-round {marks} n m = let z : suc n ≡ n + 1 = omega arith in subst (λ (k : ℕ). MarksBy (marks_after p i k) marks) z m

  pub all-marks : {marks : List ℕ} (n : ℕ) → n ≡ count p → MarksBy (marks_after p i n) marks → marks ≡ mark_bytes p i
  unfolding dependents mark_bytes
  all-marks {marks} n e m =
      ext_get_or 0 marks (table 64 (λ y. mark_byte (get_or (marks_after p i (count p)) y false)))
      (m.long ∙ sym (table-length 64 _))
      (λ y lt.
      m.are y ∙ ap (λ (k : ℕ). mark_byte (get_or (marks_after p i k) y false)) e ∙ sym (table_at 64 _ y 0 (omega (arith, m.long))))

-- One mark more.
module _ (marks : List ℕ) (x v : ℕ) (long : length marks ≡ 64) (lt : x < 64) where
  pub put-past : ((y : ℕ) → x ≤ y → get_or marks y 0 ≡ 0) → (y : ℕ) → x + 1 ≤ y → get_or (set marks x v) y 0 ≡ 0
  put-past h y le = get_or-set_other marks x y v 0 (λ e. absurd (omega arith)) ∙ h y (omega arith)

  pub put-here : (f : ℕ → ℕ) → v ≡ f x → ((y : ℕ) → y < x → get_or marks y 0 ≡ f y) →
      (y : ℕ) → y < x + 1 → get_or (set marks x v) y 0 ≡ f y
  put-here f e h y l = go (eqb y x) refl
    where
      go : (b : Bool) → eqb y x ≡ b → get_or (set marks x v) y 0 ≡ f y
      go true q = rw (eqb-true y x q) (get_or-set_same marks x v 0 (omega arith) ∙ e)
      go false q = let d = eqb-false y x q in get_or-set_other marks x y v 0 d ∙ h y (omega arith)
