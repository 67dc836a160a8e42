-- The answers for C. Assumes nothing.
use Prim.Native.Nat.{ℕ, ◌+◌, ◌*◌, ◌≤◌}
use mathlib.Core.Bool.{Bool, true, false, cond}
use mathlib.Core.List.{List, []}
use mathlib.Core.Path.{◌≡◌, refl, sym, ap, ap₂, subst}
use native.Mathlib.Nat.{mod-eq_of_lt}
use native.Mathlib.Omega.{arith}
use lib.Dec.{leb, ltb}
use lib.IntN.{ℤ}
use lib.ListN.{length}
use Rattle.board.specs.Board.{place_at, place_words, next_due, on_stretch, reset_in, BoardEffect, load_of, mark_place_of, Yield, turn_of}
use Rattle.board.specs.Board.{Board}
use Rattle.board.specs.Record.{turn_done}
use Rattle.larderlate.specs.Code.{code_number, length_in}
use Rattle.model.specs.Rules.Compile.{Pair, pair_of, compile_of}
use Rattle.model.specs.Rules.Dependents.{dependents_of}
use Rattle.model.specs.Rules.Join.{join_of}
use Rattle.model.specs.Rules.Machine.{stretch, reset_of, cycle_of}
use Rattle.model.specs.Rules.Moves.{moves_of}
use Rattle.model.specs.Rules.Outcome.{Outcome, accepted, refused, fault, refuse, ◌▷◌}
use Rattle.model.specs.Rules.Report.{report_of}
use Rattle.model.specs.Rules.Rewrite.{convert_of}
use Rattle.model.specs.Rules.Tail.{tail_in, length_of_tail}
use Rattle.model.specs.Rules.Word.{AreBytes}
use Rattle.model.specs.Says.Calls.{Call, call_of}
use Rattle.model.specs.declared.Fault.{Fault}
use Rattle.model.specs.declared.Sizes.{Sizes}
use Rattle.promises.specs.Codable.{Codable}
use Rattle.promises.specs.Codes.{Codes}
use Rattle.promises.specs.Dependents.{DependentsRefusedAt}
use Rattle.board.proofs.Called.{
  load-place,
  load-state,
  load-refused,
  load-done,
  mark-place,
  mark-loaded,
  mark-done,
  turn-state,
  turn-samples,
  turn-done,
}
use Rattle.model.proofs.Images.Stretches.{image-length}
use Rattle.model.proofs.Pairs.Verdict.{pair-bounded}
use Rattle.model.proofs.Texts.Legal.{legal}
use Rattle.promises.proofs.Conversion.{request-g}
use Rattle.promises.proofs.Exact.{exact}
use Rattle.promises.proofs.Moves.{request-l}
use Rattle.promises.proofs.MovesListed.{moves_by}
use Rattle.promises.proofs.Readers.{request-m}
use Rattle.promises.proofs.Reports.{request-a}
use Rattle.promises.proofs.Tails.{request-f}
use Rattle.theorems_calls.proofs.Numbers as Numbers
use Rattle.theorems_calls.proofs.Places.{refusal-small, places-small, places-zero}
use Rattle.theorems_conversion.proofs.ConvertNumbers as ConvertNumbers
use Rattle.theorems_joins.proofs.Places as JoinPlaces

small-code : (f : Fault) → f.place ≤ 65791 → code_number (refused f) ≡ f.number * 4294967296 + f.place
small-code f le = ap (λ n. f.number * 4294967296 + n) (mod-eq_of_lt (omega arith))

-- Call by call, by what it answers.
compiled : (program schedule buffer : List ℕ) → AreBytes program → (o : Outcome ℕ) →
    (compile_of program schedule buffer).answer ≡ o → Codable o
compiled program schedule buffer bytes (accepted n) e = omega (arith, Numbers.length_most program schedule buffer bytes n e)
compiled program schedule buffer bytes (refused f) e = (
  Numbers.compile-number (((exact.compile-exactly program schedule buffer).refuses f _).0 (e, refl)).0,
  omega (arith, places-small program schedule buffer bytes f e),
)

reported : (program schedule counts : List ℕ) → AreBytes program → (o : Outcome Sizes) →
    (report_of program schedule counts).answer ≡ o → Codable (length_in o)
reported program schedule counts bytes (accepted sizes) e =
    let t = (request-a.report-exactly program schedule counts).tells sizes e in
    let q = t.0 in
    let b = pair-bounded program schedule q t.1 bytes in
    omega (arith, t.2, image-length q.program q.schedule q.hypercycle, b.size)
reported program schedule counts bytes (refused f) e =
    let r = ((request-a.report-exactly program schedule counts).refuses f).0 e in
    let at = (exact.refused-exactly program schedule f).0 r in
    (Numbers.pair-number at, omega (arith, refusal-small at))

was-reset : (lent : List ℕ) (state : List ℤ) (o : Outcome ℕ) → (reset_of lent state).answer ≡ o → Codable o
unfolding call_of
was-reset lent state (accepted n) e = omega (arith, (((exact.reset-exactly lent state).done n _).0 (e, refl)).is)
was-reset lent state (refused f) e = (
  Numbers.reset-number (((exact.reset-exactly lent state).refuses f _).0 (e, refl)).0,
  omega (arith, places-zero lent state Call.reset f e),
)

cycled : (lent : List ℕ) (state samples : List ℤ) → AreBytes lent → (o : Outcome ℕ) →
    (cycle_of lent state samples).answer ≡ o → Codable o
unfolding call_of
cycled lent state samples bytes (accepted n) e = request-a.count_small lent state samples bytes n e
cycled lent state samples bytes (refused f) e = (
  Numbers.cycle-number (((exact.cycle-exactly lent state samples).refuses f _).0 (e, refl)).0,
  omega (arith, places-zero lent state (Call.cycle samples) f e),
)

tailed : (lent : List ℕ) (o : Outcome (List ℕ)) → tail_in lent ≡ o → Codable (length_of_tail o)
tailed lent (accepted tail) e =
    let t = ((request-f.tail-exactly lent).returns tail).0 e in
    omega (arith, Numbers.tail-most ((exact.well-formed-exactly t.0).0 t.1) t.2)
tailed lent (refused f) e = rw ((request-f.tail-exactly lent).alone f e) (omega arith, omega arith)

converted : (program buffer : List ℕ) (o : Outcome ℕ) → (convert_of program buffer).answer ≡ o → Codable o
converted program buffer (accepted n) e =
    omega (arith, ConvertNumbers.convert-most (((request-g.convert-exactly program buffer).done n _).0 (e, refl)))
converted program buffer (refused f) e =
    let r = (((request-g.convert-exactly program buffer).refuses f _).0 (e, refl)).0 in
    (ConvertNumbers.convert_number r, omega (arith, ConvertNumbers.convert-place r))

joined : (texts numbers links image : List ℕ) → AreBytes texts → (o : Outcome ℕ) →
    (join_of texts numbers links image).answer ≡ o → Codable o
joined texts numbers links image bytes (accepted n) e = omega (arith, JoinPlaces.join-most texts numbers links image bytes n e)
joined texts numbers links image bytes (refused f) e = (
  JoinPlaces.join-number texts numbers links image f e,
  omega (arith, JoinPlaces.join-places-small texts numbers links image bytes f e),
)

listed : (program schedule list : List ℕ) → AreBytes program → (o : Outcome Pair) → pair_of program schedule ≡ o →
    Codable (moves_by program schedule list o).answer
unfolding ◌▷◌
listed program schedule list bytes (accepted q) g = omega (arith, request-l.moves-few program schedule q g)
listed program schedule list bytes (refused f) g =
    subst (λ (a : Outcome Sizes). Codable (length_in a)) (((request-a.report-exactly program schedule []).refuses f).1 g)
    (reported program schedule [] bytes (report_of program schedule []).answer refl)

module _ (program schedule : List ℕ) (i : ℕ) where
  unmarked : {f : Fault} → DependentsRefusedAt program schedule i f → Codable (refused f)
  unmarked (DependentsRefusedAt.pair r) = (Numbers.pair-number r, omega (arith, refusal-small r))
  unmarked (DependentsRefusedAt.no_input legal h) = (omega arith, omega arith)

  marked : (marks : List ℕ) (o : Outcome ℕ) → (dependents_of program schedule i marks).answer ≡ o → Codable o
  marked marks (accepted n) e =
      omega (arith, (((request-m.dependents-call program schedule i marks).done n _).0 (e, refl)).is)
  marked marks (refused f) e = unmarked (((request-m.dependents-call program schedule i marks).refuses f _).0 (e, refl)).0

-- A board's calls yield 0, or refuse with a number above 0 at place 0.
comes : {c d : BoardEffect ℕ} → c ≡ d → Codable d.answer → Codable c.answer
comes e h = subst (λ (x : BoardEffect ℕ). Codable x.answer) (sym e) h

turn-comes : {c d : BoardEffect Yield} → c ≡ d → Codable (turn_done d.answer) → Codable (turn_done c.answer)
turn-comes e h = subst (λ (x : BoardEffect Yield). Codable (turn_done x.answer)) (sym e) h

module _ (b : Board) (images : List ℕ) (state : List ℤ) (k start size : ℕ) where
  reset-in : (t : Bool) →
      Codable (cond t (reset_of (stretch images start (start + size)) (place_words k state))
      (record { answer = refuse 27 0; left = place_words k state })).answer
  reset-in true = was-reset (stretch images start (start + size)) (place_words k state) _ refl
  reset-in false = (omega arith, omega arith)

  abbrev LoadTold : Type 0
  LoadTold = Codable (load_of b images state k start size).answer

  load-ran : ltb k 4 ≡ true → leb 260 (length state) ≡ true → (o : Outcome ℕ) →
      (reset_in images start size (place_words k state)).answer ≡ o → Codable o → LoadTold
  load-ran p q (accepted n) e c = comes (load-done b images state k start size p q n e) c
  load-ran p q (refused f) e c = comes (load-refused b images state k start size p q f e) c

  load-long : ltb k 4 ≡ true → (t : Bool) → leb 260 (length state) ≡ t → LoadTold
  unfolding on_stretch
  load-long p true q =
      load-ran p q (reset_in images start size (place_words k state)).answer refl (reset-in (leb (start + size) (length images)))
  load-long p false q = comes (load-state b images state k start size p q) (omega arith, omega arith)

  load-placed : (t : Bool) → ltb k 4 ≡ t → LoadTold
  load-placed true p = load-long p (leb 260 (length state)) refl
  load-placed false p = comes (load-place b images state k start size p) (omega arith, omega arith)

module _ (b : Board) (k : ℕ) where
  abbrev MarkTold : Type 0
  MarkTold = Codable (mark_place_of b k).answer

  mark-told : ltb k 4 ≡ true → (t : Bool) → (place_at b k).loaded ≡ t → MarkTold
  mark-told p true q = comes (mark-done b k p q) (omega arith)
  mark-told p false q = comes (mark-loaded b k p q) (omega arith, omega arith)

  mark-placed : (t : Bool) → ltb k 4 ≡ t → MarkTold
  mark-placed true p = mark-told p (place_at b k).loaded refl
  mark-placed false p = comes (mark-place b k p) (omega arith, omega arith)

module _ (b : Board) (images : List ℕ) (state samples : List ℤ) where
  abbrev TurnTold : Type 0
  TurnTold = Codable (turn_done (turn_of b images state samples).answer)

  turn-lent : leb 260 (length state) ≡ true → (t : Bool) → leb 256 (length samples) ≡ t → TurnTold
  turn-lent p true q = turn-comes (turn-done b images state samples p q (next_due b) refl) (omega arith)
  turn-lent p false q = turn-comes (turn-samples b images state samples p q) (omega arith, omega arith)

  turn-long : (t : Bool) → leb 260 (length state) ≡ t → TurnTold
  turn-long true p = turn-lent p (leb 256 (length samples)) refl
  turn-long false p = turn-comes (turn-state b images state samples p) (omega arith, omega arith)

pub codes : Codes
codes =
    record {
      compile-code = λ program schedule buffer bytes f e.
          small-code f (places-small program schedule buffer bytes f e);
      report-code = λ program schedule counts bytes f e.
          let r = ((request-a.report-exactly program schedule counts).refuses f).0 e in
          small-code f (omega (arith, refusal-small ((exact.refused-exactly program schedule f).0 r)));
      call-code = λ lent state c f e. small-code f (omega (arith, places-zero lent state c f e));
      join-code = λ texts numbers links image bytes f e.
          small-code f (omega (arith, JoinPlaces.join-places-small texts numbers links image bytes f e));
      code-tells =
          elim [
            | accepted n ↦ elim [ accepted m ↦ λ c d e. ap accepted e | refused g ↦ λ c d e. absurd (omega arith) ]
            | refused f ↦
                elim [
                  | accepted m ↦ λ c d e. absurd (omega arith)
                  | refused g ↦ λ c d e.
                      let p = mod-eq_of_lt c.1 in
                      let q = mod-eq_of_lt d.1 in
                      let number : f.number ≡ g.number = omega arith in
                      let place : f.place ≡ g.place = omega arith in
                      ap₂ (λ (n x : ℕ). refused (fault n x)) number place
                ]
          ];
      compile-codable = λ program schedule buffer bytes. compiled program schedule buffer bytes _ refl;
      report-codable = λ program schedule counts bytes. reported program schedule counts bytes _ refl;
      reset-codable = λ lent state. was-reset lent state _ refl;
      call-codable = λ lent state.
          elim [
            | Call.reset ↦ λ bytes. unfold call_of in (was-reset lent state _ refl)
            | Call.cycle samples ↦ λ bytes. unfold call_of in (cycled lent state samples bytes _ refl)
          ];
      tail-codable = λ lent. tailed lent _ refl;
      convert-codable = λ program buffer. converted program buffer _ refl;
      join-codable = λ texts numbers links image bytes. joined texts numbers links image bytes _ refl;
      moves-codable = λ program schedule list bytes.
          unfold moves_of in (listed program schedule list bytes (pair_of program schedule) refl);
      dependents-codable = λ program schedule i marks. marked program schedule i marks _ refl;
      load-codable = λ b images state k start size. load-placed b images state k start size (ltb k 4) refl;
      mark-codable = λ b k. mark-placed b k (ltb k 4) refl;
      turn-codable = λ b images state samples. turn-long b images state samples (leb 260 (length state)) refl;
    }
