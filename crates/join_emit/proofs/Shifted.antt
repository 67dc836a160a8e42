-- The code of a signal and the base of its part. Assumes nothing.
use Rattle.std.specs.Prelude.{Option, Some, None}
use Prim.Native.Nat.{ℕ, ◌+◌, ◌≤◌}
use mathlib.Core.List.{List, [], ◌∷◌, ◌++◌, map, append_assoc}
use mathlib.Core.Path.{◌≡◌, refl, sym, ap, ap₂, ◌∙◌}
use native.Mathlib.Omega.{arith}
use lib.ListN.{length, take, drop, length-take}
use lib.Seq.{sets, sets-eq}
use Rattle.model.specs.Rules.Image.{signal_code, joined}
use Rattle.model.specs.Rules.Parts.{renumber_body}
use Rattle.model.specs.Rules.Program.{Signal, Body, input, equation}
use Rattle.model.specs.Rules.Writing.{Wrote}
use Rattle.model.specs.Says.Feasible.{All}
use Rattle.model.proofs.Basics.All.{all_append}
use Rattle.image_code.specs.Code.{Puts, SignalRoom, EmitsSignal}
use Rattle.image_code.proofs.Operands.{join}
use Rattle.model.proofs.Joining.Renumbered.{code-length}
use Rattle.join_code.specs.Shift.{Command, shift_piece, expr_pieces, Coded, shifted}
use Rattle.join_code.proofs.Pieces.{joined-append, joined-one, pieces-code, pieces-commands, pieces-shifted, shift-append}
use Rattle.join_emit.specs.Code.{joined_code, ReadsFit, JoinedRoom, JoinedHere, EmitsJoined}

-- The commands of the code of signal x.
abbrev body_pieces : ℕ → Body → List (List ℕ)
body_pieces x input = (0x52 ∷ x ∷ []) ∷ (0x5F ∷ x ∷ []) ∷ []
body_pieces x (equation weight e) = expr_pieces e ++ ((0x5F ∷ x ∷ []) ∷ [])

store : (x : ℕ) → Command (0x5F ∷ x ∷ [])
store x = Command.other 0x5F (x ∷ []) (λ e. omega arith) refl

body-code : (x : ℕ) (b : Body) → joined (body_pieces x b) ≡ signal_code x b
body-code x input = joined-append ((0x52 ∷ x ∷ []) ∷ []) ((0x5F ∷ x ∷ []) ∷ []) ∙ ap₂ ◌++◌ (joined-one _) (joined-one _)
body-code x (equation weight e) = joined-append (expr_pieces e) _ ∙ ap₂ ◌++◌ (pieces-code e) (joined-one _)

body-commands : (x : ℕ) (b : Body) → All Command (body_pieces x b)
body-commands x input = (Command.other 0x52 (x ∷ []) (λ e. omega arith) refl, (store x, tt))
body-commands x (equation weight e) = all_append Command (expr_pieces e) _ (pieces-commands e) (store x, tt)

body-shifted : (base x : ℕ) (b : Body) → ReadsFit base b →
    joined (map (shift_piece base) (body_pieces x b)) ≡ signal_code x (renumber_body (λ y. base + y) b)
body-shifted base x input h =
    joined-append ((0x52 ∷ x ∷ []) ∷ []) ((0x5F ∷ x ∷ []) ∷ []) ∙ ap₂ ◌++◌ (joined-one _) (joined-one _)
body-shifted base x (equation weight e) h =
    shift-append base (expr_pieces e) _ ∙ ap₂ ◌++◌ (pieces-shifted base e h) (joined-one _)

-- Code that was written is commands; with the base added it is that of the renumbered signal.
module _ (l : List ℕ) {l₁ : List ℕ} (base x to : ℕ) (b : Body) (fits : to + length (signal_code x b) ≤ length l)
    (w : l₁ ≡ sets l to (signal_code x b)) {end : ℕ} (e : end ≡ to + length (signal_code x b)) where
  pub coded : Coded l₁ to end
  coded =
      record {
        front = take to l;
        pieces = body_pieces x b;
        back = drop (to + length (signal_code x b)) l;
        is = w ∙ sets-eq (signal_code x b) l to fits ∙ append_assoc (take to l) (signal_code x b) _ ∙
            ap (λ (z : List ℕ). take to l ++ (z ++ drop (to + length (signal_code x b)) l)) (sym (body-code x b));
        starts = sym (length-take to l ∙ omega (arith, fits));
        ends = e ∙ ap (λ (z : List ℕ). to + length z) (sym (body-code x b));
        commands = body-commands x b;
      }

  pub shifts : {l₂ : List ℕ} → ReadsFit base b → l₂ ≡ shifted base coded →
      Wrote l to (signal_code x (renumber_body (λ y. base + y) b)) l₂ end
  unfolding coded
  shifts {l₂} h s =
      let new = signal_code x (renumber_body (λ y. base + y) b) in
      let n : length new ≡ length (signal_code x b) = code-length (λ y. base + y) x x b in
      record {
        holds =
            s ∙ ap (λ (z : List ℕ). take to l ++ (z ++ drop (to + length (signal_code x b)) l)) (body-shifted base x b h) ∙
            ap (λ (k : ℕ). take to l ++ (new ++ drop (to + k) l)) (sym n) ∙
            sym (sets-eq new l to (omega (arith, n)) ∙ append_assoc (take to l) new _);
        ends = omega (arith, n);
      }

-- The code by whether the signal is linked.
pub code-own : (base : ℕ) (source : Option ℕ) (x : ℕ) (b : Body) → source ≡ None →
    joined_code base source x b ≡ signal_code x (renumber_body (λ y. base + y) b)
code-own base source x b e = rw e refl

pub code-linked : (base : ℕ) (source : Option ℕ) (w x : ℕ) (b : Body) → source ≡ Some w →
    joined_code base source x b ≡ 0x51 ∷ w ∷ 0x5F ∷ x ∷ []
code-linked base source w x b e = rw e refl

-- A signal that is not linked.
module _ {text : List ℕ} {place base x to : ℕ} {source : Option ℕ} (e : source ≡ None) where
  own-fits : {n : ℕ} {σ : Signal} → JoinedRoom text place base x source n to σ → to + length (signal_code x σ.body) ≤ n
  own-fits {n} {σ} r =
      omega (
        arith,
        ap length (code-own base source x σ.body e),
        code-length (λ y. base + y) x x σ.body,
        r.fits,
      )

  pub own_room : {n : ℕ} → JoinedHere text place base x source n to → SignalRoom text place x n to
  own_room (σ, r) = record { here = record { signal = σ; stands = r.stands; spelled = r.spelled }; fits = own-fits r }

  pub own-coded : {l l₁ : List ℕ} {end : ℕ} → JoinedHere text place base x source (length l) to →
      EmitsSignal text place x l to l₁ end → Coded l₁ to end
  own-coded {l} (σ, r) w =
      let p = w.puts σ r.stands r.spelled in
      coded l base x to σ.body (own-fits r) p.0 p.1

  pub emits-own : {l l₁ l₂ : List ℕ} {end : ℕ} → EmitsSignal text place x l to l₁ end →
      ((r : Coded l₁ to end) → l₂ ≡ shifted base r) → EmitsJoined text place base x source l to l₂ end
  emits-own {l} w s =
      record {
        puts = λ σ r.
            let p = w.puts σ r.stands r.spelled in
            rw (code-own base source x σ.body e)
            (shifts l base x to σ.body (own-fits r) p.0 p.1 r.reads
            (s (coded l base x to σ.body (own-fits r) p.0 p.1)));
      }

-- A linked IN.
module _ {text : List ℕ} {place base x w to : ℕ} {source : Option ℕ} (e : source ≡ Some w) where
  pub linked-room : {n : ℕ} → JoinedHere text place base x source n to → to + 4 ≤ n
  linked-room (σ, r) = omega (arith, ap length (code-linked base source w x σ.body e), r.fits)

  pub emits-linked : {l l₁ l₂ : List ℕ} {k m n₁ n₂ e₁ e₂ : ℕ} → Puts l to (0x51 ∷ w ∷ []) k l₁ n₁ e₁ →
      Puts l₁ e₁ (0x5F ∷ x ∷ []) m l₂ n₂ e₂ → EmitsJoined text place base x source l to l₂ e₂
  emits-linked p q =
      let j = join p q in
      record { puts = λ σ r. rw (code-linked base source w x σ.body e) (record { holds = j.holds; ends = j.ends }) }
