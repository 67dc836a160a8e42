-- A signal's declaration and its body. Assumes nothing.
use Prim.Native.Nat.{ℕ, ◌+◌, ◌≤◌, ◌<◌}
use mathlib.Core.List.{List, [], ◌∷◌, ◌++◌}
use mathlib.Core.Path.{◌≡◌, refl, sym, ap, subst, ◌∙◌}
use native.Mathlib.Omega.{arith}
use lib.ListN.{length, length-append}
use Rattle.model.specs.Rules.Command.{declaration_at}
use Rattle.model.specs.Rules.Image.{expr_code, signal_code}
use Rattle.model.specs.Rules.Program.{least_factor, Expr, Signal, Body, input, equation}
use Rattle.model.specs.Rules.Word.{byte_at}
use Rattle.model.specs.Says.Grammar.{depth}
use Rattle.model.specs.Says.Written.{DeclarationWhole}
use Rattle.model.specs.declared.Declaration.{Declaration}
use Rattle.model.proofs.Texts.Commands.{byte_of, declaration-sound, written_byte}
use Rattle.model.proofs.Texts.Written.{as_written}
use Rattle.model.specs.Says.Stands.{SpellsBody, SpellsSignal}
use Rattle.model.specs.Says.Grammar.{Spells}
use Rattle.image_code.specs.Code.{Puts, SignalRoom, EmitsSignal}
use Rattle.image_code.proofs.Operands.{Room, Emits, puts-length, join}

-- A signal whose byte is that of EQ has an equation.
pub record Equated (text : List ℕ) (place : ℕ) (σ : Signal) : Type 0 where
  pub weight : ℕ
  pub expr : Expr
  pub next : ℕ
  pub spelled : Spells least_factor text (place + 8) expr next
  pub deep : depth expr ≤ 16
  pub body : σ.body ≡ equation weight expr

module _ (text : List ℕ) (place : ℕ) (σ : Signal) (at : σ.place ≡ place) (h : SpellsSignal text σ) where
  byte : {c : Declaration} → DeclarationWhole c → declaration_at text σ.place ≡ c →
      byte_at text place ≡ byte_of c
  byte w e = ap (byte_at text) (sym at) ∙ written_byte text σ.place (as_written _ w e)

  pub equated : byte_at text place ≡ 0x11 → Equated text place σ
  equated q = go σ.body refl h
    where
      go : (b : Body) → σ.body ≡ b → SpellsBody text σ b → Equated text place σ
      go input e g = absurd (omega (arith, byte tt g))
      go (equation w x) e g =
          record {
            weight = w;
            expr = x;
            next = g.1;
            spelled = subst (λ (a : ℕ). Spells least_factor text (a + 8) x g.1) at g.2;
            deep = g.3;
            body = e;
          }

  -- And one whose byte is another is an input.
  pub sampled : ¬ (byte_at text place ≡ 0x11) → σ.body ≡ input
  sampled q = go σ.body refl h
    where
      go : (b : Body) → σ.body ≡ b → SpellsBody text σ b → σ.body ≡ input
      go input e g = e
      go (equation w x) e g = absurd (q (byte tt g.0))

  -- Its declaration lies within the text.
  pub place_inside : (place < length text) × (byte_at text place ≡ 0x11 → place + 8 ≤ length text)
  place_inside = go σ.body h
    where
      go : (b : Body) → SpellsBody text σ b → (place < length text) × (byte_at text place ≡ 0x11 → place + 8 ≤ length text)
      go input g = let s = (declaration-sound text _ _ g).3 in (omega (arith, s, at), λ q. absurd (omega (arith, byte tt g)))
      go (equation w x) g = let s = (declaration-sound text _ _ g.0).3 in (omega (arith, s, at), λ q. omega (arith, s, at))

pub equation-code : {text : List ℕ} {place : ℕ} {σ : Signal} (q : Equated text place σ) (x : ℕ) →
    signal_code x σ.body ≡ expr_code q.expr ++ (0x5F ∷ x ∷ [])
equation-code q x = ap (signal_code x) q.body

pub equation-length : {text : List ℕ} {place : ℕ} {σ : Signal} (q : Equated text place σ) (x : ℕ) →
    length (signal_code x σ.body) ≡ length (expr_code q.expr) + 2
equation-length q x = ap length (equation-code q x) ∙ length-append (expr_code q.expr) (0x5F ∷ x ∷ [])

-- Writing the code of a signal with an equation.
module _ {text : List ℕ} {place x to : ℕ} (c : byte_at text place ≡ 0x11) where
  pub equation-room : {n : ℕ} → SignalRoom text place x n to → Room 16 text (place + 8) n to
  equation-room r =
      let q = equated text place r.here.signal r.here.stands r.here.spelled c in
      record {
        expr = q.expr;
        next = q.next;
        spelled = q.spelled;
        deep = q.deep;
        fits = omega (arith, r.fits, equation-length q x);
      }

  pub store-room : {l l₁ : List ℕ} {n₁ e₁ : ℕ} → SignalRoom text place x (length l) to → Emits text (place + 8) l to l₁ n₁ e₁ →
      e₁ + 2 ≤ length l₁
  store-room r w =
      let q = equated text place r.here.signal r.here.stands r.here.spelled c in
      let p = w.puts q.expr q.next q.spelled in
      omega (arith, r.fits, equation-length q x, p.ends, puts-length p)

  pub equation-emits : {l l₁ l₂ : List ℕ} {n₁ e₁ m n₂ e₂ : ℕ} → Emits text (place + 8) l to l₁ n₁ e₁ →
      Puts l₁ e₁ (0x5F ∷ x ∷ []) m l₂ n₂ e₂ → EmitsSignal text place x l to l₂ e₂
  equation-emits w p =
      record {
        puts = λ σ at h.
            let q = equated text place σ at h c in
            let g = join (w.puts q.expr q.next q.spelled) p in
            (rw (equation-code q x) g.holds, rw (equation-code q x) g.ends);
      }

-- And of an input.
module _ {text : List ℕ} {place x to : ℕ} (c : ¬ (byte_at text place ≡ 0x11)) where
  pub sample-room : {n : ℕ} → SignalRoom text place x n to → to + 4 ≤ n
  sample-room r =
      let q = sampled text place r.here.signal r.here.stands r.here.spelled c in
      omega (arith, r.fits, ap (λ (b : Body). length (signal_code x b)) q)

  pub sample-emits : {l l₁ l₂ : List ℕ} {m n₁ e₁ m₂ n₂ e₂ : ℕ} → Puts l to (0x52 ∷ x ∷ []) m l₁ n₁ e₁ →
      Puts l₁ e₁ (0x5F ∷ x ∷ []) m₂ l₂ n₂ e₂ → EmitsSignal text place x l to l₂ e₂
  sample-emits p r =
      record {
        puts = λ σ at h.
            let q = ap (signal_code x) (sampled text place σ at h c) in
            let g = join p r in
            (rw q g.holds, rw q g.ends);
      }
