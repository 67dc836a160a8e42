-- A writer that goes piece by piece: what it has left, written from where it is, gives the whole. Assumes nothing.
use Prim.Native.Nat.{ℕ, ◌+◌, ◌≤◌}
use mathlib.Core.List.{List, [], ◌++◌}
use mathlib.Core.Path.{◌≡◌, refl, sym, ap, ◌∙◌}
use native.Mathlib.Omega.{arith}
use lib.ListN.{length, length-append}
use lib.Seq.{sets, length-sets}
use Rattle.model.proofs.Images.Stretches.{sets-append}
use Rattle.model.specs.Rules.Writing.{Wrote}

pub record Left (l₀ : List ℕ) (to₀ : ℕ) (whole l : List ℕ) (to : ℕ) (rest : List ℕ) : Type 0 where
  pub same : sets l to rest ≡ sets l₀ to₀ whole
  pub ends : to + length rest ≡ to₀ + length whole
  pub size : length l ≡ length l₀

module _ {l : List ℕ} {to : ℕ} {whole : List ℕ} where
  pub starts : Left l to whole l to whole
  starts = record { same = refl; ends = refl; size = refl }

-- All that is left is a piece and the rest.
pub record Parts (all piece rest : List ℕ) : Type 0 where
  pub is : all ≡ piece ++ rest

pub parts-length : {all piece rest : List ℕ} → Parts all piece rest → length all ≡ length piece + length rest
parts-length {piece = piece} {rest = rest} e = ap length e.is ∙ length-append piece rest

module _ {l₀ whole l all piece rest : List ℕ} {to₀ to : ℕ} (e : Parts all piece rest) (h : Left l₀ to₀ whole l to all) where
  pub room : to₀ + length whole ≤ length l₀ → to + length piece ≤ length l
  room le = omega (arith, h.size, h.ends, parts-length e)

  pub turn : {l' : List ℕ} {end : ℕ} → Wrote l to piece l' end → Left l₀ to₀ whole l' end rest
  turn {l'} {end} w =
      record {
        same =
            ap (λ (z : List ℕ). sets z end rest) w.holds ∙
            ap (λ (j : ℕ). sets (sets l to piece) j rest) w.ends ∙
            sym (sets-append l to piece rest) ∙ ap (sets l to) (sym e.is) ∙ h.same;
        ends = omega (arith, w.ends, h.ends, parts-length e);
        size = ap length w.holds ∙ length-sets l to piece ∙ h.size;
      }

pub done : {l₀ whole l all : List ℕ} {to₀ to : ℕ} → all ≡ [] → Left l₀ to₀ whole l to all → Wrote l₀ to₀ whole l to
done {l = l} {to = to} e h = record { holds = ap (sets l to) (sym e) ∙ h.same; ends = omega (arith, h.ends, ap length e) }

-- One part after another.
pub after : {l l₁ l₂ xs ys : List ℕ} {to e₁ e₂ : ℕ} → Wrote l to xs l₁ e₁ → Wrote l₁ e₁ ys l₂ e₂ → Wrote l to (xs ++ ys) l₂ e₂
after {l} {l₁} {xs = xs} {ys = ys} {to = to} {e₁ = e₁} p q =
    record {
      holds =
          q.holds ∙ ap (λ (z : List ℕ). sets z e₁ ys) p.holds ∙
          ap (λ (j : ℕ). sets (sets l to xs) j ys) p.ends ∙ sym (sets-append l to xs ys);
      ends = rw length-append (omega (arith, p.ends, q.ends));
    }

pub wrote-size : {l l₁ xs : List ℕ} {to e₁ : ℕ} → Wrote l to xs l₁ e₁ → length l₁ ≡ length l
wrote-size {l} {xs = xs} {to = to} w = ap length w.holds ∙ length-sets l to xs
