-- What is read ends after where it starts. Assumes nothing.
use mathlib.Core.Path.{◌≡◌, refl}
use mathlib.Core.Bool.{Bool, true, false}
use mathlib.Core.List.{List}
use Prim.Native.Nat.{ℕ, zero, suc, ◌+◌, ◌≤◌}
use native.Mathlib.Omega.{arith}
use lib.Dec.{eqb, leb}
use lib.ListN.{length}
use borrow.Author.Tests.{eqb-true, eqb-false, leb-true, leb-false}
use Rattle.model.specs.Rules.Outcome.{Outcome, accepted, refused, Parsed}
use Rattle.model.specs.Rules.Program.{Link, parse_links}
use Rattle.model.specs.Rules.Word.{byte_at}
use Rattle.text_program.proofs.Parts.{links_end, links-many, links-cut, links-more}

-- What is read from `at` on, if anything is, ends at `at` or after.
abbrev pub Past : {A : Type 0} → ℕ → Outcome (Parsed A) → Type 0
Past at (accepted x) = at ≤ x.next
Past at (refused f) = Unit {0}

past-less : {A : Type 0} (at n : ℕ) (o : Outcome (Parsed A)) → Past (at + n) o → Past at o
past-less at n (accepted x) h = omega arith
past-less at n (refused f) h = tt

-- LINKs end where they start or after.
pub past-links : (room : ℕ) (text : List ℕ) (at : ℕ) (links : List Link) → Past at (parse_links room text at links)
past-links zero text at links = go (eqb (byte_at text at) 0x13) refl
  where
    go : (b : Bool) → eqb (byte_at text at) 0x13 ≡ b → Past at (parse_links 0 text at links)
    go true e = rw (links-many text at links (eqb-true _ _ e)) tt
    go false e = rw (links_end 0 text at links (eqb-false _ _ e)) (omega arith)
past-links (suc room) text at links =
    go (eqb (byte_at text at) 0x13) refl (leb (at + 2) (length text)) refl (λ ls. past-links room text (at + 2) ls)
  where
    go : (b : Bool) → eqb (byte_at text at) 0x13 ≡ b → (d : Bool) → leb (at + 2) (length text) ≡ d →
        ((ls : List Link) → Past (at + 2) (parse_links room text (at + 2) ls)) → Past at (parse_links (suc room) text at links)
    go false e d f h = rw (links_end (suc room) text at links (eqb-false _ _ e)) (omega arith)
    go true e true f h =
        rw (links-more room text at links (eqb-true _ _ e) (leb-true _ _ f))
        (past-less at 2 (parse_links room text (at + 2) _) (h _))
    go true e false f h = rw (links-cut room text at links (eqb-true _ _ e) (leb-false _ _ f)) tt
