-- `check_latency::limit_at` meets its contract. Assumes nothing.
use Prim.Native.Nat.{ℕ}
use mathlib.Core.List.{List, [], ◌∷◌}
use mathlib.Core.Path.{◌≡◌, sym, subst, ◌∙◌}
use denote.Enum.Declared.{tag_of, declared as sum}
use types.Run.{OneOf, miss}
use borrow.Author.Rules.{rules}
use Rattle.model.specs.declared.Declaration.{Declaration}
use Rattle.model.specs.declared.Declaration.TheVariants as Declaration
use Rattle.model.specs.declared.Mode.{Mode}
use Rattle.model.specs.contracts.Declaration.{enum}
use borrow.Enum.Refused.{opened}
use Rattle.check_latency.proofs.limit_at.Goals as goal

-- The commands other than LAT.
abbrev others : List ℕ
others = 0 ∷ 1 ∷ 2 ∷ 3 ∷ 4 ∷ 5 ∷ 7 ∷ 8 ∷ 9 ∷ 10 ∷ []

missed : (c : Declaration) {mode : Mode} {bound : ℕ} → c ≡ Declaration.Latency mode bound →
    OneOf others (tag_of (sum enum) c) → ⊥
missed c e k = miss others 6 tt (subst (λ y. OneOf others (tag_of (sum enum) y)) e k)

pub returns-in_default : goal.returns-in_default
returns-in_default c =
    λ mode bound e.
    absurd (missed _ (c.declaration_at-declaration.ensures ∙ e) (opened c.in_default.in_default-own.keys2))

pub returns : goal.returns
returns c =
    λ mode bound e.
    let same :
    ◌≡◌ {A = Declaration} (Declaration.Latency c.in-Latency.mode c.in-Latency.bound) (Declaration.Latency mode bound) =
    sym c.in-Latency.is ∙ c.declaration_at-declaration.ensures ∙ e in
    let mode-is : c.in-Latency.mode ≡ mode = cc same in
    let bound-is : c.in-Latency.bound ≡ bound = cc same in
    λ i. record { mode = mode-is i; bound = bound-is i }
