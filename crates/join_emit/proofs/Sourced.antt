-- The table of sources, from the last link to the first. Assumes nothing.
use Rattle.std.specs.Prelude.{Option, Some, None}
use Prim.Native.Nat.{ℕ, zero, ◌+◌, ◌-◌, ◌≤◌, ◌<◌}
use mathlib.Core.Bool.{Bool, true, false, cond}
use mathlib.Core.List.{List, ◌∷◌}
use mathlib.Core.Path.{◌≡◌, refl, sym, ap, subst, ◌∙◌}
use native.Mathlib.Omega.{arith}
use borrow.Author.Tests.{eqb-true, eqb-false}
use lib.Dec.{eqb}
use lib.ListN.{length, get_or, set, replicate, get_or-replicate}
use lib.Seq.{get_or-set_same, get_or-set_other}
use Rattle.model.specs.Rules.Parts.{Wire}
use Rattle.model.specs.Rules.Search.{table, table_from}
use Rattle.image_write.proofs.Listed.{table-starts, table_step, table-ends}
use Rattle.join_emit.specs.Sources.{source_of, SourcesBy}

module _ (f : ℕ → Wire) (n : ℕ) where
  -- The table of the links from i on.
  abbrev pub SourcesFrom : ℕ → List (Option ℕ) → Type 0
  SourcesFrom i sources = SourcesBy (table_from i (n - i) f) sources

  pub sources-start : SourcesFrom n (replicate 64 None)
  unfolding source_of
  sources-start x lt =
      get_or-replicate {A = Option ℕ} 64 x None None lt ∙
      ap (λ (ls : List Wire). source_of ls x) (sym (table-ends f n n (omega arith)))

  pub sources_next : (i : ℕ) (sources : List (Option ℕ)) → zero < i → i ≤ n → length sources ≡ 64 → (f (i - 1)).input < 64 →
      SourcesFrom i sources → SourcesFrom (i - 1) (set sources (f (i - 1)).input (Some (f (i - 1)).signal))
  unfolding source_of
  sources_next i sources pos le size lt h x small =
      go (eqb (f (i - 1)).input x) refl ∙ ap (λ (ls : List Wire). source_of ls x) (sym step)
    where
      back : (i - 1) + 1 ≡ i
      back = omega arith

      step : table_from (i - 1) (n - (i - 1)) f ≡ f (i - 1) ∷ table_from i (n - i) f
      step =
          table_step f n (i - 1) (omega arith) ∙ ap (λ (k : ℕ). f (i - 1) ∷ table_from k (n - k) f) back

      go : (t : Bool) → eqb (f (i - 1)).input x ≡ t →
          get_or (set sources (f (i - 1)).input (Some (f (i - 1)).signal)) x None ≡
          cond t (Some (f (i - 1)).signal) (source_of (table_from i (n - i) f) x)
      go true e =
          subst (λ (y : ℕ). get_or (set sources (f (i - 1)).input (Some (f (i - 1)).signal)) y None ≡ Some (f (i - 1)).signal)
          (eqb-true (f (i - 1)).input x e)
          (get_or-set_same sources (f (i - 1)).input (Some (f (i - 1)).signal) None (omega arith))
      go false e =
          get_or-set_other sources (f (i - 1)).input x (Some (f (i - 1)).signal) None
          (λ q. eqb-false (f (i - 1)).input x e (sym q)) ∙ h x small

  pub sources-all : (i : ℕ) (sources : List (Option ℕ)) → i ≤ 0 → SourcesFrom i sources → SourcesBy (table n f) sources
  sources-all i sources le h =
      let z : i ≡ 0 = omega arith in
      subst (λ (ls : List Wire). SourcesBy ls sources) (table-starts f n)
      (subst (λ (k : ℕ). SourcesFrom k sources) z h)
