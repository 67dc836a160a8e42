-- Run lists, entry by entry. Assumes nothing.
use Prim.Native.Nat.{ℕ, zero, suc, ◌+◌, ◌-◌, ◌≤◌, ◌<◌}
use mathlib.Core.Bool.{Bool, true, false, cond}
use mathlib.Core.List.{List, [], ◌∷◌, ◌++◌}
use mathlib.Core.Path.{◌≡◌, refl, sym, ap, ap₂, ◌∙◌}
use native.Mathlib.Numerals.{add-one}
use native.Mathlib.Omega.{arith}
use lib.ListN.{length, get_or}
use Rattle.model.specs.Rules.Reads.{due}
use Rattle.model.specs.Rules.Search.{table, table_from, chosen}
use Rattle.model.proofs.Basics.Left.{Parts}
use Rattle.text_program.specs.Tables.{rate_at}
use Rattle.image_write.specs.Lists.{is_due, run_entry, list_by}

chosen-step : (test : ℕ → Bool) (x : ℕ) (xs : List ℕ) → chosen test (x ∷ xs) ≡ run_entry (test x) x ++ chosen test xs
unfolding chosen
chosen-step test x xs = go (test x)
  where
    go : (b : Bool) → cond b (x ∷ chosen test xs) (chosen test xs) ≡ run_entry b x ++ chosen test xs
    go true = refl
    go false = refl

-- A run is one entry.
one_entry : (b : Bool) (x : ℕ) → length (run_entry b x) ≡ cond b 1 0
one_entry true x = refl
one_entry false x = refl

pub run-size : (periods phases : List ℕ) (c x : ℕ) →
    length (run_entry (is_due periods phases c x) x) ≡ cond (due (rate_at periods phases x) c) 1 0
unfolding due
run-size periods phases c x = one_entry (is_due periods phases c x) x

-- Tables of functions that agree.
same_from : {A : Type 0} (f g : ℕ → A) → ((c : ℕ) → f c ≡ g c) → (i n : ℕ) → table_from i n f ≡ table_from i n g
unfolding table_from
same_from f g e i zero = refl
same_from f g e i (suc n) = ap₂ ◌∷◌ (e i) (same_from f g e (suc i) n)

pub table_same : {A : Type 0} (f g : ℕ → A) → ((c : ℕ) → f c ≡ g c) → (n : ℕ) → table n f ≡ table n g
unfolding table
table_same f g e n = same_from f g e 0 n

-- A table from entry i on.
module _ {A : Type 0} (f : ℕ → A) (n : ℕ) where
  pub table-starts : table_from 0 (n - 0) f ≡ table n f
  unfolding table
  table-starts = ap (λ (k : ℕ). table_from 0 k f) (omega arith)

  pub table_step : (i : ℕ) → i < n → table_from i (n - i) f ≡ f i ∷ table_from (i + 1) (n - (i + 1)) f
  unfolding table_from
  table_step i lt =
      let e : n - i ≡ suc (n - (i + 1)) = omega arith in
      ap (λ (k : ℕ). table_from i k f) e ∙ ap (λ (k : ℕ). f i ∷ table_from k (n - (i + 1)) f) (sym (add-one i))

  pub table-ends : (i : ℕ) → n ≤ i → table_from i (n - i) f ≡ []
  unfolding table_from
  table-ends i le = let e : n - i ≡ 0 = omega arith in ap (λ (k : ℕ). table_from i k f) e

-- What is left of a list from entry i on.
unfoldable pub list_from : List ℕ → List ℕ → List ℕ → ℕ → ℕ → ℕ → List ℕ
list_from periods order phases n c i = chosen (is_due periods phases c) (table_from i (n - i) (λ j. get_or order j 0))

module _ (periods order phases : List ℕ) (n c : ℕ) where
  pub list-starts : list_from periods order phases n c 0 ≡ list_by periods order phases n c
  unfolding list_from list_by
  list-starts = ap (chosen (is_due periods phases c)) (table-starts (λ j. get_or order j 0) n)

  pub list-step : (i : ℕ) → i < n →
      Parts (list_from periods order phases n c i) (run_entry (is_due periods phases c (get_or order i 0)) (get_or order i 0))
      (list_from periods order phases n c (i + 1))
  unfolding list_from
  list-step i lt =
      record {
        is =
            ap (chosen (is_due periods phases c)) (table_step (λ j. get_or order j 0) n i lt) ∙
            chosen-step (is_due periods phases c) (get_or order i 0) (table_from (i + 1) (n - (i + 1)) (λ j. get_or order j 0));
      }

  pub list-ends : (i : ℕ) → n ≤ i → list_from periods order phases n c i ≡ []
  unfolding list_from chosen
  list-ends i le = ap (chosen (is_due periods phases c)) (table-ends (λ j. get_or order j 0) n i le)
