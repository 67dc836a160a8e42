-- The runs of a signal in the cycles below h are the elements that it stores before h. Assumes nothing.
use Prim.Native.Nat.{ℕ, zero, suc, ◌+◌, ◌/◌, ◌≤◌, ◌<◌}
use mathlib.Core.Bool.{Bool, true, false}
use mathlib.Core.List.{List}
use mathlib.Core.Path.{◌≡◌, refl, ap, ◌∙◌}
use native.Mathlib.Omega.{arith}
use lib.ListN.{length, get_or, length-append}
use Rattle.model.specs.Rules.Image.{joined}
use Rattle.model.specs.Rules.Reads.{Rate, due, stored}
use Rattle.model.specs.Rules.Search.{table, table_from, join_from}
use Rattle.model.proofs.Pairs.Rate.{stored_is, stored_low, stored-high, stored-none}
use Rattle.model.proofs.Pairs.Rate.{due-run, run-due}
use Rattle.text_program.specs.Tables.{rate_at}
use Rattle.image_write.specs.Lists.{run_entry, list_by, lists_by}
use Rattle.model.proofs.Images.Stretches.{joined-cons}
use Rattle.image_write.proofs.Listed.{table_same, list_from, list-starts, list-step, list-ends}
use Rattle.model.proofs.Basics.Left.{parts-length}

-- A run stores one element.
module _ (a : Rate) (x : ℕ) (v : a.phase < a.period) where
  stored_next : (t : ℕ) → stored a (suc t) ≡ length (run_entry (due a t) x) + stored a t
  stored_next t = go (due a t) refl
    where
      go : (b : Bool) → due a t ≡ b → stored a (suc t) ≡ length (run_entry b x) + stored a t
      go true e =
          let j : ℕ = t / a.period in
          let r = due-run a t e in
          omega (
            arith,
            stored_is a t j (omega (arith, r)) (omega (arith, r)),
            stored_is a (suc t) (suc j) (omega (arith, r)) (omega (arith, r)),
          )
      go false e =
          omega (
            arith,
            stored_is a (suc t) (stored a t) (omega (arith, stored_low a t v, run-due a t v e (stored a t)))
                (omega (arith, stored-high a t v)),
          )

  runs-from : (i k : ℕ) → length (joined (table_from i k (λ c. run_entry (due a c) x))) + stored a i ≡ stored a (i + k)
  unfolding table_from join_from
  runs-from i zero = let e : i + 0 ≡ i = omega arith in omega (arith, ap (stored a) e)
  runs-from i (suc k) =
      let r = run_entry (due a i) x in
      let rest = table_from (suc i) k (λ c. run_entry (due a c) x) in
      let e : i + suc k ≡ suc i + k = omega arith in
      omega (
        arith,
        ap length (joined-cons r rest),
        length-append r (joined rest),
        stored_next i,
        runs-from (suc i) k,
        ap (stored a) e,
      )

  pub runs-counted : (h : ℕ) → length (joined (table h (λ c. run_entry (due a c) x))) ≡ stored a h
  unfolding table
  runs-counted h = let e : 0 + h ≡ h = omega arith in
      omega (arith, runs-from 0 h, stored-none a 0 v (omega arith), ap (stored a) e)

-- Lists whose lengths add up, joined.
module _ (f g r : ℕ → List ℕ) (e : (c : ℕ) → length (f c) ≡ length (g c) + length (r c)) where
  add-from : (i k : ℕ) → length (joined (table_from i k f)) ≡ length (joined (table_from i k g)) + length (joined (table_from i k r))
  unfolding table_from join_from
  add-from i zero = refl
  add-from i (suc k) =
      rw (
        joined-cons (f i) (table_from (suc i) k f),
        joined-cons (g i) (table_from (suc i) k g),
        joined-cons (r i) (table_from (suc i) k r),
      )
      (simp length-append (omega (arith, e i, add-from (suc i) k)))

  pub joined-add : (h : ℕ) → length (joined (table h f)) ≡ length (joined (table h g)) + length (joined (table h r))
  unfolding table
  joined-add h = add-from 0 h

-- How long the lists of h cycles are from entry i of their order on.
module _ (periods order phases : List ℕ) (n h : ℕ) where
  abbrev from : ℕ → ℕ → List ℕ
  from i c = list_from periods order phases n c i

  unfoldable pub length_from : ℕ → ℕ
  length_from i = length (joined (table h (from i)))

  pub length-starts : length_from 0 ≡ length (joined (lists_by periods order phases n h))
  unfolding length_from lists_by
  length-starts =
      ap (λ l. length (joined l)) (table_same (from 0) (list_by periods order phases n) (list-starts periods order phases n) h)

  pub length-step : (i : ℕ) → i < n → get_or phases (get_or order i 0) 0 < get_or periods (get_or order i 0) 0 →
      length_from i ≡ stored (rate_at periods phases (get_or order i 0)) h + length_from (i + 1)
  unfolding length_from due
  length-step i lt v =
      let x = get_or order i 0 in
      let a = rate_at periods phases x in
      joined-add (from i) (λ c. run_entry (due a c) x) (from (i + 1))
      (λ c. parts-length (list-step periods order phases n c i lt)) h
      ∙
      ap (λ (m : ℕ). m + length (joined (table h (from (i + 1))))) (runs-counted a x v h)

  pub length-ends : (i : ℕ) → n ≤ i → length_from i ≡ 0
  unfolding length_from
  length-ends i le =
      omega (
        arith,
        joined-add (from i) (from i) (from i)
            (λ c. omega (arith, ap length (list-ends periods order phases n c i le))) h,
      )
