-- The image and the tail by tables of periods, order and phases, of any program and schedule. Assumes nothing.
use Prim.Native.Nat.{ℕ, zero, suc, ◌+◌, ◌%◌, ◌≤◌, ◌<◌}
use mathlib.Core.Bool.{Bool, cond}
use mathlib.Core.List.{List, [], ◌∷◌, ◌++◌, append-nil}
use mathlib.Core.Path.{◌≡◌, refl, sym, ap, ap₂, ◌∙◌}
use native.Mathlib.Omega.{arith}
use lib.Dec.{eqb}
use lib.ListN.{length, get_or}
use lib.Seq.{ext_get_or}
use Rattle.model.specs.Rules.Image.{
  codes,
  run_list,
  run_lists,
  joined,
  offsets,
  records,
  lists_at,
  rows_at,
  codes_at,
  length_of,
  head,
  image_of,
  tail_entry,
  tail_of,
}
use Rattle.model.specs.Rules.Program.{Program, Signal, count, signal_at}
use Rattle.model.specs.Rules.Reads.{rate_of, due}
use Rattle.model.specs.Rules.Schedule.{Schedule, phase_of}
use Rattle.model.specs.Rules.Search.{table, table_from, chosen}
use Rattle.model.specs.Rules.Table.{by_low, table_bytes}
use Rattle.model.specs.Rules.Word.{two_bytes}
use Rattle.model.specs.Says.Feasible.{Ordered}
use Rattle.model.proofs.Basics.Left.{Parts}
use Rattle.model.proofs.Basics.Outcomes.{table-length, table_at}
use Rattle.text_program.specs.Tables.{PeriodsOf, LabelsOf, SlotsOf}
use Rattle.image_write.specs.Lists.{is_due, list_by, lists_by, pairs, HasPeriods, Phased}
use Rattle.image_write.specs.Tail.{entry_by, tail_by}
use Rattle.image_write.proofs.Listed.{table_same}

-- Where the code starts, after the table, and where it ends.
abbrev pub codes_by : ℕ → ℕ → List (List ℕ) → List ℕ → ℕ
codes_by h n lists rows = lists_at n h + length (joined lists) + length rows

abbrev pub length_by : ℕ → ℕ → List (List ℕ) → List ℕ → List (List ℕ) → ℕ
length_by h n lists rows codes = codes_by h n lists rows + length (joined codes)

-- The image from its parts.
unfoldable pub image_by : ℕ → ℕ → List Signal → List (List ℕ) → List ℕ → List (List ℕ) → List ℕ
image_by h n signals lists rows codes =
    (h ∷ n ∷ two_bytes (length_by h n lists rows codes)) ++
    (records signals (offsets (codes_by h n lists rows) codes) ++
    (pairs (offsets (lists_at n h) lists) ++ (joined lists ++ (rows ++ joined codes))))

pub head_first : (h n : ℕ) (signals : List Signal) (lists : List (List ℕ)) (rows : List ℕ) (codes : List (List ℕ)) →
    Parts (image_by h n signals lists rows codes) (h ∷ n ∷ two_bytes (length_by h n lists rows codes))
    (records signals (offsets (codes_by h n lists rows) codes) ++
    (pairs (offsets (lists_at n h) lists) ++ (joined lists ++ (rows ++ joined codes))))
unfolding image_by
head_first h n signals lists rows codes = record { is = refl }

pub both : (xs ys : List ℕ) → Parts (xs ++ ys) xs ys
both xs ys = record { is = refl }

pub last : (xs : List ℕ) → Parts xs xs []
last xs = record { is = sym (append-nil xs) }

image-is : (p : Program) (s : Schedule) (h : ℕ) →
    image_of p s h ≡ image_by h (count p) p.signals (run_lists p s h) (table_bytes (by_low p.rows)) (codes p)
unfolding image_of head length_of codes_at rows_at image_by
image-is p s h = refl

-- Tests that agree on a list choose the same.
chosen-same : (f g : ℕ → Bool) (xs : List ℕ) → ((j : ℕ) → j < length xs → f (get_or xs j 0) ≡ g (get_or xs j 0)) →
    chosen f xs ≡ chosen g xs
unfolding chosen
chosen-same f g [] h = refl
chosen-same f g (x ∷ xs) h =
    ap (λ (b : Bool). cond b (x ∷ chosen f xs) (chosen f xs)) (h 0 (omega arith)) ∙
    ap (λ (l : List ℕ). cond (g x) (x ∷ l) l) (chosen-same f g xs (λ j lt. h (suc j) (omega arith)))

-- Tables of functions that agree where they are looked at.
same-below : {A : Type 0} (f g : ℕ → A) (i n : ℕ) → ((c : ℕ) → c < i + n → f c ≡ g c) → table_from i n f ≡ table_from i n g
unfolding table_from
same-below f g i zero e = refl
same-below f g i (suc n) e = ap₂ ◌∷◌ (e i (omega arith)) (same-below f g (suc i) n (λ c lt. e c (omega arith)))

-- The tables of the n signals of p, which s puts once each, with a phase below its period.
pub record TimedBy (periods order phases : List ℕ) (n : ℕ) (p : Program) (s : Schedule) : Type 0 where
  pub count-is : count p ≡ n
  pub few : n ≤ 64
  pub periods-are : PeriodsOf p periods
  pub ranks : List ℕ
  pub slots : SlotsOf p s order phases ranks
  pub ordered : Ordered p s

module _ {periods order phases : List ℕ} {n : ℕ} {p : Program} {s : Schedule} (r : TimedBy periods order phases n p s) where
  in_order : (j : ℕ) → j < n → get_or order j 0 < count p
  in_order j lt =
      let e = r.slots.all-put in
      let c = r.count-is in
      rw (r.slots.order_is j (omega arith)) (r.ordered.only j (omega arith))

  pub phased : Phased periods order phases n
  phased j lt =
      let x = get_or order j 0 in
      rw (r.periods-are x (in_order j lt), r.slots.phases-are x (in_order j lt)) (r.ordered.phases x (in_order j lt))

  pub timed : HasPeriods periods order n
  timed =
      record {
        few = r.few;
        below = λ j lt. omega (arith, in_order j lt, r.count-is, r.few);
        positive = λ j lt. omega (arith, phased j lt);
      }

  order_is : s.order ≡ table n (λ j. get_or order j 0)
  order_is =
      let e = r.slots.all-put in
      let c = r.count-is in
      ext_get_or 0 s.order (table n (λ j. get_or order j 0)) (e ∙ c ∙ sym (table-length n (λ j. get_or order j 0)))
      (λ i lt. sym (r.slots.order_is i lt) ∙ sym (table_at n (λ j. get_or order j 0) i 0 (omega arith)))

  pub list-is : (c : ℕ) → run_list p s c ≡ list_by periods order phases n c
  unfolding run_list list_by due
  list-is c =
      chosen-same (λ x. due (rate_of p s x) c) (is_due periods phases c) s.order
      (λ j lt.
      ap₂ (λ a b. eqb (c % a) b) (sym (r.periods-are (get_or s.order j 0) (r.ordered.only j lt)))
      (sym (r.slots.phases-are (get_or s.order j 0) (r.ordered.only j lt)))) ∙
      ap (chosen (is_due periods phases c)) order_is

  lists-are : (h : ℕ) → run_lists p s h ≡ lists_by periods order phases n h
  unfolding run_lists lists_by
  lists-are h = table_same (run_list p s) (list_by periods order phases n) list-is h

  pub code_by : (h : ℕ) → codes_at p s h ≡ codes_by h n (lists_by periods order phases n h) (table_bytes (by_low p.rows))
  unfolding codes_at rows_at
  code_by h = ap₂ (λ k ls. codes_by h k ls (table_bytes (by_low p.rows))) r.count-is (lists-are h)

  pub image-by : (h : ℕ) →
      image_of p s h ≡
      image_by h n p.signals (lists_by periods order phases n h) (table_bytes (by_low p.rows)) (codes p)
  image-by h =
      image-is p s h ∙
      ap₂ (λ k ls. image_by h k p.signals ls (table_bytes (by_low p.rows)) (codes p)) r.count-is (lists-are h)

  entry-is : (labels : List ℕ) → LabelsOf p labels → (x : ℕ) → x < count p →
      entry_by labels periods phases x ≡ tail_entry (signal_at p x).label (signal_at p x).period (phase_of s x)
  entry-is labels l x lt =
      ap (λ (k : ℕ). tail_entry k (get_or periods x 0) (get_or phases x 0)) (l x lt) ∙
      ap₂ (tail_entry (signal_at p x).label) (r.periods-are x lt) (r.slots.phases-are x lt)

  pub tail-by : (labels : List ℕ) → LabelsOf p labels → tail_by labels periods phases n ≡ tail_of p s
  unfolding tail_by tail_of table
  tail-by labels l =
      ap (λ (k : ℕ). joined (table k (entry_by labels periods phases))) (sym r.count-is) ∙
      ap joined (same-below _ _ 0 (count p) (λ x lt. entry-is labels l x (omega arith)))
