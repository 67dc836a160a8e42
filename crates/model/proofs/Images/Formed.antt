-- The image of an accepted pair is well formed. Assumes nothing.
use Prim.Native.Nat.{ℕ, zero, suc, ◌+◌, ◌-◌, ◌*◌, ◌≤◌, ◌<◌}
use mathlib.Core.Bool.{Bool, true, false, cond}
use mathlib.Core.List.{List, [], ◌∷◌, ◌++◌}
use mathlib.Core.Path.{◌≡◌, refl, sym, ap, ap₂, subst, ◌∙◌}
use native.Mathlib.Omega.{arith}
use borrow.Author.Tests.{lt-ltb, le-leb, eq-eqb}
use lib.Dec.{ltb}
use lib.ListN.{length, get_or, length-append}
use lib.Seq.{take_all}
use Rattle.model.specs.Says.Feasible.{All, Met, Feasible, Multiple}
use Rattle.model.specs.Rules.Image.{
  expr_code,
  signal_code,
  codes,
  run_list,
  run_lists,
  joined,
  lists_at,
  rows_at,
  codes_at,
  length_of,
  image_of,
}
use Rattle.model.specs.Rules.Machine.{
  code_at,
  list_offset,
  code_offset,
  table_offset,
  row_count,
  is_served,
  table_ok,
  command_ok,
  code_ok_from,
  code_ok,
  head_ok,
  lists_ok,
  entries_ok,
  codes_ok,
  well_formed,
}
use Rattle.model.specs.Rules.Program.{
  Program,
  Body,
  input,
  equation,
  Expr,
  constant,
  read,
  binary,
  unary,
  choose,
  Read,
  count,
  signal_at,
  reads_of,
  body_reads,
  unary_lookups,
  expr_lookups,
  body_lookups,
}
use Rattle.model.specs.Rules.Reads.{rate_of, due}
use Rattle.model.specs.Rules.Report.{expr_commands}
use Rattle.model.specs.Rules.Schedule.{Schedule}
use Rattle.model.specs.Rules.Search.{chosen, join_from}
use Rattle.model.specs.Rules.Table.{table_bytes}
use Rattle.model.specs.Rules.Cover.{area_ok}
use Rattle.model.specs.Rules.Word.{byte_at, four_bytes, word_bytes}
use Rattle.model.specs.declared.Code.{Code}
use Rattle.model.specs.declared.Unary.{Unary}
use Rattle.model.specs.declared.Unary.TheVariants.{Negate, Table}
use Rattle.model.specs.declared.Code.TheVariants as Code
use Rattle.model.proofs.Images.Bounds.{depth, body_depth, Words, BodyWords, Bounded}
use Rattle.model.proofs.Pairs.Decide.{true-all}
use Rattle.model.proofs.Images.Runs.{
  push_at,
  load_at,
  fetch-at,
  store_at,
  binary-at,
  unary-at,
  if-at,
  binary-parts,
  unary-parts,
  choose-parts,
  spare,
  code-room,
}
use Rattle.model.proofs.Images.Stretches.{
  Stands,
  all_of,
  front,
  behind,
  byte-here,
  table-stands,
  joined-cons,
  parts-most,
  lists_length,
  list-is,
  lists-byte,
  image-length,
  image-hyper,
  image-count,
  length-bytes,
  list-offset,
  code-offset,
  code-stretch,
  list-rises,
  code-rises,
}
use Rattle.model.proofs.Basics.All.{all_split}
use Rattle.model.proofs.Rows.Area.{area-accepted, sorted-bytes}
use Rattle.model.proofs.Rows.Rule.{sorted, length-same}

step : (rows : Bool) (code : List ℕ) (n own f at height : ℕ) (c : Code) → code_at code at ≡ c →
    code_ok_from (suc f) rows code n own at height ≡
    command_ok (λ a h. code_ok_from f rows code n own a h) rows (length code) n own at height c
unfolding code_ok_from
step rows code n own f at height c d = rw d

-- An operator that is no TABLE, or one where there are rows.
is-served : (rows : Bool) (operator : Unary) → (0 < unary_lookups operator → rows ≡ true) → is_served rows operator ≡ true
is-served rows Negate h = refl
is-served rows Table h = h (omega arith)

-- The code of an expression, where it reads known signals only and there is room on the stack, leaves one word more. At depth d
-- it takes at most 2(d − 1) + 1.
module _ (Q : Read → Type 0) (n own : ℕ) (known : (ρ : Read) → Q ρ → ρ.operands.signal < n) (rows : Bool) (code : List ℕ)
  where
    expr-ok : (e : Expr) (f at height : ℕ) → Words e → All Q (reads_of e) → (0 < expr_lookups e → rows ≡ true) →
        height + 2 * depth e ≤ 33 → Stands code at (expr_code e) →
        code_ok_from (expr_commands e + f) rows code n own at height ≡ code_ok_from f rows code n own (at + length (expr_code e))
        (height + 1)
    unfolding expr_code reads_of command_ok word_bytes four_bytes
    expr-ok (constant w) f at height fit q sv room h =
        ap (λ (k : ℕ). code_ok_from k rows code n own at height) (omega arith) ∙
        step rows code n own f at height _ (push_at w fit h) ∙
        rw (lt-ltb height 32 (omega arith))
    expr-ok (read ρ) f at height fit q sv room h =
        ap (λ (k : ℕ). code_ok_from k rows code n own at height) (omega arith) ∙
        step rows code n own f at height _ (load_at _ h) ∙
        rw (lt-ltb ρ.operands.signal n (known ρ q.0), lt-ltb height 32 (omega arith))
    expr-ok (binary operator x y) f at height fit q sv room h =
        let parts = binary-parts operator x y h in
        let r = all_split Q (reads_of x) (reads_of y) q in
        ap (λ (k : ℕ). code_ok_from k rows code n own at height) (omega arith) ∙
        expr-ok x (expr_commands y + suc f) at height fit.0 r.0 (λ l. sv (omega arith)) (omega arith) parts.0 ∙
        expr-ok y (suc f) _ _ fit.1 r.1 (λ l. sv (omega arith)) (omega arith) parts.1 ∙
        step rows code n own f _ _ _ (binary-at operator parts.2) ∙
        rw (le-leb 2 (height + 1 + 1) (omega arith))
        (ap₂ (code_ok_from f rows code n own) (simp length-append (omega arith)) (omega arith))
    expr-ok (unary operator x) f at height fit q sv room h =
        let parts = unary-parts operator x h in
        ap (λ (k : ℕ). code_ok_from k rows code n own at height) (omega arith) ∙
        expr-ok x (suc f) at height fit q (λ l. sv (omega arith)) (omega arith) parts.0 ∙
        step rows code n own f _ _ _ (unary-at operator parts.1) ∙
        rw (is-served rows operator (λ l. sv (omega arith)), le-leb 1 (height + 1) (omega arith))
        (ap (λ (k : ℕ). code_ok_from f rows code n own k (height + 1)) (simp length-append (omega arith)))
    expr-ok (choose x y z) f at height fit q sv room h =
        let parts = choose-parts x y z h in
        let r = all_split Q (reads_of x) (reads_of y ++ reads_of z) q in
        let t = all_split Q (reads_of y) (reads_of z) r.1 in
        ap (λ (k : ℕ). code_ok_from k rows code n own at height) (omega arith) ∙
        expr-ok x (expr_commands y + (expr_commands z + suc f)) at height fit.0 r.0 (λ l. sv (omega arith)) (omega arith)
        parts.0 ∙
        expr-ok y (expr_commands z + suc f) _ _ fit.1 t.0 (λ l. sv (omega arith)) (omega arith) parts.1 ∙
        expr-ok z (suc f) _ _ fit.2 t.1 (λ l. sv (omega arith)) (omega arith) parts.2 ∙
        step rows code n own f _ _ _ (if-at parts.3) ∙
        rw (le-leb 3 (height + 1 + 1 + 1) (omega arith))
        (ap₂ (code_ok_from f rows code n own) (simp length-append (omega arith)) (omega arith))

-- The code of a signal is well formed.
module _ (Q : Read → Type 0) (n x : ℕ) (known : (ρ : Read) → Q ρ → ρ.operands.signal < n) where
  signal-ok : (rows : Bool) (body : Body) → BodyWords body → body_depth body ≤ 16 → All Q (body_reads body) →
      (0 < body_lookups body → rows ≡ true) → code_ok rows (signal_code x body) n x ≡ true
  unfolding code_ok command_ok
  signal-ok rows input fit deep q sv =
      let code = signal_code x input in
      step rows code n x 3 0 0 _ (fetch-at x (front (0x52 ∷ x ∷ []) (0x5F ∷ x ∷ []) (all_of code))) ∙
      rw (eq-eqb x x refl)
      (step rows code n x 2 2 1 _ (store_at x (behind (0x52 ∷ x ∷ []) (0x5F ∷ x ∷ []) (all_of code))) ∙
      rw (eq-eqb x x refl))
  signal-ok rows (equation weight e) fit deep q sv =
      let code = signal_code x (equation weight e) in
      ap (λ (k : ℕ). code_ok_from k rows code n x 0 0) (code-room e x) ∙
      expr-ok Q n x known rows code e (suc (spare e)) 0 0 fit q sv (omega arith)
      (front (expr_code e) (0x5F ∷ x ∷ []) (all_of code)) ∙
      step rows code n x (spare e) _ _ _ (store_at x (behind (expr_code e) (0x5F ∷ x ∷ []) (all_of code))) ∙
      rw (eq-eqb x x refl) (eq-eqb (0 + length (expr_code e) + 2) (length code) (simp length-append (omega arith)))

-- What holds of every element, of lists put together and of elements chosen.
module _ (Q : ℕ → Type 0) where
  abbrev Every : List ℕ → Type 0
  Every xs = (j : ℕ) → j < length xs → Q (get_or xs j 0)

  cons-every : (x : ℕ) (xs : List ℕ) → Q x → Every xs → Every (x ∷ xs)
  cons-every x xs q f zero l = q
  cons-every x xs q f (suc j) l = f j (omega arith)

  append-every : (xs ys : List ℕ) → Every xs → Every ys → Every (xs ++ ys)
  append-every [] ys f g = g
  append-every (x ∷ xs) ys f g =
      cons-every x (xs ++ ys) (f 0 (omega arith)) (append-every xs ys (λ j l. f (suc j) (omega arith)) g)

  chosen-every : (test : ℕ → Bool) (xs : List ℕ) → Every xs → Every (chosen test xs)
  unfolding chosen
  chosen-every test [] f = f
  chosen-every test (x ∷ xs) f = go (test x) (chosen-every test xs (λ j l. f (suc j) (omega arith)))
    where
      go : (b : Bool) → Every (chosen test xs) → Every (cond b (x ∷ chosen test xs) (chosen test xs))
      go true g = cons-every x (chosen test xs) (f 0 (omega arith)) g
      go false g = g

  joined-every : (xs : List (List ℕ)) → ((i : ℕ) → i < length xs → Every (get_or xs i [])) → Every (joined xs)
  unfolding join_from
  joined-every [] f = λ j l. absurd (omega arith)
  joined-every (x ∷ xs) f =
      subst Every (sym (joined-cons x xs))
      (append-every x (joined xs) (f 0 (omega arith)) (joined-every xs (λ i l. f (suc i) (omega arith))))

module _ (p : Program) (s : Schedule) (h : ℕ) (acc : Feasible p s) (whole : Multiple p h) (bounded : Bounded p s h) where
  head-ok : head_ok (image_of p s h) ≡ true
  unfolding head_ok length_of codes_at rows_at
  head-ok =
      let n = image-length p s h in
      rw (
        image-hyper p s h,
        image-count p s h,
        le-leb 4 (length (image_of p s h)) (omega arith),
        eq-eqb _ _ (length-bytes p s h bounded),
        le-leb 1 h whole.positive,
        le-leb h 240 bounded.hyper,
        le-leb (count p) 64 bounded.signals,
        le-leb (lists_at (count p) h) (length (image_of p s h)) (omega arith),
      )

  code-first : code_offset (image_of p s h) 0 ≡ codes_at p s h
  unfolding join_from
  code-first = code-offset p s h bounded 0 (omega arith) ∙ omega arith

  code_inside : (x : ℕ) → x ≤ count p → code_offset (image_of p s h) x ≤ length (image_of p s h)
  unfolding length_of
  code_inside x le = rw (code-offset p s h bounded x le) (omega (arith, image-length p s h, parts-most (codes p) x))

  list-first : list_offset (image_of p s h) 0 ≡ lists_at (count p) h
  unfolding join_from
  list-first = list-offset p s h bounded 0 (omega arith) ∙ omega arith

  pub table-offset : table_offset (image_of p s h) ≡ rows_at p s h
  unfolding rows_at table_offset
  table-offset =
      ap (list_offset (image_of p s h)) (image-hyper p s h) ∙
      list-offset p s h bounded h (omega arith) ∙
      ap (λ (l : List (List ℕ)). lists_at (count p) h + length (joined l))
      (take_all h (run_lists p s h) (omega (arith, lists_length p s h)))

  table-counts : row_count (image_of p s h) ≡ length p.rows
  unfolding table_bytes
  table-counts =
      ap (byte_at (image_of p s h)) table-offset ∙ byte-here (table-stands p s h) ∙ sym (length-same (sorted p.rows))

  table-inside : table_offset (image_of p s h) ≤ length (image_of p s h)
  unfolding length_of codes_at
  table-inside = rw table-offset (omega (arith, image-length p s h))

  table-ok : table_ok (image_of p s h) ≡ true
  unfolding table_ok codes_at
  table-ok =
      rw (
        area,
        eq-eqb (code_offset (image_of p s h) 0) (table_offset (image_of p s h) + 1 + 12 * row_count (image_of p s h))
            (omega (arith, code-first, table-offset, table-counts, sorted-bytes p.rows)),
      )
    where
      area : area_ok (image_of p s h) (table_offset (image_of p s h)) ≡ true
      area =
          rw table-offset
          (area-accepted (image_of p s h) (rows_at p s h) p.rows (table-stands p s h) bounded.few-rows bounded.upright
          bounded.results bounded.covers)

  lists-ok : lists_ok (image_of p s h) ≡ true
  unfolding lists_ok
  lists-ok =
      rw (
        image-hyper p s h,
        image-count p s h,
        eq-eqb _ _ list-first,
        true-all h _ (λ c lt. le-leb _ _ (list-rises p s h bounded c lt)),
      ) (le-leb _ _ table-inside)

  list-below : (c : ℕ) → c < length (run_lists p s h) → Every (◌< count p) (get_or (run_lists p s h) c [])
  unfolding run_list
  list-below c lt =
      subst (Every (◌< count p)) (sym (list-is p s h c (omega (arith, lists_length p s h))))
      (chosen-every (◌< count p) (λ x. due (rate_of p s x) c) s.order acc.ordered.only)

  entry-below : (i : ℕ) → i < table_offset (image_of p s h) - lists_at (count p) h →
      byte_at (image_of p s h) (lists_at (count p) h + i) < count p
  unfolding rows_at
  entry-below i lt =
      let l : i < length (joined (run_lists p s h)) = omega (arith, table-offset) in
      rw (lists-byte p s h i l) (joined-every (◌< count p) (run_lists p s h) list-below i l)

  entries-ok : entries_ok (image_of p s h) ≡ true
  unfolding entries_ok
  entries-ok = rw (image-hyper p s h, image-count p s h) (true-all _ _ (λ i lt. lt-ltb _ _ (entry-below i lt)))

  codes-ok : codes_ok (image_of p s h) ≡ true
  unfolding codes_ok
  codes-ok =
      rw (image-count p s h)
      (true-all (count p) _ (λ x lt.
      rw (
        le-leb _ _ (code-rises p s h bounded x lt),
        le-leb _ _ (code_inside (x + 1) (omega arith)),
        code-stretch p s h bounded x lt,
      )
      (signal-ok (Met p s x) (count p) x (λ ρ m. m.declared) (ltb 0 (row_count (image_of p s h))) (signal_at p x).body
      (bounded.constants x lt) (bounded.depths x lt) (acc.met x lt)
      (λ some. lt-ltb 0 (row_count (image_of p s h)) (omega (arith, bounded.served x lt some, table-counts))))))

  pub image-well-formed : well_formed (image_of p s h) ≡ true
  unfolding well_formed
  image-well-formed = rw (head-ok, well_formed) (rw lists-ok (rw table-ok (rw (entries-ok, codes-ok))))
