-- What reset and cycle leave on any well-formed image is what the paper's sentences say, and nothing else is. Assumes nothing.
use Prim.Native.Nat.{ℕ, zero, suc, ◌+◌, ◌-◌, ◌*◌, ◌≤◌, ◌<◌}
use mathlib.Core.Bool.{Bool, true, false, cond}
use mathlib.Core.List.{List, [], ◌∷◌}
use mathlib.Core.Path.{◌≡◌, refl, sym, ap, ap₂, subst, ◌∙◌}
use native.Mathlib.Decide.{dec_lt, ℕ_discrete}
use native.Mathlib.Numerals.{add-one}
use native.Mathlib.Omega.{arith}
use borrow.Author.Tests.{eqb-true, eqb-false, eq-eqb, ne_eqb}
use lib.Dec.{eqb}
use lib.IntN.{ℤ, pos}
use lib.ListN.{length, get_or, set, drop, length-set, length-append, length-take, length-drop, get_or-append}
use lib.Seq.{get_or-set_same, get_or-set_other, get_or-append-add, get_or-drop, get_or-take, ext_get_or}
use Rattle.model.specs.Rules.Machine.{
  code_at,
  hyper_of,
  count_of,
  rows_in,
  list_offset,
  table_offset,
  list_of,
  run_command,
  run_from,
  run_code,
  count_command,
  count_from,
  count_code,
  run_signals,
  count_signals,
  next_position,
  reset_words,
}
use Rattle.model.specs.Rules.Search.{table}
use Rattle.model.specs.Rules.Table.{Row, unary_word}
use Rattle.model.specs.Rules.Word.{word_at, binary_word, if_word}
use Rattle.model.specs.Says.Written.{CodeWritten}
use Rattle.model.specs.declared.Code.{Code}
use Rattle.model.specs.declared.Code.TheVariants as Code
use Rattle.theorems_images.specs.Height.{Changes}
use Rattle.theorems_images.specs.Runs.{Stores, BeyondStay, ResetLeaves, Steps, Runs, RunsAll, MovesOn, CycleRuns}
use Rattle.theorems_images.specs.WellFormed.{FormedFrom, WellFormed}
use Rattle.model.proofs.Basics.Outcomes.{table-length, table_at}
use Rattle.theorems_images.proofs.Decoded.{decoded, inside}
use Rattle.theorems_images.proofs.FormedExactly.{rises, table-within}
use Rattle.theorems_images.proofs.Stretched.{is_code, is-list, list-is}
use Rattle.theorems_images.proofs.Operators.{operators-give}

-- One word stored.
set-stores : (k : ℕ) (w : ℤ) (state : List ℤ) → Stores k w state (set state k w)
set-stores k w state =
    record {
      long = length-set state k w;
      stored = λ lt. get_or-set_same state k w (pos 0) lt;
      others = λ i ne. get_or-set_other state k i w (pos 0) ne;
    }

stores-set : {k : ℕ} {w : ℤ} {state left : List ℤ} → Stores k w state left → left ≡ set state k w
stores-set {k} {w} {state} {left} s =
    ext_get_or (pos 0) left (set state k w) (s.long ∙ sym (length-set state k w)) (λ i lt. go i lt (ℕ_discrete i k))
  where
    go : (i : ℕ) → i < length left → Dec (i ≡ k) → get_or left i (pos 0) ≡ get_or (set state k w) i (pos 0)
    go i lt (yes e) =
        let here : k < length state = omega (arith, s.long) in
        ap (λ j. get_or left j (pos 0)) e ∙ s.stored here ∙ sym (get_or-set_same state k w (pos 0) here) ∙
        ap (λ j. get_or (set state k w) j (pos 0)) (sym e)
    go i lt (no ne) = s.others i ne ∙ sym (get_or-set_other state k i w (pos 0) ne)

-- One code.
module _ (rows : List Row) (code : List ℕ) (state samples : List ℤ) where
  abbrev Step : ℕ → List ℤ → ℕ → List ℤ → Type 0
  Step = Steps rows code state samples

  -- A step is what the definition makes of the command.
  step-inside : {at to : ℕ} {stack after : List ℤ} → Step at stack to after → (at < to) × (at < length code)
  step-inside (Steps.push w) = (omega arith, inside w)
  step-inside (Steps.load w) = (omega arith, inside w)
  step-inside (Steps.fetch w) = (omega arith, inside w)
  step-inside (Steps.binary w g) = (omega arith, inside w)
  step-inside (Steps.unary w g) = (omega arith, inside w)
  step-inside (Steps.choose w g) = (omega arith, inside w)

  step-runs : {at to : ℕ} {stack after : List ℤ} (next : ℕ → List ℤ → ℤ) → Step at stack to after →
      run_command next rows state samples at stack (code_at code at) ≡ next to after
  unfolding run_command
  step-runs next (Steps.push w) = rw (decoded w)
  step-runs next (Steps.load w) = rw (decoded w)
  step-runs next (Steps.fetch w) = rw (decoded w)
  step-runs next (Steps.binary {operator} {a} {b} {w = v} w g) =
      rw (decoded w, (operators-give.binary operator a b v).1 g)
  step-runs next (Steps.unary {operator} {a} {w = v} w g) = rw (decoded w, (operators-give.unary rows operator a v).1 g)
  step-runs next (Steps.choose {c} {a} {b} {w = v} w g) = rw (decoded w, (operators-give.choose c a b v).1 g)

  step_counts : {at to : ℕ} {stack after : List ℤ} (next : ℕ → ℕ) → Step at stack to after →
      count_command next at (code_at code at) ≡ suc (next to)
  unfolding count_command
  step_counts next (Steps.push w) = rw (decoded w)
  step_counts next (Steps.load w) = rw (decoded w)
  step_counts next (Steps.fetch w) = rw (decoded w)
  step_counts next (Steps.binary w g) = rw (decoded w)
  step_counts next (Steps.unary w g) = rw (decoded w)
  step_counts next (Steps.choose w g) = rw (decoded w)

  -- So is a run.
  runs-are : {x at n : ℕ} {stack : List ℤ} {w : ℤ} → Runs rows code state samples x at stack w n → (left : ℕ) →
      length code ≤ at + left →
      (run_from left rows code state samples at stack ≡ w) × (count_from left code at ≡ n)
  unfolding run_from count_from run_command count_command
  runs-are (Runs.store w) zero le = absurd (omega (arith, inside w))
  runs-are (Runs.store w) (suc left) le = (rw (decoded w), rw (decoded w))
  runs-are (Runs.onward s r) zero le = absurd (omega (arith, (step-inside s).1))
  runs-are (Runs.onward s r) (suc left) le =
      let rest = runs-are r left (omega (arith, (step-inside s).0)) in (
        step-runs (λ a k. run_from left rows code state samples a k) s ∙ rest.0,
        step_counts (λ a. count_from left code a) s ∙ ap suc rest.1,
      )

  -- A well-formed code runs.
  record Onward (at width after : ℕ) (stack : List ℤ) : Type 0 where
    next : List ℤ
    high : length next ≡ after
    step : Step at stack (at + width) next

  step-exists : {c : Code} {at width height after : ℕ} → CodeWritten code at c → Changes c width height after → (stack : List ℤ) →
      length stack ≡ height → Onward at width after stack
  step-exists w Changes.push stack h = record { next = _; high = ap suc h; step = Steps.push w }
  step-exists w Changes.load stack h = record { next = _; high = ap suc h; step = Steps.load w }
  step-exists w Changes.fetch stack h = record { next = _; high = ap suc h; step = Steps.fetch w }
  step-exists w Changes.binary [] h = absurd (omega arith)
  step-exists w Changes.binary (b ∷ []) h = absurd (omega arith)
  step-exists w (Changes.binary {operator = operator}) (b ∷ a ∷ stack) h =
      record {
        next = binary_word operator a b ∷ stack;
        high = omega arith;
        step = Steps.binary w ((operators-give.binary operator a b _).0 refl);
      }
  step-exists w Changes.unary [] h = absurd (omega arith)
  step-exists w (Changes.unary {operator = operator}) (a ∷ stack) h =
      record {
        next = unary_word rows operator a ∷ stack;
        high = omega arith;
        step = Steps.unary w ((operators-give.unary rows operator a _).0 refl);
      }
  step-exists w Changes.choose [] h = absurd (omega arith)
  step-exists w Changes.choose (b ∷ []) h = absurd (omega arith)
  step-exists w Changes.choose (b ∷ a ∷ []) h = absurd (omega arith)
  step-exists w Changes.choose (b ∷ a ∷ c ∷ stack) h =
      record {
        next = if_word c a b ∷ stack;
        high = omega arith;
        step = Steps.choose w ((operators-give.choose c a b _).0 refl);
      }

  runs-exist : {served n own at height : ℕ} → FormedFrom served n own code at height → (stack : List ℤ) → length stack ≡ height →
      (w : ℤ) × (m : ℕ) × Runs rows code state samples own at stack w m
  runs-exist (FormedFrom.store w ends) [] h = absurd (omega arith)
  runs-exist (FormedFrom.store w ends) (v ∷ []) h = (v, 1, Runs.store w)
  runs-exist (FormedFrom.store w ends) (v ∷ u ∷ stack) h = absurd (omega arith)
  runs-exist (FormedFrom.onward w before change le rest) stack h =
      let s = step-exists w change stack h in
      let r = runs-exist rest s.next s.high in
      (r.0, suc r.1, Runs.onward s.step r.2)

-- List entries are below N.
abbrev Known : List ℕ → List ℕ → Type 0
Known image xs = (j : ℕ) → j < length xs → get_or xs j 0 < count_of image

-- The codes of a list.
module _ (image : List ℕ) (samples : List ℤ) where
  abbrev All : List ℕ → List ℤ → ℕ → List ℤ → Type 0
  All = RunsAll image samples

  all_are : {xs : List ℕ} {state left : List ℤ} {n : ℕ} → All xs state n left →
      (left ≡ run_signals image xs samples state) × (n ≡ count_signals image xs)
  unfolding run_signals count_signals run_code count_code
  all_are RunsAll.none = (refl, refl)
  all_are (RunsAll.run {x = x} {xs = xs} {code = code} {state = state} c r s rest) =
      let one = runs-are (rows_in image) code state samples r (length code) (omega arith) in
      let others = all_are rest in (
        others.0 ∙
            ap (λ l. run_signals image xs samples l)
            (stores-set s ∙ ap (set state (x + 1))
            (sym one.0 ∙ ap (λ l. run_code (rows_in image) l state samples) (sym (is_code c)))),
        ap₂ ◌+◌ (sym one.1 ∙ ap count_code (sym (is_code c))) others.1,
      )

  beyond-stays : {xs : List ℕ} {state left : List ℤ} {n : ℕ} → All xs state n left → Known image xs →
      BeyondStay image state left
  beyond-stays RunsAll.none known i lt = refl
  beyond-stays (RunsAll.run c r s rest) known i lt =
      beyond-stays rest (λ j l. known (suc j) (omega arith)) i lt ∙ s.others i (omega (arith, known 0 (omega arith)))

  all-exist : WellFormed image → (xs : List ℕ) → Known image xs → (state : List ℤ) →
      (n : ℕ) × (left : List ℤ) × All xs state n left
  all-exist f [] known state = (0, state, RunsAll.none)
  all-exist f (x ∷ xs) known state =
      let c = f.codes x (known 0 (omega arith)) in
      let r = runs-exist (rows_in image) c.0 state samples c.2 [] refl in
      let rest = all-exist f xs (λ j l. known (suc j) (omega arith)) (set state (x + 1) r.0) in
      (r.1 + rest.0, rest.1, RunsAll.run c.1 r.2 (set-stores (x + 1) r.0 state) rest.2)

-- The lists of a well-formed image.
module _ (image : List ℕ) (f : WellFormed image) where
  lists-inside : (c : ℕ) → c < hyper_of image → list_offset image (c + 1) ≤ length image
  unfolding table_offset
  lists-inside c lt =
      omega (arith, rises (list_offset image) (hyper_of image) f.lists-rise (c + 1) (omega arith), table-within image f)

  entries-known : (c : ℕ) → c < hyper_of image → Known image (list_of image c)
  unfolding list_of table_offset
  entries-known c lt j l =
      let from = list_offset image c in
      let size = simp (length-take, length-drop) at l in
      rw (get_or-take (list_offset image (c + 1) - from) (drop from image) j 0 (omega (arith, size)), get_or-drop from image j 0)
      (f.entries (from + j)
      (omega (arith, rises (list_offset image) c (λ d l. f.lists-rise d (omega arith)) 0 (omega arith)))
      (omega (arith, size, rises (list_offset image) (hyper_of image) f.lists-rise (c + 1) (omega arith))))

-- The position.
moves-on : (h c : ℕ) → c < h → MovesOn h c (next_position h c)
unfolding next_position
moves-on h c lt = go (eqb (c + 1) h) refl
  where
    go : (t : Bool) → eqb (c + 1) h ≡ t → MovesOn h c (cond t 0 (c + 1))
    go true e = MovesOn.round (eqb-true (c + 1) h e)
    go false e = MovesOn.on (omega (arith, eqb-false (c + 1) h e))

moved_on : {h c next : ℕ} → MovesOn h c next → next ≡ next_position h c
unfolding next_position
moved_on {h} {c} (MovesOn.on lt) = rw (ne_eqb (c + 1) h (omega arith))
moved_on {h} {c} (MovesOn.round e) = rw (eq-eqb (c + 1) h e)

module _ (image : List ℕ) (c : ℕ) (state samples : List ℤ) where
  abbrev cycled : List ℤ
  cycled = set (run_signals image (list_of image c) samples state) 0 (pos (next_position (hyper_of image) c))

  -- A cycle leaves what the definition says, and runs as many commands ..
  pub cycle-is : {n : ℕ} {left : List ℤ} → CycleRuns image c state samples n left →
      (left ≡ cycled) × (n ≡ count_signals image (list_of image c))
  cycle-is r =
      let all = all_are image samples r.runs in
      let list = is-list c r.listed in (
        stores-set r.stores ∙
            ap₂ (λ l (k : ℕ). set l 0 (pos k)) (all.0 ∙ ap (λ l. run_signals image l samples state) (sym list))
            (moved_on r.moves),
        all.1 ∙ ap (count_signals image) (sym list),
      )

  -- .. and on a well-formed image it does.
  pub cycle_runs : WellFormed image → c < hyper_of image →
      CycleRuns image c state samples (count_signals image (list_of image c)) cycled
  cycle_runs f lt =
      let list = list_of image c in
      let known = entries-known image f c lt in
      let e = all-exist image samples f list known state in
      let same = all_are image samples e.2 in
      record {
        list = list;
        listed = list-is c (f.lists-rise c lt) (lists-inside image f c lt);
        ran = run_signals image list samples state;
        runs =
            subst (λ (m : ℕ). RunsAll image samples list state m (run_signals image list samples state)) same.1
            (subst (λ l. RunsAll image samples list state e.0 l) same.0 e.2);
        next = next_position (hyper_of image) c;
        moves = moves-on (hyper_of image) c lt;
        stores = set-stores 0 _ _;
        beyond = λ i b.
            get_or-set_other (run_signals image list samples state) 0 i _ (pos 0) (omega arith) ∙
            ap (λ l. get_or l i (pos 0)) (sym same.0) ∙ beyond-stays image samples e.2 known i b;
      }

-- Reset.
module _ (image : List ℕ) (state : List ℤ) (long : count_of image + 1 ≤ length state) where
  abbrev n : ℕ
  n = count_of image

  initials : List ℤ
  initials = table n (λ x. word_at image (4 + 6 * x))

  pub reset-leaves : ResetLeaves image state (reset_words image state)
  unfolding reset_words initials
  reset-leaves =
      let size = table-length n (λ x. word_at image (4 + 6 * x)) in
      record {
        long = simp (length-append, length-drop) (omega (arith, size));
        position = refl;
        initials = λ x lt.
            rw (add-one x)
            (get_or-append initials (drop (n + 1) state) (pos 0) x (omega (arith, size)) ∙ table_at n _ x (pos 0) lt);
        beyond = λ i lt.
            let k = i - (n + 1) in
            let j : suc (length initials + k) ≡ i = omega (arith, size) in
            subst (λ (m : ℕ). get_or (reset_words image state) m (pos 0) ≡ get_or state m (pos 0)) j
            (get_or-append-add initials (drop (n + 1) state) k (pos 0) ∙ get_or-drop (n + 1) state k (pos 0) ∙
            ap (λ (m : ℕ). get_or state m (pos 0)) (omega (arith, size)));
      }

  reset-only : {l k : List ℤ} → ResetLeaves image state l → ResetLeaves image state k → l ≡ k
  reset-only {l} {k} a b = ext_get_or (pos 0) l k (a.long ∙ sym b.long) (λ i lt. go i (dec_lt n i))
    where
      go : (i : ℕ) → Dec (n < i) → get_or l i (pos 0) ≡ get_or k i (pos 0)
      go i (yes h) = a.beyond i h ∙ sym (b.beyond i h)
      go zero (no h) = a.position ∙ sym b.position
      go (suc x) (no h) =
          subst (λ (m : ℕ). get_or l m (pos 0) ≡ get_or k m (pos 0)) (add-one x)
          (a.initials x (omega arith) ∙ sym (b.initials x (omega arith)))

  pub reset-is : {left : List ℤ} → ResetLeaves image state left → left ≡ reset_words image state
  reset-is r = reset-only r reset-leaves
