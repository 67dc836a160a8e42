-- The rows of the table are the keywords and the names. Assumes nothing.
use Rattle.std.specs.Prelude.{Option, Some}
use Prim.Native.Nat.{ℕ, zero, suc, ◌+◌, ◌*◌, ◌≤◌, ◌<◌}
use mathlib.Core.Bool.{Bool, true, false, cond, ◌&&◌}
use mathlib.Core.List.{List, [], ◌∷◌, map}
use mathlib.Core.Path.{◌≡◌, refl, sym, ap, ◌∙◌}
use native.Mathlib.Omega.{arith}
use borrow.Author.Tests.{eqb-true, eq-eqb, ne_eqb}
use lib.Dec.{eqb}
use lib.ListN.{length, drop, drop_of_length-le, get_or-eq_default}
use lib.Seq.{drop-cons}
use native.Mathlib.Decide.{dec_lt}
use native.Mathlib.Numerals.{add-one}
use Rattle.model.specs.Rules.Search.{first_from, first_below, all_below, table_from, table, join_from}
use Rattle.model.specs.Rules.TextForm.{Keyword, keywords, names, keyword_at, same_bytes, spelled, coded}
use Rattle.model.specs.Rules.Word.{byte_at}
use Rattle.model.specs.declared.Operand.{Operand}
use Rattle.model.specs.declared.Operand.TheVariants.{One, Two, Four, Signed, Index, Mode}
use Rattle.model.proofs.Basics.Tests.{never, both}
use Rattle.model.proofs.Pairs.Decide.{is-first, all_true}
use Rattle.text_keyword.specs.Cells.{
  rows,
  cells,
  command_rows,
  all_rows,
  all_cells,
  names_from,
  names_count,
  letters_of,
  operands_in,
  operand_by,
  number_of_operand,
  spelling_at,
  byte_of,
  pending_at,
}

pub cells-length : length cells ≡ all_cells
unfolding cells rows keywords names join_from table table_from
cells-length = refl

-- The same list.
same-is : (xs ys : List ℕ) → same_bytes xs ys ≡ true → xs ≡ ys
unfolding same_bytes
same-is [] [] e = refl
same-is [] (y ∷ ys) e = never e
same-is (x ∷ xs) [] e = never e
same-is (x ∷ xs) (y ∷ ys) e =
    let h = both (eqb x y) (same_bytes xs ys) e in
    let p : x ≡ y = eqb-true x y h.0 in
    let q : xs ≡ ys = same-is xs ys h.1 in
    cc

by_number : (o : Operand) → operand_by (number_of_operand o) ≡ o
by_number One = refl
by_number Two = refl
by_number Four = refl
by_number Signed = refl
by_number Index = refl
by_number Mode = refl

back : (zs : List Operand) → map operand_by (map number_of_operand zs) ≡ zs
back [] = refl
back (o ∷ zs) = rw (by_number o, back zs) refl

same_operands : (xs ys : List Operand) → map number_of_operand xs ≡ map number_of_operand ys → xs ≡ ys
same_operands xs ys e = sym (back xs) ∙ ap (map operand_by) e ∙ back ys

-- Row `from` + i is keyword i of a list: its letters, its line, its byte, its operands.
abbrev row_is : ℕ → List Keyword → ℕ → Bool
row_is from ks i =
    let k = keyword_at ks i in
    same_bytes (spelling_at cells (from + i)) k.spelling &&
    (eqb (byte_at cells (15 * (from + i) + 9)) (cond k.opens 1 0) &&
    (eqb (byte_of cells (from + i)) k.byte &&
    same_bytes (map number_of_operand (pending_at (15 * (from + i) + 11))) (map number_of_operand k.operands)))

pub record Row (from : ℕ) (ks : List Keyword) (i : ℕ) : Type 0 where
  pub spelling : spelling_at cells (from + i) ≡ (keyword_at ks i).spelling
  pub opens : byte_at cells (15 * (from + i) + 9) ≡ cond (keyword_at ks i).opens 1 0
  pub byte : byte_of cells (from + i) ≡ (keyword_at ks i).byte
  pub operands : pending_at (15 * (from + i) + 11) ≡ (keyword_at ks i).operands

row-is : (from : ℕ) (ks : List Keyword) → all_below (length ks) (row_is from ks) ≡ true → (i : ℕ) → i < length ks → Row from ks i
row-is from ks e i lt =
    let a = both _ _ (all_true (length ks) (row_is from ks) e i lt) in
    let b = both _ _ a.1 in
    let c = both _ _ b.1 in
    record {
      spelling = same-is _ _ a.0;
      opens = eqb-true _ _ b.0;
      byte = eqb-true _ _ c.0;
      operands = same_operands _ _ (same-is _ _ c.1);
    }

pub keyword-row : (i : ℕ) → i < command_rows → Row 0 keywords i
unfolding cells rows keywords names join_from table table_from all_below letters_of operands_in same_bytes
keyword-row i lt = row-is 0 keywords refl i lt

pub name-row : (o : Operand) (i : ℕ) → i < names_count o → Row (names_from o) (names o) i
unfolding cells rows keywords names join_from table table_from all_below letters_of operands_in same_bytes
name-row One i lt = absurd (omega arith)
name-row Two i lt = absurd (omega arith)
name-row Four i lt = absurd (omega arith)
name-row Signed i lt = absurd (omega arith)
name-row Index i lt = row-is command_rows (names Index) refl i lt
name-row Mode i lt = row-is (command_rows + 1) (names Mode) refl i lt

-- Searches of the table are searches of the keywords and of the names.
first-same : (n i : ℕ) (f g : ℕ → Bool) → ((k : ℕ) → i ≤ k → k < i + n → f k ≡ g k) → first_from i n f ≡ first_from i n g
unfolding first_from
first-same zero i f g h = refl
first-same (suc n) i f g h =
    ap (λ (b : Bool). elim b [ true ↦ Some i | false ↦ first_from (suc i) n f ]) (h i (omega arith) (omega arith)) ∙
    ap (λ (u : Option ℕ). elim (g i) [ true ↦ Some i | false ↦ u ])
    (first-same n (suc i) f g (λ k low high. h k (omega arith) (omega arith)))

module _ (from n : ℕ) (ks : List Keyword) (size : n ≡ length ks) (is : (i : ℕ) → i < n → Row from ks i) where
  spelled-in : (w : List ℕ) → first_below n (λ i. same_bytes (spelling_at cells (from + i)) w) ≡ spelled w ks
  unfolding first_below spelled
  spelled-in w =
      rw (← size) (first-same n 0 _ _ (λ i low high. ap (λ (s : List ℕ). same_bytes s w) (is i (omega arith)).spelling))

  coded_in : (b : ℕ) → first_below n (λ i. eqb (byte_of cells (from + i)) b) ≡ coded b ks
  unfolding first_below coded
  coded_in b = rw (← size) (first-same n 0 _ _ (λ i low high. ap (λ (m : ℕ). eqb m b) (is i (omega arith)).byte))

keywords-count : command_rows ≡ length keywords
unfolding keywords
keywords-count = refl

names-count : (o : Operand) → names_count o ≡ length (names o)
unfolding names
names-count One = refl
names-count Two = refl
names-count Four = refl
names-count Signed = refl
names-count Index = refl
names-count Mode = refl

pub spelled-keyword : (w : List ℕ) → first_below command_rows (λ i. same_bytes (spelling_at cells (0 + i)) w) ≡ spelled w keywords
spelled-keyword = spelled-in 0 command_rows keywords keywords-count keyword-row

pub coded-keyword : (b : ℕ) → first_below command_rows (λ i. eqb (byte_of cells (0 + i)) b) ≡ coded b keywords
coded-keyword = coded_in 0 command_rows keywords keywords-count keyword-row

pub spelled-name : (o : Operand) (w : List ℕ) →
    first_below (names_count o) (λ i. same_bytes (spelling_at cells (names_from o + i)) w) ≡ spelled w (names o)
spelled-name o = spelled-in (names_from o) (names_count o) (names o) (names-count o) (name-row o)

pub coded-name : (o : Operand) (b : ℕ) →
    first_below (names_count o) (λ i. eqb (byte_of cells (names_from o + i)) b) ≡ coded b (names o)
coded-name o = coded_in (names_from o) (names_count o) (names o) (names-count o) (name-row o)

pub names-inside : (o : Operand) → names_from o + names_count o ≤ all_rows
names-inside One = omega arith
names-inside Two = omega arith
names-inside Four = omega arith
names-inside Signed = omega arith
names-inside Index = omega arith
names-inside Mode = omega arith

-- What is found is a name.
pub name-found : (o : Operand) (w : List ℕ) (i : ℕ) → spelled w (names o) ≡ Some i → i < names_count o
unfolding spelled
name-found o w i e =
    let h = is-first (length (names o)) (λ i. same_bytes (keyword_at (names o) i).spelling w) (Some i) e in
    omega (arith, h.1, names-count o)

pub keyword-found : (w : List ℕ) (i : ℕ) → spelled w keywords ≡ Some i → i < command_rows
unfolding spelled
keyword-found w i e =
    let h = is-first (length keywords) (λ i. same_bytes (keyword_at keywords i).spelling w) (Some i) e in
    omega (arith, h.1, keywords-count)

pub name-coded : (o : Operand) (b i : ℕ) → coded b (names o) ≡ Some i → i < names_count o
unfolding coded
name-coded o b i e =
    let h = is-first (length (names o)) (λ i. eqb (keyword_at (names o) i).byte b) (Some i) e in
    omega (arith, h.1, names-count o)

pub keyword-coded : (b i : ℕ) → coded b keywords ≡ Some i → i < command_rows
unfolding coded
keyword-coded b i e =
    let h = is-first (length keywords) (λ i. eqb (keyword_at keywords i).byte b) (Some i) e in
    omega (arith, h.1, keywords-count)

-- A search of a table that is this one, from an operand's names on.
module _ {t : List ℕ} (is : t ≡ cells) where
  module _ {from count : ℕ} (o : Operand) (start : from ≡ names_from o) (size : count ≡ names_count o) where
    pub name-search : (w : List ℕ) → first_below count (λ i. same_bytes (spelling_at t (from + i)) w) ≡ spelled w (names o)
    name-search w =
        ap (λ (l : List ℕ). first_below count (λ i. same_bytes (spelling_at l (from + i)) w)) is ∙
        ap (λ (k : ℕ). first_below count (λ i. same_bytes (spelling_at cells (k + i)) w)) start ∙
        ap (λ (k : ℕ). first_below k (λ i. same_bytes (spelling_at cells (names_from o + i)) w)) size ∙ spelled-name o w

    pub name-code : (b : ℕ) → first_below count (λ i. eqb (byte_of t (from + i)) b) ≡ coded b (names o)
    name-code b =
        ap (λ (l : List ℕ). first_below count (λ i. eqb (byte_of l (from + i)) b)) is ∙
        ap (λ (k : ℕ). first_below count (λ i. eqb (byte_of cells (k + i)) b)) start ∙
        ap (λ (k : ℕ). first_below k (λ i. eqb (byte_of cells (names_from o + i)) b)) size ∙ coded-name o b

  pub name-byte : {from : ℕ} (o : Operand) → from ≡ names_from o → (i : ℕ) → byte_of t (from + i) ≡ byte_of cells (names_from o + i)
  name-byte {from} o start i = ap (λ (l : List ℕ). byte_of l (from + i)) is ∙ ap (λ (k : ℕ). byte_of cells (k + i)) start

  pub keyword-search : (w : List ℕ) → first_below command_rows (λ i. same_bytes (spelling_at t (0 + i)) w) ≡ spelled w keywords
  keyword-search w = ap (λ (l : List ℕ). first_below command_rows (λ i. same_bytes (spelling_at l (0 + i)) w)) is ∙ spelled-keyword w

  pub keyword-code : (b : ℕ) → first_below command_rows (λ i. eqb (byte_of t (0 + i)) b) ≡ coded b keywords
  keyword-code b = ap (λ (l : List ℕ). first_below command_rows (λ i. eqb (byte_of l (0 + i)) b)) is ∙ coded-keyword b

-- The operands that are to follow, one by one.
operands-zero : (c : ℕ) (cs : List ℕ) → c ≡ 0 → operands_in (c ∷ cs) ≡ []
unfolding operands_in
operands-zero c cs e = rw (eq-eqb c 0 e) refl

operands-cons : (c : ℕ) (cs : List ℕ) → (c ≡ 0 → ⊥) → operands_in (c ∷ cs) ≡ operand_by c ∷ operands_in cs
unfolding operands_in
operands-cons c cs some = rw (ne_eqb c 0 some) refl

operands-none : (cs : List ℕ) → cs ≡ [] → operands_in cs ≡ []
unfolding operands_in
operands-none cs e = rw e refl

pub pending-none : (at : ℕ) → byte_at cells at ≡ 0 → pending_at at ≡ []
pending-none at e = go (dec_lt at (length cells))
  where
    go : Dec (at < length cells) → pending_at at ≡ []
    go (yes lt) = ap operands_in (drop-cons cells at 0 lt) ∙ operands-zero (byte_at cells at) (drop (suc at) cells) e
    go (no ge) = let le : length cells ≤ at = omega arith in operands-none (drop at cells) (drop_of_length-le {A = ℕ} cells le)

pub pending-more : (at : ℕ) → (byte_at cells at ≡ 0 → ⊥) →
    (at < all_cells) × (pending_at at ≡ operand_by (byte_at cells at) ∷ pending_at (at + 1))
pending-more at some = go (dec_lt at (length cells))
  where
    go : Dec (at < length cells) → (at < all_cells) × (pending_at at ≡ operand_by (byte_at cells at) ∷ pending_at (at + 1))
    go (yes lt) = (
      omega (arith, cells-length),
      ap operands_in (drop-cons cells at 0 lt) ∙ operands-cons (byte_at cells at) (drop (suc at) cells) some ∙
          ap (λ (n : ℕ). operand_by (byte_at cells at) ∷ pending_at n) (sym (add-one at)),
    )
    go (no ge) = let le : length cells ≤ at = omega arith in absurd (some (get_or-eq_default {A = ℕ} cells 0 le))

-- At the start none is.
pub pending-starts : pending_at 11 ≡ []
unfolding cells rows keywords names join_from table table_from
pending-starts = pending-none 11 refl

-- The row of a keyword, counted from 0.
pub record KeywordRow (i : ℕ) : Type 0 where
  pub spelling : spelling_at cells i ≡ (keyword_at keywords i).spelling
  pub opens : byte_at cells (15 * i + 9) ≡ cond (keyword_at keywords i).opens 1 0
  pub operands : pending_at (15 * i + 11) ≡ (keyword_at keywords i).operands

pub row_of : (i : ℕ) → i < command_rows → KeywordRow i
row_of i lt =
    let r = keyword-row i lt in
    let z : 0 + i ≡ i = omega arith in
    record { spelling = rw z at r.spelling; opens = rw z at r.opens; operands = rw z at r.operands }
