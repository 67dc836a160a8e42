-- The tokens that are read are those of the text, and no others. Assumes nothing.
use Prim.Native.Nat.{ℕ, suc, ◌+◌, ◌<◌}
use mathlib.Core.Bool.{Bool, true, false, cond, ◌||◌}
use mathlib.Core.List.{List, [], ◌∷◌, ◌++◌, append_assoc, append-nil}
use mathlib.Core.Logic.{◌↔◌}
use mathlib.Core.Path.{◌≡◌, refl, sym, ap, subst, ◌∙◌}
use native.Mathlib.Omega.{arith}
use borrow.Author.Tests.{eqb-true, eqb-false}
use lib.Dec.{eqb}
use lib.ListN.{length, length-append}
use Rattle.model.specs.Says.Feasible.{All}
use Rattle.model.specs.Rules.TextForm.{
  token,
  Class,
  newline,
  blank,
  semicolon,
  other,
  class_of,
  Scan,
  between,
  comment,
  inside,
  scanned,
  finished_by,
  tokens_from,
  assembly,
}
use Rattle.model.specs.Rules.Outcome.{accepted}
use Rattle.model.proofs.Basics.All.{all_append}
use Rattle.theorems_forms.specs.TextForms.{TokensSay, IsBlank, InToken, Separator, StopsToken, Splits}
use Rattle.theorems_forms.specs.TextStops.{FirstToken}
use Rattle.theorems_forms.proofs.Forms.{spellings, plain-passed, assemble-says, says-assemble}

-- What each class means.
abbrev Means : Class → ℕ → Type 0
Means newline b = b ≡ 10
Means blank b = IsBlank b × ¬ (b ≡ 10)
Means semicolon b = b ≡ 59
Means other b = InToken b

class-means : (b : ℕ) → Means (class_of b) b
unfolding class_of
class-means b = go (eqb b 10) (eqb b 32) (eqb b 9) (eqb b 13) (eqb b 59) refl refl refl refl refl
  where
    go : (n s t r c : Bool) → eqb b 10 ≡ n → eqb b 32 ≡ s → eqb b 9 ≡ t → eqb b 13 ≡ r → eqb b 59 ≡ c →
        Means (cond n newline (cond (s || t || r) blank (cond c semicolon other))) b
    go true s t r c en es et er ec = eqb-true b 10 en
    go false true t r c en es et er ec = (IsBlank.space (eqb-true b 32 es), eqb-false b 10 en)
    go false false true r c en es et er ec = (IsBlank.tab (eqb-true b 9 et), eqb-false b 10 en)
    go false false false true c en es et er ec = (IsBlank.return (eqb-true b 13 er), eqb-false b 10 en)
    go false false false false true en es et er ec = eqb-true b 59 ec
    go false false false false false en es et er ec = record { no_blank = no; no_semicolon = eqb-false b 59 ec }
      where
        no : IsBlank b → ⊥
        no (IsBlank.space e) = eqb-false b 32 es e
        no (IsBlank.tab e) = eqb-false b 9 et e
        no (IsBlank.return e) = eqb-false b 13 er e
        no (IsBlank.newline e) = eqb-false b 10 en e

-- Gaps one after another.
gap-append : {g h : List ℕ} → Separator g → Separator h → Separator (g ++ h)
gap-append Separator.none k = k
gap-append (Separator.blank b g) k = Separator.blank b (gap-append g k)
gap-append {h = h} (Separator.comment words {gap} w g) k =
    subst Separator (ap (59 ∷◌) (sym (append_assoc words (10 ∷ gap) h))) (Separator.comment words w (gap-append g k))

-- What was read before, by where the reading stands.
abbrev Before : Scan → List ℕ → Type 0
Before between g = Separator g
Before comment g = (h : List ℕ) × (c : List ℕ) × Separator h × All (λ b. ¬ (b ≡ 10)) c × (h ++ (59 ∷ c) ≡ g)
Before (inside start w) g = (h : List ℕ) × Separator h × (0 < length w) × All InToken w × (h ++ w ≡ g)

splits-is : {t u : List ℕ} {tokens : List (List ℕ)} → t ≡ u → Splits t tokens → Splits u tokens
splits-is {tokens = tokens} e s = subst (λ (l : List ℕ). Splits l tokens) e s

more : (g : List ℕ) (b : ℕ) (bs : List ℕ) → (g ++ (b ∷ [])) ++ bs ≡ g ++ (b ∷ bs)
more g b bs = append_assoc g (b ∷ []) bs

some_more : (w : List ℕ) (b : ℕ) → 0 < length (w ++ (b ∷ []))
some_more w b = omega (arith, length-append w (b ∷ []))

-- The reading goes on: from each state, with a byte of each class.
sound : (bs : List ℕ) (at : ℕ) (s : Scan) (g : List ℕ) → Before s g → Splits (g ++ bs) (spellings (tokens_from at s bs))
unfolding tokens_from
sound [] at between g h = splits-is (sym (append-nil g)) (Splits.ends h)
sound [] at comment g h = splits-is (h.4 ∙ sym (append-nil g)) (Splits.comments h.1 h.2 h.3)
sound [] at (inside start w) g h =
    splits-is (sym (append_assoc h.0 w []) ∙ ap (λ (l : List ℕ). l ++ []) h.4)
    (Splits.next w h.1 h.2 h.3 tt (Splits.ends Separator.none))
sound (b ∷ bs) at between g h =
    go (class_of b) (class-means b) (λ s g' p. sound bs (suc at) s g' p)
  where
    go : (c : Class) → Means c b →
        ((s : Scan) (g' : List ℕ) → Before s g' → Splits (g' ++ bs) (spellings (tokens_from (suc at) s bs))) →
        Splits (g ++ (b ∷ bs)) (spellings (finished_by c between ++ tokens_from (suc at) (scanned at b c between) bs))
    go newline m ih =
        splits-is (more g b bs) (ih between (g ++ (b ∷ [])) (gap-append h (Separator.blank (IsBlank.newline m) Separator.none)))
    go blank m ih = splits-is (more g b bs) (ih between (g ++ (b ∷ [])) (gap-append h (Separator.blank m.0 Separator.none)))
    go semicolon m ih = splits-is (more g b bs) (ih comment (g ++ (b ∷ [])) (g, [], h, tt, ap (λ (x : ℕ). g ++ (x ∷ [])) (sym m)))
    go other m ih =
        splits-is (more g b bs) (ih (inside at (b ∷ [])) (g ++ (b ∷ [])) (g, h, omega arith, (m, tt), refl))
sound (b ∷ bs) at comment g h =
    go (class_of b) (class-means b) (λ s g' p. sound bs (suc at) s g' p)
  where
    on : ¬ (b ≡ 10) → Before comment (g ++ (b ∷ []))
    on apart = (
      h.0,
      h.1 ++ (b ∷ []),
      h.2,
      all_append (λ b. ¬ (b ≡ 10)) h.1 (b ∷ []) h.3 (apart, tt),
      sym (append_assoc h.0 (59 ∷ h.1) (b ∷ [])) ∙ ap (λ (l : List ℕ). l ++ (b ∷ [])) h.4,
    )

    closed : b ≡ 10 → Separator (g ++ (b ∷ []))
    closed m =
        subst Separator (sym (append_assoc h.0 (59 ∷ h.1) (10 ∷ [])) ∙ ap (λ (l : List ℕ). l ++ (10 ∷ [])) h.4 ∙
        ap (λ (x : ℕ). g ++ (x ∷ [])) (sym m)) (gap-append h.2 (Separator.comment h.1 h.3 Separator.none))

    go : (c : Class) → Means c b →
        ((s : Scan) (g' : List ℕ) → Before s g' → Splits (g' ++ bs) (spellings (tokens_from (suc at) s bs))) →
        Splits (g ++ (b ∷ bs)) (spellings (finished_by c comment ++ tokens_from (suc at) (scanned at b c comment) bs))
    go newline m ih = splits-is (more g b bs) (ih between (g ++ (b ∷ [])) (closed m))
    go blank m ih = splits-is (more g b bs) (ih comment (g ++ (b ∷ [])) (on m.1))
    go semicolon m ih = splits-is (more g b bs) (ih comment (g ++ (b ∷ [])) (on (λ e. omega arith)))
    go other m ih = splits-is (more g b bs) (ih comment (g ++ (b ∷ [])) (on (λ e. m.no_blank (IsBlank.newline e))))
sound (b ∷ bs) at (inside start w) g h =
    go (class_of b) (class-means b) (λ s g' p. sound bs (suc at) s g' p)
  where
    ended : (tokens : List (List ℕ)) → ¬ InToken b → Splits (b ∷ bs) tokens → Splits (g ++ (b ∷ bs)) (w ∷ tokens)
    ended tokens stops s =
        splits-is (sym (append_assoc h.0 w (b ∷ bs)) ∙ ap (λ (l : List ℕ). l ++ (b ∷ bs)) h.4)
        (Splits.next w h.1 h.2 h.3 stops s)

    go : (c : Class) → Means c b →
        ((s : Scan) (g' : List ℕ) → Before s g' → Splits (g' ++ bs) (spellings (tokens_from (suc at) s bs))) →
        Splits (g ++ (b ∷ bs)) (spellings
        (finished_by c (inside start w) ++ tokens_from (suc at) (scanned at b c (inside start w)) bs))
    go newline m ih =
        ended _ (λ t. t.no_blank (IsBlank.newline m)) (ih between (b ∷ []) (Separator.blank (IsBlank.newline m) Separator.none))
    go blank m ih = ended _ (λ t. t.no_blank m.0) (ih between (b ∷ []) (Separator.blank m.0 Separator.none))
    go semicolon m ih =
        ended _ (λ t. t.no_semicolon m) (ih comment (b ∷ []) ([], [], Separator.none, tt, ap (λ (x : ℕ). x ∷ []) (sym m)))
    go other m ih =
        splits-is (more g b bs)
        (ih (inside start (w ++ (b ∷ []))) (g ++ (b ∷ [])) (
          h.0,
          h.1,
          some_more w b,
          all_append InToken w (b ∷ []) h.3 (m, tt),
          sym (append_assoc h.0 w (b ∷ [])) ∙ ap (λ (l : List ℕ). l ++ (b ∷ [])) h.4,
        ))

-- The tokens of a text, as they are read, are its tokens.
pub tokens-split : (text : List ℕ) → Splits text (spellings (tokens_from 0 between text))
tokens-split text = sound text 0 between [] Separator.none

-- The other way: what separates tokens is passed over, and each token is read whole, at its place.
blank-passed : (b : ℕ) (rest : List ℕ) (at : ℕ) → IsBlank b → tokens_from at between (b ∷ rest) ≡ tokens_from (suc at) between rest
unfolding tokens_from
blank-passed b rest at h = go (class_of b) (class-means b)
  where
    go : (c : Class) → Means c b →
        finished_by c between ++ tokens_from (suc at) (scanned at b c between) rest ≡ tokens_from (suc at) between rest
    go newline m = refl
    go blank m = refl
    go semicolon m = absurd (apart h)
      where
        apart : IsBlank b → ⊥
        apart (IsBlank.space e) = omega arith
        apart (IsBlank.tab e) = omega arith
        apart (IsBlank.return e) = omega arith
        apart (IsBlank.newline e) = omega arith
    go other m = absurd (m.no_blank h)

comment-passed : (words rest : List ℕ) (at n : ℕ) → All (λ b. ¬ (b ≡ 10)) words → n ≡ at + length words →
    tokens_from at comment (words ++ rest) ≡ tokens_from n comment rest
unfolding tokens_from
comment-passed [] rest at n h e = ap (λ (k : ℕ). tokens_from k comment rest) (omega arith)
comment-passed (b ∷ words) rest at n h e =
    go (class_of b) (class-means b) (comment-passed words rest (suc at) n h.1 (omega arith))
  where
    go : (c : Class) → Means c b → tokens_from (suc at) comment (words ++ rest) ≡ tokens_from n comment rest →
        finished_by c comment ++ tokens_from (suc at) (scanned at b c comment) (words ++ rest) ≡ tokens_from n comment rest
    go newline m q = absurd (h.0 m)
    go blank m q = q
    go semicolon m q = q
    go other m q = q

gap-passed : {gap : List ℕ} → Separator gap → (rest : List ℕ) (at n : ℕ) → n ≡ at + length gap →
    tokens_from at between (gap ++ rest) ≡ tokens_from n between rest
unfolding tokens_from class_of
gap-passed Separator.none rest at n e = ap (λ (k : ℕ). tokens_from k between rest) (omega arith)
gap-passed (Separator.blank {b} {gap} h g) rest at n e =
    blank-passed b (gap ++ rest) at h ∙ gap-passed g rest (suc at) n (omega arith)
gap-passed (Separator.comment words {gap} h g) rest at n e =
    let m = suc at + length words in
    ap (tokens_from (suc at) comment) (append_assoc words (10 ∷ gap) rest) ∙
    comment-passed words (10 ∷ (gap ++ rest)) (suc at) m h refl ∙
    gap-passed g rest (suc m) n (omega (arith, length-append words (10 ∷ gap)))

token-other : (b : ℕ) → InToken b → class_of b ≡ other
token-other b t = go (class_of b) refl (class-means b)
  where
    go : (c : Class) → class_of b ≡ c → Means c b → class_of b ≡ other
    go newline e m = absurd (t.no_blank (IsBlank.newline m))
    go blank e m = absurd (t.no_blank m.0)
    go semicolon e m = absurd (t.no_semicolon m)
    go other e m = e

tokens-other : (w : List ℕ) → All InToken w → All (λ b. class_of b ≡ other) w
tokens-other [] h = tt
tokens-other (b ∷ w) h = (token-other b h.0, tokens-other w h.1)

token-ended : (w rest : List ℕ) → StopsToken rest → (start at : ℕ) →
    tokens_from at (inside start w) rest ≡ token start w ∷ tokens_from at between rest
unfolding tokens_from
token-ended w [] h start at = refl
token-ended w (b ∷ bs) h start at = go (class_of b) (class-means b)
  where
    go : (c : Class) → Means c b →
        finished_by c (inside start w) ++ tokens_from (suc at) (scanned at b c (inside start w)) bs ≡
        token start w ∷ (finished_by c between ++ tokens_from (suc at) (scanned at b c between) bs)
    go newline m = refl
    go blank m = refl
    go semicolon m = refl
    go other m = absurd (h m)

pub first_read : {gap w rest : List ℕ} → FirstToken gap w rest → (at : ℕ) →
    tokens_from at between (gap ++ (w ++ rest)) ≡
    token (at + length gap) w ∷ tokens_from (at + length gap + length w) between rest
first_read {gap} {w} {rest} h at =
    gap-passed h.before (w ++ rest) at (at + length gap) refl ∙
    plain-passed w rest (record { some = h.some; others = tokens-other w h.inside }) (at + length gap) ∙
    token-ended w rest h.stops (at + length gap) (at + length gap + length w)

pub split-tokens : {text : List ℕ} {tokens : List (List ℕ)} → Splits text tokens → (at : ℕ) →
    spellings (tokens_from at between text) ≡ tokens
unfolding tokens_from class_of
split-tokens (Splits.ends {gap} g) at =
    ap (λ (l : List ℕ). spellings (tokens_from at between l)) (sym (append-nil gap)) ∙
    ap spellings (gap-passed g [] at (at + length gap) refl)
split-tokens (Splits.comments {gap} words g h) at =
    let n = at + length gap in
    ap spellings (gap-passed g (59 ∷ words) at n refl) ∙
    ap (λ (l : List ℕ). spellings (tokens_from (suc n) comment l)) (sym (append-nil words)) ∙
    ap spellings (comment-passed words [] (suc n) (suc n + length words) h refl)
split-tokens (Splits.next {gap} w g some h stops s) at =
    ap spellings (first_read (record { before = g; some = some; inside = h; stops = stops }) at) ∙
    ap (w ∷◌) (split-tokens s (at + length gap + length w))

-- A text is assembled to bytes exactly if its tokens say them.
pub assembled-exactly : (text bytes : List ℕ) →
    (assembly text ≡ accepted bytes) ↔ ((tokens : List (List ℕ)) × Splits text tokens × TokensSay [] tokens bytes)
unfolding assembly
assembled-exactly text bytes = (
  λ e. (
    spellings (tokens_from 0 between text),
    tokens-split text,
    assemble-says (length text) [] (tokens_from 0 between text) bytes e,
  ),
  λ h. says-assemble (length text) h.2 (tokens_from 0 between text) (split-tokens h.1 0),
)
