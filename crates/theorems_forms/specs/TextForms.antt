-- What tokens of the text form stand for: no reader and no lister is named.
use Rattle.std.specs.Prelude.{ℕ, ◌^◌, ◌<◌, true, false, List, [], ◌∷◌, ◌++◌, ◌≡◌, ℤ, length}
use Rattle.std.specs.Int.Signed.{mag}
use Rattle.model.specs.Rules.TextForm.{keywords, names, keyword_at, is_signed, size, low_bytes}
use Rattle.model.specs.Rules.Word.{bits_of}
use Rattle.model.specs.Says.Feasible.{All}
use Rattle.model.specs.declared.Operand.{Operand}
use Rattle.theorems_trials.specs.Decimals.{SaysNumber, SaysWord}

-- A token says the value of an operand: by one of its names, or by its decimal, within the operand's range. A word's value is its
-- 32 bits.
pub data OperandSays (o : Operand) (token : List ℕ) (v : ℕ) : Type 0 where
  named : (i : ℕ) → i < length (names o) → token ≡ (keyword_at (names o) i).spelling → v ≡ (keyword_at (names o) i).byte →
      OperandSays o token v
  number : is_signed o ≡ false → SaysNumber v token → v < 256 ^ size o → OperandSays o token v
  word : (z : ℤ) → is_signed o ≡ true → SaysWord z token → mag z < 2 ^ 31 → v ≡ bits_of z → OperandSays o token v

-- Tokens stand for bytes where some operands are to follow: a keyword for its byte, then its operands; an operand for its bytes.
pub data TokensSay : List Operand → List (List ℕ) → List ℕ → Type 0 where
  nothing : TokensSay [] [] []
  keyword : {tokens : List (List ℕ)} {bytes : List ℕ} (i : ℕ) → i < length keywords →
      TokensSay (keyword_at keywords i).operands tokens bytes →
      TokensSay [] ((keyword_at keywords i).spelling ∷ tokens) ((keyword_at keywords i).byte ∷ bytes)
  operand : {o : Operand} {os : List Operand} {token : List ℕ} {v : ℕ} {tokens : List (List ℕ)} {bytes : List ℕ} →
      OperandSays o token v → TokensSay os tokens bytes → TokensSay (o ∷ os) (token ∷ tokens) (low_bytes (size o) v ++ bytes)

-- Where the tokens of a text stand. Blanks are space, tab, CR and LF; a token has neither a blank nor a semicolon.
pub data IsBlank (b : ℕ) : Type 0 where
  space : b ≡ 32 → IsBlank b
  tab : b ≡ 9 → IsBlank b
  return : b ≡ 13 → IsBlank b
  newline : b ≡ 10 → IsBlank b

pub record InToken (b : ℕ) : Type 0 where
  pub no_blank : ¬ IsBlank b
  pub no_semicolon : ¬ (b ≡ 59)

-- What separates tokens: blanks and comments, from a semicolon to the end of its line.
pub data Separator : List ℕ → Type 0 where
  none : Separator []
  blank : {b : ℕ} {gap : List ℕ} → IsBlank b → Separator gap → Separator (b ∷ gap)
  comment : (words : List ℕ) {gap : List ℕ} → All (λ b. ¬ (b ≡ 10)) words → Separator gap → Separator (59 ∷ (words ++ (10 ∷ gap)))

-- A token ends where the text ends or where a byte stands that is of none.
abbrev pub StopsToken : List ℕ → Type 0
StopsToken [] = Unit {0}
StopsToken (b ∷ bs) = ¬ InToken b

-- The tokens of a text; the last comment may end with the text.
pub data Splits : List ℕ → List (List ℕ) → Type 0 where
  ends : {gap : List ℕ} → Separator gap → Splits gap []
  comments : {gap : List ℕ} (words : List ℕ) → Separator gap → All (λ b. ¬ (b ≡ 10)) words → Splits (gap ++ (59 ∷ words)) []
  next : {gap rest : List ℕ} {tokens : List (List ℕ)} (token : List ℕ) → Separator gap → 0 < length token → All InToken token →
      StopsToken rest →
      Splits rest tokens → Splits (gap ++ (token ++ rest)) (token ∷ tokens)
