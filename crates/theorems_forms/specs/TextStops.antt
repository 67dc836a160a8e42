-- How a text of the text form and bytes are refused (40 to 47), beside `TokensSay`: what stands before the place is in order,
-- and what stands at it is not; and how bytes are listed. No reader and no lister is named. The last index is the refusal or
-- the text.
use Rattle.std.specs.Prelude.{ℕ, ◌+◌, ◌^◌, ◌≤◌, ◌<◌, true, false, cond, List, [], ◌∷◌, ◌++◌, ◌≡◌, ℤ, length, drop}
use Rattle.std.specs.Int.Signed.{mag}
use Rattle.model.specs.Rules.Outcome.{fault}
use Rattle.model.specs.Rules.TextForm.{Keyword, keywords, names, keyword_at, is_signed, size, low_bytes}
use Rattle.model.specs.Rules.Word.{bits_of, byte_at}
use Rattle.model.specs.Says.Feasible.{All}
use Rattle.model.specs.declared.Fault.{Fault}
use Rattle.model.specs.declared.Operand.{Operand}
use Rattle.theorems_trials.specs.Decimals.{SaysNumber, SaysWord}
use Rattle.theorems_forms.specs.TextForms.{OperandSays, TokensSay, InToken, Separator, StopsToken, Splits}

-- A token is none of a table.
abbrev pub NoneOf : List Keyword → List ℕ → Type 0
NoneOf ks token = (i : ℕ) → i < length ks → ¬ (token ≡ (keyword_at ks i).spelling)

-- A number, within the operand's range or not: digits, and before those of a word there may be a minus sign.
pub data IsNumber (o : Operand) : List ℕ → Type 0 where
  plus : {n : ℕ} {ds : List ℕ} → SaysNumber n ds → IsNumber o ds
  minus : {n : ℕ} {ds : List ℕ} → is_signed o ≡ true → SaysNumber n ds → IsNumber o (45 ∷ ds)

-- A token says no value of an operand: it is no number and no name (42), or a number outside the range (43), as -0 is.
pub data OperandRefused (o : Operand) : List ℕ → ℕ → Type 0 where
  no_number : {token : List ℕ} → NoneOf (names o) token → ¬ IsNumber o token → OperandRefused o token 42
  large : {n : ℕ} {ds : List ℕ} → is_signed o ≡ false → SaysNumber n ds → 256 ^ size o ≤ n → OperandRefused o ds 43
  high : {n : ℕ} {ds : List ℕ} → is_signed o ≡ true → SaysNumber n ds → 2 ^ 31 ≤ n → OperandRefused o ds 43
  low : {n : ℕ} {ds : List ℕ} → is_signed o ≡ true → SaysNumber n ds → 2 ^ 31 < n → OperandRefused o (45 ∷ ds) 43
  minus_zero : {ds : List ℕ} → is_signed o ≡ true → SaysNumber 0 ds → OperandRefused o (45 ∷ ds) 43

-- A token where some operands are to follow: the operands that are to follow after it.
pub data TokenSays : List Operand → List ℕ → List Operand → Type 0 where
  keyword : (i : ℕ) → i < length keywords → TokenSays [] (keyword_at keywords i).spelling (keyword_at keywords i).operands
  operand : {o : Operand} {os : List Operand} {token : List ℕ} {v : ℕ} → OperandSays o token v → TokenSays (o ∷ os) token os

-- It is refused: no keyword where one is to follow (40), or as its operand is.
pub data TokenRefused : List Operand → List ℕ → ℕ → Type 0 where
  unknown : {token : List ℕ} → NoneOf keywords token → TokenRefused [] token 40
  operand : {o : Operand} {os : List Operand} {token : List ℕ} {number : ℕ} → OperandRefused o token number →
      TokenRefused (o ∷ os) token number

-- The first token of a text, between a gap and the rest.
pub record FirstToken (gap token rest : List ℕ) : Type 0 where
  pub before : Separator gap
  pub some : 0 < length token
  pub inside : All InToken token
  pub stops : StopsToken rest

-- A text that stands at an offset, where some operands are to follow, stops.
pub data StopsText : ℕ → List Operand → List ℕ → Fault → Type 0 where
  onward : {at : ℕ} {pending after : List Operand} {gap token rest : List ℕ} {f : Fault} → FirstToken gap token rest →
      TokenSays pending token after → StopsText (at + length gap + length token) after rest f →
      StopsText at pending (gap ++ (token ++ rest)) f
  token : {at number : ℕ} {pending : List Operand} {gap token rest : List ℕ} → FirstToken gap token rest →
      TokenRefused pending token number → StopsText at pending (gap ++ (token ++ rest)) (fault number (at + length gap))
  missing : {at : ℕ} {o : Operand} {os : List Operand} {text : List ℕ} → Splits text [] →
      StopsText at (o ∷ os) text (fault 41 (at + length text))

-- The token of an operand's value: its name where it has one, else its decimal.
abbrev pub Unnamed : Operand → ℕ → Type 0
Unnamed o v = (i : ℕ) → i < length (names o) → ¬ (v ≡ (keyword_at (names o) i).byte)

pub data OperandListed (o : Operand) (v : ℕ) : List ℕ → Type 0 where
  named : (i : ℕ) → i < length (names o) → v ≡ (keyword_at (names o) i).byte → OperandListed o v (keyword_at (names o) i).spelling
  number : {token : List ℕ} → Unnamed o v → is_signed o ≡ false → SaysNumber v token → OperandListed o v token
  word : {token : List ℕ} (z : ℤ) → Unnamed o v → is_signed o ≡ true → SaysWord z token → mag z < 2 ^ 31 → v ≡ bits_of z →
      OperandListed o v token

-- Bytes where some operands are to follow, and their text: a newline before each keyword that starts a line, a space before
-- each other token, a newline at the end.
pub data ListedFrom : List Operand → List ℕ → List ℕ → Type 0 where
  nothing : ListedFrom [] [] (10 ∷ [])
  keyword : {bytes text : List ℕ} (i : ℕ) → i < length keywords → ListedFrom (keyword_at keywords i).operands bytes text →
      ListedFrom [] ((keyword_at keywords i).byte ∷ bytes)
      (cond (keyword_at keywords i).opens 10 32 ∷ ((keyword_at keywords i).spelling ++ text))
  operand : {o : Operand} {os : List Operand} {v : ℕ} {token bytes text : List ℕ} → v < 256 ^ size o → OperandListed o v token →
      ListedFrom os bytes text → ListedFrom (o ∷ os) (low_bytes (size o) v ++ bytes) (32 ∷ (token ++ text))

-- The text of bytes: nothing stands before the first token.
pub data ListedAs (bytes : List ℕ) : List ℕ → Type 0 where
  none : length bytes ≡ 0 → ListedAs bytes (10 ∷ [])
  some : {separator : ℕ} {text : List ℕ} → 0 < length bytes → ListedFrom [] bytes (separator ∷ text) → ListedAs bytes text

-- Bytes from an offset on, where some operands are to follow, stop: at a byte that is no command where one is to follow (45), at
-- an operand that the end cuts (46).
pub data StopsBytes (bytes : List ℕ) : ℕ → List Operand → Fault → Type 0 where
  keyword : {at : ℕ} {f : Fault} (i : ℕ) → at < length bytes → i < length keywords →
      byte_at bytes at ≡ (keyword_at keywords i).byte → StopsBytes bytes (at + 1) (keyword_at keywords i).operands f →
      StopsBytes bytes at [] f
  operand : {at : ℕ} {o : Operand} {os : List Operand} {f : Fault} → at + size o ≤ length bytes →
      StopsBytes bytes (at + size o) os f → StopsBytes bytes at (o ∷ os) f
  unknown : {at : ℕ} → at < length bytes → ((i : ℕ) → i < length keywords → ¬ (byte_at bytes at ≡ (keyword_at keywords i).byte)) →
      StopsBytes bytes at [] (fault 45 at)
  cut : {at : ℕ} {o : Operand} {os : List Operand} → length bytes < at + size o → StopsBytes bytes at (o ∷ os) (fault 46 at)

-- A call that takes at most 2^24 bytes and writes what they stand for: done, with the result's length; bytes past it stay.
pub record FormWrites (Result : List ℕ → Type 0) (taken buffer : List ℕ) (n : ℕ) (left : List ℕ) : Type 0 where
  pub short : length taken ≤ 2 ^ 24
  pub written : List ℕ
  pub result : Result written
  pub is : n ≡ length written
  pub fits : n ≤ length buffer
  pub leaves : left ≡ written ++ drop n buffer

-- It is refused: too long (47), then stopped, then a buffer shorter than the result (44).
pub data FormRefusedAt (Result : List ℕ → Type 0) (Stopped : Fault → Type 0) (taken buffer : List ℕ) : Fault → Type 0 where
  long : 2 ^ 24 < length taken → FormRefusedAt Result Stopped taken buffer (fault 47 0)
  stopped : {f : Fault} → length taken ≤ 2 ^ 24 → Stopped f → FormRefusedAt Result Stopped taken buffer f
  space : {written : List ℕ} → length taken ≤ 2 ^ 24 → Result written → length buffer < length written →
      FormRefusedAt Result Stopped taken buffer (fault 44 (length written))

-- The bytes of a text: those that its tokens say.
abbrev pub TextSays : List ℕ → List ℕ → Type 0
TextSays text bytes = (tokens : List (List ℕ)) × Splits text tokens × TokensSay [] tokens bytes

-- Assemble is done, or refused by 40 to 44 or 47.
abbrev pub AssemblesTo : List ℕ → List ℕ → ℕ → List ℕ → Type 0
AssemblesTo text buffer = FormWrites (TextSays text) text buffer

abbrev pub AssembleRefusedAt : List ℕ → List ℕ → Fault → Type 0
AssembleRefusedAt text buffer = FormRefusedAt (TextSays text) (StopsText 0 [] text) text buffer

-- List is done, or refused by 44 to 47.
abbrev pub ListsTo : List ℕ → List ℕ → ℕ → List ℕ → Type 0
ListsTo bytes buffer = FormWrites (ListedAs bytes) bytes buffer

abbrev pub ListRefusedAt : List ℕ → List ℕ → Fault → Type 0
ListRefusedAt bytes buffer = FormRefusedAt (ListedAs bytes) (StopsBytes bytes 0 []) bytes buffer
