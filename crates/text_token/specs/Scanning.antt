-- Where tokens start and end, and what their digits say, as the functions answer it.
use Rattle.std.specs.Prelude.{Option, Some, None, ℕ, ◌-◌, ◌^◌, ◌≤◌, ◌<◌, min, Bool, true, false, ◌&&◌, leb, eqb, List, ◌∷◌, ◌≡◌, length, take, drop}
use Rattle.model.specs.Rules.TextForm.{
  Class,
  newline,
  blank,
  semicolon,
  other,
  class_of,
  Scan,
  between,
  comment,
  Token,
  token,
  tokens_from,
}
use Rattle.model.specs.Rules.Word.{byte_at}

abbrev pub is_other : Class → Bool
is_other newline = false
is_other blank = false
is_other semicolon = false
is_other other = true

-- Between tokens, or in a comment.
abbrev pub scan_at : Bool → Scan
scan_at false = between
scan_at true = comment

abbrev pub starts_token : Bool → Class → Bool
starts_token true c = false
starts_token false c = is_other c

abbrev pub comment_after : Bool → Class → Bool
comment_after true newline = false
comment_after true blank = true
comment_after true semicolon = true
comment_after true other = true
comment_after false newline = false
comment_after false blank = false
comment_after false semicolon = true
comment_after false other = false

-- The tokens of a text from an offset on.
abbrev pub tokens_at : List ℕ → ℕ → Scan → List Token
tokens_at text at s = tokens_from at s (drop at text)

-- From `at` on, the next token starts at `start`, or there is none and `start` is the text's length.
pub record StartsAt (text : List ℕ) (at start : ℕ) : Type 0 where
  pub after : at ≤ start
  pub inside : start ≤ length text
  pub same : tokens_at text at between ≡ tokens_at text start between
  pub starts : start < length text → class_of (byte_at text start) ≡ other

-- The token that starts at `start` ends before `end`.
pub record EndsAt (text : List ℕ) (start end : ℕ) : Type 0 where
  pub after : start < end
  pub inside : end ≤ length text
  pub tokens : tokens_at text start between ≡ token start (take (end - start) (drop start text)) ∷ tokens_at text end between

-- A number held at 2^32.
abbrev pub held_number : Option ℕ → Option ℕ
held_number (Some n) = Some (min n (2 ^ 32))
held_number None = None

-- A 0 before other digits.
abbrev pub has_zero : List ℕ → Bool
has_zero token = eqb (byte_at token 0) 48 && leb 2 (length token)
