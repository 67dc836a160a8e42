-- The check of codes one after another: where it stands, and what it has found so far.
use Rattle.std.specs.Prelude.{ℕ, ◌+◌, ◌-◌, ◌≤◌, ◌<◌, Bool, true, false, cond, ◌&&◌, List, ◌⊎◌, ◌≡◌, leb, ltb, eqb, length}
use Rattle.model.specs.Rules.Machine.{count_of, row_count, code_offset, code_of, code_ok, code_ok_from, head_ok, codes_ok}
use Rattle.model.specs.Rules.Word.{byte_at}
use Rattle.image_valid_code.specs.Shape.{Shapes, Ceilings, fetch_of, last_of}
use Rattle.image_valid.specs.declared.Cursor.{Cursor}

-- The command is the STORE that ends its code.
unfoldable pub ends_code : List ℕ → Cursor → Bool
ends_code image c =
    last_of (byte_at image c.at) (byte_at image (c.at + 1)) c.own c.height &&
    eqb (c.at + 2) (code_offset image (c.own + 1))

-- Past FETCH or STORE, or at the image's end, short of the next code.
unfoldable pub past_own : List ℕ → Cursor → Cursor
past_own image c =
    cond (fetch_of (byte_at image c.at) (byte_at image (c.at + 1)) c.own c.height)
    (record { at = c.at + 2; height = c.height + 1; own = c.own })
    (cond (ends_code image c)
    (record { at = c.at + 2; height = 0; own = c.own + 1 })
    (record { at = length image; height = 0; own = c.own }))

-- What a step is given: the image's tables.
pub record WithTables (image : List ℕ) (n : ℕ) (shapes ceilings : List ℕ) : Type 0 where
  pub head : head_ok image ≡ true
  pub count : n ≡ count_of image
  pub shaped : Shapes (ltb 0 (row_count image)) shapes
  pub topped : Ceilings n ceilings

-- The stack is not too high, and before the image's end a signal is named.
pub record CursorOk (image : List ℕ) (c : Cursor) : Type 0 where
  pub most : c.height ≤ 32
  pub named : c.own ≤ count_of image
  pub inside : c.at < length image → c.own < count_of image

-- The code of signal x lies in the image and is well formed.
abbrev pub good : List ℕ → ℕ → Bool
good image x =
    leb (code_offset image x) (code_offset image (x + 1)) && leb (code_offset image (x + 1)) (length image) &&
    code_ok (ltb 0 (row_count image)) (code_of image x) (count_of image) x

-- What is left of the code says whether it is well formed.
pub record OnTrack (image : List ℕ) (c : Cursor) : Type 0 where
  pub reached : code_offset image c.own ≤ c.at
  pub left : ℕ
  pub enough : length (code_of image c.own) ≤ c.at - code_offset image c.own + left
  pub same :
      code_ok_from left (ltb 0 (row_count image)) (code_of image c.own) (count_of image) c.own
      (c.at - code_offset image c.own) c.height ≡
      code_ok (ltb 0 (row_count image)) (code_of image c.own) (count_of image) c.own

-- A code is not well formed, and this one is never ended.
pub record OffTrack (image : List ℕ) (c : Cursor) : Type 0 where
  pub bad : codes_ok image ≡ false
  pub never : (k : ℕ) → c.at ≤ k → k + 1 < length image → k + 2 ≡ code_offset image (c.own + 1) → ⊥

-- The codes from signal s up to this one are well formed.
pub record PassedFrom (image : List ℕ) (s : ℕ) (c : Cursor) : Type 0 where
  pub passed : (x : ℕ) → s ≤ x → x < c.own → good image x ≡ true
  pub tells : OffTrack image c ⊎ OnTrack image c

-- From one to another.
pub record Advances (image : List ℕ) (c r : Cursor) : Type 0 where
  pub within : CursorOk image r
  pub stands : (s : ℕ) → PassedFrom image s c → PassedFrom image s r
