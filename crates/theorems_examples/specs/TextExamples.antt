-- Examples of the text form: what is listed and assembled, and each refusal.
use Rattle.std.specs.Prelude.{ℕ, ◌^◌, ◌<◌, List, [], ◌∷◌, ◌≡◌, length}
use Rattle.model.specs.Rules.Outcome.{accepted, refuse}
use Rattle.model.specs.Rules.TextForm.{ascii, listing, assembly, assemble_of, listing_of}
use Rattle.model.specs.Rules.Word.{AreBytes}
use Rattle.theorems_examples.specs.Examples.{A, in_order}

-- A LAT with LINKs, the ends of ranges; and a script with negative words.
abbrev pub limits : List ℕ
limits = 0x12 ∷ 1 ∷ 2 ∷ 0 ∷ 0x13 ∷ 0 ∷ 0x13 ∷ 1 ∷ 0x12 ∷ 7 ∷ 0xFF ∷ 0xFF ∷ 0x14 ∷ 0xFF ∷ 0xFF ∷ 0xFF ∷ 0xFF ∷ []

abbrev pub script : List ℕ
script = 0x70 ∷ 0 ∷ 0xFF ∷ 0xFF ∷ 0xFF ∷ 0xFF ∷ 0x70 ∷ 1 ∷ 0 ∷ 0 ∷ 0 ∷ 0x80 ∷ 0x71 ∷ 255 ∷ 0 ∷ []

-- Bytes are listed as a text, and the text is assembled to them.
pub record Example (bytes text : List ℕ) : Type 0 where
  pub listed : listing bytes ≡ accepted text
  pub assembled : assembly text ≡ accepted bytes

pub record TextExamples : Type 0 where
  pub program : Example A (ascii "IN 1 0\nEQ 2 5 3 WHEN 0 1 2\nEQ 1 0 1 ADD CURRENT 1 open 2 LAST 2\nEND\n")
  pub ends : Example limits (ascii "LAT backward 2 LINK 0 LINK 1\nLAT 7 65535\nCAP 4294967295\n")
  pub negative : Example script (ascii "SET 0 -1\nSET 1 -2147483648\nRUN 255\nEND\n")
  -- A text of a person: comments, blanks, tabs.
  pub free : assembly (ascii "; schedule of A\r\n\tPUT 0 0;first\n PUT 1 1 PUT 2 0\nEND") ≡ accepted in_order
  pub unknown_token : assembly (ascii "IN 1 0 in") ≡ refuse 40 7
  pub operand_missing : assembly (ascii "IN 1 ;0") ≡ refuse 41 7
  pub no_number : assembly (ascii "IN 1 END") ≡ refuse 42 5
  pub leading_zero : assembly (ascii "IN 01 0") ≡ refuse 42 3
  pub outside_range : assembly (ascii "IN 256 0") ≡ refuse 43 3
  pub word_range : assembly (ascii "CONST 2147483648") ≡ refuse 43 6
  pub short_buffer : (assemble_of (ascii "END") []).answer ≡ refuse 44 1
  pub short_listing : (listing_of (0 ∷ []) (9 ∷ 9 ∷ 9 ∷ [])).answer ≡ refuse 44 4
  pub unknown_byte : listing (0x21 ∷ 1 ∷ 0x17 ∷ []) ≡ refuse 45 2
  pub operand_cut : listing (0x10 ∷ 1 ∷ 0 ∷ 0 ∷ 0 ∷ []) ≡ refuse 46 2
  -- More than 2^24 bytes, whatever they are.
  pub long_text : (text buffer : List ℕ) → 2 ^ 24 < length text → (assemble_of text buffer).answer ≡ refuse 47 0
  pub long_bytes : (bytes buffer : List ℕ) → AreBytes bytes → 2 ^ 24 < length bytes → (listing_of bytes buffer).answer ≡ refuse 47 0
