-- The lists of widths belong to the decoders (`widths-listed`): which bytes they list, by one computed test a list, and how far
-- a command reaches. Assumes nothing.
use Rattle.std.specs.Prelude.{Option, Some, None}
use Prim.Native.Nat.{ℕ, ◌+◌, ◌≤◌, ◌<◌}
use mathlib.Core.Bool.{Bool, true, beq}
use mathlib.Core.List.{List}
use mathlib.Core.Logic.{◌↔◌}
use mathlib.Core.Path.{◌≡◌, refl, sym, ◌∙◌}
use native.Mathlib.Omega.{arith}
use borrow.Author.Tests.{eqb-true}
use lib.Dec.{eqb}
use lib.ListN.{length, take, length-take}
use lib.Seq.{get_or-take}
use Rattle.model.specs.Rules.Command.{declaration_of, declaration_at, plain_read, sampled_read, operator_of, operator_at}
use Rattle.model.specs.Rules.Image.{binary_byte, unary_byte}
use Rattle.model.specs.Rules.Machine.{operator_code, code_at}
use Rattle.theorems_texts.specs.Reach.{
  known_in_program,
  known_in_expression,
  known_in_schedule,
  known_in_code,
  Reaches,
  WidthsListed,
}
use Rattle.model.specs.Rules.Schedule.{schedule_command_at}
use Rattle.model.specs.Rules.Search.{all_below}
use Rattle.model.specs.Rules.Width.{
  is_listed,
  program_width,
  expression_width,
  schedule_width,
  code_width,
  in_program,
  in_expression,
  in_schedule,
  in_code,
  read_width,
}
use Rattle.model.specs.Rules.Word.{byte_at, two_at, four_at, word_at}
use Rattle.model.specs.Says.Written.{
  read_byte,
  DeclarationWritten,
  OperatorWritten,
  PutWritten,
  CodeWritten,
  DeclarationWhole,
  OperatorWhole,
  PutWhole,
  CodeWhole,
}
use Rattle.model.specs.declared.Binary.{Binary}
use Rattle.model.specs.declared.Binary.TheVariants.{Add, Sub, Mul, Less, Same, Min, Max}
use Rattle.model.specs.declared.Code.{Code}
use Rattle.model.specs.declared.Declaration.{Declaration}
use Rattle.model.specs.declared.Kind.{Kind}
use Rattle.model.specs.declared.Kind.TheVariants.{Now, Last, When, LastWhen, Current}
use Rattle.model.specs.declared.Operator.{Operator}
use Rattle.model.specs.declared.ScheduleCommand.{ScheduleCommand}
use Rattle.model.specs.declared.Unary.{Unary}
use Rattle.model.specs.declared.Unary.TheVariants.{Negate, Table}
use Rattle.model.proofs.Pairs.Decide.{beq-true, all_true}
use Rattle.model.proofs.Texts.Picks.{plain-width, sampled-width}
use Rattle.model.proofs.Texts.Written.{declaration-written, operator-written, put_written, code-written}

-- Two tests that agree on all bytes.
agree : (f g : ℕ → Bool) → all_below 256 (λ b. beq (f b) (g b)) ≡ true → (b : ℕ) → b < 256 → f b ≡ g b
agree f g e b lt = beq-true (f b) (g b) (all_true 256 (λ b. beq (f b) (g b)) e b lt)

-- The four lists, each by one test.
program-listed : (b : ℕ) → b < 256 → is_listed (program_width b) ≡ known_in_program b
unfolding all_below declaration_at declaration_of
program-listed = agree (λ b. is_listed (program_width b)) known_in_program refl

expression-listed : (b : ℕ) → b < 256 → is_listed (expression_width b) ≡ known_in_expression b
unfolding all_below operator_at operator_of plain_read sampled_read
expression-listed = agree (λ b. is_listed (expression_width b)) known_in_expression refl

schedule-listed : (b : ℕ) → b < 256 → is_listed (schedule_width b) ≡ known_in_schedule b
unfolding all_below schedule_command_at
schedule-listed = agree (λ b. is_listed (schedule_width b)) known_in_schedule refl

code-listed : (b : ℕ) → b < 256 → is_listed (code_width b) ≡ known_in_code b
unfolding all_below code_at operator_code
code-listed = agree (λ b. is_listed (code_width b)) known_in_code refl

-- What a text that is cut at m keeps.
module _ (text : List ℕ) (m : ℕ) where
  byte : (i : ℕ) → i < m → byte_at (take m text) i ≡ byte_at text i
  byte i h = get_or-take m text i 0 h

  two : (i : ℕ) → i + 1 < m → two_at (take m text) i ≡ two_at text i
  unfolding two_at
  two i h = rw (byte i (omega arith), byte (i + 1) h)

  four : (i : ℕ) → i + 3 < m → four_at (take m text) i ≡ four_at text i
  unfolding four_at
  four i h = rw (byte i (omega arith), byte (i + 1) (omega arith), byte (i + 2) (omega arith), byte (i + 3) h)

  word : (i : ℕ) → i + 3 < m → word_at (take m text) i ≡ word_at text i
  unfolding word_at
  word i h = rw (four i h)

  long : (n : ℕ) → n ≤ m → n ≤ length text → n ≤ length (take m text)
  long n h g = rw (length-take m text) (omega arith)

  short : length (take m text) ≤ m
  short = rw (length-take m text) (omega arith)

-- A list has n for a byte, or nothing.
abbrev at_most : Option ℕ → ℕ → Bool
at_most (Some k) n = eqb k n
at_most None n = true

has : (w : Option ℕ) (k n : ℕ) → w ≡ Some k → at_most w n ≡ true → k ≡ n
has (Some j) k n e t = let f : j ≡ k = cc in sym f ∙ eqb-true j n t
has None k n e t = let z : ◌≡◌ {A = ℕ} 0 1 = cc in absurd (omega arith)

-- A decoder, and when a command stands written: it has n bytes, which its lists confirm, and stands written too in the text
-- that is cut after them.
module _ {C : Type 0} (decode : List ℕ → ℕ → C) (Read : C → Type 0) (Stands : List ℕ → ℕ → C → Type 0)
    (lists : ℕ → ℕ → Bool) where
  record Span (text : List ℕ) (at : ℕ) (c : C) : Type 0 where
    bytes : ℕ
    some : 0 < bytes
    bound : at + bytes ≤ length text
    confirmed : lists (byte_at text at) bytes ≡ true
    again : (m : ℕ) → at + bytes ≤ m → Stands (take m text) at c

  spanned : {text : List ℕ} {at : ℕ} {c : C} (n : ℕ) → 0 < n → at + n ≤ length text → lists (byte_at text at) n ≡ true →
      ((m : ℕ) → at + n ≤ m → Stands (take m text) at c) → Span text at c
  spanned n s h e f = record { bytes = n; some = s; bound = h; confirmed = e; again = f }

  module _ (stands : (text : List ℕ) (at : ℕ) (c : C) → ((decode text at ≡ c) × Read c) ↔ Stands text at c)
      (span : (text : List ℕ) (at : ℕ) (c : C) → Stands text at c → Span text at c) where
    reach : (text : List ℕ) (at k : ℕ) → Read (decode text at) →
        ((n : ℕ) → lists (byte_at text at) n ≡ true → k ≡ n) → Reaches decode text at k
    reach text at k r only m = (
      λ e.
          let s = span (take m text) at (decode text at) ((stands (take m text) at (decode text at)).0 (e, r)) in
          let l = short text m in
          let f = rw (byte text m at (omega (arith, s.some, s.bound))) at s.confirmed in
          omega (arith, only s.bytes f, s.bound),
      λ h.
          let s = span text at (decode text at) ((stands text at (decode text at)).0 (refl, r)) in
          ((stands (take m text) at (decode text at)).1 (s.again m (omega (arith, only s.bytes s.confirmed)))).0,
    )

-- The declarations.
abbrev program-lists : ℕ → ℕ → Bool
program-lists b n = at_most (program_width b) n

module _ (text : List ℕ) (at : ℕ) where
  abbrev Spans : Declaration → Type 0
  Spans c = Span declaration_at DeclarationWhole DeclarationWritten program-lists text at c

  spans : {c : Declaration} (n : ℕ) → 0 < n → at + n ≤ length text → program-lists (byte_at text at) n ≡ true →
      ((m : ℕ) → at + n ≤ m → DeclarationWritten (take m text) at c) → Spans c
  spans = spanned declaration_at DeclarationWhole DeclarationWritten program-lists

  declaration-span : (c : Declaration) → DeclarationWritten text at c → Spans c
  declaration-span c (DeclarationWritten.end h b) =
      spans (in_program 0x00) (omega arith) h (rw b) (λ m g.
      DeclarationWritten.end (long text m _ g h) (byte text m at (omega arith) ∙ b))
  declaration-span c (DeclarationWritten.input h b r) =
      spans (in_program 0x10) (omega arith) h (rw b) (λ m g.
      rw (← byte text m (at + 1) (omega arith), ← word text m (at + 2) (omega arith))
      (DeclarationWritten.input (long text m _ g h) (byte text m at (omega arith) ∙ b)
      (rw (byte text m (at + 1) (omega arith)) r)))
  declaration-span c (DeclarationWritten.equation h b r) =
      spans (in_program 0x11) (omega arith) h (rw b) (λ m g.
      rw (← byte text m (at + 1) (omega arith), ← word text m (at + 2) (omega arith), ← two text m (at + 6) (omega arith))
      (DeclarationWritten.equation (long text m _ g h) (byte text m at (omega arith) ∙ b)
      (rw (byte text m (at + 1) (omega arith)) r)))
  declaration-span c (DeclarationWritten.latency h b r) =
      spans (in_program 0x12) (omega arith) h (rw b) (λ m g.
      rw (← byte text m (at + 1) (omega arith), ← two text m (at + 2) (omega arith))
      (DeclarationWritten.latency (long text m _ g h) (byte text m at (omega arith) ∙ b)
      (rw (byte text m (at + 1) (omega arith)) r)))
  declaration-span c (DeclarationWritten.link h b) =
      spans (in_program 0x13) (omega arith) h (rw b) (λ m g.
      rw (← byte text m (at + 1) (omega arith))
      (DeclarationWritten.link (long text m _ g h) (byte text m at (omega arith) ∙ b)))
  declaration-span c (DeclarationWritten.cap h b) =
      spans (in_program 0x14) (omega arith) h (rw b) (λ m g.
      rw (← four text m (at + 1) (omega arith))
      (DeclarationWritten.cap (long text m _ g h) (byte text m at (omega arith) ∙ b)))
  declaration-span c (DeclarationWritten.tag h b) =
      spans (in_program 0x15) (omega arith) h (rw b) (λ m g.
      rw (← two text m (at + 1) (omega arith))
      (DeclarationWritten.tag (long text m _ g h) (byte text m at (omega arith) ∙ b)))
  declaration-span c (DeclarationWritten.row h b r) =
      spans (in_program 0x16) (omega arith) h (rw b) (λ m g.
      let low = word text m (at + 1) (omega arith) in
      let high = word text m (at + 5) (omega arith) in
      rw (← low, ← high, ← word text m (at + 9) (omega arith))
      (DeclarationWritten.row (long text m _ g h) (byte text m at (omega arith) ∙ b) (rw (low, high) r)))

-- The operators of an expression; those of a code.
abbrev expression-lists : ℕ → ℕ → Bool
expression-lists b n = at_most (expression_width b) n

abbrev code-lists : ℕ → ℕ → Bool
code-lists b n = at_most (code_width b) n

read-list : (kind : Kind) (n : ℕ) → read_width kind ≡ n → expression-lists (read_byte kind) n ≡ true
read-list Now n e = rw (← e)
read-list Last n e = rw (← e)
read-list When n e = rw (← e)
read-list LastWhen n e = rw (← e)
read-list Current n e = rw (← e)

-- Those with two operands and with one have one width each, in an expression and in a code.
binary-list : (operator : Binary) → (expression-lists (binary_byte operator) (in_expression 0x30) ≡ true) ×
    (code-lists (binary_byte operator) (in_code 0x30) ≡ true)
binary-list Add = (refl, refl)
binary-list Sub = (refl, refl)
binary-list Mul = (refl, refl)
binary-list Less = (refl, refl)
binary-list Same = (refl, refl)
binary-list Min = (refl, refl)
binary-list Max = (refl, refl)

unary-list : (operator : Unary) → (expression-lists (unary_byte operator) (in_expression 0x38) ≡ true) ×
    (code-lists (unary_byte operator) (in_code 0x38) ≡ true)
unary-list Negate = (refl, refl)
unary-list Table = (refl, refl)

module _ (text : List ℕ) (at : ℕ) where
  abbrev OperatorSpans : Operator → Type 0
  OperatorSpans c = Span operator_at OperatorWhole OperatorWritten expression-lists text at c

  operator-spans : {c : Operator} (n : ℕ) → 0 < n → at + n ≤ length text → expression-lists (byte_at text at) n ≡ true →
      ((m : ℕ) → at + n ≤ m → OperatorWritten (take m text) at c) → OperatorSpans c
  operator-spans = spanned operator_at OperatorWhole OperatorWritten expression-lists

  operator-span : (c : Operator) → OperatorWritten text at c → OperatorSpans c
  operator-span c (OperatorWritten.constant h b) =
      operator-spans (in_expression 0x20) (omega arith) h (rw b) (λ m g.
      rw (← word text m (at + 1) (omega arith))
      (OperatorWritten.constant (long text m _ g h) (byte text m at (omega arith) ∙ b)))
  operator-span c (OperatorWritten.plain kind w h b) =
      operator-spans (in_expression 0x21) (omega arith) h (rw b (read-list kind _ (plain-width kind w))) (λ m g.
      rw (← byte text m (at + 1) (omega arith))
      (OperatorWritten.plain kind w (long text m _ g h) (byte text m at (omega arith) ∙ b)))
  operator-span c (OperatorWritten.sampled kind w h b r i) =
      operator-spans (in_expression 0x23) (omega arith) h (rw b (read-list kind _ (sampled-width kind w))) (λ m g.
      let n = byte text m (at + 3) (omega arith) in
      let j = byte text m (at + 2) (omega arith) in
      rw (← byte text m (at + 1) (omega arith), ← j, ← n)
      (OperatorWritten.sampled kind w (long text m _ g h) (byte text m at (omega arith) ∙ b) (rw n r) (rw (n, j) i)))
  operator-span c (OperatorWritten.binary operator h b) =
      operator-spans (in_expression 0x30) (omega arith) h (rw b (binary-list operator).0) (λ m g.
      OperatorWritten.binary operator (long text m _ g h) (byte text m at (omega arith) ∙ b))
  operator-span c (OperatorWritten.unary operator h b) =
      operator-spans (in_expression 0x38) (omega arith) h (rw b (unary-list operator).0) (λ m g.
      OperatorWritten.unary operator (long text m _ g h) (byte text m at (omega arith) ∙ b))
  operator-span c (OperatorWritten.choose h b) =
      operator-spans (in_expression 0x3A) (omega arith) h (rw b) (λ m g.
      OperatorWritten.choose (long text m _ g h) (byte text m at (omega arith) ∙ b))

-- The commands of a schedule text.
abbrev put-lists : ℕ → ℕ → Bool
put-lists b n = at_most (schedule_width b) n

put-span : (text : List ℕ) (at : ℕ) (c : ScheduleCommand) → PutWritten text at c →
    Span schedule_command_at PutWhole PutWritten put-lists text at c
put-span text at c (PutWritten.end h b) =
    spanned schedule_command_at PutWhole PutWritten put-lists (in_schedule 0x00) (omega arith) h (rw b) (λ m g.
    PutWritten.end (long text m _ g h) (byte text m at (omega arith) ∙ b))
put-span text at c (PutWritten.put h b) =
    spanned schedule_command_at PutWhole PutWritten put-lists (in_schedule 0x40) (omega arith) h (rw b) (λ m g.
    rw (← byte text m (at + 1) (omega arith), ← byte text m (at + 2) (omega arith))
    (PutWritten.put (long text m _ g h) (byte text m at (omega arith) ∙ b)))

-- The commands of a code.
module _ (code : List ℕ) (at : ℕ) where
  abbrev CodeSpans : Code → Type 0
  CodeSpans c = Span code_at CodeWhole CodeWritten code-lists code at c

  code-spans : {c : Code} (n : ℕ) → 0 < n → at + n ≤ length code → code-lists (byte_at code at) n ≡ true →
      ((m : ℕ) → at + n ≤ m → CodeWritten (take m code) at c) → CodeSpans c
  code-spans = spanned code_at CodeWhole CodeWritten code-lists

  code-span : (c : Code) → CodeWritten code at c → CodeSpans c
  code-span c (CodeWritten.push h b) =
      code-spans (in_code 0x50) (omega arith) h (rw b) (λ m g.
      rw (← word code m (at + 1) (omega arith))
      (CodeWritten.push (long code m _ g h) (byte code m at (omega arith) ∙ b)))
  code-span c (CodeWritten.load h b) =
      code-spans (in_code 0x51) (omega arith) h (rw b) (λ m g.
      rw (← byte code m (at + 1) (omega arith))
      (CodeWritten.load (long code m _ g h) (byte code m at (omega arith) ∙ b)))
  code-span c (CodeWritten.fetch h b) =
      code-spans (in_code 0x52) (omega arith) h (rw b) (λ m g.
      rw (← byte code m (at + 1) (omega arith))
      (CodeWritten.fetch (long code m _ g h) (byte code m at (omega arith) ∙ b)))
  code-span c (CodeWritten.store h b) =
      code-spans (in_code 0x5F) (omega arith) h (rw b) (λ m g.
      rw (← byte code m (at + 1) (omega arith))
      (CodeWritten.store (long code m _ g h) (byte code m at (omega arith) ∙ b)))
  code-span c (CodeWritten.binary operator h b) =
      code-spans (in_code 0x30) (omega arith) h (rw b (binary-list operator).1) (λ m g.
      CodeWritten.binary operator (long code m _ g h) (byte code m at (omega arith) ∙ b))
  code-span c (CodeWritten.unary operator h b) =
      code-spans (in_code 0x38) (omega arith) h (rw b (unary-list operator).1) (λ m g.
      CodeWritten.unary operator (long code m _ g h) (byte code m at (omega arith) ∙ b))
  code-span c (CodeWritten.choose h b) =
      code-spans (in_code 0x3A) (omega arith) h (rw b) (λ m g.
      CodeWritten.choose (long code m _ g h) (byte code m at (omega arith) ∙ b))

-- A byte has a width exactly if the decoder of its kind of text knows it, and a command that is read whole reaches exactly as
-- far as its width.
pub widths-listed : WidthsListed
widths-listed =
    record {
      program =
          record {
            listed = program-listed;
            reaches = λ text at n r e.
                reach declaration_at DeclarationWhole DeclarationWritten program-lists declaration-written declaration-span
                text at n r (λ k t. has (program_width (byte_at text at)) n k e t);
          };
      expression =
          record {
            listed = expression-listed;
            reaches = λ text at n r e.
                reach operator_at OperatorWhole OperatorWritten expression-lists operator-written operator-span text at n r
                (λ k t. has (expression_width (byte_at text at)) n k e t);
          };
      schedule =
          record {
            listed = schedule-listed;
            reaches = λ text at n r e.
                reach schedule_command_at PutWhole PutWritten put-lists put_written put-span text at n r
                (λ k t. has (schedule_width (byte_at text at)) n k e t);
          };
      code =
          record {
            listed = code-listed;
            reaches = λ text at n r e.
                reach code_at CodeWhole CodeWritten code-lists code-written code-span text at n r
                (λ k t. has (code_width (byte_at text at)) n k e t);
          };
    }
