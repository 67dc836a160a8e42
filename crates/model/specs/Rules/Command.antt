-- Program text: one byte of command, then operands.
use Rattle.std.specs.Prelude.{ℕ, ◌+◌, Bool, cond, ◌&&◌, ◌||◌, List, leb, ltb, eqb, length}
use Rattle.std.specs.Int.Signed.{le_z}
use Rattle.model.specs.Rules.Width.{is_listed, expression_width, in_program, in_expression}
use Rattle.model.specs.Rules.Word.{byte_at, two_at, four_at, word_at}
use Rattle.model.specs.declared.Binary.TheVariants as Binary
use Rattle.model.specs.declared.Declaration.{Declaration}
use Rattle.model.specs.declared.Declaration.TheVariants as Declaration
use Rattle.model.specs.declared.Index.{Index}
use Rattle.model.specs.declared.Index.TheVariants.{Fixed, Open}
use Rattle.model.specs.declared.Kind.{Kind}
use Rattle.model.specs.declared.Kind.TheVariants.{Now, Last, When, LastWhen, Current}
use Rattle.model.specs.declared.Mode.{Mode}
use Rattle.model.specs.declared.Mode.TheVariants.{Exists, Backward}
use Rattle.model.specs.declared.Operator.{Operator}
use Rattle.model.specs.declared.Operator.TheVariants as Operator
use Rattle.model.specs.declared.Unary.TheVariants.{Negate, Table}

-- A command of n bytes: it ends early where fewer are left.
abbrev pub whole : {C : Type 0} → C → List ℕ → ℕ → ℕ → C → C
whole early text at n command = cond (leb (at + n) (length text)) command early

-- Periods and n go from 1 to 240; i is below n, or 255.
abbrev pub is_period : ℕ → Bool
is_period n = leb 1 n && leb n 240

abbrev pub is_factor : ℕ → Bool
is_factor n = leb 1 n && leb n 240

abbrev pub is_index : ℕ → ℕ → Bool
is_index i n = ltb i n || eqb i 255

-- 255 leaves the index open.
abbrev pub index_of : ℕ → Index
index_of i = cond (eqb i 255) Open (Fixed i)

abbrev pub mode_of : ℕ → Mode
mode_of b = cond (eqb b 0) Exists Backward

-- A declaration of n bytes whose first m, its byte and what is judged, are judged before the rest is looked for. m is no width.
abbrev pub first_judged : List ℕ → ℕ → ℕ → ℕ → Bool → Declaration → Declaration
first_judged text at m n in_range command =
    whole Declaration.EndsEarly text at m
    (cond in_range (whole Declaration.EndsEarly text at n command) Declaration.OutOfRange)

-- The declaration of a byte, with the operands that stand after it.
unfoldable pub declaration_of : ℕ → List ℕ → ℕ → Declaration
declaration_of b text at =
    cond (eqb b 0x00) Declaration.End
    (cond (eqb b 0x10)
    (first_judged text at 2 (in_program 0x10) (is_period (byte_at text (at + 1)))
    (Declaration.Input (byte_at text (at + 1)) (word_at text (at + 2))))
    (cond (eqb b 0x11)
    (first_judged text at 2 (in_program 0x11) (is_period (byte_at text (at + 1)))
    (Declaration.Equation (byte_at text (at + 1)) (word_at text (at + 2)) (two_at text (at + 6))))
    (cond (eqb b 0x12)
    (first_judged text at 2 (in_program 0x12) (leb (byte_at text (at + 1)) 1)
    (Declaration.Latency (mode_of (byte_at text (at + 1))) (two_at text (at + 2))))
    (cond (eqb b 0x13) (whole Declaration.EndsEarly text at (in_program 0x13) (Declaration.Link (byte_at text (at + 1))))
    (cond (eqb b 0x14) (whole Declaration.EndsEarly text at (in_program 0x14) (Declaration.Cap (four_at text (at + 1))))
    (cond (eqb b 0x15) (whole Declaration.EndsEarly text at (in_program 0x15) (Declaration.Tag (two_at text (at + 1))))
    (cond (eqb b 0x16)
    (first_judged text at 9 (in_program 0x16) (le_z (word_at text (at + 1)) (word_at text (at + 5)))
    (Declaration.Row (word_at text (at + 1)) (word_at text (at + 5)) (word_at text (at + 9))))
    Declaration.Unknown)))))))

-- The declaration at an offset of the program text.
unfoldable pub declaration_at : List ℕ → ℕ → Declaration
declaration_at text at = cond (ltb at (length text)) (declaration_of (byte_at text at) text at) Declaration.EndsEarly

-- NOW and LAST: a signal.
unfoldable pub plain_read : Kind → List ℕ → ℕ → Operator
plain_read kind text at =
    whole Operator.EndsEarly text at (in_expression 0x21)
    (Operator.Read kind (record { signal = byte_at text (at + 1); factor = 1; index = Fixed 0 }))

-- WHEN, LASTWHEN and CURRENT: a signal, i and n. i is judged with n.
unfoldable pub sampled_read : Kind → List ℕ → ℕ → Operator
sampled_read kind text at =
    whole Operator.EndsEarly text at (in_expression 0x23)
    (cond (is_factor (byte_at text (at + 3)) && is_index (byte_at text (at + 2)) (byte_at text (at + 3)))
    (Operator.Read kind
    (record { signal = byte_at text (at + 1); factor = byte_at text (at + 3); index = index_of (byte_at text (at + 2)) }))
    Operator.OutOfRange)

-- The operator of a byte, with the operands that stand after it.
unfoldable pub operator_of : ℕ → List ℕ → ℕ → Operator
operator_of b text at =
    cond (eqb b 0x20) (whole Operator.EndsEarly text at (in_expression 0x20) (Operator.Constant (word_at text (at + 1))))
    (cond (eqb b 0x21) (plain_read Now text at)
    (cond (eqb b 0x22) (plain_read Last text at)
    (cond (eqb b 0x23) (sampled_read When text at)
    (cond (eqb b 0x24) (sampled_read LastWhen text at)
    (cond (eqb b 0x25) (sampled_read Current text at)
    (cond (eqb b 0x30) (Operator.Binary Binary.Add)
    (cond (eqb b 0x31) (Operator.Binary Binary.Sub)
    (cond (eqb b 0x32) (Operator.Binary Binary.Mul)
    (cond (eqb b 0x33) (Operator.Binary Binary.Less)
    (cond (eqb b 0x34) (Operator.Binary Binary.Same)
    (cond (eqb b 0x35) (Operator.Binary Binary.Min)
    (cond (eqb b 0x36) (Operator.Binary Binary.Max)
    (cond (eqb b 0x38) (Operator.Unary Negate)
    (cond (eqb b 0x3A) Operator.If
    (cond (eqb b 0x3B) (Operator.Unary Table) Operator.Unknown)))))))))))))))

-- The operator at an offset of an expression.
unfoldable pub operator_at : List ℕ → ℕ → Operator
operator_at text at = cond (ltb at (length text)) (operator_of (byte_at text at) text at) Operator.EndsEarly

-- The bytes of an expression's commands, and those of IN and EQ.
abbrev pub is_operator : ℕ → Bool
is_operator b = is_listed (expression_width b)

abbrev pub is_signal : ℕ → Bool
is_signal b = eqb b 0x10 || eqb b 0x11
