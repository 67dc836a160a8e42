-- Programs: their trees, and reading one from its text (refusals 2 to 6).
use Rattle.std.specs.Prelude.{ℕ, zero, suc, ◌+◌, Bool, true, false, cond, List, [], ◌∷◌, ◌++◌, leb, ltb, eqb, ℤ, pos, length, get_or}
use Rattle.model.specs.Rules.Outcome.{Outcome, accepted, refuse, ◌▷◌, provided, Parsed, parsed}
use Rattle.model.specs.Rules.Command.{declaration_at, operator_at, is_operator, is_signal}
use Rattle.model.specs.Rules.Table.{Row}
use Rattle.model.specs.Rules.Width.{in_program, in_expression, read_width}
use Rattle.model.specs.Rules.Word.{byte_at}
use Rattle.model.specs.declared.Binary.{Binary}
use Rattle.model.specs.declared.Declaration.{Declaration}
use Rattle.model.specs.declared.Declaration.TheVariants as Declaration
use Rattle.model.specs.declared.Kind.{Kind}
use Rattle.model.specs.declared.Kind.TheVariants.{Now, Last, When, LastWhen, Current}
use Rattle.model.specs.declared.Mode.{Mode}
use Rattle.model.specs.declared.Operator.{Operator}
use Rattle.model.specs.declared.Operator.TheVariants as Operator
use Rattle.model.specs.declared.Sampled.{Sampled}
use Rattle.model.specs.declared.Unary.{Unary}
use Rattle.model.specs.declared.Unary.TheVariants.{Negate, Table}

-- A read, with the offset at which it stands.
pub record Read : Type 0 where
  pub place : ℕ
  pub kind : Kind
  pub operands : Sampled

pub data Expr : Type 0 where
  constant : ℤ → Expr
  read : Read → Expr
  binary : Binary → Expr → Expr → Expr
  unary : Unary → Expr → Expr
  choose : Expr → Expr → Expr → Expr

-- What a signal is: an input, or an equation with its weight.
pub data Body : Type 0 where
  input : Body
  equation : ℕ → Expr → Body

-- Whether it is an input.
abbrev pub is_input : Body → Bool
is_input input = true
is_input (equation weight e) = false

-- A signal, with the offset of its IN or EQ, and its label: that of the TAG before it, or 0.
pub record Signal : Type 0 where
  pub place : ℕ
  pub period : ℕ
  pub initial : ℤ
  pub body : Body
  pub label : ℕ

pub record Link : Type 0 where
  pub place : ℕ
  pub signal : ℕ

-- A latency constraint over a chain of links, with the offset of its LAT.
pub record Chain : Type 0 where
  pub place : ℕ
  pub mode : Mode
  pub bound : ℕ
  pub links : List Link

pub data Limit : Type 0 where
  unlimited : Limit
  limit : ℕ → Limit

pub record Program : Type 0 where
  pub signals : List Signal
  pub chains : List Chain
  pub cap : Limit
  pub rows : List Row

abbrev pub empty : Program
empty = record { signals = []; chains = []; cap = unlimited; rows = [] }

abbrev pub with_signal : Program → Signal → Program
with_signal p s = record { signals = p.signals ++ (s ∷ []); chains = p.chains; cap = p.cap; rows = p.rows }

abbrev pub with_chain : Program → Chain → Program
with_chain p c = record { signals = p.signals; chains = p.chains ++ (c ∷ []); cap = p.cap; rows = p.rows }

abbrev pub with_cap : Program → ℕ → Program
with_cap p n = record { signals = p.signals; chains = p.chains; cap = limit n; rows = p.rows }

abbrev pub with_row : Program → Row → Program
with_row p r = record { signals = p.signals; chains = p.chains; cap = p.cap; rows = p.rows ++ (r ∷ []) }

-- The number N of signals, and signal s, numbered from 0 as declared.
abbrev pub count : Program → ℕ
count p = length p.signals

abbrev pub no_signal : Signal
no_signal = record { place = 0; period = 1; initial = pos 0; body = input; label = 0 }

abbrev pub signal_at : Program → ℕ → Signal
signal_at p s = get_or p.signals s no_signal

-- 2 and 3, judged at each operator of an expression before its depth and its operands.
unfoldable pub operator_here : List ℕ → ℕ → Outcome (Unit {0})
operator_here text at =
    provided (ltb at (length text)) 2 (length text) ▷ λ _.
    provided (is_operator (byte_at text at)) 3 at

-- The least factor of WHEN, LASTWHEN and CURRENT. Texts written before had 1.
abbrev pub least_factor : ℕ
least_factor = 2

-- Whether a text whose factors go from `least` on may have a read: NOW and LAST have no factor in the text.
abbrev pub is_allowed : ℕ → Kind → Sampled → Bool
is_allowed least Now x = true
is_allowed least Last x = true
is_allowed least When x = leb least x.factor
is_allowed least LastWhen x = leb least x.factor
is_allowed least Current x = leb least x.factor

-- The expression at `at`, operator first, where `sub` reads an operand.
unfoldable pub node : ℕ → (ℕ → Outcome (Parsed Expr)) → List ℕ → ℕ → Operator → Outcome (Parsed Expr)
node least sub text at Operator.EndsEarly = refuse 2 (length text)
node least sub text at Operator.Unknown = refuse 3 at
node least sub text at Operator.OutOfRange = refuse 5 at
node least sub text at (Operator.Constant w) = parsed (constant w) (at + in_expression 0x20)
node least sub text at (Operator.Read kind operands) =
    provided (is_allowed least kind operands) 5 at ▷ λ _.
    parsed (read (record { place = at; kind = kind; operands = operands })) (at + read_width kind)
node least sub text at (Operator.Binary operator) =
    sub (at + in_expression 0x30) ▷ λ x. sub x.next ▷ λ y.
    parsed (binary operator x.value y.value) y.next
node least sub text at (Operator.Unary operator) =
    sub (at + in_expression 0x38) ▷ λ x. parsed (unary operator x.value) x.next
node least sub text at Operator.If =
    sub (at + in_expression 0x3A) ▷ λ x. sub x.next ▷ λ y. sub y.next ▷ λ z.
    parsed (choose x.value y.value z.value) z.next

-- An expression nests at most `depth` deep; a leaf is 1.
unfoldable pub parse_expr : ℕ → ℕ → List ℕ → ℕ → Outcome (Parsed Expr)
parse_expr least zero text at = operator_here text at ▷ λ _. refuse 4 at
parse_expr least (suc depth) text at =
    operator_here text at ▷ λ _. node least (λ n. parse_expr least depth text n) text at (operator_at text at)

-- The LINKs from `at` on, after those of `links`; `room` more are allowed. A chain ends at the first byte that isn't 13 or
-- where the text ends.
unfoldable pub parse_links : ℕ → List ℕ → ℕ → List Link → Outcome (Parsed (List Link))
parse_links zero text at links = elim (eqb (byte_at text at) 0x13) [ true ↦ refuse 4 at | false ↦ parsed links at ]
parse_links (suc room) text at links =
    elim (eqb (byte_at text at) 0x13) [
      | true ↦
          provided (leb (at + in_program 0x13) (length text)) 2 (length text) ▷ λ _.
          parse_links room text (at + in_program 0x13) (links ++ (record { place = at; signal = byte_at text (at + 1) } ∷ []))
      | false ↦ parsed links at
    ]

-- A declaration with its operands, after those of p; `next` reads on. `label` is that of a TAG directly before it, 0 where there
-- is
-- none; IN and EQ take it.
unfoldable pub declare : ℕ → (ℕ → ℕ → Program → Outcome Program) → List ℕ → ℕ → ℕ → Program → Declaration → Outcome Program
declare least next text at label p Declaration.EndsEarly = refuse 2 (length text)
declare least next text at label p Declaration.Unknown = refuse 3 at
declare least next text at label p Declaration.OutOfRange = refuse 5 at
declare least next text at label p Declaration.End =
    provided (leb (length text) (at + in_program 0x00)) 6 (at + in_program 0x00) ▷ λ _. accepted p
declare least next text at label p (Declaration.Input period initial) =
    next (at + in_program 0x10) 0
    (with_signal p (record { place = at; period = period; initial = initial; body = input; label = label }))
declare least next text at label p (Declaration.Equation period initial weight) =
    parse_expr least 16 text (at + in_program 0x11) ▷ λ e.
    next e.next 0
    (with_signal p (record { place = at; period = period; initial = initial; body = equation weight e.value; label = label }))
declare least next text at label p (Declaration.Latency mode bound) =
    parse_links 16 text (at + in_program 0x12) [] ▷ λ ls.
    provided (leb 2 (length ls.value)) 5 at ▷ λ _.
    next ls.next 0 (with_chain p (record { place = at; mode = mode; bound = bound; links = ls.value }))
-- A LINK stands after LAT only.
declare least next text at label p (Declaration.Link signal) = refuse 3 at
declare least next text at label p (Declaration.Cap n) = next (at + in_program 0x14) 0 (with_cap p n)
-- A TAG stands directly before IN or EQ: 2 if the text ends after it, 3 if anything else follows.
declare least next text at label p (Declaration.Tag given) =
    provided (ltb (at + in_program 0x15) (length text)) 2 (length text) ▷ λ _.
    provided (is_signal (byte_at text (at + in_program 0x15))) 3 at ▷ λ _.
    next (at + in_program 0x15) given p
declare least next text at label p (Declaration.Row low high result) =
    next (at + in_program 0x16) 0 (with_row p (record { place = at; low = low; high = high; result = result }))

abbrev pub is_unlimited : Limit → Bool
is_unlimited unlimited = true
is_unlimited (limit n) = false

-- 3, then counts and second CAP: what the byte of a declaration asks for after those of p.
unfoldable pub room_for : ℕ → Program → ℕ → Outcome (Unit {0})
room_for at p b =
    cond (eqb b 0x00) (accepted tt)
    (cond (is_signal b) (provided (ltb (count p) 64) 4 at)
    (cond (eqb b 0x12) (provided (ltb (length p.chains) 16) 4 at)
    (cond (eqb b 0x14) (provided (is_unlimited p.cap) 5 at)
    (cond (eqb b 0x15) (accepted tt)
    (cond (eqb b 0x16) (provided (ltb (length p.rows) 32) 4 at) (refuse 3 at))))))

-- 2, 3, then counts and second CAP, judged at each declaration before its operands.
unfoldable pub declaration_here : List ℕ → ℕ → Program → Outcome (Unit {0})
declaration_here text at p = provided (ltb at (length text)) 2 (length text) ▷ λ _. room_for at p (byte_at text at)

-- The commands from `at` on, after those of p and a TAG's label. Each takes a byte at least, so `left` bytes hold no more than
-- `left` of them.
unfoldable pub parse_commands : ℕ → ℕ → List ℕ → ℕ → ℕ → Program → Outcome Program
parse_commands least zero text at label p = refuse 2 (length text)
parse_commands least (suc left) text at label p =
    declaration_here text at p ▷ λ _.
    declare least (λ n l q. parse_commands least left text n l q) text at label p (declaration_at text at)

-- A program text whose factors go from `least` on: by the earlier rule from 1, now from 2.
unfoldable pub parse_with : ℕ → List ℕ → Outcome Program
parse_with least text = parse_commands least (length text) text 0 0 empty

abbrev pub parse_program : List ℕ → Outcome Program
parse_program text = parse_with least_factor text

-- The reads of an expression and of a signal, from left to right.
unfoldable pub reads_of : Expr → List Read
reads_of (constant w) = []
reads_of (read ρ) = ρ ∷ []
reads_of (binary operator x y) = reads_of x ++ reads_of y
reads_of (unary operator x) = reads_of x
reads_of (choose x y z) = reads_of x ++ (reads_of y ++ reads_of z)

abbrev pub body_reads : Body → List Read
body_reads input = []
body_reads (equation weight e) = reads_of e

-- Inputs weigh 0.
abbrev pub weight_of : Body → ℕ
weight_of input = 0
weight_of (equation weight e) = weight

-- How many TABLEs an expression and some signals have.
abbrev pub unary_lookups : Unary → ℕ
unary_lookups Negate = 0
unary_lookups Table = 1

abbrev pub expr_lookups : Expr → ℕ
expr_lookups (constant w) = 0
expr_lookups (read ρ) = 0
expr_lookups (binary operator x y) = expr_lookups x + expr_lookups y
expr_lookups (unary operator x) = unary_lookups operator + expr_lookups x
expr_lookups (choose x y z) = expr_lookups x + (expr_lookups y + expr_lookups z)

abbrev pub body_lookups : Body → ℕ
body_lookups input = 0
body_lookups (equation weight e) = expr_lookups e

unfoldable pub lookups : List Signal → ℕ
lookups [] = 0
lookups (x ∷ xs) = body_lookups x.body + lookups xs
