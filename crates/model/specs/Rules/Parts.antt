-- Parts joined into one pair: signals are renumbered part after part, PUTs follow in part order, the smallest CAP stands for
-- all, a linked IN becomes an EQ of weight 0 that reads its signal by NOW, and the rows are those of the one part that has some.
use Rattle.std.specs.Prelude.{ℕ, zero, suc, ◌+◌, min, Bool, cond, List, [], ◌∷◌, ◌++◌, map, ltb, eqb, length, get_or}
use Rattle.model.specs.Rules.Program.{
  Program,
  Signal,
  Body,
  input,
  equation,
  Expr,
  constant,
  read,
  binary,
  unary,
  choose,
  Read,
  Chain,
  Link,
  Limit,
  unlimited,
  limit,
  empty,
  count,
  signal_at,
}
use Rattle.model.specs.Rules.Schedule.{Schedule}
use Rattle.model.specs.Rules.Search.{table}
use Rattle.model.specs.declared.Index.TheVariants.{Fixed}
use Rattle.model.specs.declared.Kind.TheVariants.{Now}

-- A program with its schedule.
pub record Part : Type 0 where
  pub program : Program
  pub schedule : Schedule

-- Signal x gets the number f x, wherever it is named.
abbrev pub renumber_read : (ℕ → ℕ) → Read → Read
renumber_read f ρ =
    record {
      place = ρ.place;
      kind = ρ.kind;
      operands = record { signal = f ρ.operands.signal; factor = ρ.operands.factor; index = ρ.operands.index };
    }

unfoldable pub renumber_expr : (ℕ → ℕ) → Expr → Expr
renumber_expr f (constant w) = constant w
renumber_expr f (read ρ) = read (renumber_read f ρ)
renumber_expr f (binary operator x y) = binary operator (renumber_expr f x) (renumber_expr f y)
renumber_expr f (unary operator x) = unary operator (renumber_expr f x)
renumber_expr f (choose x y z) = choose (renumber_expr f x) (renumber_expr f y) (renumber_expr f z)

abbrev pub renumber_body : (ℕ → ℕ) → Body → Body
renumber_body f input = input
renumber_body f (equation weight e) = equation weight (renumber_expr f e)

abbrev pub renumber_signal : (ℕ → ℕ) → Signal → Signal
renumber_signal f x =
    record {
      place = x.place;
      period = x.period;
      initial = x.initial;
      body = renumber_body f x.body;
      label = x.label;
    }

abbrev pub renumber_link : (ℕ → ℕ) → Link → Link
renumber_link f l = record { place = l.place; signal = f l.signal }

abbrev pub renumber_chain : (ℕ → ℕ) → Chain → Chain
renumber_chain f c =
    record { place = c.place; mode = c.mode; bound = c.bound; links = map (renumber_link f) c.links }

-- The smaller of two CAPs, where there are two.
abbrev pub smaller : Limit → Limit → Limit
smaller unlimited l = l
smaller (limit m) unlimited = limit m
smaller (limit m) (limit n) = limit (min m n)

-- Two parts joined: the signals of the second are numbered on from those of the first, and its PUTs and rows follow.
infixr 20 ◌⊕◌
unfoldable pub ◌⊕◌ : Part → Part → Part
a ⊕ b =
    let f : ℕ → ℕ = λ x. count a.program + x in
    record {
      program =
          record {
            signals = a.program.signals ++ map (renumber_signal f) b.program.signals;
            chains = a.program.chains ++ map (renumber_chain f) b.program.chains;
            cap = smaller a.program.cap b.program.cap;
            rows = a.program.rows ++ b.program.rows;
          };
      schedule =
          record {
            order = a.schedule.order ++ map f b.schedule.order;
            phases = a.schedule.phases ++ b.schedule.phases;
          };
    }

-- No parts: a program with no signals.
abbrev pub no_part : Part
no_part = record { program = empty; schedule = record { order = []; phases = [] } }

-- All parts joined.
unfoldable pub joined_parts : List Part → Part
joined_parts [] = no_part
joined_parts (a ∷ rest) = a ⊕ joined_parts rest

-- How many parts have rows.
abbrev pub is_tabled : Part → Bool
is_tabled a = ltb 0 (length a.program.rows)

unfoldable pub tabled_parts : List Part → ℕ
tabled_parts [] = 0
tabled_parts (a ∷ rest) = cond (is_tabled a) 1 0 + tabled_parts rest

-- The number of the first signal of part k.
unfoldable pub base : List Part → ℕ → ℕ
base [] k = 0
base (a ∷ rest) zero = 0
base (a ∷ rest) (suc k) = count a.program + base rest k

abbrev pub part_at : List Part → ℕ → Part
part_at parts k = get_or parts k no_part

-- A link: its number, its IN and its signal, each by part and by number in that part.
pub record PartLink : Type 0 where
  pub place : ℕ
  pub input_part : ℕ
  pub input : ℕ
  pub signal_part : ℕ
  pub signal : ℕ

-- The same by their numbers when joined.
pub record Wire : Type 0 where
  pub place : ℕ
  pub input : ℕ
  pub signal : ℕ

abbrev pub wire_of : List Part → PartLink → Wire
wire_of parts l =
    record {
      place = l.place;
      input = base parts l.input_part + l.input;
      signal = base parts l.signal_part + l.signal;
    }

-- The read of a link.
abbrev pub wire_read : Wire → Read
wire_read l = record { place = l.place; kind = Now; operands = record { signal = l.signal; factor = 1; index = Fixed 0 } }

-- The body of signal x: a linked IN becomes an EQ of weight 0.
unfoldable pub wired_body : List Wire → ℕ → Body → Body
wired_body [] x b = b
wired_body (l ∷ ls) x b = cond (eqb l.input x) (equation 0 (read (wire_read l))) (wired_body ls x b)

abbrev pub wired_signal : List Wire → ℕ → Signal → Signal
wired_signal ls x σ =
    record {
      place = σ.place;
      period = σ.period;
      initial = σ.initial;
      body = wired_body ls x σ.body;
      label = σ.label;
    }

-- A program with its links.
unfoldable pub wired_with : List Wire → Program → Program
wired_with ls p =
    record {
      signals = table (count p) (λ x. wired_signal ls x (signal_at p x));
      chains = p.chains;
      cap = p.cap;
      rows = p.rows;
    }

-- The parts and links as one pair.
unfoldable pub joined_pair : List Part → List PartLink → Part
joined_pair parts links =
    record {
      program = wired_with (map (wire_of parts) links) (joined_parts parts).program;
      schedule = (joined_parts parts).schedule;
    }
