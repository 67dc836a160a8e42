-- A sampling factor of 1 goes: each WHEN and CURRENT with n = 1 becomes NOW, each LASTWHEN with n = 1 becomes LAST, of the same
-- signal. Here on trees. In the text such a read shrinks from four bytes to two, so that places move; what is said of a program
-- and its conversion is therefore said up to places.
use Rattle.std.specs.Prelude.{ℕ, Bool, true, cond, ◌&&◌, List, map, ◌≡◌, eqb}
use Rattle.model.specs.Says.Feasible.{Met, Least}
use Rattle.model.specs.Rules.Load.{load}
use Rattle.model.specs.Rules.Program.{
  Program,
  Signal,
  Chain,
  Link,
  Body,
  input,
  equation,
  Expr,
  constant,
  read,
  binary,
  unary,
  choose,
  Read,
}
use Rattle.model.specs.Rules.Schedule.{Schedule, Put}
use Rattle.model.specs.Rules.Rewrite.{single_kind}
use Rattle.model.specs.Rules.Table.{Row}
use Rattle.theorems_pairs.specs.Conditions.{◌among◌, ReadIn, DeclaredAndRated, Linked, Tabled, Placed, Over, KeepsTime}
use Rattle.model.specs.declared.Index.{Index}
use Rattle.model.specs.declared.Index.TheVariants.{Fixed, Open}
use Rattle.model.specs.declared.Kind.{Kind}

-- Whether a read has factor 1. The index of a legal one is then 0, or left open.
abbrev pub is_first : Index → Bool
is_first (Fixed i) = eqb i 0
is_first Open = true

abbrev pub is_single : ℕ → Index → Bool
is_single n i = eqb n 1 && is_first i

abbrev pub kind_after : Bool → Kind → Kind
kind_after single kind = cond single (single_kind kind) kind

abbrev pub index_after : Bool → Index → Index
index_after single i = cond single (Fixed 0) i

abbrev pub converted_read : Read → Read
converted_read ρ =
    record {
      place = ρ.place;
      kind = kind_after (is_single ρ.operands.factor ρ.operands.index) ρ.kind;
      operands =
          record {
            signal = ρ.operands.signal;
            factor = ρ.operands.factor;
            index = index_after (is_single ρ.operands.factor ρ.operands.index) ρ.operands.index;
          };
    }

-- A program with its reads changed by f and its other places by g.
unfoldable pub map_expr : (Read → Read) → Expr → Expr
map_expr f (constant w) = constant w
map_expr f (read ρ) = read (f ρ)
map_expr f (binary operator x y) = binary operator (map_expr f x) (map_expr f y)
map_expr f (unary operator x) = unary operator (map_expr f x)
map_expr f (choose x y z) = choose (map_expr f x) (map_expr f y) (map_expr f z)

abbrev pub map_body : (Read → Read) → Body → Body
map_body f input = input
map_body f (equation weight e) = equation weight (map_expr f e)

module _ (f : Read → Read) (g : ℕ → ℕ) where
  abbrev pub map_signal : Signal → Signal
  map_signal x = record {
    place = g x.place;
    period = x.period;
    initial = x.initial;
    body = map_body f x.body;
    label =
        x.label;
  }

  abbrev pub map_link : Link → Link
  map_link l = record { place = g l.place; signal = l.signal }

  abbrev pub map_chain : Chain → Chain
  map_chain c = record { place = g c.place; mode = c.mode; bound = c.bound; links = map map_link c.links }

  abbrev pub map_row : Row → Row
  map_row r = record { place = g r.place; low = r.low; high = r.high; result = r.result }

  abbrev pub map_program : Program → Program
  map_program p =
      record {
        signals = map map_signal p.signals;
        chains = map map_chain p.chains;
        cap = p.cap;
        rows = map map_row p.rows;
      }

-- The conversion, with all places 0.
abbrev pub bare_read : Read → Read
bare_read ρ = record { place = 0; kind = (converted_read ρ).kind; operands = (converted_read ρ).operands }

abbrev pub bare : Program → Program
bare p = map_program bare_read (λ at. 0) p

-- Two programs that are the same up to places and to the conversion: the same signals, periods, initial words, weights, chains,
-- bounds, rows and cap, and expressions of the same shape whose reads are the same or differ by the conversion.
pub record Renamed (p q : Program) : Type 0 where
  pub same : bare p ≡ bare q

-- The conditions 7 to 16, 29 and 30 that a program keeps with PUTs, a schedule and a hypercycle: all that do not speak of texts.
pub record Keeps (p : Program) (puts : List Put) (s : Schedule) (h : ℕ) : Type 0 where
  pub rated : DeclaredAndRated p
  pub hypercycle : Least p h
  pub linked : (c : Chain) → c among p.chains → Linked p c
  pub tabled : Tabled p
  pub placed : Placed p puts s
  pub met : (r : ℕ) (ρ : Read) → ReadIn p r ρ → Met p s r ρ
  pub loads : (c : ℕ) → ¬ Over p.cap (load p s c)
  pub latencies : (c : Chain) → c among p.chains → KeepsTime p s c
