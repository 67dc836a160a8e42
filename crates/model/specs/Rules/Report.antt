-- What a pair needs, told before an image is written: L, L + 4N with the tail, the highest stack use of any signal, and the
-- commands of each cycle.
use Rattle.std.specs.Prelude.{Result, Ok, Err, ℕ, ◌+◌, ◌-◌, max, List, [], ◌∷◌, ◌++◌, length, replicate}
use Rattle.model.specs.Rules.Compile.{Pair, pair_of}
use Rattle.model.specs.Rules.Image.{run_list, length_of, written_length}
use Rattle.model.specs.Rules.Machine.{Effect, Job, effect}
use Rattle.model.specs.Rules.Outcome.{Outcome, accepted, refused, ◌▷◌}
use Rattle.model.specs.Rules.Program.{
  Program,
  Signal,
  Body,
  input,
  equation,
  Expr,
  constant,
  read,
  binary,
  unary,
  choose,
  signal_at,
}
use Rattle.model.specs.Rules.Schedule.{Schedule}
use Rattle.model.specs.Rules.Search.{table}
use Rattle.model.specs.declared.Fault.{Fault}
use Rattle.model.specs.declared.Sizes.{Sizes}

-- The commands in the code of an expression: one for each leaf and each operator.
abbrev pub expr_commands : Expr → ℕ
expr_commands (constant w) = 1
expr_commands (read ρ) = 1
expr_commands (binary operator x y) = expr_commands x + (expr_commands y + 1)
expr_commands (unary operator x) = expr_commands x + 1
expr_commands (choose x y z) = expr_commands x + (expr_commands y + (expr_commands z + 1))

-- The most words that it has on the stack at once: while an operand runs, the values of those before it lie below.
abbrev pub expr_height : Expr → ℕ
expr_height (constant w) = 1
expr_height (read ρ) = 1
expr_height (binary operator x y) = max (expr_height x) (expr_height y + 1)
expr_height (unary operator x) = expr_height x
expr_height (choose x y z) = max (expr_height x) (max (expr_height y + 1) (expr_height z + 2))

-- The same of a signal's code: FETCH and STORE of an input; an equation's expression, and STORE.
abbrev pub body_commands : Body → ℕ
body_commands input = 2
body_commands (equation weight e) = expr_commands e + 1

abbrev pub body_height : Body → ℕ
body_height input = 1
body_height (equation weight e) = expr_height e

-- The commands of the runs of a list.
unfoldable pub list_commands : Program → List ℕ → ℕ
list_commands p [] = 0
list_commands p (x ∷ xs) = body_commands (signal_at p x).body + list_commands p xs

-- The commands of cycle c.
unfoldable pub cycle_commands : Program → Schedule → ℕ → ℕ
cycle_commands p s c = list_commands p (run_list p s c)

-- The highest stack use of some signals, 0 if there is none.
unfoldable pub highest : List Signal → ℕ
highest [] = 0
highest (x ∷ xs) = max (body_height x.body) (highest xs)

-- 240 counts, those from the hypercycle h on 0.
unfoldable pub counts_of : Program → Schedule → ℕ → List ℕ
counts_of p s h = table h (cycle_commands p s) ++ replicate (240 - h) 0

-- What an accepted pair needs.
abbrev pub needs_of : Pair → Job Sizes ℕ
needs_of q =
    record {
      yields =
          record {
            length = length_of q.program q.schedule q.hypercycle;
            written = written_length q.program q.schedule q.hypercycle;
            stack = highest q.program.signals;
          };
      leaves = counts_of q.program q.schedule q.hypercycle;
    }

-- The job of report, which refuses as the pair is refused.
abbrev pub report_job : List ℕ → List ℕ → Outcome (Job Sizes ℕ)
report_job program schedule = pair_of program schedule ▷ λ q. accepted (needs_of q)

unfoldable pub report_of : List ℕ → List ℕ → List ℕ → Effect Sizes ℕ
report_of program schedule counts = effect counts (report_job program schedule)

-- What the answer of report stands for.
abbrev pub reported_of : Result Sizes Fault → Outcome Sizes
reported_of (Ok x) = accepted x
reported_of (Err f) = refused f
