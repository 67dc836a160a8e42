-- What an accepted pair keeps within bounds: the image's bytes and the machine's stack rest on it. Assumes nothing.
use Prim.Native.Nat.{ℕ, ◌≤◌, ◌<◌}
use native.Mathlib.Omega.{arith}
use lib.ListN.{length}
use mir.Syntax.{w32}
use mir.Val.{SFits}
pub use Rattle.model.specs.Says.Grammar.{depth}
use Rattle.model.specs.Rules.Image.{length_of}
use Rattle.model.specs.Rules.Program.{
  Program,
  Body,
  input,
  equation,
  Expr,
  constant,
  read,
  binary,
  unary,
  choose,
  count,
  signal_at,
  body_lookups,
}
use Rattle.model.specs.Rules.Schedule.{Schedule}
use Rattle.model.specs.Rules.Report.{expr_height}
use Rattle.model.specs.Rules.Table.{row_at}
use Rattle.model.specs.Says.Rows.{AllUpright, Covers}
use Rattle.model.specs.Says.Words.{IsWord}

pub depth-some : (e : Expr) → 1 ≤ depth e
depth-some (constant w) = omega arith
depth-some (read ρ) = omega arith
depth-some (binary operator x y) = omega arith
depth-some (unary operator x) = omega arith
depth-some (choose x y z) = omega arith

pub height-some : (e : Expr) → 1 ≤ expr_height e
height-some (constant w) = omega arith
height-some (read ρ) = omega arith
height-some (binary operator x y) = omega arith
height-some (unary operator x) = height-some x
height-some (choose x y z) = omega arith

abbrev pub body_depth : Body → ℕ
body_depth input = 1
body_depth (equation weight e) = depth e

-- Every constant of an expression is a word.
abbrev pub Words : Expr → Type 0
Words (constant w) = SFits w32 w
Words (read ρ) = Unit {0}
Words (binary operator x y) = Words x × Words y
Words (unary operator x) = Words x
Words (choose x y z) = Words x × Words y × Words z

abbrev pub BodyWords : Body → Type 0
BodyWords input = Unit {0}
BodyWords (equation weight e) = Words e

pub record Bounded (p : Program) (s : Schedule) (h : ℕ) : Type 0 where
  pub hyper : h ≤ 240
  pub signals : count p ≤ 64
  pub initials : (x : ℕ) → x < count p → SFits w32 (signal_at p x).initial
  pub depths : (x : ℕ) → x < count p → body_depth (signal_at p x).body ≤ 16
  pub constants : (x : ℕ) → x < count p → BodyWords (signal_at p x).body
  pub few-rows : length p.rows ≤ 32
  pub upright : AllUpright p.rows
  pub results : (n : ℕ) → n < length p.rows → IsWord (row_at p.rows n).result
  pub covers : 0 < length p.rows → Covers p.rows
  pub served : (x : ℕ) → x < count p → 0 < body_lookups (signal_at p x).body → 0 < length p.rows
  -- Head and records, offsets, lists, a count byte, and rows and code no longer than the program: 4 + 64 × 6 + 241 × 2 +
  -- 240 × 64 + 1 + 8192.
  pub size : length_of p s h ≤ 24423
