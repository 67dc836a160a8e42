-- How many commands a code and the signals of a list run, and the counts of a report. Assumes nothing.
use Prim.Native.Nat.{ℕ, zero, suc, ◌+◌, ◌-◌, ◌*◌, ◌^◌, ◌≤◌, ◌<◌}
use mathlib.Core.Bool.{true}
use mathlib.Core.List.{List, [], ◌∷◌, ◌++◌}
use mathlib.Core.Path.{◌≡◌, ap, ◌∙◌}
use native.Mathlib.Nat.{mul-le-mul}
use native.Mathlib.Omega.{arith}
use lib.ListN.{
  length,
  get_or,
  replicate,
  length-append,
  length-take,
  length-drop,
  length-replicate,
  get_or-replicate,
  get_or-append,
}
use lib.Seq.{get_or-append-add}
use Rattle.model.specs.Rules.Machine.{code_at, list_of, code_of, well_formed, count_command, count_from, count_code, count_signals}
use Rattle.model.specs.Rules.Program.{Program}
use Rattle.model.specs.Rules.Report.{cycle_commands, counts_of}
use Rattle.model.specs.Rules.Schedule.{Schedule}
use Rattle.model.specs.Rules.Search.{table}
use Rattle.model.specs.Rules.Word.{two_at, AreBytes}
use Rattle.model.specs.declared.Code.{Code}
use Rattle.model.specs.declared.Code.TheVariants as Code
use Rattle.model.proofs.Images.Tails.{headed}
use Rattle.model.proofs.Basics.Outcomes.{table-length, table_at}

-- No code runs more commands than it has bytes.
command-most : (next : ℕ → ℕ) (left at : ℕ) (c : Code) → ((a : ℕ) → next a ≤ left) → count_command next at c ≤ suc left
unfolding count_command
command-most next left at Code.EndsEarly h = omega arith
command-most next left at Code.Unknown h = omega arith
command-most next left at (Code.Push w) h = omega (arith, h (at + 5))
command-most next left at (Code.Load x) h = omega (arith, h (at + 2))
command-most next left at (Code.Fetch x) h = omega (arith, h (at + 2))
command-most next left at (Code.Store x) h = omega arith
command-most next left at (Code.Binary operator) h = omega (arith, h (at + 1))
command-most next left at (Code.Unary operator) h = omega (arith, h (at + 1))
command-most next left at Code.If h = omega (arith, h (at + 1))

from-most : (left : ℕ) (code : List ℕ) (at : ℕ) → count_from left code at ≤ left
unfolding count_from
from-most zero code at = omega arith
from-most (suc left) code at = command-most _ left at (code_at code at) (λ a. from-most left code a)

pub code-most : (code : List ℕ) → count_code code ≤ length code
unfolding count_code
code-most code = from-most (length code) code 0

-- A well-formed image is at most 65,535 bytes long, since two bytes hold its length; so are its lists and codes.
codes-inside : (image : List ℕ) (x : ℕ) → length (code_of image x) ≤ length image
unfolding code_of
codes-inside image x = simp (length-take, length-drop) (omega arith)

pub lists-inside : (image : List ℕ) (c : ℕ) → length (list_of image c) ≤ length image
unfolding list_of
lists-inside image c = simp (length-take, length-drop) (omega arith)

signals-most : (image xs : List ℕ) → count_signals image xs ≤ length xs * length image
unfolding count_signals
signals-most image [] = omega arith
signals-most image (x ∷ xs) =
    omega (arith, code-most (code_of image x), codes-inside image x, signals-most image xs)

pub image-short : (image : List ℕ) → AreBytes image → well_formed image ≡ true → length image ≤ 65535
unfolding two_at
image-short image bytes h = omega (arith, (headed image h).stated, bytes 2, bytes 3)

-- A list no longer than the image runs fewer than 2^32 commands.
pub signals-fit : (image xs : List ℕ) → length image ≤ 65535 → length xs ≤ length image → count_signals image xs < 2 ^ 32
signals-fit image xs short le =
    omega (arith, signals-most image xs, mul-le-mul {n₁ = length xs} {n₂ = 65535} (omega arith) short)

-- The counts of a report: 240, those of the hypercycle and then 0.
module _ (p : Program) (s : Schedule) (h : ℕ) where
  pub counts-length : h ≤ 240 → length (counts_of p s h) ≡ 240
  unfolding counts_of
  counts-length le = simp (length-append, length-replicate, table-length) (omega arith)

  pub counts-at : (c : ℕ) → c < h → get_or (counts_of p s h) c 0 ≡ cycle_commands p s c
  unfolding counts_of
  counts-at c lt =
      get_or-append (table h (cycle_commands p s)) (replicate (240 - h) 0) 0 c
      (omega (arith, table-length h (cycle_commands p s))) ∙
      table_at h (cycle_commands p s) c 0 lt

  pub counts_past : (c : ℕ) → h ≤ c → c < 240 → get_or (counts_of p s h) c 0 ≡ 0
  unfolding counts_of
  counts_past c le lt =
      let e : c ≡ length (table h (cycle_commands p s)) + (c - h) = omega (arith, table-length h (cycle_commands p s)) in
      ap (λ (k : ℕ). get_or (table h (cycle_commands p s) ++ replicate (240 - h) 0) k 0) e ∙
      get_or-append-add (table h (cycle_commands p s)) (replicate (240 - h) 0) (c - h) 0 ∙
      get_or-replicate (240 - h) (c - h) 0 0 (omega arith)
