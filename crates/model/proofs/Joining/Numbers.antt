-- The signals of joined parts by number, and links between them. Assumes nothing.
use Prim.Native.Nat.{ℕ, zero, suc, ◌+◌, ◌≤◌, ◌<◌}
use mathlib.Core.Bool.{Bool, true, false, cond, false≢true}
use mathlib.Core.List.{List, [], ◌∷◌, ◌++◌}
use mathlib.Core.Path.{◌≡◌, refl, sym, ap, fun_ext, ◌∙◌}
use native.Mathlib.Nat.{zero-add, add_assoc}
use native.Mathlib.Omega.{arith}
use borrow.Author.Tests.{eqb-true}
use lib.Dec.{eqb}
use lib.ListN.{length}
use Rattle.model.specs.Rules.Parts.{
  Part,
  renumber_signal,
  joined_parts,
  base,
  part_at,
  Wire,
  wire_read,
  wired_body,
  wired_signal,
  wired_with,
}
use Rattle.model.specs.Rules.Program.{Program, Body, input, equation, read, no_signal, count, signal_at, weight_of, is_input}
use Rattle.model.specs.Says.Feasible.{All}
use Rattle.model.proofs.Basics.Outcomes.{table-length, table_at}
use Rattle.model.proofs.Joining.Parts.{join-count, first-signal, second-signal}
use Rattle.model.proofs.Joining.Renumbered.{signal-none, signal-twice}

-- Where the signals of a part start.
pub base-zero : (parts : List Part) → base parts 0 ≡ 0
unfolding base
base-zero [] = refl
base-zero (a ∷ rest) = refl

pub base-next : (parts : List Part) (k : ℕ) → k < length parts →
    base parts (k + 1) ≡ base parts k + count (part_at parts k).program
unfolding base
base-next [] k lt = absurd (omega arith)
base-next (a ∷ []) zero lt = omega arith
base-next (a ∷ (b ∷ rest)) zero lt = omega arith
base-next (a ∷ rest) (suc k) lt =
    let e : suc k + 1 ≡ suc (k + 1) = omega arith in
    rw e (omega (arith, base-next rest k (omega arith)))

pub base-below : (parts : List Part) (k : ℕ) → k ≤ length parts → base parts k ≤ count (joined_parts parts).program
unfolding base joined_parts
base-below [] k le = omega arith
base-below (a ∷ rest) zero le = omega arith
base-below (a ∷ rest) (suc k) le = omega (arith, join-count a (joined_parts rest), base-below rest k (omega arith))

pub base-all : (parts : List Part) → base parts (length parts) ≡ count (joined_parts parts).program
unfolding base joined_parts
base-all [] = refl
base-all (b ∷ parts) = ap (λ (n : ℕ). count b.program + n) (base-all parts) ∙ sym (join-count b (joined_parts parts))

pub base_kept : (parts : List Part) (a : Part) (k : ℕ) → k ≤ length parts → base (parts ++ (a ∷ [])) k ≡ base parts k
unfolding base
base_kept [] a zero le = refl
base_kept [] a (suc k) le = absurd (omega arith)
base_kept (b ∷ parts) a zero le = refl
base_kept (b ∷ parts) a (suc k) le = ap (λ (n : ℕ). count b.program + n) (base_kept parts a k (omega arith))

-- Signal x of part k by its joined number.
pub number-below : (parts : List Part) (k x : ℕ) → k < length parts → x < count (part_at parts k).program →
    base parts k + x < count (joined_parts parts).program
unfolding base joined_parts
number-below [] k x lk lx = absurd (omega arith)
number-below (a ∷ rest) zero x lk lx = omega (arith, join-count a (joined_parts rest))
number-below (a ∷ rest) (suc k) x lk lx =
    omega (arith, join-count a (joined_parts rest), number-below rest k x (omega arith) lx)

pub number-signal : (parts : List Part) (k x : ℕ) → k < length parts → x < count (part_at parts k).program →
    signal_at (joined_parts parts).program (base parts k + x) ≡
    renumber_signal (λ y. base parts k + y) (signal_at (part_at parts k).program x)
unfolding base joined_parts
number-signal [] k x lk lx = absurd (omega arith)
number-signal (a ∷ rest) zero x lk lx =
    let σ = signal_at a.program x in
    rw (zero-add x)
    (first-signal a (joined_parts rest) x lx ∙ sym (signal-none σ) ∙
    ap (λ (f : ℕ → ℕ). renumber_signal f σ) (fun_ext (λ y. sym (zero-add y))))
number-signal (a ∷ rest) (suc k) x lk lx =
    let n = count a.program in
    let σ = signal_at (part_at rest k).program x in
    rw (add_assoc n (base rest k) x)
    (second-signal a (joined_parts rest) (base rest k + x) ∙
    ap (renumber_signal (λ y. n + y)) (number-signal rest k x (omega arith) lx) ∙
    signal-twice (λ y. base rest k + y) (λ y. n + y) σ ∙
    ap (λ (f : ℕ → ℕ). renumber_signal f σ) (fun_ext (λ y. sym (add_assoc n (base rest k) y))))

-- A program with its links.
module _ (ls : List Wire) (p : Program) where
  pub wired-count : count (wired_with ls p) ≡ count p
  unfolding wired_with
  wired-count = table-length (count p) (λ x. wired_signal ls x (signal_at p x))

  pub wired-signal : (x : ℕ) → x < count p → signal_at (wired_with ls p) x ≡ wired_signal ls x (signal_at p x)
  unfolding wired_with
  wired-signal x lt = table_at (count p) (λ x. wired_signal ls x (signal_at p x)) x no_signal lt

-- A linked input weighs as much as before.
pub wired-weight : (ls : List Wire) (x : ℕ) (b : Body) → All (λ (l : Wire). l.input ≡ x → is_input b ≡ true) ls →
    weight_of (wired_body ls x b) ≡ weight_of b
unfolding wired_body
wired-weight [] x b h = refl
wired-weight (l ∷ ls) x b h = go (eqb l.input x) refl (wired-weight ls x b h.1)
  where
    none : (c : Body) → is_input c ≡ true → 0 ≡ weight_of c
    none input e = refl
    none (equation weight e) q = absurd (false≢true q)

    go : (t : Bool) → eqb l.input x ≡ t → weight_of (wired_body ls x b) ≡ weight_of b →
        weight_of (cond t (equation 0 (read (wire_read l))) (wired_body ls x b)) ≡ weight_of b
    go true e ih = none b (h.0 (eqb-true l.input x e))
    go false e ih = ih
