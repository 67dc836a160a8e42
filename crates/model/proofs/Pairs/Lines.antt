-- The five reads as one: a read that is met uses what is stored when the reader runs, and at most one index meets its line.
-- Assumes nothing.
use Prim.Native.Nat.{ℕ, zero, suc, ◌+◌, ◌*◌, ◌-◌, ◌/◌, ◌≤◌, ◌<◌}
use mathlib.Core.Bool.{Bool}
use mathlib.Core.Path.{◌≡◌, sym, ◌∙◌, ap, refl}
use mathlib.Core.Logic.{◌↔◌}
use native.Mathlib.Nat.{div-one, div-mul-le_self, lt-div-mul-add, mul-le-mul_right, add-mul}
use native.Mathlib.Omega.{arith}
use Rattle.model.specs.Says.Feasible.{PeriodRule, Line, PutFor}
use Rattle.model.specs.Rules.Reads.{Rate, run_cycle, stored, uses, writer_first}
use Rattle.model.specs.Rules.Rewrite.{single_kind}
use Rattle.model.specs.Rules.Schedule.{Schedule}
use Rattle.model.specs.declared.Kind.{Kind}
use Rattle.model.specs.declared.Kind.TheVariants.{Now, Last, When, LastWhen, Current}
use Rattle.model.proofs.Pairs.Rate.{stored_is, stored-bit, bit}

-- The reader's period is n parts of b cycles and the signal's m parts; d is 1 for a read that wants the writer first.
-- e parts on, the signal's phase comes to stand in the part that ends m parts after the reader's phase.
abbrev pub Aligned : Rate → Rate → (b n m e d : ℕ) → Type 0
Aligned w r b n m e d =
    (zero < m) × (r.period ≡ n * b) × (w.period ≡ m * b) ×
    (r.phase + d + m * b ≤ e * b + w.phase + b) × (e * b + w.phase < r.phase + d + m * b)

-- The fact that all five share: how many elements of w are stored when run k of r comes.
pub shared : (w r : Rate) (b n m e d k : ℕ) → Aligned w r b n m e d → stored w (run_cycle r k + d) ≡ (k * n + e) / m
shared w r b n m e d k fit =
    let q : ℕ = (k * n + e) / m in
    let f : q * m * b ≤ (k * n + e) * b = mul-le-mul_right b (div-mul-le_self (k * n + e) m) in
    let g : suc (k * n + e) * b ≤ (q * m + m) * b = mul-le-mul_right b (lt-div-mul-add fit.0) in
    let x : k * r.period ≡ k * (n * b) = ap (k *◌) fit.1 in
    let y : q * w.period ≡ q * (m * b) = ap (q *◌) fit.2 in
    stored_is w (run_cycle r k + d) q (omega arith) (omega arith)

-- At most one e fits.
pub once : (w r : Rate) (b n m e e' d : ℕ) → Aligned w r b n m e d → Aligned w r b n m e' d → e ≡ e'
once w r b n m e e' d fit fit' =
    let a : Rate = record { period = b; phase = w.phase } in
    sym (stored_is a (r.phase + d + m * b - b) e (omega arith) (omega arith)) ∙
    stored_is a (r.phase + d + m * b - b) e' (omega arith) (omega arith)

-- n − i parts and i parts are n parts.
pub parts : (n i b : ℕ) → i < n → (n - i) * b + i * b ≡ n * b
parts n i b lt = sym (add-mul (n - i) i b) ∙ ap (◌* b) (omega arith)

-- A read whose line holds uses what is stored before the reader's run, the cycle of the run included if the writer comes
-- first.
pub line-index : (kind : Kind) (w r : Rate) (n i k : ℕ) → w.phase < w.period → r.phase < r.period → i < n →
    PeriodRule kind w.period r.period n → Line kind w r i →
    stored w (run_cycle r k + bit (writer_first kind)) ≡ uses kind n i k
line-index Now w r n i k vw vr lt p l = shared w r w.period 1 1 1 1 k (omega arith) ∙ div-one _ ∙ omega arith
line-index Last w r n i k vw vr lt p l = shared w r w.period 1 1 0 0 k (omega arith) ∙ div-one _ ∙ omega arith
line-index When w r n i k vw vr lt p l = shared w r w.period n 1 (suc i) 1 k (omega arith) ∙ div-one _ ∙ omega arith
line-index LastWhen w r n i k vw vr lt p l = shared w r w.period n 1 i 0 k (omega arith) ∙ div-one _
line-index Current w r n i k vw vr lt p l =
    let c = parts n i r.period lt in
    shared w r r.period 1 n (n - i) 1 k (omega arith) ∙ ap (◌/ n) (omega arith)

-- Wherever a run of w and a run of r share a cycle, the one comes first that the read wants first.
abbrev pub First : Kind → Rate → Rate → Bool → Type 0
First kind w r before = (j k : ℕ) → run_cycle w j ≡ run_cycle r k → before ≡ writer_first kind

-- A read that is met uses what is stored when the reader runs: the elements of earlier cycles, and that of the same cycle
-- if the signal is put before the reader.
pub met-index : (kind : Kind) (w r : Rate) (n i k : ℕ) (before : Bool) → w.phase < w.period → r.phase < r.period → i < n →
    PeriodRule kind w.period r.period n → Line kind w r i → First kind w r before →
    stored w (run_cycle r k + bit before) ≡ uses kind n i k
met-index kind w r n i k before vw vr lt p l o =
    stored-bit w (run_cycle r k) before (writer_first kind) vw (λ j e. o j k e) ∙ line-index kind w r n i k vw vr lt p l

-- The reads that name an index.
abbrev pub Indexed : Kind → Type 0
Indexed Now = ⊥
Indexed Last = ⊥
Indexed When = Unit {0}
Indexed LastWhen = Unit {0}
Indexed Current = Unit {0}

-- At most one index below n meets the line of an open read.
pub index-once : (kind : Kind) (w r : Rate) (n i j : ℕ) → Indexed kind → i < n → j < n →
    PeriodRule kind w.period r.period n →
    Line kind w r i → Line kind w r j → i ≡ j
index-once Now w r n i j x lt gt p l m = absurd x
index-once Last w r n i j x lt gt p l m = absurd x
index-once When w r n i j x lt gt p l m =
    let e = once w r w.period n 1 (suc i) (suc j) 1 (omega arith) (omega arith) in omega arith
index-once LastWhen w r n i j x lt gt p l m = once w r w.period n 1 i j 0 (omega arith) (omega arith)
index-once Current w r n i j x lt gt p l m =
    let c = parts n i r.period lt in
    let d = parts n j r.period gt in
    let e = once w r r.period 1 n (n - i) (n - j) 1 (omega arith) (omega arith) in omega arith

-- With factor 1 and index 0 each read uses what NOW or LAST uses, and wants the periods, the line and the order that they want.
-- Where phases are below periods the other end of the line is kept.
pub single-uses : (kind : Kind) (k : ℕ) → uses (single_kind kind) 1 0 k ≡ uses kind 1 0 k
single-uses Now k = refl
single-uses Last k = refl
single-uses When k = omega arith
single-uses LastWhen k = omega arith
single-uses Current k = omega (arith, div-one (k + 1 - 0))

pub single-rule : (kind : Kind) (w r : ℕ) → PeriodRule kind w r 1 ↔ PeriodRule (single_kind kind) w r 1
single-rule Now w r = (λ e. e, λ e. e)
single-rule Last w r = (λ e. e, λ e. e)
single-rule When w r = (λ e. omega arith, λ e. omega arith)
single-rule LastWhen w r = (λ e. omega arith, λ e. omega arith)
single-rule Current w r = (λ e. omega arith, λ e. omega arith)

pub single-line : (kind : Kind) (w r : Rate) → w.phase < w.period → r.phase < r.period →
    PeriodRule kind w.period r.period 1 → Line kind w r 0 ↔ Line (single_kind kind) w r 0
single-line Now w r u v e = (λ h. h, λ h. h)
single-line Last w r u v e = (λ h. h, λ h. h)
single-line When w r u v e = (λ h. omega (arith, h.0), λ h. (omega arith, omega arith))
single-line LastWhen w r u v e = (λ h. omega (arith, h.0), λ h. (omega arith, omega arith))
single-line Current w r u v e = (λ h. omega (arith, h.0), λ h. (omega arith, omega arith))

pub single-first : (kind : Kind) (s : Schedule) (w r : ℕ) → PutFor (single_kind kind) s w r ↔ PutFor kind s w r
single-first Now s w r = (λ h. h, λ h. h)
single-first Last s w r = (λ h. h, λ h. h)
single-first When s w r = (λ h. h, λ h. h)
single-first LastWhen s w r = (λ h. h, λ h. h)
single-first Current s w r = (λ h. h, λ h. h)
