-- When a link is right, by the tables. Assumes nothing.
use Prim.Native.Nat.{ℕ, zero, suc, ◌+◌, ◌*◌, ◌/◌, ◌%◌, ◌≤◌, ◌<◌}
use mathlib.Core.Bool.{Bool, true, false, cond, not, ◌&&◌, false≢true, and-eq-true_iff}
use mathlib.Core.List.{List}
use mathlib.Core.Path.{◌≡◌, refl, sym, ap, ◌∙◌}
use native.Mathlib.Nat.{div-add-mod', mod-lt}
use native.Mathlib.Omega.{arith}
use borrow.Author.Tests.{le-leb, lt-leb, ltb-true, eqb-true, eq-eqb, not-true}
use lib.Dec.{leb, ltb, eqb}
use lib.ListN.{length, get_or, set, length-set}
use lib.Seq.{get_or-set_same, get_or-set_other}
use Rattle.model.specs.Rules.Join.{link_at, links_in, same_input, is_declared, is_named, is_right}
use Rattle.model.specs.Rules.Parts.{Part, PartLink, part_at}
use Rattle.model.specs.Rules.Program.{count, is_input}
use Rattle.model.specs.Rules.Search.{all_below}
use Rattle.model.specs.Rules.Word.{byte_at}
use Rattle.model.proofs.Basics.Outcomes.{not-true-false}
use Rattle.join_links.specs.ByPart.{signal_in, period_in, input_in, PeriodsBy, is_free, FreeInputs}

-- A signal that is declared lies in the table.
pub declared-inside : (parts : List Part) (periods : List ℕ) → PeriodsBy parts periods → (k x : ℕ) → is_declared parts k x ≡ true →
    (k < 8) × (x < 64)
declared-inside parts periods t k x e =
    let h = (and-eq-true_iff (ltb k (length parts)) _).0 e in
    let lt = ltb-true k (length parts) h.0 in
    (omega (arith, t.few), omega (arith, t.small k lt, ltb-true x (count (part_at parts k).program) h.1))

-- The period is 0 exactly where there is no such signal.
pub none-period : (parts : List Part) (periods : List ℕ) → PeriodsBy parts periods → (k x : ℕ) → period_in parts k x ≡ 0 →
    is_declared parts k x ≡ false
none-period parts periods t k x e = go (is_declared parts k x) refl e
  where
    go : (b : Bool) → is_declared parts k x ≡ b → cond b (signal_in parts k x).period 0 ≡ 0 → b ≡ false
    go true d q = absurd (omega (arith, t.positive k x d))
    go false d q = refl

pub some-period : (parts : List Part) (k x : ℕ) → zero < period_in parts k x → is_declared parts k x ≡ true
some-period parts k x = go (is_declared parts k x)
  where
    go : (b : Bool) → zero < cond b (signal_in parts k x).period 0 → b ≡ true
    go true q = refl
    go false q = absurd (omega arith)

pub declared-period : (parts : List Part) (k x : ℕ) → is_declared parts k x ≡ true →
    period_in parts k x ≡ (signal_in parts k x).period
declared-period parts k x e = rw e

-- A link l that stands as link i.
module _ (parts : List Part) (links : List ℕ) (i : ℕ) (l : PartLink) where
  abbrev right_by : Bool
  right_by =
      leb (4 * i + 4) (length links) && is_named parts l && all_below i (λ j. not (same_input (link_at links j) l))

  pub record Pieces : Type 0 where
    pub reader : is_declared parts l.input_part l.input ≡ true
    pub source : is_declared parts l.signal_part l.signal ≡ true
    pub other : eqb l.input_part l.signal_part ≡ false
    pub periods : (signal_in parts l.input_part l.input).period ≡ (signal_in parts l.signal_part l.signal).period

  pub pieces : right_by ≡ true → Pieces
  unfolding is_named
  pieces e =
      let D = is_declared parts l.input_part l.input in
      let I = is_input (signal_in parts l.input_part l.input).body in
      let S = is_declared parts l.signal_part l.signal in
      let O = not (eqb l.input_part l.signal_part) in
      let E = eqb (signal_in parts l.input_part l.input).period (signal_in parts l.signal_part l.signal).period in
      let W = leb (4 * i + 4) (length links) in
      let a = (and-eq-true_iff (W && (D && I && S && O && E)) (all_below i (λ j. not (same_input (link_at links j) l)))).0 e in
      let n = (and-eq-true_iff W (D && I && S && O && E)).0 a.0 in
      let b = (and-eq-true_iff (D && I && S && O) E).0 n.1 in
      let c = (and-eq-true_iff (D && I && S) O).0 b.0 in
      let d = (and-eq-true_iff (D && I) S).0 c.0 in
      let f = (and-eq-true_iff D I).0 d.0 in
      record { reader = f.0; source = d.1; other = not-true _ c.1; periods = eqb-true _ _ b.1 }

  pub right_is : 4 * i + 4 ≤ length links → Pieces →
      right_by ≡ is_input (signal_in parts l.input_part l.input).body && is_free links i l.input_part l.input
  unfolding is_named
  right_is whole p =
      rw (
        le-leb (4 * i + 4) (length links) whole,
        p.reader,
        p.source,
        p.other,
        eq-eqb (signal_in parts l.input_part l.input).period (signal_in parts l.signal_part l.signal).period
            p.periods,
      ) (go (is_input (signal_in parts l.input_part l.input).body))
    where
      go : (b : Bool) →
          (b && true && true && true) && is_free links i l.input_part l.input ≡ b && is_free links i l.input_part l.input
      go true = refl
      go false = refl

-- The link whose bytes stand at `at`.
abbrev pub link_from : List ℕ → ℕ → ℕ → PartLink
link_from links i at =
    record {
      place = i;
      input_part = byte_at links at;
      input = byte_at links (at + 1);
      signal_part = byte_at links (at + 2);
      signal = byte_at links (at + 3);
    }

pub right-at : (parts : List Part) (links : List ℕ) (i at : ℕ) → at ≡ 4 * i →
    is_right parts links i ≡ right_by parts links i (link_from links i at)
unfolding is_right
right-at parts links i at e = ap (λ (a : ℕ). right_by parts links i (link_from links i a)) (sym e)

pub right-not : (parts : List Part) (links : List ℕ) (i at : ℕ) → at ≡ 4 * i → ¬ Pieces parts links i (link_from links i at) →
    is_right parts links i ≡ false
right-not parts links i at e u =
    right-at parts links i at e ∙
    not-true-false (right_by parts links i (link_from links i at)) (λ q. u (pieces parts links i (link_from links i at) q))

-- One link more has its IN: the entry of that is false, the others stay.
pub free-next : (parts : List Part) (links : List ℕ) (i at : ℕ) (inputs : List Bool) → at ≡ 4 * i →
    FreeInputs parts links i inputs → byte_at links at < 8 → byte_at links (at + 1) < 64 →
    FreeInputs parts links (suc i) (set inputs (64 * byte_at links at + byte_at links (at + 1)) false)
unfolding all_below
free-next parts links i at inputs e f ka xa =
    record {
      long = length-set inputs _ false ∙ f.long;
      each = λ k x. go k x (eqb (byte_at links (4 * i)) k && eqb (byte_at links (4 * i + 1)) x) refl;
    }
  where
    and-false : (a b : Bool) → a && (b && false) ≡ false
    and-false true true = refl
    and-false true false = refl
    and-false false b = refl

    and-true : (a b : Bool) → a && (b && true) ≡ a && b
    and-true true true = refl
    and-true true false = refl
    and-true false b = refl

    go : (k x : ℕ) (b : Bool) →
        eqb (byte_at links (4 * i)) k && eqb (byte_at links (4 * i + 1)) x ≡ b → k < 8 → x < 64 →
        get_or (set inputs (64 * byte_at links at + byte_at links (at + 1)) false) (64 * k + x) false ≡
        input_in parts k x && (is_free links i k x && not b)
    go k x true q lk lx =
        let h = (and-eq-true_iff (eqb (byte_at links (4 * i)) k) _).0 q in
        let a : byte_at links at ≡ k = ap (byte_at links) e ∙ eqb-true _ _ h.0 in
        let b : byte_at links (at + 1) ≡ x = ap (λ (n : ℕ). byte_at links (n + 1)) e ∙ eqb-true _ _ h.1 in
        let same : 64 * byte_at links at + byte_at links (at + 1) ≡ 64 * k + x = omega (arith, a, b) in
        ap (λ (n : ℕ). get_or (set inputs n false) (64 * k + x) false) same ∙
        get_or-set_same inputs (64 * k + x) false false (omega (arith, f.long)) ∙
        sym (and-false (input_in parts k x) (is_free links i k x))
    go k x false q lk lx =
        get_or-set_other inputs (64 * byte_at links at + byte_at links (at + 1)) (64 * k + x) false false (λ m. apart (sym m)) ∙
        f.each k x lk lx ∙
        sym (and-true (input_in parts k x) (is_free links i k x))
      where
        apart : 64 * byte_at links at + byte_at links (at + 1) ≡ 64 * k + x → ⊥
        apart m =
            let a : byte_at links at ≡ k = omega (arith, m, xa, lx) in
            let b : byte_at links (at + 1) ≡ x = omega (arith, m, a) in
            false≢true (sym q ∙
            (and-eq-true_iff (eqb (byte_at links (4 * i)) k) _).1
            (eq-eqb _ _ (sym (ap (byte_at links) e) ∙ a), eq-eqb _ _ (sym (ap (λ (n : ℕ). byte_at links (n + 1)) e) ∙ b)))

-- A link that is cut is wrong.
pub cut-wrong : (parts : List Part) (links : List ℕ) (i : ℕ) → length links < 4 * i + 4 → is_right parts links i ≡ false
unfolding is_right
cut-wrong parts links i lt = rw (lt-leb (4 * i + 4) (length links) lt)
