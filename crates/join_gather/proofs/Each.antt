-- Each accepted part is what its texts say. Assumes nothing.
use Prim.Native.Nat.{ℕ, zero, suc, ◌+◌, ◌<◌}
use mathlib.Core.List.{List, [], ◌∷◌}
use mathlib.Core.Path.{◌≡◌, sym, ap, subst, ◌∙◌}
use native.Mathlib.Omega.{arith}
use lib.ListN.{length}
use Rattle.model.specs.Rules.Compile.{Pair, pair_of}
use Rattle.model.specs.Rules.Join.{parts_in, texts_at, program_text, schedule_text, part_pair, parts_from}
use Rattle.model.specs.Rules.Outcome.{accepted}
use Rattle.model.specs.Rules.Parts.{Part, part_at}
use Rattle.model.proofs.Basics.Outcomes.{then-accepted, accepted-same}
use Rattle.join_gather.proofs.Gathers.{as_part}

pub record PartOf (texts numbers : List ℕ) (parts : List Part) (k : ℕ) : Type 0 where
  pub pair : Pair
  pub checked : pair_of (program_text texts (texts_at numbers k)) (schedule_text texts (texts_at numbers k)) ≡ accepted pair
  pub is : part_at parts k ≡ as_part pair

-- There are as many as the numbers say.
pub parts-count : (texts numbers : List ℕ) (n k : ℕ) (parts : List Part) → parts_from texts numbers k n ≡ accepted parts →
    length parts ≡ n
unfolding parts_from
parts-count texts numbers zero k parts e = ap length (sym (accepted-same [] parts e))
parts-count texts numbers (suc n) k parts e =
    let a = then-accepted (part_pair texts (texts_at numbers k)) _ parts e in
    let b = then-accepted (parts_from texts numbers (suc k) n) _ parts a.2 in
    let s : as_part a.0 ∷ b.0 ≡ parts = accepted-same _ _ b.2 in
    ap length (sym s) ∙ ap suc (parts-count texts numbers n (suc k) b.0 b.1)

parts-each : (texts numbers : List ℕ) (n k : ℕ) (parts : List Part) → parts_from texts numbers k n ≡ accepted parts →
    (j : ℕ) → j < n → (q : Pair) × (part_pair texts (texts_at numbers (k + j)) ≡ accepted q) × (part_at parts j ≡ as_part q)
unfolding parts_from
parts-each texts numbers zero k parts e j lt = absurd (omega arith)
parts-each texts numbers (suc n) k parts e zero lt =
    let a = then-accepted (part_pair texts (texts_at numbers k)) _ parts e in
    let b = then-accepted (parts_from texts numbers (suc k) n) _ parts a.2 in
    let s : as_part a.0 ∷ b.0 ≡ parts = accepted-same _ _ b.2 in
    let z : k ≡ k + 0 = omega arith in (
      a.0,
      subst (λ (m : ℕ). part_pair texts (texts_at numbers m) ≡ accepted a.0) z a.1,
      ap (λ (l : List Part). part_at l 0) (sym s),
    )
parts-each texts numbers (suc n) k parts e (suc j) lt =
    let a = then-accepted (part_pair texts (texts_at numbers k)) _ parts e in
    let b = then-accepted (parts_from texts numbers (suc k) n) _ parts a.2 in
    let s : as_part a.0 ∷ b.0 ≡ parts = accepted-same _ _ b.2 in
    let h = parts-each texts numbers n (suc k) b.0 b.1 j (omega arith) in
    let z : suc k + j ≡ k + suc j = omega arith in (
      h.0,
      subst (λ (m : ℕ). part_pair texts (texts_at numbers m) ≡ accepted h.0) z h.1,
      ap (λ (l : List Part). part_at l (suc j)) (sym s) ∙ h.2,
    )

pub part_of : (texts numbers : List ℕ) (parts : List Part) →
    parts_from texts numbers 0 (parts_in numbers) ≡ accepted parts → (k : ℕ) → k < length parts →
    PartOf texts numbers parts k
unfolding part_pair
part_of texts numbers parts e k lt =
    let n = parts-count texts numbers (parts_in numbers) 0 parts e in
    let h = parts-each texts numbers (parts_in numbers) 0 parts e k (omega arith) in
    let z : 0 + k ≡ k = omega arith in
    record {
      pair = h.0;
      checked = subst (λ (m : ℕ). part_pair texts (texts_at numbers m) ≡ accepted h.0) z h.1;
      is = h.2;
    }
