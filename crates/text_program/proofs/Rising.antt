-- The reads and the LINKs of an accepted text stand at rising offsets. Assumes nothing.
use Prim.Native.Nat.{ℕ, zero, suc, ◌+◌, ◌≤◌, ◌<◌}
use mathlib.Core.List.{List, [], ◌∷◌, ◌++◌, map, map-append}
use native.Mathlib.Omega.{arith}
use lib.ListN.{length, get_or}
use Rattle.model.specs.Says.Grammar.{Spells, SpellsLinks, DeclaresOne, Declares, LegalProgram}
use Rattle.model.specs.Rules.Program.{
  least_factor,
  Expr,
  Signal,
  Link,
  Chain,
  Program,
  reads_of,
  body_reads,
}
use Rattle.model.proofs.Texts.Legal.{links_end, read-width}
use Rattle.text_program.specs.Walks.{places_of}
use Rattle.text_program.proofs.Walks.{spans}

-- Numbers that rise from a on, below b.
abbrev pub Rising : ℕ → List ℕ → ℕ → Type 0
Rising a [] b = a ≤ b
Rising a (x ∷ xs) b = (a ≤ x) × Rising (suc x) xs b

rising-less : (a c : ℕ) (xs : List ℕ) (b : ℕ) → c ≤ a → Rising a xs b → Rising c xs b
rising-less a c [] b h r = omega arith
rising-less a c (x ∷ xs) b h r = (omega (arith, r.0), r.1)

rising-more : (a : ℕ) (xs : List ℕ) (b c : ℕ) → b ≤ c → Rising a xs b → Rising a xs c
rising-more a [] b c h r = omega arith
rising-more a (x ∷ xs) b c h r = (r.0, rising-more (suc x) xs b c h r.1)

rising-append : (a : ℕ) (xs : List ℕ) (b : ℕ) (ys : List ℕ) (c : ℕ) → Rising a xs b → Rising b ys c → Rising a (xs ++ ys) c
rising-append a [] b ys c h g = rising-less b a ys c h g
rising-append a (x ∷ xs) b ys c h g = (h.0, rising-append (suc x) xs b ys c h.1 g)

pub rising_le : (a : ℕ) (xs : List ℕ) (b : ℕ) → Rising a xs b → a ≤ b
rising_le a [] b r = r
rising_le a (x ∷ xs) b r = omega (arith, r.0, rising_le (suc x) xs b r.1)

-- The places of elements rise, element after element, from a on, below b.
module _ {A : Type 0} (places : A → List ℕ) where
  abbrev pub InTurn : ℕ → List A → ℕ → Type 0
  InTurn a [] b = a ≤ b
  InTurn a (x ∷ xs) b = (m : ℕ) × Rising a (places x) m × InTurn m xs b

  pub turn-le : (a : ℕ) (xs : List A) (b : ℕ) → InTurn a xs b → a ≤ b
  turn-le a [] b h = h
  turn-le a (x ∷ xs) b h = omega (arith, rising_le a (places x) h.0 h.1, turn-le h.0 xs b h.2)

  turn_more : (a : ℕ) (xs : List A) (b c : ℕ) → b ≤ c → InTurn a xs b → InTurn a xs c
  turn_more a [] b c le h = omega arith
  turn_more a (x ∷ xs) b c le h = (h.0, h.1, turn_more h.0 xs b c le h.2)

  turn-snoc : (a : ℕ) (xs : List A) (b : ℕ) (x : A) (c : ℕ) → InTurn a xs b → Rising b (places x) c → InTurn a (xs ++ (x ∷ [])) c
  turn-snoc a [] b x c h r = (c, rising-less b a (places x) c h r, omega arith)
  turn-snoc a (y ∷ ys) b x c h r = (h.0, h.1, turn-snoc h.0 ys b x c h.2 r)

module _ {text : List ℕ} where
  rising-expr : {at n : ℕ} {e : Expr} → Spells least_factor text at e n → Rising at (places_of (reads_of e)) n
  unfolding reads_of
  rising-expr (Spells.constants e) = omega arith
  rising-expr (Spells.reads {kind = kind} e a) = (omega arith, omega (arith, read-width kind))
  rising-expr (Spells.two {at = at} {m = m} {n = n} {x = x} {y = y} e u v) =
      rw map-append
      (rising-less (at + 1) at (places_of (reads_of x) ++ places_of (reads_of y)) n (omega arith)
      (rising-append (at + 1) (places_of (reads_of x)) m (places_of (reads_of y)) n (rising-expr u) (rising-expr v)))
  rising-expr (Spells.one {at = at} {n = n} {x = x} e u) =
      rising-less (at + 1) at (places_of (reads_of x)) n (omega arith) (rising-expr u)
  rising-expr (Spells.three {at = at} {m = m} {n = n} {o = o} {x = x} {y = y} {z = z} e u v w) =
      rw (map-append, map-append)
      (rising-less (at + 1) at (places_of (reads_of x) ++ (places_of (reads_of y) ++ places_of (reads_of z))) o (omega arith)
      (rising-append (at + 1) (places_of (reads_of x)) m (places_of (reads_of y) ++ places_of (reads_of z)) o (rising-expr u)
      (rising-append m (places_of (reads_of y)) n (places_of (reads_of z)) o (rising-expr v) (rising-expr w))))

module _ {A : Type 0} (places : A → List ℕ) where
  pub turn_at : (a : ℕ) (xs : List A) (b j : ℕ) (d : A) → j < length xs → InTurn places a xs b →
      (m n : ℕ) × Rising m (places (get_or xs j d)) n
  turn_at a [] b j d lt h = absurd (omega arith)
  turn_at a (x ∷ xs) b zero d lt h = (a, h.0, h.1)
  turn_at a (x ∷ xs) b (suc j) d lt h = turn_at h.0 xs b j d (omega arith) h.2

-- The places of the reads of a signal, and of a LAT and its LINKs.
abbrev pub signal_places : Signal → List ℕ
signal_places x = places_of (body_reads x.body)

abbrev pub chain_places : Chain → List ℕ
chain_places c = c.place ∷ map (λ (l : Link). l.place) c.links

-- Both rise up to `at`.
pub record Rises (p : Program) (at : ℕ) : Type 0 where
  pub signals : InTurn signal_places 0 p.signals at
  pub chains : InTurn chain_places 0 p.chains at

-- Where nothing more stands up to `next`.
rises-more : (p : Program) (at next : ℕ) → at ≤ next → Rises p at → Rises p next
rises-more p at next le h =
    record {
      signals = turn_more signal_places 0 p.signals at next le h.signals;
      chains = turn_more chain_places 0 p.chains at next le h.chains;
    }

module _ {text : List ℕ} where
  rising-links : {at n : ℕ} {ls : List Link} → SpellsLinks text at ls n → Rising at (map (λ (l : Link). l.place) ls) n
  rising-links (SpellsLinks.ends e) = omega arith
  rising-links (SpellsLinks.link {at = at} {n = n} {ls = ls} e le r) =
      (omega arith, rising-less (at + 2) (suc at) (map (λ (l : Link). l.place) ls) n (omega arith) (rising-links r))

  rising-one : {at label next given : ℕ} {p q : Program} → DeclaresOne least_factor text at label p next given q → Rises p at →
      Rises q next
  rising-one (DeclaresOne.inputs {at = at} {p = p} room e) h =
      let m = rises-more p at (at + 6) (omega arith) h in
      record {
        signals = turn-snoc signal_places 0 p.signals at _ (at + 6) h.signals (omega arith);
        chains = m.chains;
      }
  rising-one (DeclaresOne.equations {at = at} {next = next} {e = x} {p = p} room e u d) h =
      let m = rises-more p at next (omega (arith, (spans u).small)) h in
      record {
        signals =
            turn-snoc signal_places 0 p.signals at _ next h.signals
            (rising-less (at + 8) at (places_of (reads_of x)) next (omega arith) (rising-expr u));
        chains = m.chains;
      }
  rising-one (DeclaresOne.chains {at = at} {next = next} {ls = ls} {p = p} room e u several few) h =
      let m = rises-more p at next (omega (arith, links_end u)) h in
      record {
        signals = m.signals;
        chains =
            turn-snoc chain_places 0 p.chains at _ next h.chains
            (omega arith, rising-less (at + 4) (suc at) (map (λ (l : Link). l.place) ls) next (omega arith) (rising-links u));
      }
  rising-one (DeclaresOne.caps {at = at} {p = p} room e) h =
      let m = rises-more p at (at + 5) (omega arith) h in record { signals = m.signals; chains = m.chains }
  rising-one (DeclaresOne.tags {at = at} {p = p} e more s) h = rises-more p at (at + 3) (omega arith) h
  rising-one (DeclaresOne.rows {at = at} {p = p} room e) h =
      let m = rises-more p at (at + 13) (omega arith) h in record { signals = m.signals; chains = m.chains }

  rising-declares : {at label end : ℕ} {p q : Program} → Declares least_factor text at label p end q → Rises p at → Rises q end
  rising-declares (Declares.ends e le) h = h
  rising-declares (Declares.onward d r) h = rising-declares r (rising-one d h)

pub rising-program : (text : List ℕ) (p : Program) → LegalProgram text p → (end : ℕ) × Rises p end
rising-program text p d = (d.0, rising-declares d.1 (record { signals = omega arith; chains = omega arith }))
