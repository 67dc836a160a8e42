-- Two lists of parts with the same programs that settle alike have the same streams and words. Assumes nothing.
use Prim.Native.Nat.{ℕ, zero, suc, ◌+◌, ◌<◌}
use mathlib.Core.List.{List, [], ◌∷◌, map}
use mathlib.Core.Path.{◌≡◌, refl, sym, ap, ap₂, subst, ◌∙◌}
use native.Mathlib.Nat.{zero-add, add_assoc}
use native.Mathlib.Omega.{arith}
use lib.IntN.{ℤ}
use lib.ListN.{length}
use Rattle.model.specs.Rules.Image.{image_of}
use Rattle.model.specs.Rules.Compile.{Pair}
use Rattle.model.specs.Rules.Join.{links_of}
use Rattle.model.specs.Rules.Parts.{
  Part,
  renumber_read,
  ◌⊕◌,
  joined_parts,
  base,
  part_at,
  PartLink,
  Wire,
  wire_of,
  wire_read,
  wired_with,
  joined_pair,
}
use Rattle.model.specs.Rules.Program.{Program, Read, body_reads, count, signal_at}
use Rattle.model.specs.Rules.Reads.{settled}
use Rattle.model.specs.Rules.Schedule.{Schedule}
use Rattle.model.specs.Rules.Word.{AreBytes}
use Rattle.model.specs.Says.Feasible.{All, Met, Feasible, Least}
use Rattle.model.specs.declared.Index.TheVariants.{Fixed, Open}
use Rattle.theorems_joins.specs.Join.{FeasiblePart, LinkNames, LinkedSatisfies, JoinLegal}
use Rattle.theorems_streams.specs.Lists.{SettleAlike, SameWords}
use Rattle.theorems_joins.specs.JoinLists.{PartsAlike}
use Rattle.model.proofs.Basics.All.{all-at, all_of_map, all_map, all_both}
use Rattle.model.proofs.Images.Bounds.{Bounded}
use Rattle.model.proofs.Joining.Numbers.{number-signal, wired-count, wired-signal}
use Rattle.model.proofs.Joining.Parts.{by-signals}
use Rattle.theorems_joins.proofs.Demand as Demand
use Rattle.theorems_joins.proofs.Exact.{all_named, parts-legal-feasible}
use Rattle.theorems_joins.proofs.Parts.{wired-reads, renumber-body-reads, settled-kept}
use Rattle.theorems_joins.proofs.Timely.{pair-embeds}
use Rattle.theorems_streams.specs.Streams.{Satisfies}
use Rattle.theorems_streams.proofs.Alike.{open-alike, alike-satisfy}
use Rattle.theorems_streams.proofs.AlikeLent.{words-alike}

-- Every signal of joined parts is one of a part.
by_parts : (parts : List Part) (P : ℕ → Type 0) →
    ((k y : ℕ) → k < length parts → y < count (part_at parts k).program → P (base parts k + y)) → (x : ℕ) →
    x < count (joined_parts parts).program → P x
unfolding joined_parts base
by_parts [] P h x lt = absurd (omega arith)
by_parts (a ∷ rest) P h x lt =
    by-signals a (joined_parts rest) P (λ y l. subst P (zero-add y) (h 0 y (omega arith) l))
    (by_parts rest (λ y. P (count a.program + y))
    (λ k y lk ly. subst P (add_assoc (count a.program) (base rest k) y) (h (suc k) y (omega arith) ly)))
    x lt

-- The same programs are joined to the same program.
abbrev plain : Program → Part
plain p = record { program = p; schedule = record { order = []; phases = [] } }

same_base : (xs ys : List Part) → length xs ≡ length ys →
    ((k : ℕ) → k < length xs → (part_at xs k).program ≡ (part_at ys k).program) → (k : ℕ) → base xs k ≡ base ys k
unfolding base
same_base [] [] e h k = refl
same_base [] (b ∷ ys) e h k = absurd (omega arith)
same_base (a ∷ xs) [] e h k = absurd (omega arith)
same_base (a ∷ xs) (b ∷ ys) e h zero = refl
same_base (a ∷ xs) (b ∷ ys) e h (suc k) =
    ap₂ (λ (p : Program) (n : ℕ). count p + n) (h 0 (omega arith))
    (same_base xs ys (omega arith) (λ k lt. h (suc k) (omega arith)) k)

same_parts : (xs ys : List Part) → length xs ≡ length ys →
    ((k : ℕ) → k < length xs → (part_at xs k).program ≡ (part_at ys k).program) →
    (joined_parts xs).program ≡ (joined_parts ys).program
unfolding joined_parts ◌⊕◌
same_parts [] [] e h = refl
same_parts [] (b ∷ ys) e h = absurd (omega arith)
same_parts (a ∷ xs) [] e h = absurd (omega arith)
same_parts (a ∷ xs) (b ∷ ys) e h =
    ap₂ (λ (p q : Program). (plain p ⊕ plain q).program) (h 0 (omega arith))
    (same_parts xs ys (omega arith) (λ k lt. h (suc k) (omega arith)))

same-wires : (xs ys : List Part) → ((k : ℕ) → base xs k ≡ base ys k) → (links : List PartLink) →
    map (wire_of xs) links ≡ map (wire_of ys) links
same-wires xs ys e [] = refl
same-wires xs ys e (l ∷ ls) =
    ap₂ (λ (w : Wire) (ws : List Wire). w ∷ ws)
    (λ i. record {
      place = l.place;
      input = e l.input_part i + l.input;
      signal = e l.signal_part i + l.signal;
    })
    (same-wires xs ys e ls)

fixed-open : {n : ℕ} → ¬ (Fixed n ≡ Open)
fixed-open e = let z : ◌≡◌ {A = ℕ} 0 1 = cc in omega arith

module _ (xs ys : List Part) (alike : PartsAlike xs ys) (links : List PartLink) (okx : All FeasiblePart xs)
    (oky : All FeasiblePart ys) (namesx : All (LinkNames xs) links) (namesy : All (LinkNames ys) links) where
  bases : (k : ℕ) → base xs k ≡ base ys k
  bases = same_base xs ys alike.number alike.programs

  pub same-joint : (joined_pair xs links).program ≡ (joined_pair ys links).program
  unfolding joined_pair
  same-joint = ap₂ wired_with (same-wires xs ys bases links) (same_parts xs ys alike.number alike.programs)

  abbrev p : Program
  p = (joined_pair xs links).program

  abbrev s : Schedule
  s = (joined_pair xs links).schedule

  abbrev s' : Schedule
  s' = (joined_pair ys links).schedule

  -- An open read has the same index under both.
  abbrev SameIndex : ℕ → Read → Type 0
  SameIndex x ρ = ρ.operands.index ≡ Open → settled p s x ρ ≡ settled p s' x ρ

  module _ (k y : ℕ) (lk : k < length xs) (ly : y < count (part_at xs k).program) where
    abbrev a : Part
    a = part_at xs k

    abbrev b : Part
    b = part_at ys k

    lk' : k < length ys
    lk' = omega (arith, alike.number)

    same-program : a.program ≡ b.program
    same-program = alike.programs k lk

    second-index : (ρ : Read) → ρ.operands.signal < count a.program →
        settled p s' (base xs k + y) (renumber_read (λ z. base xs k + z) ρ) ≡ settled a.program b.schedule y ρ
    second-index ρ declared =
        ap₂ (λ (q : Program) (n : ℕ). settled q s' (n + y) (renumber_read (λ z. n + z) ρ)) same-joint (bases k) ∙
        settled-kept b.program b.schedule (joined_pair ys links).program s' (λ z. base ys k + z)
        (pair-embeds ys oky links namesy k lk') y (subst (λ (q : Program). y < count q) same-program ly) ρ
        (subst (λ (q : Program). ρ.operands.signal < count q) same-program declared) ∙
        ap (λ (q : Program). settled q b.schedule y ρ) (sym same-program)

    read_alike : (ρ : Read) →
        Met a.program a.schedule y ρ ×
        (ρ.operands.index ≡ Open → settled a.program a.schedule y ρ ≡ settled a.program b.schedule y ρ) →
        SameIndex (base xs k + y) (renumber_read (λ z. base xs k + z) ρ)
    read_alike ρ h u =
        settled-kept a.program a.schedule p s (λ z. base xs k + z) (pair-embeds xs okx links namesx k lk) y ly ρ
        h.0.declared ∙ h.1 u ∙ sym (second-index ρ h.0.declared)

    own-reads : All (SameIndex (base xs k + y)) (body_reads (signal_at (joined_parts xs).program (base xs k + y)).body)
    own-reads =
        let body = (signal_at a.program y).body in
        rw (number-signal xs k y lk ly, renumber-body-reads (λ z. base xs k + z) body)
        (all_of_map (SameIndex (base xs k + y)) (renumber_read (λ z. base xs k + z)) (body_reads body)
        (all_map _ _ read_alike (body_reads body)
        (all_both _ _ (body_reads body) ((all-at FeasiblePart xs _ okx k lk).feasible.met y ly) (alike.settle k lk y ly))))

  -- The read of a link is not open.
  links-fixed : (x : ℕ) (ws : List Wire) → All (λ w. w.input ≡ x → SameIndex x (wire_read w)) ws
  links-fixed x [] = tt
  links-fixed x (w ∷ ws) = (λ e u. absurd (fixed-open u), links-fixed x ws)

  pub joint-alike : SettleAlike p s s'
  unfolding joined_pair
  joint-alike x lt =
      let ws = map (wire_of xs) links in
      let q = (joined_parts xs).program in
      let lx : x < count q = omega (arith, wired-count ws q) in
      rw (wired-signal ws q x lx)
      (wired-reads ws q s (SameIndex x) x (signal_at q x).body ws (links-fixed x ws)
      (by_parts xs (λ z. All (SameIndex z) (body_reads (signal_at q z).body)) own-reads x lx))

-- Two accepted joins of such parts with the same links.
module _ (buffer numbers buffer' numbers' links : List ℕ) (q q' : Pair) (l : JoinLegal buffer numbers links q)
    (l' : JoinLegal buffer' numbers' links q') (alike : PartsAlike l.parts l'.parts) where
  abbrev ls : List PartLink
  ls = links_of links

  ok : All FeasiblePart l.parts
  ok = parts-legal-feasible buffer numbers l.parts l.legal

  ok' : All FeasiblePart l'.parts
  ok' = parts-legal-feasible buffer' numbers' l'.parts l'.legal

  names : All (LinkNames l.parts) ls
  names = all_named l.parts links l.right

  names' : All (LinkNames l'.parts) ls
  names' = all_named l'.parts links l'.right

  pub join-program : q.program ≡ q'.program
  join-program =
      l.joined.program ∙ same-joint l.parts l'.parts alike ls ok ok' names names' ∙ sym l'.joined.program

  pub join-hypercycle : q.hypercycle ≡ q'.hypercycle
  join-hypercycle =
      let a = subst (λ (p : Program). Least p q.hypercycle) (sym l.joined.program) l.joined.hypercycle in
      let b = subst (λ (p : Program). Least p q'.hypercycle) (sym l'.joined.program ∙ sym join-program)
      l'.joined.hypercycle in
      omega (arith, a.least q'.hypercycle b.multiple, b.least q.hypercycle a.multiple)

  pub join-settles : SettleAlike q.program q.schedule q'.schedule
  join-settles =
      subst (λ (s : Schedule). SettleAlike q.program q.schedule s) (sym l'.joined.schedule)
      (subst (λ (s : Schedule). SettleAlike q.program s (joined_pair l'.parts ls).schedule) (sym l.joined.schedule)
      (subst (λ (p : Program). SettleAlike p (joined_pair l.parts ls).schedule (joined_pair l'.parts ls).schedule)
      (sym l.joined.program) (joint-alike l.parts l'.parts alike ls ok ok' names names')))

  abbrev SameWith : Program → ℕ → Type 0
  SameWith p h =
      SameWords q.program q.schedule q'.schedule (image_of q.program q.schedule q.hypercycle)
      (image_of p q'.schedule h)

  -- They store the same words.
  pub join-words : AreBytes buffer → AreBytes buffer' →
      SameWords q.program q.schedule q'.schedule (image_of q.program q.schedule q.hypercycle)
      (image_of q'.program q'.schedule q'.hypercycle)
  join-words bytes bytes' =
      subst (λ (p : Program). SameWith p q'.hypercycle) join-program
      (subst (λ (h : ℕ). SameWith q.program h) join-hypercycle
      (words-alike q.program q.schedule q'.schedule q.hypercycle (Demand.feasible buffer numbers links q l)
      (subst (λ (p : Program). Feasible p q'.schedule) (sym join-program) (Demand.feasible buffer' numbers' links q' l'))
      (Demand.multiple buffer numbers links q l) (Demand.bounded buffer numbers links q l bytes)
      (subst (λ (h : ℕ). Bounded q.program q'.schedule h) (sym join-hypercycle)
      (subst (λ (p : Program). Bounded p q'.schedule q'.hypercycle) (sym join-program)
      (Demand.bounded buffer' numbers' links q' l' bytes')))
      join-settles))

  -- They have the same streams.
  pub join-streams-alike : (inputs X : ℕ → ℕ → ℤ) → LinkedSatisfies l.parts ls inputs X →
      LinkedSatisfies l'.parts ls inputs X
  join-streams-alike inputs X sat =
      Demand.pair-streams-forth buffer' numbers' links q' l' inputs X
      (subst (λ (p : Program). Satisfies p (settled p q'.schedule) inputs X) join-program
      (alike-satisfy q.program q.schedule q'.schedule
      (open-alike q.program q.schedule q'.schedule join-settles) inputs X
      (Demand.pair-streams-back buffer numbers links q l inputs X sat)))
