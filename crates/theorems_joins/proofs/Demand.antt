-- Demand 3 of joined parts: their streams exist, are unique, and hold after any list of calls on the joined image.
-- Assumes nothing.
use Prim.Native.Nat.{ℕ, zero, suc, ◌+◌, ◌-◌, ◌≤◌, ◌<◌}
use mathlib.Core.List.{List, [], ◌∷◌, map}
use mathlib.Core.Path.{◌≡◌, refl, sym, ap, ap₂, subst}
use native.Mathlib.Decide.{dec_lt}
use native.Mathlib.Nat.{zero-add}
use native.Mathlib.Omega.{arith}
use lib.IntN.{ℤ}
use lib.ListN.{length, get_or, take, drop, length-take, length-drop}
use lib.Seq.{get_or-take, get_or-drop}
use Rattle.model.specs.Rules.Compile.{Pair}
use Rattle.model.specs.Rules.Image.{image_of}
use Rattle.model.specs.Rules.Join.{PartTexts, parts_in, texts_at, program_total, program_text, schedule_text, links_of}
use Rattle.model.specs.Rules.Machine.{stretch, reset_of}
use Rattle.model.specs.Rules.Outcome.{accepted}
use Rattle.model.specs.Rules.Parts.{Part, part_at, joined_pair}
use Rattle.model.specs.Rules.Program.{Program, Chain, count}
use Rattle.model.specs.Rules.Reads.{settled}
use Rattle.model.specs.Rules.Schedule.{Schedule}
use Rattle.model.specs.Rules.Search.{sum, table_from, table}
use Rattle.model.specs.Rules.Tail.{Bears}
use Rattle.model.specs.Rules.Word.{AreBytes}
use Rattle.model.specs.Says.Calls.{Call}
use Rattle.model.specs.Says.Feasible.{All, Feasible, Multiple}
use Rattle.model.proofs.Images.Bounds.{Bounded}
use Rattle.theorems_pairs.specs.Conditions.{◌among◌, KeepsTime}
use Rattle.theorems_joins.specs.Join.{
  LinkMet,
  LinkNames,
  FeasiblePart,
  OneTable,
  LinkedSatisfies,
  BothLent,
  TextsLent,
  PartLegal,
  PartsLegal,
  JoinLegal,
}
use Rattle.theorems_joins.specs.Composed.{Composed}
use Rattle.theorems_joins.specs.JoinLists.{JoinKept, JoinKeptBy}
use Rattle.theorems_streams.specs.Lists.{
  after_reset,
  Lent,
  owns,
  left_all,
  own_answers,
  own_log,
  OwnsBear,
  OthersRefused,
}
use Rattle.theorems_streams.specs.Streams.{Satisfies}
use Rattle.theorems_joins.proofs.Composed.{links-distinct, composed}
use Rattle.theorems_joins.proofs.Bounds.{TextPart, tree_of, text_total, joined-bounded}
use Rattle.theorems_joins.proofs.Exact.{all_named, parts-legal-feasible}
use Rattle.theorems_joins.proofs.Parts.{joined-feasible, joined-streams}
use Rattle.theorems_joins.proofs.Timely.{TimelyPart, text-timely, joined-timely}
use Rattle.theorems_pairs.proofs.Exact.{accepted-exactly}
use Rattle.theorems_pairs.proofs.Faults.{all_among}
use Rattle.theorems_streams.proofs.Lending as Lending
use Rattle.model.proofs.Images.Tails as Tails
use Rattle.theorems_streams.proofs.Unique as Unique

-- A stretch of bytes is bytes.
stretch-bytes : (buffer : List ℕ) (from to : ℕ) → AreBytes buffer → AreBytes (stretch buffer from to)
stretch-bytes buffer from to bytes i = go (dec_lt i (to - from))
  where
    past : (l : List ℕ) (i : ℕ) → length l ≤ i → get_or l i 0 ≡ 0
    past [] i h = refl
    past (x ∷ l) zero h = absurd (omega arith)
    past (x ∷ l) (suc i) h = past l i (omega arith)

    go : Dec (i < to - from) → get_or (stretch buffer from to) i 0 < 256
    go (yes lt) = rw (get_or-take (to - from) (drop from buffer) i 0 lt, get_or-drop from buffer i 0) (bytes (from + i))
    go (no ge) =
        let short : length (stretch buffer from to) ≤ i = simp (length-take, length-drop) (omega arith) in
        rw (past (stretch buffer from to) i short) (omega arith)

-- The parts with their texts.
module _ (buffer numbers : List ℕ) (bytes : AreBytes buffer) where
  abbrev size : ℕ → ℕ
  size k = (texts_at numbers k).program_length

  text_part : (t : PartTexts) (a : Part) → PartLegal buffer t a → TextPart
  text_part t a l =
      record {
        program = program_text buffer t;
        schedule = schedule_text buffer t;
        pair = record { program = a.program; schedule = a.schedule; hypercycle = l.0 };
        accepts = (accepted-exactly (program_text buffer t) (schedule_text buffer t) _).1 l.1;
        bytes = stretch-bytes buffer t.program (t.program + t.program_length) bytes;
      }

  pub record Texts (k n : ℕ) (parts : List Part) : Type 0 where
    pub texts : List TextPart
    pub trees : map tree_of texts ≡ parts
    pub total : text_total texts ≡ sum (table_from k n size)

  texts-from : (k n : ℕ) (parts : List Part) → length parts ≡ n →
      ((i : ℕ) → i < n → PartLegal buffer (texts_at numbers (k + i)) (part_at parts i)) →
      ((i : ℕ) → i < n → BothLent buffer (texts_at numbers (k + i))) → Texts k n parts
  unfolding text_part table_from sum
  texts-from k zero [] e each inside = record { texts = []; trees = refl; total = refl }
  texts-from k zero (a ∷ parts) e each inside = absurd (omega arith)
  texts-from k (suc n) [] e each inside = absurd (omega arith)
  texts-from k (suc n) (a ∷ parts) e each inside =
      let t = texts_at numbers k in
      let z : k + 0 ≡ k = omega arith in
      let l = subst (λ (i : ℕ). PartLegal buffer (texts_at numbers i) a) z (each 0 (omega arith)) in
      let b = subst (λ (i : ℕ). BothLent buffer (texts_at numbers i)) z (inside 0 (omega arith)) in
      let rest =
      texts-from (suc k) n parts (omega arith)
      (λ i lt.
      let q : k + suc i ≡ suc k + i = omega arith in
      subst (λ (j : ℕ). PartLegal buffer (texts_at numbers j) (part_at parts i)) q (each (suc i) (omega arith)))
      (λ i lt.
      let q : k + suc i ≡ suc k + i = omega arith in
      subst (λ (j : ℕ). BothLent buffer (texts_at numbers j)) q (inside (suc i) (omega arith))) in
      let long : length (program_text buffer t) ≡ size k = simp (length-take, length-drop) (omega (arith, b.0)) in
      record {
        texts = text_part t a l ∷ rest.texts;
        trees = ap (λ (ps : List Part). a ∷ ps) rest.trees;
        total = ap₂ ◌+◌ long rest.total;
      }

  all-texts : TextsLent buffer numbers → (parts : List Part) → PartsLegal buffer numbers parts → Texts 0 (parts_in numbers) parts
  all-texts lent parts legal =
      texts-from 0 (parts_in numbers) parts legal.count-is
      (λ i lt.
      subst (λ (j : ℕ). PartLegal buffer (texts_at numbers j) (part_at parts i)) (sym (zero-add i))
      (legal.each i (omega (arith, legal.count-is))))
      (λ i lt. subst (λ (j : ℕ). BothLent buffer (texts_at numbers j)) (sym (zero-add i)) (lent.inside i lt))

-- An accepted join.
module _ (buffer numbers links : List ℕ) (q : Pair) (l : JoinLegal buffer numbers links q) where
  abbrev joint : Part
  joint = joined_pair l.parts (links_of links)

  pub names : All (LinkNames l.parts) (links_of links)
  names = all_named l.parts links l.right

  pub feasible-parts : All FeasiblePart l.parts
  feasible-parts = parts-legal-feasible buffer numbers l.parts l.legal

  joint-feasible : FeasiblePart joint
  joint-feasible = joined-feasible l.parts feasible-parts (links_of links) names l.joined.met

  joint-bounded : AreBytes buffer → Bounded joint.program joint.schedule q.hypercycle
  unfolding program_total table
  joint-bounded bytes =
      let x = all-texts buffer numbers bytes l.lent l.parts l.legal in
      go l.parts x.trees x.total l.table names l.joined.met l.joined.few.0 l.joined.hypercycle.multiple
    where
      texts : List TextPart
      texts = (all-texts buffer numbers bytes l.lent l.parts l.legal).texts

      go : (parts : List Part) → map tree_of texts ≡ parts → text_total texts ≡ program_total numbers → OneTable parts →
          All (LinkNames parts) (links_of links) → All (LinkMet parts) (links_of links) →
          count (joined_pair parts (links_of links)).program ≤ 64 →
          Multiple (joined_pair parts (links_of links)).program q.hypercycle →
          Bounded (joined_pair parts (links_of links)).program (joined_pair parts (links_of links)).schedule q.hypercycle
      go parts e =
          subst (λ (ps : List Part).
          text_total texts ≡ program_total numbers → OneTable ps →
          All (LinkNames ps) (links_of links) → All (LinkMet ps) (links_of links) →
          count (joined_pair ps (links_of links)).program ≤ 64 →
          Multiple (joined_pair ps (links_of links)).program q.hypercycle →
          Bounded (joined_pair ps (links_of links)).program (joined_pair ps (links_of links)).schedule q.hypercycle) e
          (λ total table ns met few whole.
          joined-bounded texts (omega (arith, l.lent.short)) table (links_of links) ns met q.hypercycle few whole
          l.joined.hypercycle.bound)

  -- The same of the pair.
  on-pair : (P : Program → Schedule → Type 0) → P joint.program joint.schedule → P q.program q.schedule
  on-pair P h =
      subst (λ (s : Schedule). P q.program s) (sym l.joined.schedule)
      (subst (λ (p : Program). P p joint.schedule) (sym l.joined.program) h)

  pub feasible : Feasible q.program q.schedule
  feasible = on-pair Feasible joint-feasible.feasible

  pub multiple : Multiple q.program q.hypercycle
  multiple = on-pair (λ p s. Multiple p q.hypercycle) l.joined.hypercycle.multiple

  pub bounded : AreBytes buffer → Bounded q.program q.schedule q.hypercycle
  bounded bytes = on-pair (λ p s. Bounded p s q.hypercycle) (joint-bounded bytes)

  -- X satisfies the equations of the pair exactly if it satisfies those of all parts and links together.
  pub pair-streams-forth : (inputs X : ℕ → ℕ → ℤ) → Satisfies q.program (settled q.program q.schedule) inputs X →
      LinkedSatisfies l.parts (links_of links) inputs X
  pair-streams-forth inputs X =
      on-pair (λ p s. Satisfies p (settled p s) inputs X → LinkedSatisfies l.parts (links_of links) inputs X)
      (joined-streams l.parts feasible-parts (links_of links) names l.table inputs X).0

  pub pair-streams-back : (inputs X : ℕ → ℕ → ℤ) → LinkedSatisfies l.parts (links_of links) inputs X →
      Satisfies q.program (settled q.program q.schedule) inputs X
  pair-streams-back inputs X =
      on-pair (λ p s. LinkedSatisfies l.parts (links_of links) inputs X → Satisfies p (settled p s) inputs X)
      (joined-streams l.parts feasible-parts (links_of links) names l.table inputs X).1

  -- For any input elements there are streams that satisfy the equations of all parts and links together ..
  pub streams-exist : (inputs : ℕ → ℕ → ℤ) → (X : ℕ → ℕ → ℤ) × LinkedSatisfies l.parts (links_of links) inputs X
  streams-exist inputs =
      let X = Unique.streams q.program q.schedule feasible inputs in
      (X, pair-streams-forth inputs X (Unique.streams-satisfy q.program q.schedule feasible inputs))

  -- .. and all others that satisfy them have the same elements throughout.
  pub streams-unique : (inputs X Y : ℕ → ℕ → ℤ) → LinkedSatisfies l.parts (links_of links) inputs X →
      LinkedSatisfies l.parts (links_of links) inputs Y → (x j : ℕ) → x < count q.program → X x j ≡ Y x j
  streams-unique inputs X Y f g =
      Unique.streams-unique q.program q.schedule feasible inputs X Y (pair-streams-back inputs X f)
      (pair-streams-back inputs Y g)

  -- The pair is the parts and links joined.
  pub join-composed : Composed l.parts (links_of links) q.program q.schedule
  join-composed =
      on-pair (λ p s. Composed l.parts (links_of links) p s)
      (composed l.parts feasible-parts (links_of links) names (links-distinct l.parts links l.right) l.table)

  -- Every chain keeps its time: no joined 16 is needed.
  pub join-timely : AreBytes buffer → (c : Chain) → c among q.program.chains → KeepsTime q.program q.schedule c
  join-timely bytes =
      all_among (KeepsTime q.program q.schedule) q.program.chains
      (on-pair (λ p s. All (KeepsTime p s) p.chains)
      (joined-timely l.parts feasible-parts (links_of links) names
      (subst (All TimelyPart) texts.trees (each texts.texts))))
    where
      texts : Texts buffer numbers bytes 0 (parts_in numbers) l.parts
      texts = all-texts buffer numbers bytes l.lent l.parts l.legal

      each : (ts : List TextPart) → All TimelyPart (map tree_of ts)
      each [] = tt
      each (t ∷ ts) = (text-timely t, each ts)

  -- After a reset that is not refused, any list of resets and cycles, all lent the joined image with a tail or without, holds the
  -- streams.
  pub calls-hold : AreBytes buffer → (tail lent : List ℕ) → Bears (image_of q.program q.schedule q.hypercycle) tail lent →
      (old : List ℤ) → (reset_of lent old).answer ≡ accepted 0 → (cs : List Call) →
      JoinKeptBy l.parts (links_of links) q lent old cs
  calls-hold bytes tail lent bears old r cs =
      let p = q.program in
      let s = q.schedule in
      let h = q.hypercycle in
      let long = Lending.lent-long p s h feasible multiple (bounded bytes) bears old r in
      record {
        answered = Lending.list-answered p s h feasible multiple (bounded bytes) bears old long cs;
        holds = λ inputs X sup sat.
            Lending.list-holds p s h feasible multiple (bounded bytes) bears old long cs inputs X sup
            (pair-streams-back inputs X sat);
      }

  -- The same with calls in between that are lent something else and are refused.
  pub calls-among : AreBytes buffer → (size : ℕ) (memory tail : List ℕ) →
      Bears (image_of q.program q.schedule q.hypercycle) tail (take size memory) → (old : List ℤ) →
      (reset_of (take size memory) old).answer ≡ accepted 0 → (ls : List Lent) →
      OwnsBear (image_of q.program q.schedule q.hypercycle) memory ls →
      let m = after_reset size memory old in
      OthersRefused m ls →
      JoinKept l.parts (links_of links) q old (owns ls) (own_answers m ls) (own_log m [] ls) (left_all m ls).state
  calls-among bytes size memory tail bears old r ls own others =
      let p = q.program in
      let s = q.schedule in
      let h = q.hypercycle in
      let itself = Tails.bears-itself (image_of p s h) in
      let a = Lending.among p s h feasible multiple (bounded bytes) size memory bears old ls own others in
      rw (a.0, a.1, a.2)
      (calls-hold bytes [] (image_of p s h) itself old
      (Lending.reset-itself p s h feasible multiple (bounded bytes) size memory bears old r) (owns ls))
