-- The check of the rows decides its condition, and refuses with the fault that the paper gives: 29 and 30. Assumes nothing.
use Rattle.std.specs.Prelude.{Option, Some, None}
use Prim.Native.Nat.{ℕ, ◌+◌, ◌<◌}
use mathlib.Core.Bool.{Bool, true, false, cond}
use mathlib.Core.List.{List}
use mathlib.Core.Path.{◌≡◌, refl, ap, ◌∙◌}
use native.Mathlib.Omega.{arith}
use borrow.Author.Tests.{ltb-true, ltb-false, lt-ltb}
use lib.Dec.{ltb}
use lib.ListN.{length}
use Rattle.model.specs.Rules.Cover.{meets_earlier, meeting_of, no_gap, covering, tabled}
use Rattle.model.specs.Rules.Outcome.{Outcome, accepted, refused, refuse, ◌▷◌, provided}
use Rattle.model.specs.Rules.Program.{Program, lookups}
use Rattle.model.specs.Rules.Search.{first_below}
use Rattle.model.specs.Rules.Table.{Row, row_at}
use Rattle.model.specs.Says.Grammar.{LegalProgram}
use Rattle.model.specs.Says.Rows.{AllUpright, Covers, Disjoint, FirstMeets, Gap}
use Rattle.model.specs.declared.Fault.{Fault}
use Rattle.theorems_pairs.specs.Conditions.{HasTable, Tabled}
use Rattle.theorems_pairs.specs.Refusals.{TableFault}
use Rattle.model.proofs.Rows.Decided.{
  first-meets,
  none-meets,
  gapless-full,
  gap,
  never-twice,
  same_row,
  covers-disjoint,
  covers-full,
}
use Rattle.model.proofs.Texts.Legal.{Legal, row-spelled, row-upright, legal}
use Rattle.model.specs.Says.Stands.{SpellsRow}
use Rattle.theorems_pairs.proofs.Judged.{Judged}
use Rattle.theorems_pairs.proofs.Lookups.{has-table}
use Rattle.model.proofs.Texts.Parses.{program-legal}

-- A legal text, and what its rows are.
module _ (text : List ℕ) (p : Program) (l : LegalProgram text p) where
  lawful : (end : ℕ) × Legal text end p × (length text ≡ end + 1)
  lawful = legal text p ((program-legal text p).1 l)

  pub row_written : (n : ℕ) → n < length p.rows → SpellsRow text (row_at p.rows n)
  row_written n lt = row-spelled lawful.1 n lt

  rows-upright : AllUpright p.rows
  rows-upright n lt = row-upright lawful.1 n lt

-- What the check says, and the condition of it.
data Says (rows : List Row) : Outcome (Unit {0}) → Type 0 where
  covers : Covers rows → Says rows (accepted tt)
  meets : (n : ℕ) → FirstMeets rows n → Says rows (refuse 29 (row_at rows n).place)
  gaps : Disjoint rows → Gap rows → Says rows (refuse 30 0)

says : (rows : List Row) → AllUpright rows → Says rows (covering rows)
unfolding covering ◌▷◌ provided
says rows up = go (first_below (length rows) (meets_earlier rows)) refl (no_gap rows) refl
  where
    go : (f : Option ℕ) → first_below (length rows) (meets_earlier rows) ≡ f → (t : Bool) → no_gap rows ≡ t →
        Says rows (meeting_of rows f ▷ λ _. provided t 30 0)
    go (Some n) e t k = Says.meets n (first-meets rows up n e)
    go None e true k =
        Says.covers
        (λ w f. let s = gapless-full rows up k w f in (s.0, s.1, λ m l. none-meets rows up e w f m s.0 l s.1))
    go None e false k = Says.gaps (none-meets rows up e) (gap rows up (none-meets rows up e) k)

-- There is one right answer.
module _ (rows : List Row) where
  covers-said : {o : Outcome (Unit {0})} → Says rows o → Covers rows → o ≡ accepted tt
  covers-said (Says.covers c) d = refl
  covers-said (Says.meets n h) d = absurd (never-twice rows (covers-disjoint rows d) n h)
  covers-said (Says.gaps u g) d = absurd (covers-full rows d g)

  meets-said : {o : Outcome (Unit {0})} → Says rows o → (n : ℕ) → FirstMeets rows n → o ≡ refuse 29 (row_at rows n).place
  meets-said (Says.covers c) n h = absurd (never-twice rows (covers-disjoint rows c) n h)
  meets-said (Says.meets m k) n h = ap (λ (i : ℕ). refuse 29 (row_at rows i).place) (same_row rows m n k h)
  meets-said (Says.gaps u g) n h = absurd (never-twice rows u n h)

  gap-said : {o : Outcome (Unit {0})} → Says rows o → Disjoint rows → Gap rows → o ≡ refuse 30 0
  gap-said (Says.covers c) u g = absurd (covers-full rows c g)
  gap-said (Says.meets m k) u g = absurd (never-twice rows u m k)
  gap-said (Says.gaps v h) u g = refl

module _ (text : List ℕ) (p : Program) (l : LegalProgram text p) where
  up : AllUpright p.rows
  up = rows-upright text p l

  said : Says p.rows (covering p.rows)
  said = says p.rows up

  has : HasTable p → tabled p ≡ covering p.rows
  unfolding tabled
  has some = rw (lt-ltb 0 (length p.rows + lookups p.signals) ((has-table p).0 some))

  -- Whatever the check says, its condition holds.
  Holds : Outcome (Unit {0}) → Type 0
  Holds (accepted u) = Tabled p
  Holds (refused f) = TableFault p f

  says_holds : HasTable p → {o : Outcome (Unit {0})} → Says p.rows o → Holds o
  unfolding Holds
  says_holds some (Says.covers c) = λ t. c
  says_holds some (Says.meets n h) = TableFault.meets n h
  says_holds some (Says.gaps u g) = TableFault.gap some u g

  holds : Holds (tabled p)
  unfolding tabled Holds
  holds = go (ltb 0 (length p.rows + lookups p.signals)) refl
    where
      go : (b : Bool) → ltb 0 (length p.rows + lookups p.signals) ≡ b → Holds (cond b (covering p.rows) (accepted tt))
      go true e = says_holds ((has-table p).1 (ltb-true 0 _ e)) said
      go false e =
          λ some. absurd (omega (arith, (has-table p).0 some, ltb-false 0 (length p.rows + lookups p.signals) e))

  accepts : Tabled p → tabled p ≡ accepted tt
  unfolding tabled
  accepts c = go (ltb 0 (length p.rows + lookups p.signals)) refl
    where
      go : (b : Bool) → ltb 0 (length p.rows + lookups p.signals) ≡ b →
          cond b (covering p.rows) (accepted tt) ≡ accepted tt
      go true e = covers-said p.rows said (c ((has-table p).1 (ltb-true 0 _ e)))
      go false e = refl

  refuses : {f : Fault} → TableFault p f → tabled p ≡ refused f
  refuses (TableFault.meets n h) = has (HasTable.row (omega (arith, h.inside))) ∙ meets-said p.rows said n h
  refuses (TableFault.gap some u g) = has some ∙ gap-said p.rows said u g

  pub tabled-judged : Judged (λ (u : Unit {0}). Tabled p) (TableFault p) (tabled p)
  unfolding Holds
  tabled-judged =
      record {
        accepts = λ u. (λ e. rw e at holds, λ c. accepts c);
        refuses = λ f. (λ e. rw e at holds, λ t. refuses t);
      }
