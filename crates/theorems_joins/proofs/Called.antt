-- Join does its job, and is refused with each number at its place, naming its part, exactly under the stated conditions.
-- Assumes nothing.
use Rattle.std.specs.Prelude.{Option}
use Prim.Native.Nat.{ℕ}
use mathlib.Core.List.{List}
use mathlib.Core.Path.{◌≡◌, sym, subst}
use Rattle.model.specs.Rules.Join.{joined_pair_of, part_named, join_of}
use Rattle.model.specs.Rules.Outcome.{fault}
use Rattle.model.specs.declared.Fault.{Fault}
use Rattle.theorems_calls.specs.Exactness.{Exactly, size_of, WriteRefusedAt}
use Rattle.theorems_joins.specs.JoinExactness.{Joins, JoinRefusedAt, JoinExactly}
use Rattle.theorems_joins.specs.Join.{JoinLegal, JoinRefused}
use Rattle.theorems_calls.proofs.CallsExact.{write-exactly}
use Rattle.theorems_joins.proofs.Exact.{join-judged, join-refused-exactly, legal-unnamed}

module _ (buffer numbers links image : List ℕ) where
  abbrev Refused : Fault → Type 0
  Refused = JoinRefused buffer numbers links (part_named buffer numbers)

  exact : Exactly image (Joins buffer numbers links image) (WriteRefusedAt (JoinLegal buffer numbers links) Refused image)
      (join_of buffer numbers links image)
  unfolding join_of
  exact =
      write-exactly (JoinLegal buffer numbers links) Refused (joined_pair_of buffer numbers links)
      (join-judged buffer numbers links) image

  forth : {f : Fault} → WriteRefusedAt (JoinLegal buffer numbers links) Refused image f →
      JoinRefusedAt buffer numbers links image (part_named buffer numbers) f
  forth (WriteRefusedAt.pair r) = JoinRefusedAt.pair r
  forth (WriteRefusedAt.space {q = q} legal lt) =
      subst (λ (k : Option ℕ). JoinRefusedAt buffer numbers links image k (fault 17 (size_of q)))
      (sym (legal-unnamed buffer numbers links q legal)) (JoinRefusedAt.space legal lt)

  back : {k : Option ℕ} {f : Fault} → JoinRefusedAt buffer numbers links image k f →
      WriteRefusedAt (JoinLegal buffer numbers links) Refused image f × (part_named buffer numbers ≡ k)
  back {k} {f} (JoinRefusedAt.pair r) =
      let e = (join-refused-exactly buffer numbers links k f).1 r in
      (WriteRefusedAt.pair (((join-judged buffer numbers links).refuses f).0 e.0), e.1)
  back (JoinRefusedAt.space {q = q} legal lt) =
      (WriteRefusedAt.space legal lt, legal-unnamed buffer numbers links q legal)

  pub join-exactly : JoinExactly buffer numbers links image
  join-exactly =
      record {
        done = exact.done;
        refuses = λ k f left. (
          (λ e.
              let r = (exact.refuses f left).0 (e.0, e.1) in
              (subst (λ (j : Option ℕ). JoinRefusedAt buffer numbers links image j f) e.2 (forth r.0), r.1)),
          (λ r.
              let b = back r.0 in
              let e = (exact.refuses f left).1 (b.0, r.1) in
              (e.0, e.1, b.1)),
        );
      }
