-- The code and the records of a part, signal by signal. Assumes nothing.
use Rattle.std.specs.Prelude.{Option, None}
use Prim.Native.Nat.{ℕ, ◌+◌, ◌≤◌, ◌<◌}
use mathlib.Core.List.{List, ◌++◌}
use mathlib.Core.Path.{◌≡◌, refl, sym, ap, ◌∙◌}
use native.Mathlib.Omega.{arith}
use lib.ListN.{length, get_or}
use Rattle.model.specs.Rules.Program.{Signal}
use Rattle.model.specs.Rules.Word.{two_bytes, four_bytes, word_at, word_bytes}
use Rattle.model.specs.Rules.Writing.{Wrote}
use Rattle.image_write.proofs.Coded.{initial-word}
use Rattle.image_write.proofs.Joined.{joined_from}
use Rattle.join_emit.specs.Code.{JoinedRoom, EmitsJoined}
use Rattle.join_emit.specs.Parts.{declared_as, code_as, part_codes, record_as, part_records, PartDeclared}

pub codes-left : (text : List ℕ) (base last : ℕ) (sources : List (Option ℕ)) →
    joined_from (code_as text base sources) last base ≡ part_codes text base last sources
unfolding joined_from part_codes
codes-left text base last sources = refl

pub records-left : (text : List ℕ) (base last : ℕ) (codes : List ℕ) (start : ℕ) →
    joined_from (record_as text base codes start) last base ≡ part_records text base last codes start
unfolding joined_from part_records
records-left text base last codes start = refl

-- The signal with the joined number x.
module _ {text places : List ℕ} {base last x : ℕ} (d : PartDeclared text places base last) (le : base ≤ x) (lt : x < last) where
  abbrev σ : Signal
  σ = declared_as text base x

  pub here : (sources : List (Option ℕ)) {place n to : ℕ} → place ≡ get_or places x 0 →
      to + length (code_as text base sources x) ≤ n →
      JoinedRoom text place base x (get_or sources x None) n to (declared_as text base x)
  unfolding code_as
  here sources e fits =
      record {
        stands = d.stands x le lt ∙ sym e;
        spelled = d.spelled x le lt;
        low = omega (arith, d.few);
        small = omega (arith, d.few);
        reads = d.reads x le lt;
        fits = fits;
      }

  pub code_wrote : (sources : List (Option ℕ)) {place to end : ℕ} {l l' : List ℕ} → place ≡ get_or places x 0 →
      to + length (code_as text base sources x) ≤ length l →
      EmitsJoined text place base x (get_or sources x None) l to l' end → Wrote l to (code_as text base sources x) l' end
  unfolding code_as
  code_wrote sources e fits w = w.puts (declared_as text base x) (here sources e fits)

  pub record-here : {place : ℕ} → place ≡ get_or places x 0 → place + 6 ≤ length text
  record-here e = omega (arith, (initial-word text σ (d.spelled x le lt)).1, d.stands x le lt)

  pub record_is : {place : ℕ} (codes : List ℕ) (start : ℕ) → place ≡ get_or places x 0 →
      record_as text base codes start x ≡ word_bytes (word_at text (place + 2)) ++ two_bytes (start + get_or codes x 0)
  unfolding record_as
  record_is codes start e =
      rw ((initial-word text σ (d.spelled x le lt)).0 ∙ ap (λ (a : ℕ). word_at text (a + 2)) (d.stands x le lt ∙ sym e)) refl

pub record-length : (text : List ℕ) (base : ℕ) (codes : List ℕ) (start x : ℕ) → length (record_as text base codes start x) ≡ 6
unfolding record_as word_bytes four_bytes two_bytes
record-length text base codes start x = refl
