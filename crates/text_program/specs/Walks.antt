-- What reading an expression leaves: where the text goes on, the places of its reads in a table, and the length of its code.
use Rattle.std.specs.Prelude.{Result, Ok, Err, ℕ, zero, suc, ◌+◌, ◌*◌, ◌≤◌, List, [], ◌∷◌, ◌++◌, map, ◌≡◌, ℤ, length}
use Rattle.std.proofs.lemmas.List.Edits.{sets}
use Rattle.model.specs.Rules.Image.{expr_code}
use Rattle.model.specs.Rules.Outcome.{Outcome, accepted, refused, refuse, fault, ◌▷◌, Parsed}
use Rattle.model.specs.Rules.Program.{Read, Expr, reads_of, expr_lookups}
use Rattle.model.specs.Rules.Width.{in_expression, read_width, in_code}
use Rattle.model.specs.declared.Kind.{Kind}
use Rattle.model.specs.declared.Operator.{Operator}
use Rattle.model.specs.declared.Sampled.{Sampled}
use Rattle.text_program.specs.declared.Entry.{Entry}
use Rattle.text_program.specs.declared.Step.{Step}
use Rattle.text_program.specs.declared.Walk.{Walk}
use Rattle.model.specs.declared.Fault.{Fault}

-- Where reads stand.
abbrev pub places_of : List Read → List ℕ
places_of ρs = map (λ (ρ : Read). ρ.place) ρs

-- A text of `size` bytes, read up to `at` with so many reads, so many bytes of code and so many TABLEs, and a table with an
-- entry for
-- each two bytes.
pub record WalkRoom (size at count to looks room : ℕ) : Type 0 where
  pub short : size ≤ 8192
  pub table : size ≤ 2 * room
  pub few : 2 * count ≤ at
  pub small : to ≤ at
  pub rare : looks ≤ at

-- The table l' is l with these places from `count` on; the text goes on at `next`, the code so many bytes after `to`, the
-- TABLEs so
-- many after `looks`.
pub record Moves (next : ℕ) (places : List ℕ) (code lookups : ℕ) (l : List ℕ) (count to looks : ℕ) (l' : List ℕ) (w : Walk) :
    Type 0 where
  pub goes : w.at ≡ next
  pub counts : w.reads ≡ count + length places
  pub codes : w.code ≡ to + code
  pub looked : w.lookups ≡ looks + lookups
  pub holds : l' ≡ sets l count places

-- What reading expressions passes over: where their reads stand, the length of their code, how many TABLEs they have, and
-- where they
-- end.
pub record Outline : Type 0 where
  pub places : List ℕ
  pub code : ℕ
  pub lookups : ℕ
  pub next : ℕ

abbrev pub outline : Parsed Expr → Outline
outline x =
    record {
      places = places_of (reads_of x.value);
      code = length (expr_code x.value);
      lookups = expr_lookups x.value;
      next = x.next;
    }

abbrev pub outline_of : Outcome (Parsed Expr) → Outcome Outline
outline_of (accepted x) = accepted (outline x)
outline_of (refused f) = refused f

-- One after the other.
abbrev pub followed : Outline → Outline → Outline
followed a b =
    record {
      places = a.places ++ b.places;
      code = a.code + b.code;
      lookups = a.lookups + b.lookups;
      next = b.next;
    }

-- So many expressions from `at` on, one after another, where `sub` reads one.
unfoldable pub outlines : (ℕ → Outcome (Parsed Expr)) → ℕ → ℕ → Outcome Outline
outlines sub zero at = accepted (record { places = []; code = 0; lookups = 0; next = at })
outlines sub (suc n) at = outline_of (sub at) ▷ λ a. outlines sub n a.next ▷ λ b. accepted (followed a b)

-- An operator with no operands; one that has some does not come here.
unfoldable pub leaf_of : ℕ → ℕ → Operator → Outcome Outline
leaf_of size at Operator.EndsEarly = refuse 2 size
leaf_of size at Operator.Unknown = refuse 3 at
leaf_of size at Operator.OutOfRange = refuse 5 at
leaf_of size at (Operator.Constant w) =
    accepted (record { places = []; code = in_code 0x50; lookups = 0; next = at + in_expression 0x20 })
leaf_of size at (Operator.Read kind x) =
    accepted (record { places = at ∷ []; code = in_code 0x51; lookups = 0; next = at + read_width kind })
leaf_of size at (Operator.Binary operator) = refuse 3 at
leaf_of size at (Operator.Unary operator) = refuse 3 at
leaf_of size at Operator.If = refuse 3 at

-- There is room for a leaf, which stands in the text.
pub record LeafRoom (o : Operator) (size at count to looks room : ℕ) : Type 0 where
  pub left : WalkRoom size at count to looks room
  pub constant-inside : (z : ℤ) → o ≡ Operator.Constant z → at + in_expression 0x20 ≤ size
  pub read-inside : (kind : Kind) (x : Sampled) → o ≡ Operator.Read kind x → at + read_width kind ≤ size

-- The answer is the refusal, or goes on after what is passed over with its reads kept.
unfoldable pub WalksBy : Outcome Outline → List ℕ → ℕ → ℕ → ℕ → List ℕ → Result Walk Fault → Type 0
WalksBy (accepted x) l count to looks l' r =
    (w : Walk) × (r ≡ Ok w) × Moves x.next x.places x.code x.lookups l count to looks l' w
WalksBy (refused f) l count to looks l' r = r ≡ Err f

pub record Walks (o : Outcome Outline) (l : List ℕ) (count to looks : ℕ) (l' : List ℕ) (r : Result Walk Fault) : Type 0 where
  pub by : WalksBy o l count to looks l' r

-- The same of an EQ, which has a STORE after it.
unfoldable pub EquationBy : Outcome (Parsed Expr) → Entry → List ℕ → ℕ → ℕ → ℕ → List ℕ → Result Step Fault → Type 0
EquationBy (accepted x) e l count to looks l' r =
    (w : Walk) × (r ≡ Ok (Step.Adds e w)) ×
    Moves x.next (places_of (reads_of x.value)) (length (expr_code x.value) + in_code 0x5F) (expr_lookups x.value) l
    count to looks l' w
EquationBy (refused f) e l count to looks l' r = r ≡ Err f

pub record WalksEquation (o : Outcome (Parsed Expr)) (e : Entry) (l : List ℕ) (count to looks : ℕ) (l' : List ℕ)
    (r : Result Step Fault) : Type 0 where
  pub by : EquationBy o e l count to looks l' r

-- The refusal where no depth is left.
unfoldable pub deep_of : ℕ → Outcome (Unit {0}) → Result Walk Fault
deep_of at (accepted a) = Err (fault 4 at)
deep_of at (refused f) = Err f
