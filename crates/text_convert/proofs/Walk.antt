-- One turn of the converter's walk: the piece of a command, and what is left after it. Assumes nothing.
use Rattle.std.specs.Prelude.{Result, Ok, Err}
use Prim.Native.Nat.{ℕ, zero, suc, ◌+◌, ◌-◌, ◌≤◌, ◌<◌}
use mathlib.Core.Bool.{Bool, true, false, cond}
use mathlib.Core.List.{List, [], ◌∷◌, ◌++◌}
use mathlib.Core.Path.{◌≡◌, refl, sym, ap, ◌∙◌}
use native.Mathlib.Numerals.{add-one}
use native.Mathlib.Omega.{arith}
use borrow.Author.Tests.{le-leb, lt-leb}
use lib.Dec.{eqb}
use lib.ListN.{length, get_or, take, drop, length-drop}
use lib.Seq.{drop-cons, length-take-le, sets-eq}
use Rattle.model.specs.Rules.Command.{is_operator, declaration_at, operator_at}
use Rattle.model.specs.Rules.Rewrite.{single_kind}
use Rattle.model.specs.Rules.Outcome.{Outcome, accepted, refused, refuse, ◌▷◌, provided}
use Rattle.model.specs.Rules.Program.{Program, parse_with}
use Rattle.model.specs.Rules.Width.{read_width}
use Rattle.model.specs.Rules.Rewrite.{
  Command,
  of_declaration,
  of_operator,
  command_at,
  declaration_width,
  operator_width,
  width_of,
  operator_after,
  bytes_after,
  rewrite_at,
  rewrite_from,
  rewrite,
  convert_of,
}
use Rattle.model.specs.Rules.Word.{byte_at}
use Rattle.model.specs.Says.Written.{read_byte}
use Rattle.model.specs.declared.Declaration.{Declaration}
use Rattle.model.specs.declared.Fault.{Fault}
use Rattle.model.specs.declared.Operator.{Operator}
use Rattle.model.proofs.Texts.Legal.{read-width}
use Rattle.model.proofs.Texts.Commands.{DeclarationSound, declaration-sound, OperatorSound, operator-sound}
use Rattle.model.proofs.Texts.Picks.{chosen-all}
use Rattle.model.specs.Rules.Writing.{Wrote}
use Rattle.model.proofs.Basics.Left.{Parts}
use Rattle.text_program.specs.Tables.{ProgramReads}
use Rattle.text_program.specs.declared.Tables.{Tables}
use Rattle.text_convert.specs.Pieces.{width_in, new_length, bytes_in, operator_piece, piece_of, piece_at}
use Rattle.text_convert.specs.declared.Piece.{Piece}

-- Bytes that are copied one by one.
pub copy_step : (text : List ℕ) (i left : ℕ) → 0 < left → i + left ≤ length text →
    Parts (take left (drop i text)) (get_or text i 0 ∷ []) (take (left - 1) (drop (i + 1) text))
copy_step text i zero lt le = absurd (omega arith)
copy_step text i (suc left) lt le =
    let e : suc left - 1 ≡ left = omega arith in
    record { is = rw (e, add-one, drop-cons text i 0 (omega arith)) }

pub copy-fits : (text : List ℕ) (at n to m : ℕ) → at + n ≤ length text → to + n ≤ m → to + length (take n (drop at text)) ≤ m
copy-fits text at n to m le fits = rw (length-take-le n (drop at text) (omega (arith, length-drop at text))) fits

pub take_none : (n : ℕ) (l : List ℕ) → n ≤ 0 → take n l ≡ []
take_none zero l le = refl
take_none (suc n) l le = absurd (omega arith)

-- The piece of a command is what the definition says.
operator-width : (o : Operator) → width_in (operator_piece o) ≡ operator_width o
operator-width Operator.EndsEarly = refl
operator-width Operator.Unknown = refl
operator-width Operator.OutOfRange = refl
operator-width (Operator.Constant w) = refl
operator-width (Operator.Read kind x) = go (eqb x.factor 1) (read_byte (single_kind kind)) x.signal
  where
    go : (b : Bool) (a s : ℕ) →
        width_in (cond b (Piece.Short (read_width kind) a s) (Piece.Keep (read_width kind))) ≡ read_width kind
    go true a s = refl
    go false a s = refl
operator-width (Operator.Binary operator) = refl
operator-width (Operator.Unary operator) = refl
operator-width Operator.If = refl

operator-bytes : (o : Operator) (l : List ℕ) → bytes_in (operator_piece o) l ≡ operator_after o l
operator-bytes Operator.EndsEarly l = refl
operator-bytes Operator.Unknown l = refl
operator-bytes Operator.OutOfRange l = refl
operator-bytes (Operator.Constant w) l = refl
operator-bytes (Operator.Read kind x) l = go (eqb x.factor 1) (read_byte (single_kind kind)) x.signal
  where
    go : (b : Bool) (a s : ℕ) →
        bytes_in (cond b (Piece.Short (read_width kind) a s) (Piece.Keep (read_width kind))) l ≡ cond b (a ∷ s ∷ []) l
    go true a s = refl
    go false a s = refl
operator-bytes (Operator.Binary operator) l = refl
operator-bytes (Operator.Unary operator) l = refl
operator-bytes Operator.If l = refl

-- No piece is longer than what it stands for.
operator-short : (o : Operator) → new_length (operator_piece o) ≤ width_in (operator_piece o)
operator-short Operator.EndsEarly = omega arith
operator-short Operator.Unknown = omega arith
operator-short Operator.OutOfRange = omega arith
operator-short (Operator.Constant w) = omega arith
operator-short (Operator.Read kind x) = go (eqb x.factor 1) (read_byte (single_kind kind)) x.signal
  where
    go : (b : Bool) (a s : ℕ) → new_length (cond b (Piece.Short (read_width kind) a s) (Piece.Keep (read_width kind))) ≤
        width_in (cond b (Piece.Short (read_width kind) a s) (Piece.Keep (read_width kind)))
    go true a s = read-width kind
    go false a s = omega arith
operator-short (Operator.Binary operator) = omega arith
operator-short (Operator.Unary operator) = omega arith
operator-short Operator.If = omega arith

piece-width : (c : Command) → width_in (piece_of c) ≡ width_of c
piece-width (of_declaration d) = refl
piece-width (of_operator o) = operator-width o

piece_bytes : (c : Command) (l : List ℕ) → bytes_in (piece_of c) l ≡ bytes_after c l
piece_bytes (of_declaration d) l = refl
piece_bytes (of_operator o) l = operator-bytes o l

piece-short : (c : Command) → new_length (piece_of c) ≤ width_in (piece_of c)
piece-short (of_declaration d) = omega arith
piece-short (of_operator o) = operator-short o

piece-length : (piece : Piece) (l : List ℕ) → length l ≡ width_in piece → length (bytes_in piece l) ≡ new_length piece
piece-length (Piece.Keep n) l e = e
piece-length (Piece.Short n byte signal) l e = refl

-- Every command lies within the text.
declaration-inside : (text : List ℕ) (at : ℕ) (d : Declaration) → DeclarationSound text at d → at ≤ length text →
    at + declaration_width d ≤ length text
declaration-inside text at Declaration.EndsEarly h le = omega arith
declaration-inside text at Declaration.Unknown h le = omega arith
declaration-inside text at Declaration.OutOfRange h le = omega arith
declaration-inside text at Declaration.End h le = h
declaration-inside text at (Declaration.Input period initial) h le = h.3
declaration-inside text at (Declaration.Equation period initial weight) h le = h.3
declaration-inside text at (Declaration.Latency mode bound) h le = h
declaration-inside text at (Declaration.Link signal) h le = h
declaration-inside text at (Declaration.Cap n) h le = h
declaration-inside text at (Declaration.Tag label) h le = h.1
declaration-inside text at (Declaration.Row low high result) h le = h.4

operator-inside : (text : List ℕ) (at : ℕ) (o : Operator) → OperatorSound text at o → at ≤ length text →
    at + operator_width o ≤ length text
operator-inside text at Operator.EndsEarly h le = omega arith
operator-inside text at Operator.Unknown h le = omega arith
operator-inside text at Operator.OutOfRange h le = omega arith
operator-inside text at (Operator.Constant w) h le = h.1
operator-inside text at (Operator.Read kind x) h le = h.1
operator-inside text at (Operator.Binary operator) h le = h
operator-inside text at (Operator.Unary operator) h le = h
operator-inside text at Operator.If h le = h

command-inside : (text : List ℕ) (at : ℕ) → at ≤ length text → at + width_of (command_at text at) ≤ length text
unfolding command_at
command-inside text at le =
    chosen-all (λ c. at + width_of c ≤ length text) (is_operator (byte_at text at)) _ _
    (λ t. operator-inside text at (operator_at text at) (operator-sound text at _ refl) le)
    (λ t. declaration-inside text at (declaration_at text at) (declaration-sound text at _ refl) le)

-- What one turn does at `at`, where `left` are left.
pub record Turn (text : List ℕ) (at left : ℕ) (piece : Piece) : Type 0 where
  pub inside : at + width_in piece ≤ length text
  pub short : new_length piece ≤ width_in piece
  pub size : length (piece_at text at piece) ≡ new_length piece
  pub parts : Parts (rewrite_from left text at) (piece_at text at piece) (rewrite_from (left - 1) text (at + width_in piece))

rewrite-step : (text : List ℕ) (at left : ℕ) → 0 < left →
    rewrite_from left text at ≡
    rewrite_at text at (command_at text at) ++ rewrite_from (left - 1) text (at + width_of (command_at text at))
unfolding rewrite_from
rewrite-step text at zero lt = absurd (omega arith)
rewrite-step text at (suc left) lt =
    let e : suc left - 1 ≡ left = omega arith in
    ap (λ n. rewrite_at text at (command_at text at) ++ rewrite_from n text (at + width_of (command_at text at))) (sym e)

turn_at : (text : List ℕ) (at left : ℕ) → 0 < left → at ≤ length text → Turn text at left (piece_of (command_at text at))
unfolding rewrite_at
turn_at text at left lt le =
    let c = command_at text at in
    let w = piece-width c in
    let within : at + width_in (piece_of c) ≤ length text =
    rw w (command-inside text at le) in
    record {
      inside = within;
      short = piece-short c;
      size = piece-length (piece_of c) _
          (length-take-le (width_in (piece_of c)) (drop at text) (omega (arith, length-drop at text)));
      parts = record { is = rewrite-step text at left lt ∙ rw (w, piece_bytes c (take (width_of c) (drop at text))) refl };
    }

pub turn-of : (text : List ℕ) (at left : ℕ) (piece : Piece) → 0 < left → at ≤ length text →
    piece ≡ piece_of (command_at text at) → Turn text at left piece
turn-of text at left piece lt le e = rw e (turn_at text at left lt le)

-- The walk starts with the whole text, and ends with nothing left.
pub rewrite-starts : (text : List ℕ) → rewrite_from (length text) text 0 ≡ rewrite text
unfolding rewrite
rewrite-starts text = refl

pub rewrite-ends : (text : List ℕ) (at left : ℕ) → left ≤ 0 → rewrite_from left text at ≡ []
unfolding rewrite_from
rewrite-ends text at zero le = refl
rewrite-ends text at (suc left) le = absurd (omega arith)

-- What the converter answers and leaves, by its tests.
module _ (program buffer : List ℕ) where
  pub convert-long : 8192 < length program →
      (refuse 1 0 ≡ (convert_of program buffer).answer) × (buffer ≡ (convert_of program buffer).left)
  unfolding convert_of provided ◌▷◌
  convert-long lt = rw (lt-leb (length program) 8192 lt) (refl, refl)

  module _ (le : length program ≤ 8192) where
    pub convert-refused : (f : Fault) → parse_with 1 program ≡ refused f →
        (refused f ≡ (convert_of program buffer).answer) × (buffer ≡ (convert_of program buffer).left)
    unfolding convert_of provided ◌▷◌
    convert-refused f e = rw (le-leb (length program) 8192 le, e) (refl, refl)

    module _ (p : Program) (e : parse_with 1 program ≡ accepted p) (n : ℕ) (size : n ≡ length (rewrite program)) where
      pub convert-short : length buffer < n →
          (refuse 17 n ≡ (convert_of program buffer).answer) × (buffer ≡ (convert_of program buffer).left)
      unfolding convert_of provided ◌▷◌
      convert-short lt =
          rw (le-leb (length program) 8192 le, e, ← size, lt-leb n (length buffer) lt) (refl, refl)

      pub convert-done : (after : List ℕ) (end : ℕ) → n ≤ length buffer → Wrote buffer 0 (rewrite program) after end →
          (accepted end ≡ (convert_of program buffer).answer) × (after ≡ (convert_of program buffer).left)
      unfolding convert_of provided ◌▷◌
      convert-done after end fits w =
          let whole : 0 + length (rewrite program) ≡ n = omega arith in
          rw (le-leb (length program) 8192 le, e, ← size, le-leb n (length buffer) fits) (
            ap accepted (w.ends ∙ whole),
            w.holds ∙ sets-eq (rewrite program) buffer 0 (omega arith) ∙
                ap (λ m. rewrite program ++ drop m buffer) whole,
          )

-- What the reader's answer says of the text.
module _ (o : Outcome Program) (reads : List ℕ) (r : Result Tables Fault) where
  pub read-refused : (f : Fault) → ProgramReads o reads r → r ≡ Err f → o ≡ refused f
  unfolding ProgramReads
  read-refused f h e = go o h
    where
      go : (o : Outcome Program) → ProgramReads o reads r → o ≡ refused f
      go (accepted p) h = let a = h.1 in let z : ◌≡◌ {A = ℕ} 0 1 = cc in absurd (omega arith)
      go (refused g) h = let z : g ≡ f = cc in ap refused z

  pub read-fine : (t : Tables) → ProgramReads o reads r → r ≡ Ok t → (p : Program) × (o ≡ accepted p)
  unfolding ProgramReads
  read-fine t h e = go o h
    where
      go : (o : Outcome Program) → ProgramReads o reads r → (p : Program) × (o ≡ accepted p)
      go (accepted p) h = (p, refl)
      go (refused g) h = let z : ◌≡◌ {A = ℕ} 0 1 = cc in absurd (omega arith)
