-- The bytes that the definitions give for each case of an enum are those of that case: where they stand, it is written. Assumes
-- nothing.
use Prim.Native.Nat.{ℕ, ◌+◌, ◌≤◌, ◌<◌, ◌^◌}
use mathlib.Core.List.{List, [], ◌∷◌, ◌++◌}
use mathlib.Core.Logic.{inl, inr}
use mathlib.Core.Path.{◌≡◌, refl, sym, ap, subst, ◌∙◌}
use native.Mathlib.Omega.{arith}
use borrow.Author.Tests.{ne_eqb}
use lib.IntN.{ℤ}
use lib.ListN.{length, drop, take-append-drop}
use Rattle.model.specs.Rules.Command.{index_of, mode_of}
use Rattle.theorems_texts.specs.Enums.{
  mode_byte,
  declaration_bytes,
  index_byte,
  operand_bytes,
  operator_bytes,
  put_bytes,
  code_bytes,
  IndexBelow,
  RangedRead,
  DeclarationRanged,
  OperatorRanged,
  CodeRanged,
  BytesAt,
}
use Rattle.model.specs.Says.Words.{IsWord}
use Rattle.model.specs.Rules.Word.{byte_at, two_bytes, four_bytes, word_bytes}
use Rattle.model.specs.Says.Written.{
  InPeriods,
  IsPlain,
  IsSampled,
  InIndices,
  read_byte,
  DeclarationWritten,
  OperatorWritten,
  PutWritten,
  PutWhole,
  CodeWritten,
}
use Rattle.model.specs.declared.Code.{Code}
use Rattle.model.specs.declared.Code.TheVariants as Code
use Rattle.model.specs.declared.Declaration.{Declaration}
use Rattle.model.specs.declared.Declaration.TheVariants as Declaration
use Rattle.model.specs.declared.Index.{Index}
use Rattle.model.specs.declared.Index.TheVariants.{Fixed, Open}
use Rattle.model.specs.declared.Kind.{Kind}
use Rattle.model.specs.declared.Kind.TheVariants.{Now, Last, When, LastWhen, Current}
use Rattle.model.specs.declared.Mode.{Mode}
use Rattle.model.specs.declared.Mode.TheVariants.{Exists, Backward}
use Rattle.model.specs.declared.Operator.{Operator}
use Rattle.model.specs.declared.Operator.TheVariants as Operator
use Rattle.model.specs.declared.Sampled.{Sampled}
use Rattle.model.specs.declared.ScheduleCommand.{ScheduleCommand}
use Rattle.model.specs.declared.ScheduleCommand.TheVariants as ScheduleCommand
use Rattle.model.proofs.Images.Stretches.{Stands, behind, front, inside, byte-here, byte-from, two-at, four-at, word-at}

pub stands : {text bytes : List ℕ} {at : ℕ} → BytesAt text at bytes → Stands text at bytes
stands {text} {bytes} {at} b =
    record {
      rest = drop (length bytes) (drop at text);
      is = sym (take-append-drop (length bytes) (drop at text)) ∙ ap (λ l. l ++ drop (length bytes) (drop at text)) b.stand;
    }

mode-back : (mode : Mode) → mode_of (mode_byte mode) ≡ mode
mode-back Exists = refl
mode-back Backward = refl

mode_small : (mode : Mode) → mode_byte mode ≤ 1
mode_small Exists = omega arith
mode_small Backward = omega arith

index_back : (n : ℕ) (i : Index) → IndexBelow n i → index_of (index_byte i) ≡ i
index_back n (Fixed i) h = rw (ne_eqb i 255 (λ e. omega arith))
index_back n Open h = refl

below : (n : ℕ) (i : Index) → IndexBelow n i → InIndices (index_byte i) n
below n (Fixed i) h = inl h.0
below n Open h = inr refl

module _ {text : List ℕ} {at : ℕ} where
  -- IN and EQ.
  input-written : (period : ℕ) (initial : ℤ) → DeclarationRanged (Declaration.Input period initial) →
      Stands text at (0x10 ∷ period ∷ word_bytes initial) → DeclarationWritten text at (Declaration.Input period initial)
  unfolding word_bytes four_bytes
  input-written period initial r h =
      let p = byte-from 1 (omega arith) h in
      let w = word-at initial r.1 (behind (0x10 ∷ period ∷ []) (word_bytes initial) h) in
      rw (← p, ← w) (DeclarationWritten.input (inside (omega arith) h) (byte-here h) (rw p r.0))

  equation-written : (period : ℕ) (initial : ℤ) (weight : ℕ) → DeclarationRanged (Declaration.Equation period initial weight) →
      Stands text at (0x11 ∷ period ∷ (word_bytes initial ++ two_bytes weight)) →
      DeclarationWritten text at (Declaration.Equation period initial weight)
  unfolding word_bytes four_bytes two_bytes
  equation-written period initial weight r h =
      let p = byte-from 1 (omega arith) h in
      let rest = behind (0x11 ∷ period ∷ []) (word_bytes initial ++ two_bytes weight) h in
      let w = word-at initial r.1 (front (word_bytes initial) (two_bytes weight) rest) in
      let g = two-at weight r.2 (behind (0x11 ∷ period ∷ word_bytes initial) (two_bytes weight) h) in
      rw (← p, ← w, ← g) (DeclarationWritten.equation (inside (omega arith) h) (byte-here h) (rw p r.0))

  -- LAT, LINK, CAP, TAG, ROW.
  latency-written : (mode : Mode) (bound : ℕ) → bound ≤ 65535 → Stands text at (0x12 ∷ mode_byte mode ∷ two_bytes bound) →
      DeclarationWritten text at (Declaration.Latency mode bound)
  unfolding two_bytes
  latency-written mode bound le h =
      let m = byte-from 1 (omega arith) h in
      let b = two-at bound le (behind (0x12 ∷ mode_byte mode ∷ []) (two_bytes bound) h) in
      let is : mode_of (byte_at text (at + 1)) ≡ mode = ap mode_of m ∙ mode-back mode in
      rw (← is, ← b) (DeclarationWritten.latency (inside (omega arith) h) (byte-here h) (rw m (mode_small mode)))

  link-written : (signal : ℕ) → Stands text at (0x13 ∷ signal ∷ []) → DeclarationWritten text at (Declaration.Link signal)
  link-written signal h = rw (← byte-from 1 (omega arith) h) (DeclarationWritten.link (inside (omega arith) h) (byte-here h))

  cap-written : (n : ℕ) → n < 2 ^ 32 → Stands text at (0x14 ∷ four_bytes n) → DeclarationWritten text at (Declaration.Cap n)
  unfolding four_bytes
  cap-written n lt h =
      rw (← four-at n lt (behind (0x14 ∷ []) (four_bytes n) h)) (DeclarationWritten.cap (inside (omega arith) h) (byte-here h))

  tag-written : (label : ℕ) → label ≤ 65535 → Stands text at (0x15 ∷ two_bytes label) →
      DeclarationWritten text at (Declaration.Tag label)
  unfolding two_bytes
  tag-written label le h =
      rw (← two-at label le (behind (0x15 ∷ []) (two_bytes label) h))
      (DeclarationWritten.tag (inside (omega arith) h) (byte-here h))

  row_written : (low high result : ℤ) → DeclarationRanged (Declaration.Row low high result) →
      Stands text at (0x16 ∷ (word_bytes low ++ word_bytes high ++ word_bytes result)) →
      DeclarationWritten text at (Declaration.Row low high result)
  unfolding word_bytes four_bytes
  row_written low high result r h =
      let a = behind (0x16 ∷ []) (word_bytes low ++ word_bytes high ++ word_bytes result) h in
      let b = behind (0x16 ∷ word_bytes low) (word_bytes high ++ word_bytes result) h in
      let l = word-at low r.0 (front (word_bytes low) (word_bytes high ++ word_bytes result) a) in
      let t = word-at high r.1 (front (word_bytes high) (word_bytes result) b) in
      let e = word-at result r.2 (behind (0x16 ∷ (word_bytes low ++ word_bytes high)) (word_bytes result) h) in
      rw (← l, ← t, ← e) (DeclarationWritten.row (inside (omega arith) h) (byte-here h) (rw (l, t) r.3))

  -- CONST, and the reads.
  constant-written : (w : ℤ) → IsWord w → Stands text at (0x20 ∷ word_bytes w) → OperatorWritten text at (Operator.Constant w)
  unfolding word_bytes four_bytes
  constant-written w f h =
      rw (← word-at w f (behind (0x20 ∷ []) (word_bytes w) h))
      (OperatorWritten.constant (inside (omega arith) h) (byte-here h))

  plain-written : (kind : Kind) (x : Sampled) → IsPlain kind → x.factor ≡ 1 → x.index ≡ Fixed 0 →
      Stands text at (read_byte kind ∷ x.signal ∷ []) → OperatorWritten text at (Operator.Read kind x)
  plain-written kind x two n i h =
      let s = byte-from 1 (omega arith) h in
      let w : OperatorWritten text at
      (Operator.Read kind (record { signal = byte_at text (at + 1); factor = 1; index = Fixed 0 })) =
      OperatorWritten.plain kind two (inside (omega arith) h) (byte-here h) in
      let e : record { signal = byte_at text (at + 1); factor = 1; index = Fixed 0 } ≡ x =
      λ j. record { signal = s j; factor = sym n j; index = sym i j } in
      subst (λ y. OperatorWritten text at (Operator.Read kind y)) e w

  sampled-written : (kind : Kind) (x : Sampled) → IsSampled kind → InPeriods x.factor → IndexBelow x.factor x.index →
      Stands text at (read_byte kind ∷ x.signal ∷ index_byte x.index ∷ x.factor ∷ []) →
      OperatorWritten text at (Operator.Read kind x)
  sampled-written kind x four n i h =
      let s = byte-from 1 (omega arith) h in
      let b = byte-from 2 (omega arith) h in
      let f = byte-from 3 (omega arith) h in
      let w : OperatorWritten text at (Operator.Read kind
      (record { signal = byte_at text (at + 1); factor = byte_at text (at + 3); index = index_of (byte_at text (at + 2)) })) =
      OperatorWritten.sampled kind four (inside (omega arith) h) (byte-here h) (rw f n)
      (rw (b, f) (below x.factor x.index i)) in
      let back : index_of (byte_at text (at + 2)) ≡ x.index = ap index_of b ∙ index_back x.factor x.index i in
      let e : record { signal = byte_at text (at + 1); factor = byte_at text (at + 3); index = index_of (byte_at text (at + 2)) } ≡
      x =
      λ j. record { signal = s j; factor = f j; index = back j } in
      subst (λ y. OperatorWritten text at (Operator.Read kind y)) e w

  read-written : (kind : Kind) (x : Sampled) → RangedRead kind x → Stands text at (read_byte kind ∷ operand_bytes kind x) →
      OperatorWritten text at (Operator.Read kind x)
  read-written Now x r h = plain-written Now x tt r.0 r.1 h
  read-written Last x r h = plain-written Last x tt r.0 r.1 h
  read-written When x r h = sampled-written When x tt r.0 r.1 h
  read-written LastWhen x r h = sampled-written LastWhen x tt r.0 r.1 h
  read-written Current x r h = sampled-written Current x tt r.0 r.1 h

  pub declaration-stands : (c : Declaration) → DeclarationRanged c → Stands text at (declaration_bytes c) →
      DeclarationWritten text at c
  declaration-stands Declaration.EndsEarly r h = absurd r
  declaration-stands Declaration.Unknown r h = absurd r
  declaration-stands Declaration.OutOfRange r h = absurd r
  declaration-stands Declaration.End r h = DeclarationWritten.end (inside (omega arith) h) (byte-here h)
  declaration-stands (Declaration.Input period initial) r h = input-written period initial r h
  declaration-stands (Declaration.Equation period initial weight) r h = equation-written period initial weight r h
  declaration-stands (Declaration.Latency mode bound) r h = latency-written mode bound r h
  declaration-stands (Declaration.Link signal) r h = link-written signal h
  declaration-stands (Declaration.Cap n) r h = cap-written n r h
  declaration-stands (Declaration.Tag label) r h = tag-written label r h
  declaration-stands (Declaration.Row low high result) r h = row_written low high result r h

  pub operator-stands : (c : Operator) → OperatorRanged c → Stands text at (operator_bytes c) → OperatorWritten text at c
  operator-stands Operator.EndsEarly r h = absurd r
  operator-stands Operator.Unknown r h = absurd r
  operator-stands Operator.OutOfRange r h = absurd r
  operator-stands (Operator.Constant w) r h = constant-written w r h
  operator-stands (Operator.Read kind x) r h = read-written kind x r h
  operator-stands (Operator.Binary operator) r h = OperatorWritten.binary operator (inside (omega arith) h) (byte-here h)
  operator-stands (Operator.Unary operator) r h = OperatorWritten.unary operator (inside (omega arith) h) (byte-here h)
  operator-stands Operator.If r h = OperatorWritten.choose (inside (omega arith) h) (byte-here h)

pub put-stands : {text : List ℕ} {at : ℕ} (c : ScheduleCommand) → PutWhole c → Stands text at (put_bytes c) → PutWritten text at c
put-stands ScheduleCommand.EndsEarly r h = absurd r
put-stands ScheduleCommand.Unknown r h = absurd r
put-stands ScheduleCommand.End r h = PutWritten.end (inside (omega arith) h) (byte-here h)
put-stands (ScheduleCommand.Put signal phase) r h =
    rw (← byte-from 1 (omega arith) h, ← byte-from 2 (omega arith) h) (PutWritten.put (inside (omega arith) h) (byte-here h))

push-written : {code : List ℕ} {at : ℕ} (w : ℤ) → IsWord w → Stands code at (0x50 ∷ word_bytes w) →
    CodeWritten code at (Code.Push w)
unfolding word_bytes four_bytes
push-written w f h =
    rw (← word-at w f (behind (0x50 ∷ []) (word_bytes w) h)) (CodeWritten.push (inside (omega arith) h) (byte-here h))

pub code-stands : {code : List ℕ} {at : ℕ} (c : Code) → CodeRanged c → Stands code at (code_bytes c) → CodeWritten code at c
code-stands Code.EndsEarly r h = absurd r
code-stands Code.Unknown r h = absurd r
code-stands (Code.Push w) r h = push-written w r h
code-stands (Code.Load x) r h = rw (← byte-from 1 (omega arith) h) (CodeWritten.load (inside (omega arith) h) (byte-here h))
code-stands (Code.Fetch x) r h = rw (← byte-from 1 (omega arith) h) (CodeWritten.fetch (inside (omega arith) h) (byte-here h))
code-stands (Code.Store x) r h = rw (← byte-from 1 (omega arith) h) (CodeWritten.store (inside (omega arith) h) (byte-here h))
code-stands (Code.Binary operator) r h = CodeWritten.binary operator (inside (omega arith) h) (byte-here h)
code-stands (Code.Unary operator) r h = CodeWritten.unary operator (inside (omega arith) h) (byte-here h)
code-stands Code.If r h = CodeWritten.choose (inside (omega arith) h) (byte-here h)
