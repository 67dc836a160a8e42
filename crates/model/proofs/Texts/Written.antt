-- A command is decoded exactly where its bytes are written, and as cut, outside its range or unknown exactly where they are so.
-- Assumes nothing.
use Prim.Native.Nat.{ℕ, ◌+◌, ◌≤◌, ◌<◌}
use mathlib.Core.Bool.{Bool, true, false, cond, ◌&&◌, ◌||◌, false≢true, and-eq-true_iff}
use mathlib.Core.List.{List}
use mathlib.Core.Logic.{◌↔◌, ◌⊎◌, inl, inr}
use mathlib.Core.Path.{◌≡◌, refl, sym, subst, ◌∙◌}
use native.Mathlib.Omega.{arith}
use borrow.Author.Tests.{
  leb-true,
  leb-false,
  ltb-true,
  ltb-false,
  lt-ltb,
  le-ltb,
  le-leb,
  lt-leb,
  eqb-true,
  eqb-false,
  eq-eqb,
  ne_eqb,
}
use lib.Dec.{leb, ltb, eqb}
use lib.IntN.{ℤ}
use lib.ListN.{length}
use lib.Signed.{le_z}
use Rattle.model.specs.Rules.Command.{
  whole,
  first_judged,
  is_period,
  is_factor,
  is_index,
  mode_of,
  declaration_of,
  declaration_at,
  plain_read,
  sampled_read,
  operator_of,
  operator_at,
}
use Rattle.model.specs.Rules.Image.{binary_byte}
use Rattle.model.specs.Rules.Width.{in_program, in_expression, in_schedule, in_code, read_width}
use Rattle.model.specs.Rules.Machine.{operator_code, whole_code, code_at}
use Rattle.model.specs.Rules.Schedule.{schedule_command_at}
use Rattle.model.specs.Rules.Word.{byte_at, two_at, word_at}
use Rattle.model.specs.Says.Written.{
  InPeriods,
  InIndices,
  IsPlain,
  IsSampled,
  read_byte,
  DeclarationWritten,
  DeclarationCut,
  DeclarationOutside,
  DeclarationByte,
  OperatorWritten,
  OperatorCut,
  OperatorOutside,
  OperatorByte,
  PutWritten,
  PutCut,
  NoPutByte,
  CodeWritten,
  DeclarationWhole,
  OperatorWhole,
  PutWhole,
  CodeWhole,
}
use Rattle.model.specs.declared.Binary.{Binary}
use Rattle.model.specs.declared.Binary.TheVariants.{Add, Sub, Mul, Less, Same, Min, Max}
use Rattle.model.specs.declared.Code.{Code}
use Rattle.model.specs.declared.Code.TheVariants as Code
use Rattle.model.specs.declared.Declaration.{Declaration}
use Rattle.model.specs.declared.Declaration.TheVariants as Declaration
use Rattle.model.specs.declared.Kind.{Kind}
use Rattle.model.specs.declared.Kind.TheVariants.{Now, Last, When, LastWhen, Current}
use Rattle.model.specs.declared.Operator.{Operator}
use Rattle.model.specs.declared.Operator.TheVariants as Operator
use Rattle.model.specs.declared.ScheduleCommand.{ScheduleCommand}
use Rattle.model.specs.declared.ScheduleCommand.TheVariants as ScheduleCommand
use Rattle.model.specs.declared.Unary.TheVariants.{Negate, Table}
use Rattle.model.proofs.Basics.Order.{le_decided, not-le, lt_not_le}
use Rattle.model.proofs.Basics.Outcomes.{not-true-false}
use Rattle.model.proofs.Texts.Picks.{
  chosen-all,
  picked,
  whole-all,
  here-all,
  there,
  missing,
  byte_inside,
  operator-inside,
  no-operator,
  no_read,
  no-binary,
  plain-width,
  sampled-width,
  plain-picked,
  sampled-picked,
  binary-picked,
  unary-picked,
}

-- Ranges.
pub period-bounds : (n : ℕ) → is_period n ≡ true → (1 ≤ n) × (n ≤ 240)
period-bounds n e = let f = (and-eq-true_iff (leb 1 n) (leb n 240)).0 e in (leb-true 1 n f.0, leb-true n 240 f.1)

in-periods : (n : ℕ) → (leb 1 n && leb n 240 ≡ true) ↔ InPeriods n
in-periods n = (
  period-bounds n,
  λ h. (and-eq-true_iff (leb 1 n) (leb n 240)).1 (le-leb 1 n h.0, le-leb n 240 h.1),
)

in-indices : (i n : ℕ) → (is_index i n ≡ true) ↔ InIndices i n
in-indices i n = (go (ltb i n) (eqb i 255) refl refl, back)
  where
    go : (a b : Bool) → ltb i n ≡ a → eqb i 255 ≡ b → a || b ≡ true → InIndices i n
    go true b f g t = inl (ltb-true i n f)
    go false true f g t = inr (eqb-true i 255 g)
    go false false f g t = absurd (false≢true t)

    right : (a : Bool) → eqb i 255 ≡ true → a || eqb i 255 ≡ true
    right true h = refl
    right false h = h

    back : InIndices i n → is_index i n ≡ true
    back (inl h) = rw (lt-ltb i n h)
    back (inr h) = right (ltb i n) (eq-eqb i 255 h)

in-ranges : (i n : ℕ) → (is_factor n && is_index i n ≡ true) ↔ (InPeriods n × InIndices i n)
in-ranges i n = (
  λ t. let f = (and-eq-true_iff (is_factor n) (is_index i n)).0 t in ((in-periods n).0 f.0, (in-indices i n).0 f.1),
  λ h. (and-eq-true_iff (is_factor n) (is_index i n)).1 ((in-periods n).1 h.0, (in-indices i n).1 h.1),
)

-- A test that fails.
fails : {b : Bool} {Q : Type 0} → (b ≡ true) ↔ Q → b ≡ false → ¬ Q
fails i e q = false≢true (sym e ∙ i.1 q)

failing : {b : Bool} {Q : Type 0} → (b ≡ true) ↔ Q → ¬ Q → b ≡ false
failing {b} i u = not-true-false b (λ t. u (i.0 t))

-- What the bytes say where a declaration is decoded, and where an operator is.
pub data DeclarationDecodes (text : List ℕ) (at : ℕ) : Declaration → Type 0 where
  early : length text ≤ at → DeclarationDecodes text at Declaration.EndsEarly
  cut : DeclarationCut text at → DeclarationDecodes text at Declaration.EndsEarly
  outside : DeclarationOutside text at → DeclarationDecodes text at Declaration.OutOfRange
  unknown : at < length text → ¬ DeclarationByte (byte_at text at) → ¬ (byte_at text at ≡ 0x13) →
      DeclarationDecodes text at Declaration.Unknown
  written : {c : Declaration} → DeclarationWritten text at c → DeclarationDecodes text at c

pub data OperatorDecodes (text : List ℕ) (at : ℕ) : Operator → Type 0 where
  early : length text ≤ at → OperatorDecodes text at Operator.EndsEarly
  cut : OperatorCut text at → OperatorDecodes text at Operator.EndsEarly
  outside : OperatorOutside text at → OperatorDecodes text at Operator.OutOfRange
  unknown : at < length text → ¬ OperatorByte (byte_at text at) → OperatorDecodes text at Operator.Unknown
  written : {c : Operator} → OperatorWritten text at c → OperatorDecodes text at c

data PutDecodes (text : List ℕ) (at : ℕ) : ScheduleCommand → Type 0 where
  early : length text ≤ at → PutDecodes text at ScheduleCommand.EndsEarly
  cut : PutCut text at → PutDecodes text at ScheduleCommand.EndsEarly
  unknown : at < length text → NoPutByte (byte_at text at) → PutDecodes text at ScheduleCommand.Unknown
  written : {c : ScheduleCommand} → PutWritten text at c → PutDecodes text at c

-- A byte that is none of the seven, and no LINK's, is no declaration's.
no-declaration : {b : ℕ} → ¬ (b ≡ 0x00) → ¬ (b ≡ 0x10) → ¬ (b ≡ 0x11) → ¬ (b ≡ 0x12) → ¬ (b ≡ 0x14) → ¬ (b ≡ 0x15) →
    ¬ (b ≡ 0x16) → ¬ DeclarationByte b
no-declaration e i q l c t r (DeclarationByte.end h) = e h
no-declaration e i q l c t r (DeclarationByte.input h) = i h
no-declaration e i q l c t r (DeclarationByte.equation h) = q h
no-declaration e i q l c t r (DeclarationByte.latency h) = l h
no-declaration e i q l c t r (DeclarationByte.cap h) = c h
no-declaration e i q l c t r (DeclarationByte.tag h) = t h
no-declaration e i q l c t r (DeclarationByte.row h) = r h

-- Declarations.
module _ (text : List ℕ) (at : ℕ) where
  abbrev D : Declaration → Type 0
  D c = DeclarationDecodes text at c

  abbrev byte : ℕ
  byte = byte_at text at

  -- The low of a ROW is not above its high.
  abbrev low : ℤ
  low = word_at text (at + 1)

  abbrev high : ℤ
  high = word_at text (at + 5)

  declaration-whole : (n : ℕ) (c : Declaration) → (length text < at + n → DeclarationCut text at) →
      (at + n ≤ length text → D c) → D (whole Declaration.EndsEarly text at n c)
  declaration-whole n c f h = whole-all D Declaration.EndsEarly text at n c (λ g. DeclarationDecodes.cut (f g)) h

  -- IN, EQ, LAT and ROW: the first operands are judged before the rest is looked for.
  judged-decodes : {Q : Type 0} (m n : ℕ) (t : Bool) (c : Declaration) → m ≤ n → (t ≡ true) ↔ Q →
      (length text < at + n → (at + m ≤ length text → Q) → DeclarationCut text at) →
      (at + m ≤ length text → ¬ Q → DeclarationOutside text at) →
      (at + n ≤ length text → Q → DeclarationWritten text at c) → D (first_judged text at m n t c)
  judged-decodes m n t c two i short out all =
      declaration-whole m _ (λ g. short (omega arith) (λ h. absurd (omega arith))) (λ h.
      chosen-all D t _ _ (λ r. declaration-whole n c (λ g. short g (λ _. i.0 r))
      (λ g. DeclarationDecodes.written (all g (i.0 r))))
      (λ f. DeclarationDecodes.outside (out h (fails i f))))

  declaration-picks : at < length text → D (declaration_of byte text at)
  unfolding declaration_of
  declaration-picks lt =
      let mode = byte_at text (at + 1) in
      picked D byte 0x00 _ _ (λ b. DeclarationDecodes.written (DeclarationWritten.end (omega arith) b)) (λ e.
      picked D byte 0x10 _ _ (λ b.
      judged-decodes 2 (in_program 0x10) _ _ (omega arith) (in-periods (byte_at text (at + 1)))
      (λ g h. DeclarationCut.input b g h) (λ g u. DeclarationOutside.input b g u) (λ g r. DeclarationWritten.input g b r)) (λ i.
      picked D byte 0x11 _ _ (λ b.
      judged-decodes 2 (in_program 0x11) _ _ (omega arith) (in-periods (byte_at text (at + 1)))
      (λ g h. DeclarationCut.equation b g h) (λ g u. DeclarationOutside.equation b g u)
      (λ g r. DeclarationWritten.equation g b r)) (λ q.
      picked D byte 0x12 _ _ (λ b.
      judged-decodes 2 (in_program 0x12) (leb mode 1) (Declaration.Latency (mode_of mode) (two_at text (at + 2))) (omega arith)
      (leb-true mode 1, le-leb mode 1)
      (λ g h. DeclarationCut.latency b g h) (λ g u. DeclarationOutside.latency b g (omega (arith, u)))
      (λ g r. DeclarationWritten.latency g b r)) (λ l.
      picked D byte 0x13 _ _ (λ b.
      declaration-whole (in_program 0x13) _ (DeclarationCut.link b)
      (λ h. DeclarationDecodes.written (DeclarationWritten.link h b)))
      (λ k.
      picked D byte 0x14 _ _ (λ b.
      declaration-whole (in_program 0x14) _ (DeclarationCut.cap b) (λ h. DeclarationDecodes.written (DeclarationWritten.cap h b)))
      (λ c.
      picked D byte 0x15 _ _ (λ b.
      declaration-whole (in_program 0x15) _ (DeclarationCut.tag b) (λ h. DeclarationDecodes.written (DeclarationWritten.tag h b)))
      (λ t.
      picked D byte 0x16 _ _ (λ b.
      judged-decodes 9 (in_program 0x16) (le_z low high) (Declaration.Row low high (word_at text (at + 9)))
      (omega arith) (le_decided low high)
      (λ g h. DeclarationCut.row b g h) (λ g u. DeclarationOutside.row b g (not-le low high u))
      (λ g r. DeclarationWritten.row g b r))
      (λ r. DeclarationDecodes.unknown lt (no-declaration e i q l c t r) k))))))))

  pub declaration-decodes : D (declaration_at text at)
  unfolding declaration_at
  declaration-decodes =
      here-all D Declaration.EndsEarly text at _ (λ le. DeclarationDecodes.early le) declaration-picks

  -- What is written, cut, outside its range or unknown is decoded so.
  declaration-here : {c : Declaration} → at < length text → declaration_of byte text at ≡ c → declaration_at text at ≡ c
  unfolding declaration_at
  declaration-here lt e = rw (lt-ltb at (length text) lt, e)

  judged-written : {Q : Type 0} (m n : ℕ) (t : Bool) (c : Declaration) → m ≤ n → (t ≡ true) ↔ Q → at + n ≤ length text → Q →
      first_judged text at m n t c ≡ c
  judged-written m n t c two i h q =
      there Declaration.EndsEarly text at m _ (omega arith) ∙ rw (i.1 q) (there Declaration.EndsEarly text at n c h)

  judged-cut : {Q : Type 0} (m n : ℕ) (t : Bool) (c : Declaration) → (t ≡ true) ↔ Q → length text < at + n →
      (at + m ≤ length text → Q) → first_judged text at m n t c ≡ Declaration.EndsEarly
  judged-cut m n t c i g h =
      whole-all (λ d. d ≡ Declaration.EndsEarly) Declaration.EndsEarly text at m _ (λ _. refl) (λ two.
      rw (i.1 (h two)) (missing Declaration.EndsEarly text at n c g))

  judged-outside : {Q : Type 0} (m n : ℕ) (t : Bool) (c : Declaration) → (t ≡ true) ↔ Q → at + m ≤ length text → ¬ Q →
      first_judged text at m n t c ≡ Declaration.OutOfRange
  judged-outside m n t c i g u = there Declaration.EndsEarly text at m _ g ∙ rw (failing i u)

  written-declaration : (c : Declaration) → DeclarationWritten text at c → (declaration_at text at ≡ c) × DeclarationWhole c
  unfolding declaration_of
  written-declaration c (DeclarationWritten.end h b) = (declaration-here (omega arith) (rw b), tt)
  written-declaration c (DeclarationWritten.input h b r) =
      (declaration-here (omega arith) (rw b (judged-written 2 (in_program 0x10) _ _ (omega arith) (in-periods _) h r)), tt)
  written-declaration c (DeclarationWritten.equation h b r) =
      (declaration-here (omega arith) (rw b (judged-written 2 (in_program 0x11) _ _ (omega arith) (in-periods _) h r)), tt)
  written-declaration c (DeclarationWritten.latency h b r) = let mode = byte_at text (at + 1) in (
    declaration-here (omega arith)
        (rw b
        (judged-written 2 (in_program 0x12) (leb mode 1) (Declaration.Latency (mode_of mode) (two_at text (at + 2))) (omega arith)
        (leb-true mode 1, le-leb mode 1) h r)),
    tt,
  )
  written-declaration c (DeclarationWritten.link h b) =
      (declaration-here (omega arith) (rw b (there Declaration.EndsEarly text at (in_program 0x13) _ h)), tt)
  written-declaration c (DeclarationWritten.cap h b) =
      (declaration-here (omega arith) (rw b (there Declaration.EndsEarly text at (in_program 0x14) _ h)), tt)
  written-declaration c (DeclarationWritten.tag h b) =
      (declaration-here (omega arith) (rw b (there Declaration.EndsEarly text at (in_program 0x15) _ h)), tt)
  written-declaration c (DeclarationWritten.row h b r) = (
    declaration-here (omega arith)
        (rw b (judged-written 9 (in_program 0x16) (le_z low high) _ (omega arith) (le_decided low high) h r)),
    tt,
  )

  pub declaration-cut-inside : DeclarationCut text at → at < length text
  declaration-cut-inside (DeclarationCut.input b g h) = byte_inside text at (omega arith)
  declaration-cut-inside (DeclarationCut.equation b g h) = byte_inside text at (omega arith)
  declaration-cut-inside (DeclarationCut.latency b g h) = byte_inside text at (omega arith)
  declaration-cut-inside (DeclarationCut.link b g) = byte_inside text at (omega arith)
  declaration-cut-inside (DeclarationCut.cap b g) = byte_inside text at (omega arith)
  declaration-cut-inside (DeclarationCut.tag b g) = byte_inside text at (omega arith)
  declaration-cut-inside (DeclarationCut.row b g h) = byte_inside text at (omega arith)

  cut-declaration : (c : DeclarationCut text at) → declaration_of byte text at ≡ Declaration.EndsEarly
  unfolding declaration_of
  cut-declaration (DeclarationCut.input b g h) = rw b (judged-cut 2 (in_program 0x10) _ _ (in-periods _) g h)
  cut-declaration (DeclarationCut.equation b g h) = rw b (judged-cut 2 (in_program 0x11) _ _ (in-periods _) g h)
  cut-declaration (DeclarationCut.latency b g h) =
      let mode = byte_at text (at + 1) in
      rw b
      (judged-cut 2 (in_program 0x12) (leb mode 1) (Declaration.Latency (mode_of mode) (two_at text (at + 2)))
      (leb-true mode 1, le-leb mode 1) g h)
  cut-declaration (DeclarationCut.link b g) = rw b (missing Declaration.EndsEarly text at (in_program 0x13) _ g)
  cut-declaration (DeclarationCut.cap b g) = rw b (missing Declaration.EndsEarly text at (in_program 0x14) _ g)
  cut-declaration (DeclarationCut.tag b g) = rw b (missing Declaration.EndsEarly text at (in_program 0x15) _ g)
  cut-declaration (DeclarationCut.row b g h) = rw b (judged-cut 9 (in_program 0x16) (le_z low high) _ (le_decided low high) g h)

  pub declaration-outside-inside : DeclarationOutside text at → at < length text
  declaration-outside-inside (DeclarationOutside.input b g u) = omega arith
  declaration-outside-inside (DeclarationOutside.equation b g u) = omega arith
  declaration-outside-inside (DeclarationOutside.latency b g u) = omega arith
  declaration-outside-inside (DeclarationOutside.row b g u) = omega arith

  outside-declaration : DeclarationOutside text at → declaration_of byte text at ≡ Declaration.OutOfRange
  unfolding declaration_of
  outside-declaration (DeclarationOutside.input b g u) = rw b (judged-outside 2 (in_program 0x10) _ _ (in-periods _) g u)
  outside-declaration (DeclarationOutside.equation b g u) = rw b (judged-outside 2 (in_program 0x11) _ _ (in-periods _) g u)
  outside-declaration (DeclarationOutside.latency b g u) =
      let mode = byte_at text (at + 1) in
      rw b
      (judged-outside 2 (in_program 0x12) (leb mode 1) (Declaration.Latency (mode_of mode) (two_at text (at + 2)))
      (leb-true mode 1, le-leb mode 1) g (λ le. omega arith))
  outside-declaration (DeclarationOutside.row b g u) =
      rw b (judged-outside 9 (in_program 0x16) (le_z low high) _ (le_decided low high) g (lt_not_le u))

  unknown-declaration : ¬ DeclarationByte byte → ¬ (byte ≡ 0x13) → declaration_of byte text at ≡ Declaration.Unknown
  unfolding declaration_of
  unknown-declaration u k =
      rw (
        ne_eqb byte 0x00 (λ b. u (DeclarationByte.end b)),
        ne_eqb byte 0x10 (λ b. u (DeclarationByte.input b)),
        ne_eqb byte 0x11 (λ b. u (DeclarationByte.equation b)),
        ne_eqb byte 0x12 (λ b. u (DeclarationByte.latency b)),
        ne_eqb byte 0x13 k,
        ne_eqb byte 0x14 (λ b. u (DeclarationByte.cap b)),
        ne_eqb byte 0x15 (λ b. u (DeclarationByte.tag b)),
        ne_eqb byte 0x16 (λ b. u (DeclarationByte.row b)),
      )

  early-declaration : length text ≤ at → declaration_at text at ≡ Declaration.EndsEarly
  unfolding declaration_at
  early-declaration le = rw (le-ltb at (length text) le)

  declaration-is : {c : Declaration} → DeclarationWhole c → D c → DeclarationWritten text at c
  declaration-is w (DeclarationDecodes.written h) = h
  declaration-is w (early _) = elim w [ ]
  declaration-is w (cut _) = elim w [ ]
  declaration-is w (outside _) = elim w [ ]
  declaration-is w (unknown _ _ _) = elim w [ ]

  declaration-early : D Declaration.EndsEarly → (length text ≤ at) ⊎ DeclarationCut text at
  declaration-early (DeclarationDecodes.early le) = inl le
  declaration-early (DeclarationDecodes.cut c) = inr c
  declaration-early (written x'') = elim x'' [ ]

  declaration-out : D Declaration.OutOfRange → DeclarationOutside text at
  declaration-out (DeclarationDecodes.outside o) = o
  declaration-out (written x'') = elim x'' [ ]

  declaration-none : D Declaration.Unknown → (at < length text) × ¬ DeclarationByte byte × ¬ (byte ≡ 0x13)
  declaration-none (DeclarationDecodes.unknown lt u k) = (lt, u, k)
  declaration-none (written x'') = elim x'' [ ]

  -- A whole declaration is decoded exactly where its bytes are written.
  pub declaration-written : (c : Declaration) → ((declaration_at text at ≡ c) × DeclarationWhole c) ↔ DeclarationWritten text at c
  declaration-written c = (λ h. declaration-is h.1 (subst D h.0 declaration-decodes), written-declaration c)

  -- It ends early exactly if no byte is left or it is cut; it is out of range exactly if an operand is outside its range; it is
  -- unknown exactly if its byte is no declaration's and no LINK's.
  pub declaration-cut : (declaration_at text at ≡ Declaration.EndsEarly) ↔ ((length text ≤ at) ⊎ DeclarationCut text at)
  declaration-cut = (λ e. declaration-early (subst D e declaration-decodes), back)
    where
      back : (length text ≤ at) ⊎ DeclarationCut text at → declaration_at text at ≡ Declaration.EndsEarly
      back (inl le) = early-declaration le
      back (inr c) = declaration-here (declaration-cut-inside c) (cut-declaration c)

  pub declaration-outside : (declaration_at text at ≡ Declaration.OutOfRange) ↔ DeclarationOutside text at
  declaration-outside = (
    λ e. declaration-out (subst D e declaration-decodes),
    λ o. declaration-here (declaration-outside-inside o) (outside-declaration o),
  )

  pub declaration-unknown : (declaration_at text at ≡ Declaration.Unknown) ↔
      ((at < length text) × ¬ DeclarationByte (byte_at text at) × ¬ (byte_at text at ≡ 0x13))
  declaration-unknown = (
    λ e. declaration-none (subst D e declaration-decodes),
    λ h. declaration-here h.0 (unknown-declaration h.1 h.2),
  )

-- Operators.
module _ (text : List ℕ) (at : ℕ) where
  abbrev O : Operator → Type 0
  O c = OperatorDecodes text at c

  operator-whole : (n : ℕ) (c : Operator) → (length text < at + n → OperatorCut text at) → (at + n ≤ length text → O c) →
      O (whole Operator.EndsEarly text at n c)
  operator-whole n c f h = whole-all O Operator.EndsEarly text at n c (λ g. OperatorDecodes.cut (f g)) h

  plain-decodes : (kind : Kind) → IsPlain kind → byte_at text at ≡ read_byte kind →
      O (plain_read kind text at)
  unfolding plain_read
  plain-decodes kind e b =
      operator-whole (in_expression 0x21) _ (λ g. OperatorCut.read kind b (omega (arith, plain-width kind e))) (λ h.
      OperatorDecodes.written (OperatorWritten.plain kind e h b))

  sampled-decodes : (kind : Kind) → IsSampled kind → byte_at text at ≡ read_byte kind →
      O (sampled_read kind text at)
  unfolding sampled_read
  sampled-decodes kind e b =
      let i = byte_at text (at + 2) in
      let n = byte_at text (at + 3) in
      operator-whole (in_expression 0x23) _ (λ g. OperatorCut.read kind b (omega (arith, sampled-width kind e))) (λ h.
      chosen-all O (is_factor n && is_index i n) _ _
      (λ t. let r = (in-ranges i n).0 t in OperatorDecodes.written (OperatorWritten.sampled kind e h b r.0 r.1))
      (λ f. OperatorDecodes.outside (OperatorOutside.sampled kind e h b (fails (in-ranges i n) f))))

  binary-decodes : at < length text → (operator : Binary) → byte_at text at ≡ binary_byte operator → O (Operator.Binary operator)
  binary-decodes lt operator b = OperatorDecodes.written (OperatorWritten.binary operator (omega arith) b)

  operator-picks : at < length text → O (operator_of (byte_at text at) text at)
  unfolding operator_of
  operator-picks lt =
      let y = byte_at text at in
      picked O y 0x20 _ _ (λ b.
      operator-whole (in_expression 0x20) _ (OperatorCut.constant b) (λ h. OperatorDecodes.written (OperatorWritten.constant h b)))
      (λ c.
      picked O y 0x21 _ _ (plain-decodes Now tt) (λ r1.
      picked O y 0x22 _ _ (plain-decodes Last tt) (λ r2.
      picked O y 0x23 _ _ (sampled-decodes When tt) (λ r3.
      picked O y 0x24 _ _ (sampled-decodes LastWhen tt) (λ r4.
      picked O y 0x25 _ _ (sampled-decodes Current tt) (λ r5.
      picked O y 0x30 _ _ (binary-decodes lt Add) (λ b0.
      picked O y 0x31 _ _ (binary-decodes lt Sub) (λ b1.
      picked O y 0x32 _ _ (binary-decodes lt Mul) (λ b2.
      picked O y 0x33 _ _ (binary-decodes lt Less) (λ b3.
      picked O y 0x34 _ _ (binary-decodes lt Same) (λ b4.
      picked O y 0x35 _ _ (binary-decodes lt Min) (λ b5.
      picked O y 0x36 _ _ (binary-decodes lt Max) (λ b6.
      picked O y 0x38 _ _ (λ b. OperatorDecodes.written (OperatorWritten.unary Negate (omega arith) b)) (λ u.
      picked O y 0x3A _ _ (λ b. OperatorDecodes.written (OperatorWritten.choose (omega arith) b)) (λ i.
      picked O y 0x3B _ _ (λ b. OperatorDecodes.written (OperatorWritten.unary Table (omega arith) b)) (λ t.
      OperatorDecodes.unknown lt
      (no-operator c (no_read r1 r2 r3 r4 r5) (no-binary b0 b1 b2 b3 b4 b5 b6) u i t)))))))))))))))))

  pub operator-decodes : O (operator_at text at)
  unfolding operator_at
  operator-decodes = here-all O Operator.EndsEarly text at _ (λ le. OperatorDecodes.early le) operator-picks

  -- What is written, cut, outside its range or unknown is decoded so.
  operator-here : {c : Operator} → at < length text → operator_of (byte_at text at) text at ≡ c → operator_at text at ≡ c
  unfolding operator_at
  operator-here lt e = rw (lt-ltb at (length text) lt, e)

  written-operator : (c : Operator) → OperatorWritten text at c → (operator_at text at ≡ c) × OperatorWhole c
  unfolding operator_of plain_read sampled_read
  written-operator c (OperatorWritten.constant h b) =
      (operator-here (omega arith) (rw b (there Operator.EndsEarly text at (in_expression 0x20) _ h)), tt)
  written-operator c (OperatorWritten.plain kind e h b) = (
    operator-here (omega arith) (plain-picked text at kind e b ∙ there Operator.EndsEarly text at (in_expression 0x21) _ h),
    tt,
  )
  written-operator c (OperatorWritten.sampled kind e h b r i) = (
    operator-here (omega arith)
        (sampled-picked text at kind e b ∙ there Operator.EndsEarly text at (in_expression 0x23) _ h ∙
        rw ((in-ranges _ _).1 (r, i))),
    tt,
  )
  written-operator c (OperatorWritten.binary operator h b) =
      (operator-here (omega arith) (binary-picked text at operator b), tt)
  written-operator c (OperatorWritten.unary operator h b) = (operator-here (omega arith) (unary-picked text at operator b), tt)
  written-operator c (OperatorWritten.choose h b) = (operator-here (omega arith) (rw b), tt)

  pub operator-cut-byte : OperatorCut text at → OperatorByte (byte_at text at)
  operator-cut-byte (OperatorCut.constant b g) = OperatorByte.constant b
  operator-cut-byte (OperatorCut.read kind b g) = OperatorByte.read kind b

  pub operator-outside-byte : OperatorOutside text at → OperatorByte (byte_at text at)
  operator-outside-byte (OperatorOutside.sampled kind e h b u) = OperatorByte.read kind b

  plain-cut : (kind : Kind) → IsPlain kind → byte_at text at ≡ read_byte kind →
      length text < at + read_width kind → operator_of (byte_at text at) text at ≡ Operator.EndsEarly
  unfolding plain_read
  plain-cut kind e b g =
      plain-picked text at kind e b ∙
      missing Operator.EndsEarly text at (in_expression 0x21) _ (omega (arith, plain-width kind e))

  sampled-cut : (kind : Kind) → IsSampled kind → byte_at text at ≡ read_byte kind →
      length text < at + read_width kind → operator_of (byte_at text at) text at ≡ Operator.EndsEarly
  unfolding sampled_read
  sampled-cut kind e b g =
      sampled-picked text at kind e b ∙
      missing Operator.EndsEarly text at (in_expression 0x23) _ (omega (arith, sampled-width kind e))

  read-cut : (kind : Kind) → byte_at text at ≡ read_byte kind → length text < at + read_width kind →
      operator_of (byte_at text at) text at ≡ Operator.EndsEarly
  read-cut Now b g = plain-cut Now tt b g
  read-cut Last b g = plain-cut Last tt b g
  read-cut When b g = sampled-cut When tt b g
  read-cut LastWhen b g = sampled-cut LastWhen tt b g
  read-cut Current b g = sampled-cut Current tt b g

  cut-operator : OperatorCut text at → operator_of (byte_at text at) text at ≡ Operator.EndsEarly
  unfolding operator_of
  cut-operator (OperatorCut.constant b g) = rw b (missing Operator.EndsEarly text at (in_expression 0x20) _ g)
  cut-operator (OperatorCut.read kind b g) = read-cut kind b g

  outside-operator : OperatorOutside text at → operator_of (byte_at text at) text at ≡ Operator.OutOfRange
  unfolding sampled_read
  outside-operator (OperatorOutside.sampled kind e h b u) =
      let i = byte_at text (at + 2) in
      let n = byte_at text (at + 3) in
      sampled-picked text at kind e b ∙ there Operator.EndsEarly text at (in_expression 0x23) _ h ∙
      rw (failing (in-ranges i n) u)

  unknown-operator : ¬ OperatorByte (byte_at text at) → operator_of (byte_at text at) text at ≡ Operator.Unknown
  unfolding operator_of
  unknown-operator u =
      let y = byte_at text at in
      rw (
        ne_eqb y 0x20 (λ b. u (OperatorByte.constant b)),
        ne_eqb y 0x21 (λ b. u (OperatorByte.read Now b)),
        ne_eqb y 0x22 (λ b. u (OperatorByte.read Last b)),
        ne_eqb y 0x23 (λ b. u (OperatorByte.read When b)),
        ne_eqb y 0x24 (λ b. u (OperatorByte.read LastWhen b)),
        ne_eqb y 0x25 (λ b. u (OperatorByte.read Current b)),
        ne_eqb y 0x30 (λ b. u (OperatorByte.binary Add b)),
        ne_eqb y 0x31 (λ b. u (OperatorByte.binary Sub b)),
        ne_eqb y 0x32 (λ b. u (OperatorByte.binary Mul b)),
        ne_eqb y 0x33 (λ b. u (OperatorByte.binary Less b)),
        ne_eqb y 0x34 (λ b. u (OperatorByte.binary Same b)),
        ne_eqb y 0x35 (λ b. u (OperatorByte.binary Min b)),
        ne_eqb y 0x36 (λ b. u (OperatorByte.binary Max b)),
        ne_eqb y 0x38 (λ b. u (OperatorByte.unary Negate b)),
        ne_eqb y 0x3B (λ b. u (OperatorByte.unary Table b)),
        ne_eqb y 0x3A (λ b. u (OperatorByte.choose b)),
      )

  early-operator : length text ≤ at → operator_at text at ≡ Operator.EndsEarly
  unfolding operator_at
  early-operator le = rw (le-ltb at (length text) le)

  operator-is : {c : Operator} → OperatorWhole c → O c → OperatorWritten text at c
  operator-is w (OperatorDecodes.written h) = h
  operator-is w (early _) = elim w [ ]
  operator-is w (cut _) = elim w [ ]
  operator-is w (outside _) = elim w [ ]
  operator-is w (unknown _ _) = elim w [ ]

  operator-early : O Operator.EndsEarly → (length text ≤ at) ⊎ OperatorCut text at
  operator-early (OperatorDecodes.early le) = inl le
  operator-early (OperatorDecodes.cut c) = inr c
  operator-early (written x'') = elim x'' [ ]

  operator-out : O Operator.OutOfRange → OperatorOutside text at
  operator-out (OperatorDecodes.outside o) = o
  operator-out (written x'') = elim x'' [ ]

  operator-none : O Operator.Unknown → (at < length text) × ¬ OperatorByte (byte_at text at)
  operator-none (OperatorDecodes.unknown lt u) = (lt, u)
  operator-none (written x'') = elim x'' [ ]

  -- The same four of an operator.
  pub operator-written : (c : Operator) → ((operator_at text at ≡ c) × OperatorWhole c) ↔ OperatorWritten text at c
  operator-written c = (λ h. operator-is h.1 (subst O h.0 operator-decodes), written-operator c)

  pub operator-cut : (operator_at text at ≡ Operator.EndsEarly) ↔ ((length text ≤ at) ⊎ OperatorCut text at)
  operator-cut = (λ e. operator-early (subst O e operator-decodes), back)
    where
      back : (length text ≤ at) ⊎ OperatorCut text at → operator_at text at ≡ Operator.EndsEarly
      back (inl le) = early-operator le
      back (inr c) = operator-here (operator-inside text at (operator-cut-byte c)) (cut-operator c)

  pub operator-outside : (operator_at text at ≡ Operator.OutOfRange) ↔ OperatorOutside text at
  operator-outside = (
    λ e. operator-out (subst O e operator-decodes),
    λ o. operator-here (operator-inside text at (operator-outside-byte o)) (outside-operator o),
  )

  pub operator-unknown : (operator_at text at ≡ Operator.Unknown) ↔ ((at < length text) × ¬ OperatorByte (byte_at text at))
  operator-unknown = (
    λ e. operator-none (subst O e operator-decodes),
    λ h. operator-here h.0 (unknown-operator h.1),
  )

-- Schedules.
module _ (text : List ℕ) (at : ℕ) where
  put-decodes : PutDecodes text at (schedule_command_at text at)
  unfolding schedule_command_at
  put-decodes =
      go (ltb at (length text)) (eqb (byte_at text at) 0x00) (eqb (byte_at text at) 0x40)
      (leb (at + in_schedule 0x40) (length text)) refl refl refl refl
    where
      go : (here end put all : Bool) → ltb at (length text) ≡ here → eqb (byte_at text at) 0x00 ≡ end →
          eqb (byte_at text at) 0x40 ≡ put → leb (at + in_schedule 0x40) (length text) ≡ all →
          PutDecodes text at (cond here
          (cond end ScheduleCommand.End
          (cond put
          (cond all (ScheduleCommand.Put (byte_at text (at + 1)) (byte_at text (at + 2))) ScheduleCommand.EndsEarly)
          ScheduleCommand.Unknown))
          ScheduleCommand.EndsEarly)
      go true true put all h e p a =
          PutDecodes.written (PutWritten.end (omega (arith, ltb-true at (length text) h)) (eqb-true _ _ e))
      go true false true true h e p a = PutDecodes.written (PutWritten.put (leb-true _ _ a) (eqb-true _ _ p))
      go true false true false h e p a = PutDecodes.cut (eqb-true _ _ p, leb-false _ _ a)
      go true false false all h e p a =
          PutDecodes.unknown (ltb-true at (length text) h) (eqb-false _ _ e, eqb-false _ _ p)
      go false end put all h e p a = PutDecodes.early (ltb-false at (length text) h)

  put-command : (c : ScheduleCommand) → PutDecodes text at c → schedule_command_at text at ≡ c
  unfolding schedule_command_at
  put-command c (PutDecodes.early le) = rw (le-ltb at (length text) le)
  put-command c (PutDecodes.cut h) =
      let lt = byte_inside text at (omega (arith, h.0)) in
      rw (lt-ltb at (length text) lt, h.0, lt-leb (at + in_schedule 0x40) (length text) h.1)
  put-command c (PutDecodes.unknown lt u) = rw (lt-ltb at (length text) lt, ne_eqb _ _ u.0, ne_eqb _ _ u.1)
  put-command c (PutDecodes.written (PutWritten.end h b)) = rw (lt-ltb at (length text) (omega arith), b)
  put-command c (PutDecodes.written (PutWritten.put h b)) =
      rw (lt-ltb at (length text) (omega arith), b, le-leb (at + in_schedule 0x40) (length text) h)

  put_whole : (c : ScheduleCommand) → PutWritten text at c → PutWhole c
  put_whole c (PutWritten.end h b) = tt
  put_whole c (PutWritten.put h b) = tt

  whole-put : {c : ScheduleCommand} → PutWhole c → PutDecodes text at c → PutWritten text at c
  whole-put w (PutDecodes.written h) = h
  whole-put w (early _) = elim w [ ]
  whole-put w (cut _) = elim w [ ]
  whole-put w (unknown _ _) = elim w [ ]

  pub put_written : (c : ScheduleCommand) → ((schedule_command_at text at ≡ c) × PutWhole c) ↔ PutWritten text at c
  put_written c = (
    λ h. whole-put h.1 (subst (PutDecodes text at) h.0 put-decodes),
    λ w. (put-command c (PutDecodes.written w), put_whole c w),
  )

  cut-put : PutDecodes text at ScheduleCommand.EndsEarly → (length text ≤ at) ⊎ PutCut text at
  cut-put (PutDecodes.early le) = inl le
  cut-put (PutDecodes.cut h) = inr h
  cut-put (written x'') = elim x'' [ ]

  unknown-put : PutDecodes text at ScheduleCommand.Unknown → (at < length text) × NoPutByte (byte_at text at)
  unknown-put (PutDecodes.unknown lt u) = (lt, u)
  unknown-put (written x'') = elim x'' [ ]

  pub put-cut : (schedule_command_at text at ≡ ScheduleCommand.EndsEarly) ↔ ((length text ≤ at) ⊎ PutCut text at)
  put-cut = (λ e. cut-put (subst (PutDecodes text at) e put-decodes), back)
    where
      back : (length text ≤ at) ⊎ PutCut text at → schedule_command_at text at ≡ ScheduleCommand.EndsEarly
      back (inl le) = put-command _ (PutDecodes.early le)
      back (inr h) = put-command _ (PutDecodes.cut h)

  pub put-unknown : (schedule_command_at text at ≡ ScheduleCommand.Unknown) ↔ ((at < length text) × NoPutByte (byte_at text at))
  put-unknown = (
    λ e. unknown-put (subst (PutDecodes text at) e put-decodes),
    λ h. put-command _ (PutDecodes.unknown h.0 h.1),
  )

-- What is written is decoded, and what is decoded whole is written.
module _ {text : List ℕ} {at : ℕ} where
  pub decoded : {c : Declaration} → DeclarationWritten text at c → declaration_at text at ≡ c
  decoded {c} w = ((declaration-written text at c).1 w).0

  pub as_written : (c : Declaration) → DeclarationWhole c → declaration_at text at ≡ c → DeclarationWritten text at c
  as_written c w e = (declaration-written text at c).0 (e, w)

  pub operator-decoded : {c : Operator} → OperatorWritten text at c → operator_at text at ≡ c
  operator-decoded {c} w = ((operator-written text at c).1 w).0

  pub operator-as-written : (c : Operator) → OperatorWhole c → operator_at text at ≡ c → OperatorWritten text at c
  operator-as-written c w e = (operator-written text at c).0 (e, w)

  pub put-decoded : {c : ScheduleCommand} → PutWritten text at c → schedule_command_at text at ≡ c
  put-decoded {c} w = ((put_written text at c).1 w).0

  pub put-as-written : (c : ScheduleCommand) → PutWhole c → schedule_command_at text at ≡ c → PutWritten text at c
  put-as-written c w e = (put_written text at c).0 (e, w)

-- The same of a code's commands.
module _ (code : List ℕ) (at : ℕ) where
  abbrev CodeReads : Code → Type 0
  CodeReads c = CodeWhole c → CodeWritten code at c

  code_here : (c : Code) → (at < length code → CodeReads c) → CodeReads (cond (ltb at (length code)) c Code.EndsEarly)
  code_here c h = go (ltb at (length code)) refl
    where
      go : (b : Bool) → ltb at (length code) ≡ b → CodeReads (cond b c Code.EndsEarly)
      go true e = h (ltb-true at (length code) e)
      go false e = λ w. absurd w

  code-pick : (b : ℕ) (x y : Code) → (byte_at code at ≡ b → CodeReads x) → CodeReads y →
      CodeReads (cond (eqb (byte_at code at) b) x y)
  code-pick b x y h g = go (eqb (byte_at code at) b) refl
    where
      go : (t : Bool) → eqb (byte_at code at) b ≡ t → CodeReads (cond t x y)
      go true e = h (eqb-true (byte_at code at) b e)
      go false e = g

  code-whole : (n : ℕ) (c : Code) → (at + n ≤ length code → CodeReads c) → CodeReads (whole_code code at n c)
  code-whole n c h = go (leb (at + n) (length code)) refl
    where
      go : (b : Bool) → leb (at + n) (length code) ≡ b → CodeReads (cond b c Code.EndsEarly)
      go true e = h (leb-true (at + n) (length code) e)
      go false e = λ w. absurd w

  code-operator : at < length code → CodeReads (operator_code (byte_at code at))
  unfolding operator_code
  code-operator lt =
      code-pick 0x30 _ _ (λ e w. CodeWritten.binary Add (omega arith) e)
      (code-pick 0x31 _ _ (λ e w. CodeWritten.binary Sub (omega arith) e)
      (code-pick 0x32 _ _ (λ e w. CodeWritten.binary Mul (omega arith) e)
      (code-pick 0x33 _ _ (λ e w. CodeWritten.binary Less (omega arith) e)
      (code-pick 0x34 _ _ (λ e w. CodeWritten.binary Same (omega arith) e)
      (code-pick 0x35 _ _ (λ e w. CodeWritten.binary Min (omega arith) e)
      (code-pick 0x36 _ _ (λ e w. CodeWritten.binary Max (omega arith) e)
      (code-pick 0x38 _ _ (λ e w. CodeWritten.unary Negate (omega arith) e)
      (code-pick 0x3A _ _ (λ e w. CodeWritten.choose (omega arith) e)
      (code-pick 0x3B _ _ (λ e w. CodeWritten.unary Table (omega arith) e) (λ w. absurd w))))))))))

  code_reads : CodeReads (code_at code at)
  unfolding code_at
  code_reads =
      code_here _ (λ lt.
      code-pick 0x50 _ _ (λ e. code-whole (in_code 0x50) _ (λ h w. CodeWritten.push h e))
      (code-pick 0x51 _ _ (λ e. code-whole (in_code 0x51) _ (λ h w. CodeWritten.load h e))
      (code-pick 0x52 _ _ (λ e. code-whole (in_code 0x52) _ (λ h w. CodeWritten.fetch h e))
      (code-pick 0x5F _ _ (λ e. code-whole (in_code 0x5F) _ (λ h w. CodeWritten.store h e)) (code-operator lt)))))

  written-binary : (operator : Binary) → at < length code → byte_at code at ≡ binary_byte operator →
      code_at code at ≡ Code.Binary operator
  unfolding code_at operator_code
  written-binary Add lt e = rw (lt-ltb at (length code) lt, e)
  written-binary Sub lt e = rw (lt-ltb at (length code) lt, e)
  written-binary Mul lt e = rw (lt-ltb at (length code) lt, e)
  written-binary Less lt e = rw (lt-ltb at (length code) lt, e)
  written-binary Same lt e = rw (lt-ltb at (length code) lt, e)
  written-binary Min lt e = rw (lt-ltb at (length code) lt, e)
  written-binary Max lt e = rw (lt-ltb at (length code) lt, e)

  -- An operand that is there.
  operand-there : (n : ℕ) (c : Code) → at + n ≤ length code → whole_code code at n c ≡ c
  operand-there n c h = rw (le-leb (at + n) (length code) h)

  written-code : (c : Code) → CodeWritten code at c → (code_at code at ≡ c) × CodeWhole c
  unfolding code_at operator_code
  written-code c (CodeWritten.push h b) =
      (rw (lt-ltb at (length code) (omega arith), b) (operand-there (in_code 0x50) _ h), tt)
  written-code c (CodeWritten.load h b) =
      (rw (lt-ltb at (length code) (omega arith), b) (operand-there (in_code 0x51) _ h), tt)
  written-code c (CodeWritten.fetch h b) =
      (rw (lt-ltb at (length code) (omega arith), b) (operand-there (in_code 0x52) _ h), tt)
  written-code c (CodeWritten.store h b) =
      (rw (lt-ltb at (length code) (omega arith), b) (operand-there (in_code 0x5F) _ h), tt)
  written-code c (CodeWritten.binary operator h b) = (written-binary operator (omega arith) b, tt)
  written-code c (CodeWritten.unary Negate h b) = (rw (lt-ltb at (length code) (omega arith), b), tt)
  written-code c (CodeWritten.unary Table h b) = (rw (lt-ltb at (length code) (omega arith), b), tt)
  written-code c (CodeWritten.choose h b) = (rw (lt-ltb at (length code) (omega arith), b), tt)

  pub code-written : (c : Code) → ((code_at code at ≡ c) × CodeWhole c) ↔ CodeWritten code at c
  code-written c = (λ h. subst CodeReads h.0 code_reads h.1, written-code c)
