-- A legal program text, rewritten, is legal and declares the same program up to places and the conversion. Assumes nothing.
use Prim.Native.Nat.{ℕ, zero, suc, ◌+◌, ◌≤◌, ◌<◌}
use mathlib.Core.Bool.{Bool, true, false, cond}
use mathlib.Core.List.{List, [], ◌∷◌, ◌++◌, map, map-append}
use mathlib.Core.Path.{◌≡◌, refl, sym, ap, ap₂, subst, ◌∙◌}
use native.Mathlib.Omega.{arith}
use borrow.Author.Tests.{eqb-true, eqb-false, eq-eqb, le-ltb}
use lib.Dec.{eqb}
use lib.IntN.{ℤ}
use lib.ListN.{length, get_or, take, drop, length-append, length-drop, length-map, get_or-append, get_or-eq_default}
use lib.Seq.{drop-drop, drop-append_seam, get_or-drop, get_or-take, length-take-le}
use Rattle.model.specs.Says.Feasible.{All}
use Rattle.model.specs.Rules.Command.{is_operator, declaration_at}
use Rattle.theorems_conversion.specs.Convert.{
  is_single,
  map_expr,
  map_signal,
  map_link,
  map_chain,
  map_row,
  bare_read,
  bare,
  Renamed,
}
use Rattle.model.specs.Rules.Rewrite.{single_kind}
use Rattle.model.specs.Says.Grammar.{
  depth,
  Allowed,
  Spells,
  SpellsLinks,
  IsSignal,
  DeclaresOne,
  Declares,
  LegalWith,
  LegalProgram,
}
use Rattle.model.specs.Rules.Program.{
  least_factor,
  Program,
  Signal,
  Chain,
  Link,
  Expr,
  constant,
  read,
  binary,
  unary,
  choose,
  input,
  equation,
  Read,
  empty,
  with_signal,
  with_chain,
  with_row,
  with_cap,
  unlimited,
  count,
  reads_of,
  body_reads,
}
use Rattle.model.specs.Rules.Rewrite.{
  Command,
  of_declaration,
  of_operator,
  command_at,
  declaration_width,
  operator_width,
  width_of,
  operator_after,
  bytes_after,
  rewrite_at,
  rewrite_from,
  rewrite,
}
use Rattle.model.specs.Rules.Table.{Row}
use Rattle.model.specs.Rules.Word.{byte_at, two_at, four_at, word_of, word_at}
use Rattle.model.specs.Rules.Width.{read_width}
use Rattle.model.specs.Says.Written.{IsPlain, read_byte, DeclarationWritten, OperatorWritten}
use Rattle.model.specs.declared.Binary.{Binary}
use Rattle.model.specs.declared.Declaration.{Declaration}
use Rattle.model.specs.declared.Index.{Index}
use Rattle.model.specs.declared.Index.TheVariants.{Fixed, Open}
use Rattle.model.specs.declared.Kind.{Kind}
use Rattle.model.specs.declared.Kind.TheVariants.{Now, Last, When, LastWhen, Current}
use Rattle.model.specs.declared.Mode.{Mode}
use Rattle.model.specs.declared.Operator.{Operator}
use Rattle.model.specs.declared.Sampled.{Sampled}
use Rattle.model.specs.declared.Unary.{Unary}
use Rattle.model.proofs.Texts.Legal.{read-width}
use Rattle.model.proofs.Basics.All.{all_append}
use Rattle.model.proofs.Texts.Commands.{ReadSound, link-decoded, operator-of, operator-sound}
use Rattle.theorems_conversion.proofs.Converted.{single-twice, count-bare}
use Rattle.model.proofs.Pairs.Decide.{InRange}
use Rattle.model.proofs.Texts.Picks.{signal-inside, operator-byte, plain-width, sampled-width}
use Rattle.model.proofs.Texts.Written.{decoded, operator-decoded}

-- A command that is written, of either kind.
abbrev pub CommandWritten : List ℕ → ℕ → Command → Type 0
CommandWritten text at (of_declaration d) = DeclarationWritten text at d
CommandWritten text at (of_operator o) = OperatorWritten text at o

pub no-operator : {text : List ℕ} {at : ℕ} {d : Declaration} → DeclarationWritten text at d → is_operator (byte_at text at) ≡ false
no-operator (DeclarationWritten.end h b) = rw b
no-operator (DeclarationWritten.input h b r) = rw b
no-operator (DeclarationWritten.equation h b r) = rw b
no-operator (DeclarationWritten.latency h b r) = rw b
no-operator (DeclarationWritten.link h b) = rw b
no-operator (DeclarationWritten.cap h b) = rw b
no-operator (DeclarationWritten.tag h b) = rw b
no-operator (DeclarationWritten.row h b r) = rw b

pub command-decoded : (text : List ℕ) (at : ℕ) (c : Command) → CommandWritten text at c → command_at text at ≡ c
unfolding command_at
command-decoded text at (of_declaration d) w = rw (no-operator w) (ap of_declaration (decoded w))
command-decoded text at (of_operator o) w =
    rw ((operator-byte (byte_at text at)).1 (operator-of text at w)) (ap of_operator (operator-decoded w))

declaration-inside : {text : List ℕ} {at : ℕ} {d : Declaration} → DeclarationWritten text at d →
    (at + declaration_width d ≤ length text) × (1 ≤ declaration_width d)
declaration-inside (DeclarationWritten.end h b) = (h, omega arith)
declaration-inside (DeclarationWritten.input h b r) = (h, omega arith)
declaration-inside (DeclarationWritten.equation h b r) = (h, omega arith)
declaration-inside (DeclarationWritten.latency h b r) = (h, omega arith)
declaration-inside (DeclarationWritten.link h b) = (h, omega arith)
declaration-inside (DeclarationWritten.cap h b) = (h, omega arith)
declaration-inside (DeclarationWritten.tag h b) = (h, omega arith)
declaration-inside (DeclarationWritten.row h b r) = (h, omega arith)

-- It lies within the text, and takes a byte at least.
operator-inside : {text : List ℕ} {at : ℕ} {o : Operator} → OperatorWritten text at o →
    (at + operator_width o ≤ length text) × (1 ≤ operator_width o)
operator-inside (OperatorWritten.constant h b) = (h, omega arith)
operator-inside (OperatorWritten.plain kind e h b) = (omega (arith, plain-width kind e), omega (arith, read-width kind))
operator-inside (OperatorWritten.sampled kind e h b r i) =
    (omega (arith, sampled-width kind e), omega (arith, read-width kind))
operator-inside (OperatorWritten.binary operator h b) = (h, omega arith)
operator-inside (OperatorWritten.unary operator h b) = (h, omega arith)
operator-inside (OperatorWritten.choose h b) = (h, omega arith)

pub command-inside : (text : List ℕ) (at : ℕ) (c : Command) → CommandWritten text at c →
    (at + width_of c ≤ length text) × (1 ≤ width_of c)
command-inside text at (of_declaration d) w = declaration-inside w
command-inside text at (of_operator o) w = operator-inside w

-- No command grows.
operator-shorter : (o : Operator) (bytes : List ℕ) → length bytes ≤ operator_width o →
    length (operator_after o bytes) ≤ operator_width o
operator-shorter Operator.EndsEarly bytes h = h
operator-shorter Operator.Unknown bytes h = h
operator-shorter Operator.OutOfRange bytes h = h
operator-shorter (Operator.Constant w) bytes h = h
operator-shorter (Operator.Read kind x) bytes h = go (eqb x.factor 1)
  where
    go : (b : Bool) → length (cond b (read_byte (single_kind kind) ∷ x.signal ∷ []) bytes) ≤ read_width kind
    go true = omega (arith, read-width kind)
    go false = h
operator-shorter (Operator.Binary operator) bytes h = h
operator-shorter (Operator.Unary operator) bytes h = h
operator-shorter Operator.If bytes h = h

after-shorter : (c : Command) (bytes : List ℕ) → length bytes ≤ width_of c → length (bytes_after c bytes) ≤ width_of c
after-shorter (of_declaration d) bytes h = h
after-shorter (of_operator o) bytes h = operator-shorter o bytes h

-- With factor 1 an index in range is 0, or open.
range-single : (n : ℕ) (i : Index) → n ≡ 1 → InRange n i → is_single n i ≡ true
range-single n (Fixed i) e lt = rw (eq-eqb n 1 e, eq-eqb i 0 (omega arith))
range-single n Open e u = rw (eq-eqb n 1 e)

single-plain : (kind : Kind) → IsPlain (single_kind kind)
single-plain Now = tt
single-plain Last = tt
single-plain When = tt
single-plain LastWhen = tt
single-plain Current = tt

-- NOW and LAST are allowed, and a factor of 2 or more is.
plain-allowed : (kind : Kind) (x : Sampled) → IsPlain kind → Allowed least_factor kind x
plain-allowed Now x h = tt
plain-allowed Last x h = tt
plain-allowed When x h = absurd h
plain-allowed LastWhen x h = absurd h
plain-allowed Current x h = absurd h

two-allowed : (kind : Kind) (x : Sampled) → 2 ≤ x.factor → Allowed least_factor kind x
two-allowed Now x h = tt
two-allowed Last x h = tt
two-allowed When x h = h
two-allowed LastWhen x h = h
two-allowed Current x h = h

-- A read of the shortened rule.
abbrev pub AllowedRead : Read → Type 0
AllowedRead ρ = Allowed least_factor ρ.kind ρ.operands

-- Every read of a program is one.
abbrev pub AllowedIn : Program → Type 0
AllowedIn p = All (λ x. All AllowedRead (body_reads x.body)) p.signals

allowed-signal : (p : Program) (x : Signal) → AllowedIn p → All AllowedRead (body_reads x.body) → AllowedIn (with_signal p x)
allowed-signal p x h g = all_append (λ x. All AllowedRead (body_reads x.body)) p.signals (x ∷ []) h (g, tt)

-- What programs that are the same up to places and the conversion share.
module _ (p p' : Program) where
  count_same : bare p ≡ bare p' → count p ≡ count p'
  count_same same = sym (count-bare p) ∙ ap (λ b. count b) same ∙ count-bare p'

  chains-same : bare p ≡ bare p' → length p.chains ≡ length p'.chains
  chains-same same =
      sym (length-map p.chains (map_chain bare_read (λ at. 0))) ∙ ap (λ b. length b.chains) same ∙
      length-map p'.chains (map_chain bare_read (λ at. 0))

  rows_same : bare p ≡ bare p' → length p.rows ≡ length p'.rows
  rows_same same =
      sym (length-map p.rows (map_row bare_read (λ at. 0))) ∙ ap (λ b. length b.rows) same ∙
      length-map p'.rows (map_row bare_read (λ at. 0))

  row_same : (r r' : Row) → bare p ≡ bare p' → map_row bare_read (λ at. 0) r ≡ map_row bare_read (λ at. 0) r' →
      bare (with_row p r) ≡ bare (with_row p' r')
  row_same r r' same e =
      rw (
        map-append (map_row bare_read (λ at. 0)) p.rows (r ∷ []),
        map-append (map_row bare_read (λ at. 0)) p'.rows (r' ∷ []),
      )
      (ap₂ with_row same e)

  signal-same : (x x' : Signal) → bare p ≡ bare p' → map_signal bare_read (λ at. 0) x ≡ map_signal bare_read (λ at. 0) x' →
      bare (with_signal p x) ≡ bare (with_signal p' x')
  signal-same x x' same e =
      rw (
        map-append (map_signal bare_read (λ at. 0)) p.signals (x ∷ []),
        map-append (map_signal bare_read (λ at. 0)) p'.signals (x' ∷ []),
      )
      (ap₂ with_signal same e)

  chain_same : (c c' : Chain) → bare p ≡ bare p' → map_chain bare_read (λ at. 0) c ≡ map_chain bare_read (λ at. 0) c' →
      bare (with_chain p c) ≡ bare (with_chain p' c')
  chain_same c c' same e =
      rw (
        map-append (map_chain bare_read (λ at. 0)) p.chains (c ∷ []),
        map-append (map_chain bare_read (λ at. 0)) p'.chains (c' ∷ []),
      )
      (ap₂ with_chain same e)

depth-bare : (e : Expr) → depth (map_expr bare_read e) ≡ depth e
unfolding map_expr
depth-bare (constant w) = refl
depth-bare (read ρ) = refl
depth-bare (binary operator x y) = rw (depth-bare x, depth-bare y)
depth-bare (unary operator x) = rw (depth-bare x)
depth-bare (choose x y z) = rw (depth-bare x, depth-bare y, depth-bare z)

depth_same : (x y : Expr) → map_expr bare_read x ≡ map_expr bare_read y → depth x ≡ depth y
depth_same x y e = sym (depth-bare x) ∙ ap depth e ∙ depth-bare y

module _ (text new : List ℕ) where
  -- n bytes of the text stand in the new one.
  pub record Copied (at at' n : ℕ) : Type 0 where
    pub inside : at' + n ≤ length new
    pub bytes : (i : ℕ) → i < n → byte_at new (at' + i) ≡ byte_at text (at + i)

  module _ {at at' n : ℕ} (c : Copied at at' n) where
    byte-copied : (i : ℕ) → i < n → (a b : ℕ) → a ≡ at + i → b ≡ at' + i → byte_at new b ≡ byte_at text a
    byte-copied i lt a b e f = rw (e, f) (c.bytes i lt)

    two-copied : (j : ℕ) → j + 2 ≤ n → two_at new (at' + j) ≡ two_at text (at + j)
    unfolding two_at
    two-copied j le =
        let a = c.bytes j (omega arith) in
        let b = byte-copied (j + 1) (omega arith) (at + j + 1) (at' + j + 1) (omega arith) (omega arith) in
        omega arith

    four-copied : (j : ℕ) → j + 4 ≤ n → four_at new (at' + j) ≡ four_at text (at + j)
    unfolding four_at
    four-copied j le =
        let a = c.bytes j (omega arith) in
        let b = byte-copied (j + 1) (omega arith) (at + j + 1) (at' + j + 1) (omega arith) (omega arith) in
        let d = byte-copied (j + 2) (omega arith) (at + j + 2) (at' + j + 2) (omega arith) (omega arith) in
        let e = byte-copied (j + 3) (omega arith) (at + j + 3) (at' + j + 3) (omega arith) (omega arith) in
        omega arith

    word_copied : (j : ℕ) → j + 4 ≤ n → word_at new (at' + j) ≡ word_at text (at + j)
    unfolding word_at
    word_copied j le = ap word_of (four-copied j le)

    first-copied : 1 ≤ n → byte_at new at' ≡ byte_at text at
    first-copied le = byte-copied 0 (omega arith) at at' (omega arith) (omega arith)

  -- A command whose bytes are copied is the same command.
  declaration-copied : {at at' : ℕ} {d : Declaration} → DeclarationWritten text at d → Copied at at' (declaration_width d) →
      DeclarationWritten new at' d
  declaration-copied (DeclarationWritten.end h b) c = DeclarationWritten.end c.inside (first-copied c (omega arith) ∙ b)
  declaration-copied {at} {at'} (DeclarationWritten.input h b r) c =
      let e = c.bytes 1 (omega arith) in
      rw (← e, ← word_copied c 2 (omega arith)) (DeclarationWritten.input c.inside (first-copied c (omega arith) ∙ b) (rw e r))
  declaration-copied {at} {at'} (DeclarationWritten.equation h b r) c =
      let e = c.bytes 1 (omega arith) in
      rw (← e, ← word_copied c 2 (omega arith), ← two-copied c 6 (omega arith))
      (DeclarationWritten.equation c.inside (first-copied c (omega arith) ∙ b) (rw e r))
  declaration-copied (DeclarationWritten.latency h b r) c =
      let e = c.bytes 1 (omega arith) in
      rw (← e, ← two-copied c 2 (omega arith))
      (DeclarationWritten.latency c.inside (first-copied c (omega arith) ∙ b) (rw e r))
  declaration-copied (DeclarationWritten.link h b) c =
      rw (← c.bytes 1 (omega arith)) (DeclarationWritten.link c.inside (first-copied c (omega arith) ∙ b))
  declaration-copied (DeclarationWritten.cap h b) c =
      rw (← four-copied c 1 (omega arith)) (DeclarationWritten.cap c.inside (first-copied c (omega arith) ∙ b))
  declaration-copied (DeclarationWritten.tag h b) c =
      rw (← two-copied c 1 (omega arith)) (DeclarationWritten.tag c.inside (first-copied c (omega arith) ∙ b))
  declaration-copied (DeclarationWritten.row h b r) c =
      let low = word_copied c 1 (omega arith) in
      let high = word_copied c 5 (omega arith) in
      rw (← low, ← high, ← word_copied c 9 (omega arith))
      (DeclarationWritten.row c.inside (first-copied c (omega arith) ∙ b) (rw (low, high) r))

  operator-copied : {at at' : ℕ} {o : Operator} → OperatorWritten text at o → Copied at at' (operator_width o) →
      OperatorWritten new at' o
  operator-copied (OperatorWritten.constant h b) c =
      rw (← word_copied c 1 (omega arith)) (OperatorWritten.constant c.inside (first-copied c (omega arith) ∙ b))
  operator-copied (OperatorWritten.plain kind e h b) c =
      let n = plain-width kind e in
      rw (← c.bytes 1 (omega arith))
      (OperatorWritten.plain kind e (omega (arith, c.inside)) (first-copied c (omega arith) ∙ b))
  operator-copied (OperatorWritten.sampled kind e h b r i) c =
      let n = sampled-width kind e in
      let f = c.bytes 2 (omega arith) in
      let g = c.bytes 3 (omega arith) in
      rw (← c.bytes 1 (omega arith), ← f, ← g)
      (OperatorWritten.sampled kind e (omega (arith, c.inside)) (first-copied c (omega arith) ∙ b) (rw g r) (rw (f, g) i))
  operator-copied (OperatorWritten.binary operator h b) c =
      OperatorWritten.binary operator c.inside (first-copied c (omega arith) ∙ b)
  operator-copied (OperatorWritten.unary operator h b) c =
      OperatorWritten.unary operator c.inside (first-copied c (omega arith) ∙ b)
  operator-copied (OperatorWritten.choose h b) c = OperatorWritten.choose c.inside (first-copied c (omega arith) ∙ b)

  written-copied : {at at' : ℕ} (c : Command) → CommandWritten text at c → Copied at at' (width_of c) → CommandWritten new at' c
  written-copied (of_declaration d) w k = declaration-copied w k
  written-copied (of_operator o) w k = operator-copied w k

  -- What stands from `at'` on in the new text is what stands from `at` on in the text, rewritten.
  pub record Stands (at at' : ℕ) : Type 0 where
    pub left : ℕ
    pub enough : length text ≤ left + at
    pub inside : at' ≤ length new
    pub shorter : at' ≤ at
    pub rest : drop at' new ≡ rewrite_from left text at

  -- One command on.
  pub record Steps (at at' : ℕ) (c : Command) : Type 0 where
    pub next : Stands (at + width_of c) (at' + length (rewrite_at text at c))
    pub bytes : (i : ℕ) → i < length (rewrite_at text at c) → byte_at new (at' + i) ≡ get_or (rewrite_at text at c) i 0

  bytes-shorter : (at : ℕ) (c : Command) → CommandWritten text at c → length (rewrite_at text at c) ≤ width_of c
  unfolding rewrite_at
  bytes-shorter at c w =
      after-shorter c _
      (omega (
        arith,
        length-take-le (width_of c) (drop at text) (omega (arith, length-drop at text, (command-inside text at c w).0)),
      ))

  stands-steps : {at at' : ℕ} (c : Command) → CommandWritten text at c → Stands at at' → Steps at at' c
  unfolding rewrite_from
  stands-steps {at} {at'} c w s = go s.left s.enough s.rest
    where
      P : List ℕ
      P = rewrite_at text at c

      here : command_at text at ≡ c
      here = command-decoded text at c w

      go : (left : ℕ) → length text ≤ left + at → drop at' new ≡ rewrite_from left text at → Steps at at' c
      go zero le e = absurd (omega (arith, command-inside text at c w))
      go (suc left) le e =
          let R = rewrite_from left text (at + width_of c) in
          let f : drop at' new ≡ P ++ R = e ∙ ap (λ d. rewrite_at text at d ++ rewrite_from left text (at + width_of d)) here in
          record {
            next =
                record {
                  left = left;
                  enough = omega (arith, (command-inside text at c w).1);
                  inside = omega (arith, length-drop at' new, ap length f, length-append P R, s.inside);
                  shorter = omega (arith, bytes-shorter at c w, s.shorter);
                  rest = sym (drop-drop (length P) at' new) ∙ ap (drop (length P)) f ∙ drop-append_seam P R;
                };
            bytes = λ i lt. sym (get_or-drop at' new i 0) ∙ ap (λ l. get_or l i 0) f ∙ get_or-append P R 0 i lt;
          }

  -- A command whose bytes are kept stands in the new text too.
  pub record Kept (at at' : ℕ) (c : Command) : Type 0 where
    pub here : CommandWritten new at' c
    pub next : Stands (at + width_of c) (at' + width_of c)
    pub first : byte_at new at' ≡ byte_at text at

  steps-kept : {at at' : ℕ} (c : Command) → CommandWritten text at c →
      bytes_after c (take (width_of c) (drop at text)) ≡ take (width_of c) (drop at text) → Stands at at' → Kept at at' c
  unfolding rewrite_at
  steps-kept {at} {at'} c w e s =
      let n = width_of c in
      let P = take n (drop at text) in
      let wide : length P ≡ n = length-take-le n (drop at text)
      (omega (arith, length-drop at text, (command-inside text at c w).0)) in
      let steps = stands-steps c w s in
      let next : Stands (at + n) (at' + n) = subst (λ m. Stands (at + n) (at' + m)) (ap length e ∙ wide) steps.next in
      let copied : Copied at at' n =
      record {
        inside = next.inside;
        bytes = λ i lt.
            steps.bytes i (rw (e, wide) lt) ∙ ap (λ l. get_or l i 0) e ∙ get_or-take n (drop at text) i 0 lt ∙ get_or-drop at text i 0;
      } in
      record {
        here = written-copied c w copied;
        next = next;
        first = first-copied copied (command-inside text at c w).1;
      }

  kept : {at at' : ℕ} (c : Command) → CommandWritten text at c → ((bytes : List ℕ) → bytes_after c bytes ≡ bytes) → Stands at at' →
      Kept at at' c
  kept c w same s = steps-kept c w (same _) s

  -- A read stands in the new text, converted.
  pub record ReadMoved (at at' : ℕ) (kind : Kind) (x : Sampled) : Type 0 where
    pub read : Kind
    pub operands : Sampled
    pub here : OperatorWritten new at' (Operator.Read read operands)
    pub same : bare_read (record { place = at; kind = kind; operands = x }) ≡
        bare_read (record { place = at'; kind = read; operands = operands })
    pub next : Stands (at + read_width kind) (at' + read_width read)
    pub allowed : Allowed least_factor read operands

  read-moved : {at at' : ℕ} (kind : Kind) (x : Sampled) → OperatorWritten text at (Operator.Read kind x) → Stands at at' →
      ReadMoved at at' kind x
  unfolding rewrite_at
  read-moved {at} {at'} kind x w s = go (eqb x.factor 1) refl
    where
      sound : ReadSound x
      sound = (operator-sound text at (Operator.Read kind x) (operator-decoded w)).0

      made : ℕ → Kind → Read
      made n a = record { place = 0; kind = a; operands = record { signal = x.signal; factor = n; index = Fixed 0 } }

      go : (b : Bool) → eqb x.factor 1 ≡ b → ReadMoved at at' kind x
      go true t =
          let one : x.factor ≡ 1 = eqb-true _ _ t in
          let single : is_single x.factor x.index ≡ true = range-single x.factor x.index one sound.range in
          let P : List ℕ = read_byte (single_kind kind) ∷ x.signal ∷ [] in
          let p : rewrite_at text at (of_operator (Operator.Read kind x)) ≡ P = rw t in
          let steps = stands-steps (of_operator (Operator.Read kind x)) w s in
          let next : Stands (at + read_width kind) (at' + 2) =
          subst (λ l. Stands (at + read_width kind) (at' + length l)) p steps.next in
          let zeroth : at' ≡ at' + 0 = omega arith in
          let byte : byte_at new at' ≡ read_byte (single_kind kind) =
          ap (λ b. byte_at new b) zeroth ∙ steps.bytes 0 (rw p (omega arith)) ∙ ap (λ l. get_or l 0 0) p in
          let signal : byte_at new (at' + 1) ≡ x.signal = steps.bytes 1 (rw p (omega arith)) ∙ ap (λ l. get_or l 1 0) p in
          record {
            read = single_kind kind;
            operands = record { signal = byte_at new (at' + 1); factor = 1; index = Fixed 0 };
            here = OperatorWritten.plain (single_kind kind) (single-plain kind) next.inside byte;
            same = rw (single, signal, one) (ap (λ a. made 1 a) (sym (single-twice kind)));
            next = rw (plain-width (single_kind kind) (single-plain kind)) next;
            allowed = plain-allowed (single_kind kind) _ (single-plain kind);
          }
      go false t =
          let k = steps-kept (of_operator (Operator.Read kind x)) w (rw t) s in
          record {
            read = kind;
            operands = x;
            here = k.here;
            same = refl;
            next = k.next;
            allowed = two-allowed kind x (omega (arith, sound.positive, eqb-false x.factor 1 t));
          }

  -- An expression stands in the new text, converted.
  pub record ExprMoved (e : Expr) (next at' : ℕ) : Type 0 where
    pub expr : Expr
    pub end : ℕ
    pub spells : Spells least_factor new at' expr end
    pub same : map_expr bare_read e ≡ map_expr bare_read expr
    pub onward : Stands next end
    pub allowed : All AllowedRead (reads_of expr)

  -- An expression moves with the place where it stands.
  abbrev Moves : (at : ℕ) (e : Expr) (next : ℕ) → Type 0
  Moves at e next = (at' : ℕ) → Stands at at' → ExprMoved e next at'

  constant-moves : (at : ℕ) (w : ℤ) → OperatorWritten text at (Operator.Constant w) → Moves at (constant w) (at + 5)
  unfolding map_expr reads_of
  constant-moves at w e at' s =
      let k = kept (of_operator (Operator.Constant w)) e (λ bytes. refl) s in
      record {
        expr = constant w;
        end = at' + 5;
        spells = Spells.constants k.here;
        same = refl;
        onward = k.next;
        allowed = tt;
      }

  read-moves : (at : ℕ) (kind : Kind) (x : Sampled) → OperatorWritten text at (Operator.Read kind x) →
      Moves at (read (record { place = at; kind = kind; operands = x })) (at + read_width kind)
  unfolding map_expr reads_of
  read-moves at kind x e at' s =
      let k = read-moved kind x e s in
      record {
        expr = read (record { place = at'; kind = k.read; operands = k.operands });
        end = at' + read_width k.read;
        spells = Spells.reads k.here k.allowed;
        same = ap read k.same;
        onward = k.next;
        allowed = (k.allowed, tt);
      }

  two-moves : (at m n : ℕ) (operator : Binary) (x y : Expr) → OperatorWritten text at (Operator.Binary operator) →
      Moves (at + 1) x m → Moves m y n → Moves at (binary operator x y) n
  unfolding map_expr reads_of
  two-moves at m n operator x y e f g at' s =
      let k = kept (of_operator (Operator.Binary operator)) e (λ bytes. refl) s in
      let a = f (at' + 1) k.next in
      let b = g a.end a.onward in
      record {
        expr = binary operator a.expr b.expr;
        end = b.end;
        spells = Spells.two k.here a.spells b.spells;
        same = ap₂ (binary operator) a.same b.same;
        onward = b.onward;
        allowed = all_append AllowedRead (reads_of a.expr) (reads_of b.expr) a.allowed b.allowed;
      }

  one-moves : (at n : ℕ) (operator : Unary) (x : Expr) → OperatorWritten text at (Operator.Unary operator) → Moves (at + 1) x n →
      Moves at (unary operator x) n
  unfolding map_expr reads_of
  one-moves at n operator x e f at' s =
      let k = kept (of_operator (Operator.Unary operator)) e (λ bytes. refl) s in
      let a = f (at' + 1) k.next in
      record {
        expr = unary operator a.expr;
        end = a.end;
        spells = Spells.one k.here a.spells;
        same = ap (unary operator) a.same;
        onward = a.onward;
        allowed = a.allowed;
      }

  three-moves : (at m n o : ℕ) (x y z : Expr) → OperatorWritten text at Operator.If → Moves (at + 1) x m → Moves m y n →
      Moves n z o → Moves at (choose x y z) o
  unfolding map_expr reads_of
  three-moves at m n o x y z e f g h at' s =
      let k = kept (of_operator Operator.If) e (λ bytes. refl) s in
      let a = f (at' + 1) k.next in
      let b = g a.end a.onward in
      let c = h b.end b.onward in
      record {
        expr = choose a.expr b.expr c.expr;
        end = c.end;
        spells = Spells.three k.here a.spells b.spells c.spells;
        same =
            ap₂ (λ u v. choose u v (map_expr bare_read z)) a.same b.same ∙
            ap (choose (map_expr bare_read a.expr) (map_expr bare_read b.expr)) c.same;
        onward = c.onward;
        allowed =
            all_append AllowedRead (reads_of a.expr) (reads_of b.expr ++ reads_of c.expr) a.allowed
            (all_append AllowedRead (reads_of b.expr) (reads_of c.expr) b.allowed c.allowed);
      }

  expr-moves : {at next : ℕ} {e : Expr} → Spells 1 text at e next → Moves at e next
  expr-moves (Spells.constants e) = constant-moves _ _ e
  expr-moves (Spells.reads e t) = read-moves _ _ _ e
  expr-moves (Spells.two e a b) = two-moves _ _ _ _ _ _ e (expr-moves a) (expr-moves b)
  expr-moves (Spells.one e a) = one-moves _ _ _ _ e (expr-moves a)
  expr-moves (Spells.three e a b c) = three-moves _ _ _ _ _ _ _ e (expr-moves a) (expr-moves b) (expr-moves c)

  -- The LINKs of a chain.
  pub record LinksMoved (ls : List Link) (next at' : ℕ) : Type 0 where
    pub links : List Link
    pub end : ℕ
    pub spells : SpellsLinks new at' links end
    pub same : map (map_link bare_read (λ at. 0)) ls ≡ map (map_link bare_read (λ at. 0)) links
    pub onward : Stands next end

  -- The byte after them stays what it is.
  abbrev Follows : ℕ → Type 0
  Follows next = (b : ℕ) → Stands next b → byte_at new b ≡ byte_at text next

  no-link-moves : (at : ℕ) → eqb (byte_at text at) 0x13 ≡ false → Follows at → (at' : ℕ) → Stands at at' → LinksMoved [] at at'
  no-link-moves at e f at' s =
      let g : eqb (byte_at new at') 0x13 ≡ false = rw (f at' s) e in
      record { links = []; end = at'; spells = SpellsLinks.ends g; same = refl; onward = s }

  link-moves : (at n : ℕ) (ls : List Link) → byte_at text at ≡ 0x13 → at + 2 ≤ length text →
      ((at' : ℕ) → Stands (at + 2) at' → LinksMoved ls n at') → (at' : ℕ) → Stands at at' →
      LinksMoved (record { place = at; signal = byte_at text (at + 1) } ∷ ls) n at'
  link-moves at n ls e le f at' s =
      let k = kept (of_declaration (Declaration.Link (byte_at text (at + 1)))) (DeclarationWritten.link le e) (λ bytes. refl) s in
      let b : byte_at new at' ≡ 0x13 = k.first ∙ e in
      let i : at' + 2 ≤ length new = k.next.inside in
      let same : Declaration.Link (byte_at text (at + 1)) ≡ Declaration.Link (byte_at new (at' + 1)) =
      sym (decoded k.here) ∙ link-decoded new at' b i in
      let signal : byte_at text (at + 1) ≡ byte_at new (at' + 1) = cc in
      let m = f (at' + 2) k.next in
      record {
        links = record { place = at'; signal = byte_at new (at' + 1) } ∷ m.links;
        end = m.end;
        spells = SpellsLinks.link b i m.spells;
        same = ap₂ (λ a l. record { place = 0; signal = a } ∷ l) signal m.same;
        onward = m.onward;
      }

  links-move : {at next : ℕ} {ls : List Link} → SpellsLinks text at ls next → Follows next → (at' : ℕ) → Stands at at' →
      LinksMoved ls next at'
  links-move (SpellsLinks.ends e) f = no-link-moves _ e f
  links-move (SpellsLinks.link e le r) f = link-moves _ _ _ e le (links-move r f)

  -- The commands from `at'` on declare, after p', the same program.
  pub record DeclaresMoved (p' q : Program) (at' label : ℕ) : Type 0 where
    pub program : Program
    pub end : ℕ
    pub declares : Declares least_factor new at' label p' end program
    pub same : bare q ≡ bare program
    pub allowed : AllowedIn program
    pub short : length new ≤ length text

  abbrev Declaring : (at label : ℕ) (p q : Program) → Type 0
  Declaring at label p q =
      (at' : ℕ) (p' : Program) → bare p ≡ bare p' → AllowedIn p' → Stands at at' → DeclaresMoved p' q at' label

  -- Nothing stands after the text.
  pub none_after : (left at : ℕ) → length text ≤ at → rewrite_from left text at ≡ []
  unfolding rewrite_from rewrite_at command_at declaration_at
  none_after zero at le = refl
  none_after (suc left) at le =
      rw (get_or-eq_default text 0 le, le-ltb at (length text) le) (none_after left (at + 0) (omega arith))

  end-moves : (at label : ℕ) (p : Program) → DeclarationWritten text at Declaration.End → length text ≤ at + 1 →
      Declaring at label p p
  end-moves at label p e le at' p' same allowed s =
      let k = kept (of_declaration Declaration.End) e (λ bytes. refl) s in
      let n = k.next in
      let g : length new ≤ at' + 1 =
      omega (arith, length-drop (at' + 1) new, ap length (n.rest ∙ none_after n.left (at + 1) le)) in
      record {
        program = p';
        end = at';
        declares = Declares.ends k.here g;
        same = same;
        allowed = allowed;
        short = omega (arith, s.shorter, (declaration-inside e).0);
      }

  input-moves : (at label period : ℕ) (initial : ℤ) (p q : Program) → count p < 64 →
      DeclarationWritten text at (Declaration.Input period initial) →
      Declaring (at + 6) 0
      (with_signal p (record { place = at; period = period; initial = initial; body = input; label = label })) q →
      Declaring at label p q
  input-moves at label period initial p q room e f at' p' same allowed s =
      let k = kept (of_declaration (Declaration.Input period initial)) e (λ bytes. refl) s in
      let fits : count p' < 64 = omega (arith, count_same p p' same) in
      let x' : Signal = record { place = at'; period = period; initial = initial; body = input; label = label } in
      let m =
      f (at' + 6) (with_signal p' x') (signal-same p p' _ x' same refl) (allowed-signal p' x' allowed tt) k.next in
      record {
        program = m.program;
        end = m.end;
        declares = Declares.onward (DeclaresOne.inputs fits k.here) m.declares;
        same = m.same;
        allowed = m.allowed;
        short = m.short;
      }

  equation-moves : (at label next period weight : ℕ) (initial : ℤ) (x : Expr) (p q : Program) → count p < 64 →
      DeclarationWritten text at (Declaration.Equation period initial weight) → Moves (at + 8) x next → depth x ≤ 16 →
      Declaring next 0
      (with_signal p (record { place = at; period = period; initial = initial; body = equation weight x; label = label })) q →
      Declaring at label p q
  equation-moves at label next period weight initial x p q room e g deep f at' p' same allowed s =
      let k = kept (of_declaration (Declaration.Equation period initial weight)) e (λ bytes. refl) s in
      let a = g (at' + 8) k.next in
      let fits : count p' < 64 = omega (arith, count_same p p' same) in
      let x' : Signal =
      record { place = at'; period = period; initial = initial; body = equation weight a.expr; label = label } in
      let eq :
      map_signal bare_read (λ at. 0)
      (record { place = at; period = period; initial = initial; body = equation weight x; label = label }) ≡
      map_signal bare_read (λ at. 0) x' =
      ap (λ b. record { place = 0; period = period; initial = initial; body = equation weight b; label = label }) a.same in
      let m =
      f a.end (with_signal p' x') (signal-same p p' _ x' same eq) (allowed-signal p' x' allowed a.allowed) a.onward in
      record {
        program = m.program;
        end = m.end;
        declares =
            Declares.onward
            (DeclaresOne.equations fits k.here a.spells (omega (arith, depth_same x a.expr a.same))) m.declares;
        same = m.same;
        allowed = m.allowed;
        short = m.short;
      }

  chain-moves : (at label next bound : ℕ) (mode : Mode) (ls : List Link) (p q : Program) → length p.chains < 16 →
      DeclarationWritten text at (Declaration.Latency mode bound) → ((b : ℕ) → Stands (at + 4) b → LinksMoved ls next b) →
      2 ≤ length ls →
      length ls ≤ 16 → Declaring next 0 (with_chain p (record { place = at; mode = mode; bound = bound; links = ls })) q →
      Declaring at label p q
  chain-moves at label next bound mode ls p q room e g low high f at' p' same allowed s =
      let k = kept (of_declaration (Declaration.Latency mode bound)) e (λ bytes. refl) s in
      let a = g (at' + 4) k.next in
      let fits : length p'.chains < 16 = omega (arith, chains-same p p' same) in
      let c' : Chain = record { place = at'; mode = mode; bound = bound; links = a.links } in
      let eq : map_chain bare_read (λ at. 0) (record { place = at; mode = mode; bound = bound; links = ls }) ≡
      map_chain bare_read (λ at. 0) c' =
      ap (λ l. record { place = 0; mode = mode; bound = bound; links = l }) a.same in
      let m = f a.end (with_chain p' c') (chain_same p p' _ c' same eq) allowed a.onward in
      let long : length ls ≡ length a.links =
      sym (length-map ls (map_link bare_read (λ at. 0))) ∙ ap length a.same ∙
      length-map a.links (map_link bare_read (λ at. 0)) in
      record {
        program = m.program;
        end = m.end;
        declares =
            Declares.onward (DeclaresOne.chains fits k.here a.spells (omega arith) (omega arith)) m.declares;
        same = m.same;
        allowed = m.allowed;
        short = m.short;
      }

  cap-moves : (at label n : ℕ) (p q : Program) → p.cap ≡ unlimited → DeclarationWritten text at (Declaration.Cap n) →
      Declaring (at + 5) 0 (with_cap p n) q → Declaring at label p q
  cap-moves at label n p q room e f at' p' same allowed s =
      let k = kept (of_declaration (Declaration.Cap n)) e (λ bytes. refl) s in
      let m = f (at' + 5) (with_cap p' n) (ap (λ b. with_cap b n) same) allowed k.next in
      record {
        program = m.program;
        end = m.end;
        declares = Declares.onward (DeclaresOne.caps (sym (ap (λ b. b.cap) same) ∙ room) k.here) m.declares;
        same = m.same;
        allowed = m.allowed;
        short = m.short;
      }

  row-moves : (at label : ℕ) (low high result : ℤ) (p q : Program) → length p.rows < 32 →
      DeclarationWritten text at (Declaration.Row low high result) →
      Declaring (at + 13) 0 (with_row p (record { place = at; low = low; high = high; result = result })) q → Declaring at label
      p q
  row-moves at label low high result p q room e f at' p' same allowed s =
      let k = kept (of_declaration (Declaration.Row low high result)) e (λ bytes. refl) s in
      let fits : length p'.rows < 32 = omega (arith, rows_same p p' same) in
      let r' : Row = record { place = at'; low = low; high = high; result = result } in
      let m = f (at' + 13) (with_row p' r') (row_same p p' _ r' same refl) allowed k.next in
      record {
        program = m.program;
        end = m.end;
        declares = Declares.onward (DeclaresOne.rows fits k.here) m.declares;
        same = m.same;
        allowed = m.allowed;
        short = m.short;
      }

  -- A TAG stands where it stood, and IN or EQ after it.
  tag-moves : (at label given : ℕ) (p q : Program) → DeclarationWritten text at (Declaration.Tag given) →
      IsSignal (byte_at text (at + 3)) →
      Follows (at + 3) → Declaring (at + 3) given p q → Declaring at label p q
  tag-moves at label given p q e signal follows f at' p' same allowed s =
      let k = kept (of_declaration (Declaration.Tag given)) e (λ bytes. refl) s in
      let stays = follows (at' + 3) k.next in
      let m = f (at' + 3) p' same allowed k.next in
      let here : IsSignal (byte_at new (at' + 3)) = rw stays signal in
      record {
        program = m.program;
        end = m.end;
        declares = Declares.onward (DeclaresOne.tags k.here (signal-inside new (at' + 3) here) here) m.declares;
        same = m.same;
        allowed = m.allowed;
        short = m.short;
      }

  -- A declaration keeps its first byte, so that a chain ends where it ended.
  one_follows : {at label next given : ℕ} {p q : Program} → DeclaresOne 1 text at label p next given q → Follows at
  one_follows (DeclaresOne.inputs room e) b s = (kept (of_declaration (Declaration.Input _ _)) e (λ bytes. refl) s).first
  one_follows (DeclaresOne.equations room e x deep) b s =
      (kept (of_declaration (Declaration.Equation _ _ _)) e (λ bytes. refl) s).first
  one_follows (DeclaresOne.chains room e l low high) b s =
      (kept (of_declaration (Declaration.Latency _ _)) e (λ bytes. refl) s).first
  one_follows (DeclaresOne.caps room e) b s = (kept (of_declaration (Declaration.Cap _)) e (λ bytes. refl) s).first
  one_follows (DeclaresOne.tags e more signal) b s = (kept (of_declaration (Declaration.Tag _)) e (λ bytes. refl) s).first
  one_follows (DeclaresOne.rows room e) b s = (kept (of_declaration (Declaration.Row _ _ _)) e (λ bytes. refl) s).first

  declares-follows : {at label end : ℕ} {p q : Program} → Declares 1 text at label p end q → Follows at
  declares-follows (Declares.ends e le) b s = (kept (of_declaration Declaration.End) e (λ bytes. refl) s).first
  declares-follows (Declares.onward d r) b s = one_follows d b s

  declared-moves : {at label next given : ℕ} {p r : Program} (q : Program) → DeclaresOne 1 text at label p next given r →
      Follows next →
      Declaring next given r q → Declaring at label p q
  declared-moves q (DeclaresOne.inputs {p = p} room e) follows r = input-moves _ _ _ _ p q room e r
  declared-moves q (DeclaresOne.equations {p = p} room e x deep) follows r =
      equation-moves _ _ _ _ _ _ _ p q room e (expr-moves x) deep r
  declared-moves q (DeclaresOne.chains {p = p} room e l low high) follows r =
      chain-moves _ _ _ _ _ _ p q room e (links-move l follows) low high r
  declared-moves q (DeclaresOne.caps {p = p} room e) follows r = cap-moves _ _ _ p q room e r
  declared-moves q (DeclaresOne.tags {p = p} e more signal) follows r = tag-moves _ _ _ p q e signal follows r
  declared-moves q (DeclaresOne.rows {p = p} room e) follows r = row-moves _ _ _ _ _ p q room e r

  declares-moves : {at label end : ℕ} {p q : Program} → Declares 1 text at label p end q → Declaring at label p q
  declares-moves (Declares.ends e le) = end-moves _ _ _ e le
  declares-moves (Declares.onward {r = q} d r) = declared-moves q d (declares-follows r) (declares-moves r)

-- A legal text, rewritten.
pub record Rewritten (text : List ℕ) (p : Program) : Type 0 where
  pub program : Program
  pub legal : LegalProgram (rewrite text) program
  pub renamed : Renamed p program
  pub allowed : AllowedIn program
  pub short : length (rewrite text) ≤ length text

pub rewrite-legal : (text : List ℕ) (p : Program) → LegalWith 1 text p → Rewritten text p
unfolding rewrite
rewrite-legal text p l =
    let m =
    declares-moves text (rewrite text) l.1 0 empty refl tt
    (record { left = length text; enough = omega arith; inside = omega arith; shorter = omega arith; rest = refl }) in
    record {
      program = m.program;
      legal = (m.end, m.declares);
      renamed = record { same = m.same };
      allowed = m.allowed;
      short = m.short;
    }
