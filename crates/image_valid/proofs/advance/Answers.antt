-- `image_valid::advance` meets its contract. Assumes nothing.
use mathlib.Core.Path.{◌≡◌, sym, ap, ap₂, subst, ◌∙◌}
use Rattle.std.specs.Prelude.{Option, unwrap_or}
use Prim.Native.Nat.{ℕ, ◌+◌, ◌<◌}
use native.Mathlib.Omega.{arith}
use Rattle.model.specs.Rules.Word.{byte_at}
use Rattle.image_valid_code.specs.Shape.{ceiling_of, height_after}
use Rattle.image_valid_code.proofs.Turns.{length_some}
use Rattle.image_valid.specs.Walk.{Advances}
use Rattle.image_valid.specs.declared.Cursor.{Cursor}
use Rattle.image_valid.proofs.Walking.{words, goes-plain, goes-own, own_on}
use Rattle.image_valid.proofs.advance.Goals as goal
use Rattle.image_valid.proofs.advance.Goals.{After-after, Start}

abbrev start : After-after → Start
start a = (goal.at.After-after a).Start

-- the words after the command, by the tables
told : (a : After-after) → let s = a in
    unwrap_or a.after.result 33 ≡ words s.args.image.now s.args.cursor s.requires.1 s.requires.2 a.after.ensures.bytes.1
told a =
    let s = a in
    let image = s.args.image.now in
    let c = s.args.cursor in
    let b = byte_at image c.at in
    a.after.ensures.words ∙
    ap₂ (λ (p q : ℕ). height_after p q (byte_at image (c.at + 1)) c.height) (s.requires.0.shaped.entry b a.after.ensures.bytes.0)
    (s.requires.0.topped.entry b a.after.ensures.bytes.0 ∙ ap (λ (m : ℕ). ceiling_of m b) s.requires.0.count)

pub past_own-requires : goal.past_own-requires
past_own-requires c =
    let s = c in
    let named = s.requires.1.inside (omega (arith, s.requires.2)) in
    (s.requires.0.head, s.requires.0.count, omega (arith, s.requires.0.count, named), s.requires.2, s.requires.1.most)

pub returns-in_default : goal.returns-in_default
returns-in_default c =
    let a = (goal.at.returns-in_default c).After-after in
    let s = c in
    let image = s.args.image.now in
    subst (λ (r : Cursor). Advances image s.args.cursor r × (s.args.cursor.at < r.at)) (sym c.past_own.ensures) (
      goes-own image s.args.cursor s.requires.1 s.requires.2 a.after.ensures.bytes.1
          (omega (arith, told a, ap (λ (r : Option ℕ). unwrap_or r 33) c.in_default.is)),
      own_on image s.args.cursor s.requires.1 s.requires.2 a.after.ensures.bytes.1,
    )

pub overflow_add-next : goal.overflow_add-next
overflow_add-next c =
    let s = c in
    omega (arith, c.command_bytes.ensures, (length_some (byte_at s.args.image.now s.args.cursor.at)).1, s.requires.2)

pub returns : goal.returns
returns c =
    let e = c in
    let a = (goal.at.returns c).After-after in
    let s = c in (
      goes-plain s.args.image.now s.args.cursor s.requires.1 s.requires.2 a.after.ensures.bytes.1 c.command_bytes.result
          e.in-Some.height c.command_bytes.ensures (ap (λ (r : Option ℕ). unwrap_or r 33) (sym e.in-Some.is) ∙ told a) e.in-Some.ensures.within,
      omega (arith, c.command_bytes.ensures, (length_some (byte_at s.args.image.now s.args.cursor.at)).0),
    )
