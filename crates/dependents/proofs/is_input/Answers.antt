-- `dependents::is_input` meets its contract. Assumes nothing.
use Prim.Native.Nat.{ℕ, ◌<◌}
use mathlib.Core.List.{List}
use mathlib.Core.Path.{sym, ap, ◌∙◌}
use native.Mathlib.Omega.{arith}
use borrow.Author.Rules.{rules}
use lib.Dec.{eqb}
use Rattle.model.specs.Rules.Program.{Program}
use Rattle.model.specs.Rules.Word.{byte_at}
use Rattle.text_program.specs.Tables.{Stands}
use Rattle.text_program.specs.declared.Tables.{Tables}
use Rattle.text_program.proofs.ByIndex.{few-signals}
use Rattle.dependents.proofs.Inputs.{no-signal, place-stands, by_byte}
use Rattle.dependents.proofs.is_input.Goals as goal

-- The place of signal x lies in the table.
small : {text reads : List ℕ} {t : Tables} {p : Program} → Stands text reads t p → (x : ℕ) → x < t.signals → x < 64
small k x lt = omega (arith, lt, few-signals _ _ _ k.declares k.tables-are)

pub returns-then-tables-x : goal.returns-then-tables-x
returns-then-tables-x c =
    let s = c in
    λ p reads e. sym (no-signal e s.args.x c.if-tables-x.true)

pub bounds-text-place : goal.bounds-text-place
bounds-text-place c =
    let s = c in
    omega (
      arith,
      c.from_entry-place.ensures.0,
      place-stands s.requires.1.1 s.args.x (omega (arith, c.if-tables-x.false)),
    )

pub returns : goal.returns
returns c =
    let s = c in
    λ p reads e.
    ap (λ (n : ℕ). eqb (byte_at s.args.text.now n) 0x10) c.from_entry-place.ensures.0 ∙
    by_byte e s.args.x (omega (arith, c.if-tables-x.false))

pub offset_bounds-places-x : goal.offset_bounds-places-x
offset_bounds-places-x c =
    omega (arith, c.if-tables-x.false, small c.requires.1.1 c.args.x (omega (arith, c.if-tables-x.false)))

pub bounds-places-x : goal.bounds-places-x
bounds-places-x c = small c.requires.1.1 c.args.x (omega (arith, c.if-tables-x.false))
