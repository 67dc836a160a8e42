-- `text_list::list_operand` meets its contract. Assumes nothing.
use Prim.Native.Nat.{ℕ, ◌+◌, ◌≤◌}
use mathlib.Core.Bool.{false}
use mathlib.Core.List.{◌∷◌}
use mathlib.Core.Path.{◌≡◌, refl, ap, ◌∙◌}
use native.Mathlib.Omega.{arith}
use lib.ListN.{length}
use Rattle.model.specs.Rules.Outcome.{accepted}
use Rattle.model.specs.Rules.TextForm.{size, low_at, lead, listed_at, operand_token}
use Rattle.model.proofs.Basics.Left.{after}
use Rattle.text_keyword.specs.Cells.{pending_at}
use Rattle.text_list.specs.Puts.{put_of}
use Rattle.text_list.proofs.Writes.{
  size_small,
  operand_put,
  operand-listed,
  operand-cut,
  room-is,
  puts-is,
  puts-refused,
  lead-room,
  token-room,
}
use Rattle.text_list.proofs.list_operand.Goals as goal
use Rattle.text_list.proofs.list_operand.Goals.{After-value_at-value, Start}

-- an operand that is whole, and its value
module _ (v : After-value_at-value) where
  abbrev s : Start
  s = (goal.at.After-value_at-value v).Start

  abbrev value : ℕ
  value = low_at (size s.args.operand) s.args.bytes.now s.args.at

  whole : s.args.at + size s.args.operand ≤ length s.args.bytes.now
  whole = omega (arith, v.if-bytes-at.false, v.size-width.ensures, s.requires.0)

  listed : listed_at s.args.bytes.now s.args.at (s.args.operand ∷ pending_at s.args.next) ≡
      accepted (operand_put s.args.operand (pending_at s.args.next) value)
  listed = operand-listed s.args.bytes.now s.args.at s.args.operand (pending_at s.args.next) whole

  fits : s.args.to + length (put_of s.args.at (operand_put s.args.operand (pending_at s.args.next) value)) ≤
      length s.args.out.now
  fits = room-is listed s.args.at s.args.to s.args.out.now s.requires.1

  is-value : v.value_at-value.result ≡ value
  is-value =
      v.value_at-value.ensures.0 ∙
      ap (λ (n : ℕ). low_at n s.args.bytes.now s.args.at) v.size-width.ensures

pub returns-then-bytes-at : goal.returns-then-bytes-at
returns-then-bytes-at c =
    puts-refused
    (operand-cut c.args.bytes.now c.args.at c.args.operand (pending_at c.args.next)
    (omega (arith, c.if-bytes-at.true, c.size-width.ensures, c.requires.0))) c.args.at c.args.to c.args.out.now
    c.refuse.result c.refuse.ensures

pub put_lead-start-requires : goal.put_lead-start-requires
put_lead-start-requires c =
    let v = (goal.at.put_lead-start-requires c).After-value_at-value in
    lead-room (lead (s v).args.at false) (operand_token (s v).args.operand (value v)) (s v).args.to
    (s v).args.out.now (fits v)

pub put_operand-end-requires : goal.put_operand-end-requires
put_operand-end-requires c =
    let v = (goal.at.put_operand-end-requires c).After-value_at-value in
    rw (is-value v) (token-room (lead (s v).args.at false) (operand_token (s v).args.operand (value v)) (s v).args.to
    (s v).args.out.now (fits v) c.put_lead-start.ensures)

pub returns : goal.returns
returns c =
    let v = (goal.at.returns c).After-value_at-value in
    puts-is (listed v)
    (record {
      wrote = after c.put_lead-start.ensures (rw (is-value v) at c.put_operand-end.ensures);
      width = v.size-width.ensures;
      pending = refl;
    })

pub value_at-value-requires : goal.value_at-value-requires
value_at-value-requires c = (
  omega (arith, c.size-width.ensures, size_small c.args.operand),
  omega (arith, c.if-bytes-at.false, c.requires.0),
)
