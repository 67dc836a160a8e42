-- `text_list::put_lead` meets its contract. Assumes nothing.
use mathlib.Core.Path.{◌≡◌, refl, ap}
use native.Mathlib.Omega.{arith}
use lib.ListN.{length}
use mathlib.Core.List.{◌∷◌, []}
use Rattle.text_list.specs.Puts.{lead_by}
use Rattle.text_list.proofs.Writes.{lead-first, lead-space, lead-line}
use Rattle.text_list.proofs.put_lead.Goals as goal
use Rattle.text_list.proofs.put_lead.Goals.{Else-opens-eq0, Then-opens-eq0}

pub returns-then-at-eq0 : goal.returns-then-at-eq0
returns-then-at-eq0 c =
    let a = c.args in
    rw (lead-first a.at a.opens c.if-at-eq0.true) (record { holds = refl; ends = omega arith })

space : (c : Then-opens-eq0) → lead_by c.args.at c.args.opens ≡ 32 ∷ []
space c = lead-space c.args.at c.args.opens c.if-at-eq0.false c.if-opens-eq0.true

line : (c : Else-opens-eq0) → lead_by c.args.at c.args.opens ≡ 10 ∷ []
line c = lead-line c.args.at c.args.opens c.if-at-eq0.false c.if-opens-eq0.false

pub returns-then-opens-eq0 : goal.returns-then-opens-eq0
returns-then-opens-eq0 c = rw (space c) (record { holds = refl; ends = refl })

pub returns : goal.returns
returns c = rw (line c) (record { holds = refl; ends = refl })

pub bounds-out-to : goal.bounds-out-to
bounds-out-to c = omega (arith, c.requires, ap length (space c))

pub bounds-out-to-2 : goal.bounds-out-to-2
bounds-out-to-2 c = omega (arith, c.requires, ap length (line c))
