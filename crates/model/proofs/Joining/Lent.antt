-- Where the numbers of a part and the bytes of a link stand in what is lent. Assumes nothing.
use Prim.Native.Nat.{ℕ, ◌+◌, ◌*◌, ◌%◌, ◌≤◌, ◌<◌}
use mathlib.Core.List.{List}
use native.Mathlib.Nat.{div-add-mod', mod-lt}
use native.Mathlib.Omega.{arith}
use lib.ListN.{length}
use Rattle.model.specs.Rules.Join.{parts_in, links_in}

pub number-inside : (numbers : List ℕ) (k i : ℕ) → k < parts_in numbers → i < 4 → 4 * k + i < length numbers
number-inside numbers k i lt l = omega (arith, div-add-mod' (length numbers) 4)

-- Link i, cut or not, is one of the links.
pub link-in : (links : List ℕ) (i : ℕ) → 4 * i < length links → i < links_in links
link-in links i lt =
    let m : (length links + 3) % 4 < 4 = mod-lt (length links + 3) (omega arith) in
    omega (arith, div-add-mod' (length links + 3) 4, m)

pub link-back : (links : List ℕ) (i : ℕ) → i < links_in links → 4 * i < length links
link-back links i lt = omega (arith, div-add-mod' (length links + 3) 4)

pub link-out : (links : List ℕ) (i : ℕ) → length links ≤ 4 * i → links_in links ≤ i
link-out links i le = omega (arith, div-add-mod' (length links + 3) 4)
