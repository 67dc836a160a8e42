-- Bytes written over a stretch, one by one. Assumes nothing.
use mathlib.Core.Path.{◌≡◌}
use mathlib.Core.List.{List, append_assoc}
use Prim.Native.Nat.{ℕ, ◌+◌, ◌-◌, ◌/◌, ◌%◌, ◌≤◌}
use native.Mathlib.Omega.{arith}
use lib.ListN.{length}
use borrow.Rule.Slice.PartMut.{put_mid}
use Rattle.std.proofs.lemmas.List.{drop-drop}
use Rattle.std.proofs.lemmas.List.Edits.{sets, sets-eq}

pub written : (out : List ℕ) (at k : ℕ) (bytes new : List ℕ) → at + k ≤ length out → length bytes ≡ k → new ≡ bytes →
    put_mid at (at + k - at) out new ≡ sets out at bytes
written out at k bytes new h n e =
    let same : at + k - at ≡ length bytes = omega arith in
    rw (same, e, sets-eq bytes out at (omega arith)) (simp (append_assoc, drop-drop))

pub low_two : (n : ℕ) → n % 65536 % 256 ≡ n % 256
low_two n = omega arith

pub high_two : (n : ℕ) → n % 65536 / 256 % 256 ≡ n / 256 % 256
high_two n = omega arith
