-- Links that are free of 31, as the writer takes them. Assumes nothing.
use Prim.Native.Nat.{ℕ, ◌+◌, ◌*◌, ◌/◌, ◌%◌, ◌≤◌, ◌<◌}
use mathlib.Core.List.{List, map}
use mathlib.Core.Path.{◌≡◌, refl, sym, ap, ap₂, subst, ◌∙◌}
use native.Mathlib.Decide.{dec_lt}
use native.Mathlib.Nat.{div-add-mod', mod-lt}
use native.Mathlib.Omega.{arith}
use lib.ListN.{length, length-map, get_or-map}
use lib.Seq.{ext_get_or}
use Rattle.model.specs.Rules.Join.{link_at, links_in, links_of}
use Rattle.model.specs.Rules.Parts.{Part, Wire, wire_of}
use Rattle.model.specs.Says.Feasible.{All}
use Rattle.model.proofs.Basics.All.{at_all}
use Rattle.model.proofs.Basics.Outcomes.{table-length, table_at}
use Rattle.join_check.specs.Met.{LinkInside}
use Rattle.join_check.proofs.Numbered.{link-inside, reader-is, source_is}
use Rattle.join_gather.specs.declared.Joint.{Joint}
use Rattle.join_whole.specs.Whole.{Joining}
use Rattle.model.proofs.Joining.Lent.{link-back}
use Rattle.join_whole.proofs.Wired.{linking}
use Rattle.join_emit.specs.Sources.{wire_by, wires_by, WiresInside}

module _ {parts : List Part} {size : ℕ} {links : List ℕ} {t : Joint} (j : Joining parts size links t)
    (small : t.signals ≤ 64) where
  inside : (i : ℕ) → 4 * i < length links → LinkInside links (4 * i) t.bases
  inside i lt = link-inside (linking j small) i (4 * i) refl lt

  pub wires-inside : WiresInside links t.bases
  wires-inside i lt = inside i (omega (arith, div-add-mod' (length links) 4))

  -- None is cut.
  links-whole : links_in links ≡ length links / 4
  links-whole = go (dec_lt (length links / 4) (links_in links))
    where
      go : Dec (length links / 4 < links_in links) → links_in links ≡ length links / 4
      go (yes lt) =
          let m : length links % 4 < 4 = mod-lt (length links) (omega arith) in
          absurd
          (omega (
            arith,
            (inside (length links / 4) (link-back links (length links / 4) lt)).whole,
            div-add-mod' (length links) 4,
            m,
          ))
      go (no ge) =
          let m : (length links + 3) % 4 < 4 = mod-lt (length links + 3) (omega arith) in
          omega (arith, ge, div-add-mod' (length links) 4, div-add-mod' (length links + 3) 4, m)

  -- They are those of the definition by joined numbers.
  pub wires-are : map (wire_of parts) (links_of links) ≡ wires_by links t.bases
  wires-are =
      let d = wire_of parts (link_at links 0) in
      let n : length (map (wire_of parts) (links_of links)) ≡ length links / 4 =
      simp length-map (table-length (links_in links) (link_at links) ∙ links-whole) in
      ext_get_or d (map (wire_of parts) (links_of links)) (wires_by links t.bases)
      (n ∙ sym (table-length (length links / 4) (wire_by links t.bases)))
      (λ i lt.
      let l : i < length links / 4 = omega (arith, n) in
      let m : i < links_in links = omega (arith, links-whole) in
      let f : 4 * i < length links = link-back links i m in
      get_or-map (wire_of parts) (links_of links) i (link_at links 0) ∙
      ap (wire_of parts) (table_at (links_in links) (link_at links) i (link_at links 0) m) ∙
      ap₂ (λ (r w : ℕ). wire i r w) (sym (reader-is (linking j small) i (4 * i) refl f))
      (sym (source_is (linking j small) i (4 * i) refl f)) ∙
      sym (table_at (length links / 4) (wire_by links t.bases) i d l))
    where
      wire : ℕ → ℕ → ℕ → Wire
      wire i r w = record { place = i; input = r; signal = w }

  -- Each reads one of 64 signals.
  pub wires-near : All (λ (l : Wire). l.signal < 64) (map (wire_of parts) (links_of links))
  wires-near =
      let n = length links / 4 in
      subst (All (λ (l : Wire). l.signal < 64)) (sym wires-are)
      (at_all (λ (l : Wire). l.signal < 64) (wires_by links t.bases) (wire_by links t.bases 0) (λ i lt.
      let l : i < n = omega (arith, table-length n (wire_by links t.bases)) in
      subst (λ (w : Wire). w.signal < 64) (sym (table_at n (wire_by links t.bases) i (wire_by links t.bases 0) l))
      (wires-inside i l).source))
