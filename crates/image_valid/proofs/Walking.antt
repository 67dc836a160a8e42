-- The check of codes one after another, command by command. Assumes nothing.
use mathlib.Core.Path.{◌≡◌, refl, sym, ap, ◌∙◌}
use mathlib.Core.Logic.{◌⊎◌, inl, inr, ⊎_elim}
use mathlib.Core.Bool.{Bool, true, false, cond, ◌&&◌}
use mathlib.Core.List.{List}
use Prim.Native.Nat.{ℕ, zero, suc, ◌+◌, ◌-◌, ◌≤◌, ◌<◌}
use native.Mathlib.Nat.{eq-or-lt_of_le}
use native.Mathlib.Numerals.{add-one}
use native.Mathlib.Omega.{arith}
use borrow.Author.Tests.{leb-true, leb-false, ltb-true, ltb-false, eqb-true, eqb-false, eq-eqb, ne_eqb, le-leb, lt-leb, le-ltb}
use lib.Dec.{leb, ltb, eqb}
use lib.ListN.{length}
use Rattle.model.specs.Rules.Machine.{count_of, row_count, code_offset, code_of, code_ok, code_ok_from, codes_ok}
use Rattle.model.specs.Rules.Word.{byte_at}
use Rattle.model.proofs.Basics.Tests.{by, both}
use Rattle.model.proofs.Pairs.Decide.{all_true, true-all, all-fails}
use Rattle.image_valid_code.specs.Shape.{shape_of, ceiling_of, command_bytes, height_after, fetch_of, last_of}
use Rattle.image_valid_code.proofs.Turns.{turn, goes, short, length_some}
use Rattle.image_valid.specs.Walk.{ends_code, past_own, CursorOk, good, OnTrack, OffTrack, PassedFrom, Advances}
use Rattle.image_valid.specs.declared.Cursor.{Cursor}
use Rattle.image_valid.proofs.Parts.{stretch-length, stretch-at}

-- one code that is not good
pub bad-of : (image : List ℕ) (x : ℕ) → x < count_of image → good image x ≡ false → codes_ok image ≡ false
unfolding codes_ok
bad-of image x l e = all-fails (count_of image) (good image) x l e

-- all are good
pub each-good : (image : List ℕ) → codes_ok image ≡ true → (x : ℕ) → x < count_of image → good image x ≡ true
unfolding codes_ok
each-good image e x l = all_true (count_of image) (good image) e x l

-- a check that starts with a code
pub begun : (image : List ℕ) (x at : ℕ) → at ≡ code_offset image x → OnTrack image (record { at = at; height = 0; own = x })
unfolding code_ok
begun image x at e = record {
  reached = omega (arith, e);
  left = length (code_of image x);
  enough = omega arith;
  same = ap (λ (k : ℕ). code_ok_from (length (code_of image x)) (ltb 0 (row_count image)) (code_of image x) (count_of image) x k 0)
      (none at (code_offset image x) e);
}
  where
    none : (a b : ℕ) → a ≡ b → a - b ≡ 0
    none a b e = omega arith

-- a check that has lost its way stays so
lost-on : (image : List ℕ) (c : Cursor) (to h : ℕ) → c.at ≤ to → OffTrack image c
    → OffTrack image (record { at = to; height = h; own = c.own })
lost-on image c to h l p = record { bad = p.bad; never = λ k a b e. p.never k (omega arith) b e }

-- one that is at the image's end, with a code that is not well formed
ended : (image : List ℕ) (x : ℕ) → codes_ok image ≡ false → OffTrack image (record { at = length image; height = 0; own = x })
ended image x e = record { bad = e; never = λ k a b f. absurd (omega arith) }

-- where a code ends the next one starts
end-at : (image : List ℕ) (c : Cursor) → ends_code image c ≡ true → c.at + 2 ≡ code_offset image (c.own + 1)
unfolding ends_code
end-at image c e =
    eqb-true (c.at + 2) (code_offset image (c.own + 1))
    (both (last_of (byte_at image c.at) (byte_at image (c.at + 1)) c.own c.height) _ e).1

module _ (image : List ℕ) (c : Cursor) where
  abbrev code : List ℕ
  code = code_of image c.own

  abbrev from : ℕ
  from = code_offset image c.own

  abbrev to : ℕ
  to = code_offset image (c.own + 1)

  abbrev rows : Bool
  rows = ltb 0 (row_count image)

  abbrev n : ℕ
  n = count_of image

  abbrev byte : ℕ
  byte = byte_at image c.at

  abbrev x : ℕ
  x = byte_at image (c.at + 1)

  -- two bytes of the code are left
  record TwoLeft : Type 0 where
    rises : from ≤ to
    within : to ≤ length image
    two : c.at + 1 < to

  code-length : to ≤ length image → length code ≡ to - from
  unfolding code_of
  code-length h = stretch-length image from to h

  good-is : TwoLeft → good image c.own ≡ code_ok rows code n c.own
  good-is i = rw (le-leb from to i.rises, le-leb to (length image) i.within) refl

  -- where they are not, the code is not well formed
  sees : OnTrack image c → c.own < n → OffTrack image c ⊎ TwoLeft
  sees w l =
      by (leb from to)
      (λ a. by (leb to (length image))
      (λ b. by (ltb (c.at + 1) to)
      (λ t. inr (record { rises = leb-true from to a; within = leb-true to (length image) b; two = ltb-true (c.at + 1) to t }))
      (λ t. let h = ltb-false (c.at + 1) to t in
      let few : length code ≤ c.at - from + 1 = omega (arith, code-length (leb-true to (length image) b), w.reached) in
      inl (record {
        bad = bad-of image c.own l
            (rw (a, b) (sym w.same ∙ short w.left rows code (c.at - from) n c.own c.height few));
        never = λ k p q e. omega (arith, h);
      })))
      (λ b. let h = leb-false to (length image) b in
      inl (record { bad = bad-of image c.own l (rw (a, b) refl); never = λ k p q e. omega (arith, h) })))
      (λ a. let h = leb-false from to a in
      inl (record { bad = bad-of image c.own l (rw a refl); never = λ k p q e. omega (arith, h, w.reached) }))

  -- the codes below m are good, so that this one ends before code m starts
  rising : ((y : ℕ) → y < n → good image y ≡ true) → (m : ℕ) → m ≤ n → c.own < m → to ≤ code_offset image m
  rising g zero b l = absurd (omega arith)
  rising g (suc m) b l = ⊎_elim
      (λ (e : suc c.own ≡ suc m). let q : to ≡ code_offset image (suc m) = ap (code_offset image) (omega (arith, e)) in
      omega (arith, q))
      (λ e. omega (arith, rising g m (omega arith) (omega arith), next m (omega arith)))
      (eq-or-lt_of_le l)
    where
      next : (y : ℕ) → y < n → code_offset image y ≤ code_offset image (suc y)
      next y lt =
          rw (← (add-one y)) (leb-true (code_offset image y) (code_offset image (y + 1)) (both _ _ (both _ _ (g y lt)).0).0)

  -- the check stopped at the start of code m or past it, short of code m
  pub stuck : {s : ℕ} → PassedFrom image s c → (m : ℕ) → m ≤ n → c.own < m → code_offset image m ≤ c.at + 1 →
      codes_ok image ≡ false
  stuck st m b l e = ⊎_elim (λ p. p.bad)
      (λ w. ⊎_elim (λ p. p.bad)
      (λ i. by (codes_ok image) (λ t. absurd (omega (arith, i.two, rising (each-good image t) m b l))) (λ f. f))
      (sees w (omega arith)))
      st.tells

  -- what the command says of the code, where two bytes of it are left
  module _ (w : OnTrack image c) (i : TwoLeft) (l : c.own < n) (most : c.height ≤ 32) (small : x < 256) where
    abbrev k : ℕ
    k = c.at - from

    abbrev r : ℕ
    r = height_after (shape_of rows byte) (ceiling_of n byte) x c.height

    inner : k + 1 < length code
    inner = omega (arith, code-length i.within, w.reached, i.two)

    here : byte_at code k ≡ byte
    unfolding code_of
    here = stretch-at image from to k (omega (arith, i.two, w.reached)) ∙ ap (byte_at image) (omega (arith, w.reached))

    next : byte_at code (k + 1) ≡ x
    unfolding code_of
    next = stretch-at image from to (k + 1) (omega (arith, i.two, w.reached)) ∙ ap (byte_at image) (omega (arith, w.reached))

    said : code_ok rows code n c.own ≡
        cond (leb r 32) (code_ok_from (w.left - 1) rows code n c.own (k + command_bytes byte) r)
        (cond (fetch_of byte x c.own c.height) (code_ok_from (w.left - 1) rows code n c.own (k + 2) (c.height + 1))
        (last_of byte x c.own c.height && eqb (k + 2) (length code)))
    said =
        sym w.same ∙
        turn w.left rows code k n c.own c.height (omega (arith, inner)) (omega (arith, inner, w.enough)) ∙
        rw (← here, ← next)
        (goes (w.left - 1) rows code k n c.own c.height inner most (omega (arith, l)) (rw next small) (byte_at code k))

    -- a command that goes on in the code
    moved : (bytes h : ℕ) → 1 ≤ bytes → code_ok rows code n c.own ≡ code_ok_from (w.left - 1) rows code n c.own (k + bytes) h
        → OnTrack image (record { at = c.at + bytes; height = h; own = c.own })
    moved bytes h b e = record {
      reached = omega (arith, w.reached);
      left = w.left - 1;
      enough = omega (arith, b, inner, w.enough, w.reached);
      same = ap (λ (j : ℕ). code_ok_from (w.left - 1) rows code n c.own j h) (omega (arith, w.reached)) ∙ sym e;
    }

    -- the first is what `after` says
    plain : r ≤ 32 → OnTrack image (record { at = c.at + command_bytes byte; height = r; own = c.own })
    plain h = moved (command_bytes byte) r (length_some byte).0 (said ∙ rw (le-leb r 32 h) refl)

    own-said : 32 < r → code_ok rows code n c.own ≡
        cond (fetch_of byte x c.own c.height) (code_ok_from (w.left - 1) rows code n c.own (k + 2) (c.height + 1))
        (last_of byte x c.own c.height && eqb (k + 2) (length code))
    own-said h = said ∙ rw (lt-leb r 32 h) refl

    -- the code ends where the next one starts
    at-end : eqb (k + 2) (length code) ≡ eqb (c.at + 2) to
    at-end = by (eqb (c.at + 2) to)
        (λ e. rw e (eq-eqb (k + 2) (length code) (omega (arith, code-length i.within, w.reached, eqb-true (c.at + 2) to e))))
        (λ e. rw e (ne_eqb (k + 2) (length code)
        (λ f. eqb-false (c.at + 2) to e (omega (arith, code-length i.within, w.reached, i.two)))))

    own : 32 < r → (b : Bool) → fetch_of byte x c.own c.height ≡ b → (d : Bool) → ends_code image c ≡ d
        → {s : ℕ} → ((y : ℕ) → s ≤ y → y < c.own → good image y ≡ true) → PassedFrom image s (past_own image c)
    unfolding past_own ends_code
    own h true e d f {s} p = rw e (record {
      passed = p;
      tells = inr (moved 2 (c.height + 1) (omega arith) (own-said h ∙ rw e refl));
    })
    own h false e true f {s} p = rw (e, f) (record {
      passed = λ y a b. ⊎_elim
          (λ (q : suc y ≡ c.own + 1). let z : y ≡ c.own = omega (arith, q) in
          rw z (good-is i ∙ own-said h ∙ rw (e, at-end) f))
          (λ (q : suc y < c.own + 1). p y a (omega (arith, q)))
          (eq-or-lt_of_le b);
      tells = inr (begun image (c.own + 1) (c.at + 2) (end-at image c f));
    })
    own h false e false f {s} p = rw (e, f) (record {
      passed = p;
      tells = inl (ended image c.own (bad-of image c.own l (good-is i ∙ own-said h ∙ rw (e, at-end) f)));
    })

-- the code of no signal starts at the image's end
pub offset-end : (image : List ℕ) (x : ℕ) → count_of image ≤ x → code_offset image x ≡ length image
unfolding code_offset
offset-end image x h = rw (le-ltb x (count_of image) h) refl

-- one step: what `after` and `past_own` say of the command
module _ (image : List ℕ) (c : Cursor) (v : CursorOk image c) (two : c.at + 1 < length image)
    (small : byte_at image (c.at + 1) < 256)
  where
    abbrev pub words : ℕ
    words =
        height_after (shape_of (ltb 0 (row_count image)) (byte_at image c.at))
        (ceiling_of (count_of image) (byte_at image c.at)) (byte_at image (c.at + 1)) c.height

    named : c.own < count_of image
    named = v.inside (omega arith)

    in_code : words ≤ 32 →
        Advances image c (record { at = c.at + command_bytes (byte_at image c.at); height = words; own = c.own })
    in_code h = record {
      within = record { most = h; named = v.named; inside = λ _. named };
      stands = λ s st. record {
        passed = st.passed;
        tells = ⊎_elim (λ p. inl (lost-on image c _ words (omega arith) p))
            (λ w. ⊎_elim (λ p. inl (lost-on image c _ words (omega arith) p))
            (λ i. inr (plain image c w i named v.most small h)) (sees image c w named))
            st.tells;
      };
    }

    pub goes-plain : (bytes h : ℕ) → bytes ≡ command_bytes (byte_at image c.at) → h ≡ words → h ≤ 32
        → Advances image c (record { at = c.at + bytes; height = h; own = c.own })
    goes-plain bytes h e f l = rw (e, f) (in_code (rw f at l))

    within-own : CursorOk image (past_own image c)
    unfolding past_own ends_code fetch_of
    within-own = by (fetch_of (byte_at image c.at) (byte_at image (c.at + 1)) c.own c.height)
        (λ e. rw e (record {
          most = let fetch = eqb (byte_at image c.at) 0x52 && eqb (byte_at image (c.at + 1)) c.own in
              omega (arith, ltb-true c.height 32 (both fetch _ e).1);
          named = v.named;
          inside = λ _. named;
        }))
        (λ e. by (ends_code image c)
        (λ f. rw (e, f) (record {
          most = omega arith;
          named = omega (arith, named);
          inside = λ (q : c.at + 2 < length image). by (ltb (c.own + 1) (count_of image)) (λ t. ltb-true _ _ t)
              (λ t. let z = offset-end image (c.own + 1) (ltb-false (c.own + 1) (count_of image) t) in
              absurd (omega (arith, q, end-at image c f, z)));
        }))
        (λ f. rw (e, f) (record { most = omega arith; named = v.named; inside = λ q. absurd (omega (arith, q)) })))

    -- no STORE ends a code that is lost
    lost-own : {s : ℕ} → OffTrack image c → ((y : ℕ) → s ≤ y → y < c.own → good image y ≡ true) →
        PassedFrom image s (past_own image c)
    unfolding past_own ends_code
    lost-own p q = by (fetch_of (byte_at image c.at) (byte_at image (c.at + 1)) c.own c.height)
        (λ e. rw e (record { passed = q; tells = inl (lost-on image c _ _ (omega arith) p) }))
        (λ e. by (ends_code image c)
        (λ f. absurd (p.never c.at (omega arith) two (end-at image c f)))
        (λ f. rw (e, f) (record { passed = q; tells = inl (ended image c.own p.bad) })))

    pub goes-own : 32 < words → Advances image c (past_own image c)
    goes-own h = record {
      within = within-own;
      stands = λ s st. ⊎_elim (λ p. lost-own p st.passed)
          (λ w. ⊎_elim (λ p. lost-own p st.passed)
          (λ i. own image c w i named v.most small h _ refl _ refl st.passed) (sees image c w named))
          st.tells;
    }

    pub own_on : c.at < (past_own image c).at
    unfolding past_own
    own_on = by (fetch_of (byte_at image c.at) (byte_at image (c.at + 1)) c.own c.height)
        (λ e. rw e (omega arith))
        (λ e. by (ends_code image c) (λ f. rw (e, f) (omega arith)) (λ f. rw (e, f) (omega arith)))

-- two checks that have passed all codes between them
pub all-good : (image : List ℕ) (half : ℕ) {c d : Cursor} → PassedFrom image 0 c → PassedFrom image half d → half ≤ c.own →
    d.own ≡ count_of image → codes_ok image ≡ true
unfolding codes_ok
all-good image half {c} {d} p q h e = true-all (count_of image) (good image) λ x l. by (ltb x half)
    (λ t. p.passed x (omega arith) (omega (arith, ltb-true x half t)))
    (λ t. q.passed x (ltb-false x half t) (omega arith))
