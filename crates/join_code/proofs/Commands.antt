-- Going over code command by command. Assumes nothing.
use Prim.Native.Nat.{ℕ, suc, ◌+◌, ◌%◌, ◌≤◌, ◌<◌}
use mathlib.Core.Bool.{Bool, true, false, cond}
use mathlib.Core.List.{List, [], ◌∷◌, ◌++◌, map, append_assoc}
use mathlib.Core.Path.{◌≡◌, refl, sym, ap, subst, ◌∙◌}
use native.Mathlib.Omega.{arith}
use borrow.Author.Tests.{ne_eqb}
use lib.Dec.{eqb}
use lib.ListN.{length, get_or, set, length-append, length-set}
use lib.Seq.{get_or_at, set_at}
use Rattle.model.specs.Rules.Image.{joined}
use Rattle.model.specs.Rules.Search.{join_from}
use Rattle.model.specs.Rules.Width.{in_code}
use Rattle.model.specs.Says.Feasible.{All}
use Rattle.model.proofs.Images.Stretches.{joined-cons}
use Rattle.join_code.specs.Shift.{shift_at, Command, shift_piece, Coded, shifted}

-- What is done, and what is left from `at` on.
pub record Progress (base : ℕ) {out₀ : List ℕ} {from to : ℕ} (r : Coded out₀ from to) (out : List ℕ) (at : ℕ) : Type 0 where
  pub done : List ℕ
  pub rest : List (List ℕ)
  pub is : out ≡ done ++ (joined rest ++ r.back)
  pub here : at ≡ length done
  pub ends : to ≡ at + length (joined rest)
  pub whole : done ++ (joined (map (shift_piece base) rest) ++ r.back) ≡ shifted base r
  pub commands : All Command rest

pub begins : (base : ℕ) {out : List ℕ} {from to : ℕ} (r : Coded out from to) → Progress base r out from
begins base r =
    record {
      done = r.front;
      rest = r.pieces;
      is = r.is;
      here = r.starts;
      ends = r.ends;
      whole = refl;
      commands = r.commands;
    }

pub finishes : (base : ℕ) {out₀ out : List ℕ} {from to at : ℕ} (r : Coded out₀ from to) → Progress base r out at → to ≤ at →
    out ≡ shifted base r
finishes base {out₀} {out} {from} {to} {at} r p le = go p.rest refl p.commands
  where
    go : (rest : List (List ℕ)) → p.rest ≡ rest → All Command rest → out ≡ shifted base r
    go [] e c =
        p.is ∙ ap (λ (l : List (List ℕ)). p.done ++ (joined l ++ r.back)) e ∙
        sym (ap (λ (l : List (List ℕ)). p.done ++ (joined (map (shift_piece base) l) ++ r.back)) e) ∙ p.whole
    go (x ∷ xs) e c =
        let n = ap (λ (l : List (List ℕ)). length (joined l)) e ∙ ap length (joined-cons x xs) ∙ length-append x (joined xs) in
        absurd (some x c.0 (omega (arith, p.ends, n)))
      where
        some : (y : List ℕ) → Command y → ¬ (length y ≡ 0)
        some y (Command.load s) q = omega arith
        some y (Command.other b bs u w) q = omega arith

-- The next command.
pub record Next (base : ℕ) {out₀ : List ℕ} {from to : ℕ} (r : Coded out₀ from to) (out : List ℕ) (at : ℕ) : Type 0 where
  pub inside : at < length out
  pub operand : get_or out at 0 ≡ 0x51 → at + 1 < length out
  pub moves : 1 ≤ in_code (get_or out at 0)
  pub onward : Progress base r (shift_at base at out) (at + in_code (get_or out at 0))

pub steps : (base : ℕ) {out₀ out : List ℕ} {from to at : ℕ} (r : Coded out₀ from to) → Progress base r out at → at < to →
    Next base r out at
unfolding shift_at join_from
steps base {out₀} {out} {from} {to} {at} r p lt = go p.rest refl p.commands
  where
    split : (x : List ℕ) (xs : List (List ℕ)) → p.rest ≡ x ∷ xs → out ≡ p.done ++ (x ++ (joined xs ++ r.back))
    split x xs e =
        p.is ∙ ap (λ (l : List (List ℕ)). p.done ++ (joined l ++ r.back)) e ∙
        ap (λ (l : List ℕ). p.done ++ (l ++ r.back)) (joined-cons x xs) ∙
        ap (λ (l : List ℕ). p.done ++ l) (append_assoc x (joined xs) r.back)

    size : (x : List ℕ) (xs : List (List ℕ)) → p.rest ≡ x ∷ xs → to ≡ at + (length x + length (joined xs))
    size x xs e =
        p.ends ∙
        ap (λ (n : ℕ). at + n)
        (ap (λ (l : List (List ℕ)). length (joined l)) e ∙ ap length (joined-cons x xs) ∙ length-append x (joined xs))

    total : (x : List ℕ) (xs : List (List ℕ)) → p.rest ≡ x ∷ xs →
        (p.done ++ shift_piece base x) ++ (joined (map (shift_piece base) xs) ++ r.back) ≡ shifted base r
    total x xs e =
        append_assoc p.done (shift_piece base x) (joined (map (shift_piece base) xs) ++ r.back) ∙
        ap (λ (l : List ℕ). p.done ++ l)
        (sym (append_assoc (shift_piece base x) (joined (map (shift_piece base) xs)) r.back) ∙
        ap (λ (l : List ℕ). l ++ r.back) (sym (joined-cons (shift_piece base x) (map (shift_piece base) xs)))) ∙
        sym (ap (λ (l : List (List ℕ)). p.done ++ (joined (map (shift_piece base) l) ++ r.back)) e) ∙ p.whole

    go : (rest : List (List ℕ)) → p.rest ≡ rest → All Command rest → Next base r out at
    go [] e c = absurd (omega (arith, p.ends, ap (λ (l : List (List ℕ)). length (joined l)) e))
    go (x ∷ xs) e c = one x c.0 e
      where
        one : (y : List ℕ) → Command y → p.rest ≡ y ∷ xs → Next base r out at
        one y (Command.load s) q =
            let l = split (0x51 ∷ s ∷ []) xs q in
            let byte : get_or out at 0 ≡ 0x51 =
            ap (λ (o : List ℕ). get_or o at 0) l ∙ get_or_at p.done 0x51 (s ∷ (joined xs ++ r.back)) 0 at (sym p.here) in
            let long : length out ≡ at + (2 + length (joined xs ++ r.back)) =
            ap length l ∙ length-append p.done _ ∙ omega (arith, p.here) in
            let l' : out ≡ (p.done ++ (0x51 ∷ [])) ++ (s ∷ (joined xs ++ r.back)) =
            l ∙ sym (append_assoc p.done (0x51 ∷ []) (s ∷ (joined xs ++ r.back))) in
            let n : length (p.done ++ (0x51 ∷ [])) ≡ at + 1 = length-append p.done (0x51 ∷ []) ∙ omega (arith, p.here) in
            let operand : get_or out (at + 1) 0 ≡ s =
            ap (λ (o : List ℕ). get_or o (at + 1) 0) l' ∙ get_or_at (p.done ++ (0x51 ∷ [])) s (joined xs ++ r.back) 0 (at + 1) n in
            let v = (s + base) % 256 in
            let new :
            set out (at + 1) ((get_or out (at + 1) 0 + base) % 256) ≡ (p.done ++ (0x51 ∷ v ∷ [])) ++ (joined xs ++ r.back) =
            ap (λ (m : ℕ). set out (at + 1) ((m + base) % 256)) operand ∙
            ap (λ (o : List ℕ). set o (at + 1) v) l' ∙
            set_at (p.done ++ (0x51 ∷ [])) s (joined xs ++ r.back) v (at + 1) n ∙
            append_assoc p.done (0x51 ∷ []) (v ∷ (joined xs ++ r.back)) ∙
            sym (append_assoc p.done (0x51 ∷ v ∷ []) (joined xs ++ r.back)) in
            record {
              inside = omega (arith, long);
              operand = λ b. omega (arith, long);
              moves = rw byte (omega arith);
              onward =
                  rw byte
                  (record {
                    done = p.done ++ (0x51 ∷ v ∷ []);
                    rest = xs;
                    is = new;
                    here = sym (length-append p.done (0x51 ∷ v ∷ []) ∙ omega (arith, p.here));
                    ends = omega (arith, size (0x51 ∷ s ∷ []) xs q);
                    whole = total (0x51 ∷ s ∷ []) xs q;
                    commands = c.1;
                  });
            }
        one y (Command.other b bs u w) q =
            let l = split (b ∷ bs) xs q in
            let byte : get_or out at 0 ≡ b =
            ap (λ (o : List ℕ). get_or o at 0) l ∙ get_or_at p.done b (bs ++ (joined xs ++ r.back)) 0 at (sym p.here) in
            let long : length out ≡ at + suc (length (bs ++ (joined xs ++ r.back))) =
            ap length l ∙ length-append p.done _ ∙ omega (arith, p.here) in
            let same : shift_piece base (b ∷ bs) ≡ b ∷ bs = stays bs in
            record {
              inside = omega (arith, long);
              operand = λ k. absurd (u (sym byte ∙ k));
              moves = rw byte (omega (arith, w));
              onward =
                  rw (byte, ne_eqb b 0x51 u)
                  (record {
                    done = p.done ++ (b ∷ bs);
                    rest = xs;
                    is = l ∙ sym (append_assoc p.done (b ∷ bs) (joined xs ++ r.back));
                    here = sym (length-append p.done (b ∷ bs) ∙ omega (arith, p.here, w));
                    ends = omega (arith, size (b ∷ bs) xs q, w);
                    whole =
                        subst (λ (z : List ℕ).
                        (p.done ++ z) ++ (joined (map (shift_piece base) xs) ++ r.back) ≡ shifted base r) same
                        (total (b ∷ bs) xs q);
                    commands = c.1;
                  });
            }
          where
            stays : (cs : List ℕ) → shift_piece base (b ∷ cs) ≡ b ∷ cs
            stays [] = refl
            stays (s ∷ cs) = rw (ne_eqb b 0x51 u)

pub shift-length : (base at : ℕ) (out : List ℕ) → length (shift_at base at out) ≡ length out
unfolding shift_at
shift-length base at out = go (eqb (get_or out at 0) 0x51)
  where
    go : (b : Bool) → length (cond b (set out (at + 1) ((get_or out (at + 1) 0 + base) % 256)) out) ≡ length out
    go true = length-set out (at + 1) _
    go false = refl
