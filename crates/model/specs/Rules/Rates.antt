-- Rates: the period rules (7, 8), the hypercycle (9), the links of chains (10).
use Rattle.std.specs.Prelude.{Option, Some, None, ℕ, suc, ◌+◌, ◌*◌, ◌%◌, Bool, true, cond, ◌&&◌, List, [], ◌∷◌, ◌++◌, ltb, eqb}
use Rattle.model.specs.Rules.Outcome.{Outcome, accepted, refuse, fault, lowest}
use Rattle.model.specs.Rules.Program.{Program, Signal, Link, Read, count, signal_at, body_reads}
use Rattle.model.specs.Rules.Search.{first_below, join_from}
use Rattle.model.specs.declared.Fault.{Fault}
use Rattle.model.specs.declared.Kind.{Kind}
use Rattle.model.specs.declared.Kind.TheVariants.{Now, Last, When, LastWhen, Current}

-- The period rule of a read with factor n: w is the period of the signal read, r the reader's.
abbrev pub period_rule : Kind → ℕ → ℕ → ℕ → Bool
period_rule Now w r n = eqb r w
period_rule Last w r n = eqb r w
period_rule When w r n = eqb r (n * w)
period_rule LastWhen w r n = eqb r (n * w)
period_rule Current w r n = eqb w (n * r)

-- 7 at a read or LINK of an undeclared signal; 8 at a read whose period rule is broken.
unfoldable pub read_faults : Program → Signal → Read → List Fault
read_faults p reader ρ =
    cond (ltb ρ.operands.signal (count p))
    (cond (period_rule ρ.kind (signal_at p ρ.operands.signal).period reader.period ρ.operands.factor) []
    (fault 8 ρ.place ∷ []))
    (fault 7 ρ.place ∷ [])

unfoldable pub link_faults : Program → Link → List Fault
link_faults p l = cond (ltb l.signal (count p)) [] (fault 7 l.place ∷ [])

-- 7 and 8 in order of offset.
unfoldable pub declared_and_rated : Program → Outcome (Unit {0})
declared_and_rated p =
    lowest
    (join_from 0 (λ s x. join_from 0 (λ i ρ. read_faults p x ρ) (body_reads x.body)) p.signals ++
    join_from 0 (λ j c. join_from 0 (λ i l. link_faults p l) c.links) p.chains)

-- Every period divides h.
unfoldable pub is_multiple : List Signal → ℕ → Bool
is_multiple [] h = true
is_multiple (x ∷ xs) h = eqb (h % x.period) 0 && is_multiple xs h

-- The hypercycle H: the least common multiple of all periods, at most 240.
abbrev pub hypercycle_of : Option ℕ → Outcome ℕ
hypercycle_of (Some h) = accepted (suc h)
hypercycle_of None = refuse 9 0

unfoldable pub hypercycle : Program → Outcome ℕ
hypercycle p = hypercycle_of (first_below 240 (λ h. is_multiple p.signals (suc h)))

-- How many of the reads are reads of w.
unfoldable pub count_reads : ℕ → List Read → ℕ
count_reads w [] = 0
count_reads w (ρ ∷ ρs) = cond (eqb ρ.operands.signal w) 1 0 + count_reads w ρs

-- The equation of each link after the first contains exactly one read of the link before; an input contains none.
unfoldable pub is_linked : Program → List Link → Bool
is_linked p [] = true
is_linked p (a ∷ []) = true
is_linked p (a ∷ (b ∷ ls)) =
    eqb (count_reads a.signal (body_reads (signal_at p b.signal).body)) 1 && is_linked p (b ∷ ls)

-- 10 at the lowest such LAT.
unfoldable pub linked : Program → Outcome (Unit {0})
linked p = lowest (join_from 0 (λ j c. cond (is_linked p c.links) [] (fault 10 c.place ∷ [])) p.chains)
