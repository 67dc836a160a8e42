-- What the functions that list moves stand for.
use Rattle.std.specs.Prelude.{ℕ, ◌+◌, ◌*◌, ◌<◌, Option, Bool, true, false, cond, List, ◌++◌, ◌↔◌, ◌⊎◌, ◌≡◌, ltb, length, get_or, set}
use Rattle.model.specs.Rules.Compile.{Pair, pair_of}
use Rattle.model.specs.Rules.Load.{is_over}
use Rattle.model.specs.Rules.Outcome.{accepted}
use Rattle.model.specs.Rules.Reads.{Rate, due}
use Rattle.model.specs.Says.Feasible.{Between}
use Rattle.text_program.specs.Tables.{cap_of}
use Rattle.text_schedule.specs.Arranged.{Arranged}
use Rattle.text_schedule.specs.declared.PairTables.{PairTables}
use Rattle.move_rule.specs.Ranges.{ReadsStay, ChainsStay}
use Rattle.move_rule.specs.Narrowing.{IsLeft, Narrowed}
use Rattle.model.specs.Rules.Moves.{Entry, entry_if, written}
use Rattle.model.specs.Rules.Search.{join_below}

-- In no cycle below h in which the rate is due is the load over the limit with this weight more.
abbrev pub Spare : List ℕ → Option ℕ → Rate → ℕ → ℕ → Type 0
Spare loads cap a weight h =
    (c : ℕ) → c < h → due a c ≡ true → is_over (cap_of cap) (get_or loads c 0 + weight) ≡ false

-- A signal of this period and weight, whose phase is `present`, fits at phase f.
abbrev pub FitsAt : List ℕ → Option ℕ → (period weight present h f : ℕ) → Type 0
FitsAt loads cap period weight present h f =
    (f ≡ present) ⊎ Spare loads cap (record { period = period; phase = f }) weight h

-- The list with entry `count` written where it has space for it whole.
abbrev pub put_entry : List ℕ → ℕ → ℕ → ℕ → List ℕ
put_entry list count x f =
    cond (ltb (count * 2 + 1) (length list)) (set (set list (count * 2) x) (count * 2 + 1) f) list

-- The entries of signal x at the phases below n that pass a test.
abbrev pub passing : ℕ → ℕ → (ℕ → Bool) → List Entry
passing x n g = join_below n (λ f. entry_if (g f) x f)

-- Entry `count`, of signal x and phase f, is written and counted where Q holds, and else nothing is.
abbrev pub ListsOne : Type 0 → (x f : ℕ) → (list list' : List ℕ) → (count count' : ℕ) → Type 0
ListsOne Q x f list list' count count' =
    (Q × (list' ≡ put_entry list count x f) × (count' ≡ count + 1)) ⊎ ((Q → ⊥) × (list' ≡ list) × (count' ≡ count))

-- The first list with these entries written, and their count.
pub record Written (es : List Entry) (list₀ list : List ℕ) (count : ℕ) : Type 0 where
  pub list-is : list ≡ written es list₀
  pub count-is : count ≡ length es

-- After the entries es those are written of signal x whose phases, below n, pass a test: the phases from low up to high that fit.
abbrev pub Lists : (ℕ → Type 0) → (x n low high : ℕ) → (list list' : List ℕ) → (count count' : ℕ) → Type 0
Lists Q x n low high list list' count count' =
    (es : List Entry) (list₀ : List ℕ) (g : ℕ → Bool) → Written es list₀ list count →
    ((f : ℕ) → Between low f high → f < n) → ((f : ℕ) → f < n → (g f ≡ true) ↔ (Between low f high × Q f)) →
    Written (es ++ passing x n g) list₀ list' count'

-- For the first n signals, g tells by the tables which phases are left and fit.
abbrev pub TellsMoves : (ℕ → ℕ → Bool) → ℕ → (lows highs loads : List ℕ) → Option ℕ → (periods weights phases : List ℕ) → ℕ →
    Type 0
TellsMoves g n lows highs loads cap periods weights phases h =
    (x f : ℕ) → x < n → f < get_or periods x 0 →
    (g x f ≡ true) ↔
    (IsLeft lows highs x f × FitsAt loads cap (get_or periods x 0) (get_or weights x 0) (get_or phases x 0) h f)

-- No phase is left to a signal that is not below its period.
abbrev pub LeftBelow : ℕ → (lows highs periods : List ℕ) → Type 0
LeftBelow n lows highs periods = (x f : ℕ) → x < n → IsLeft lows highs x f → f < get_or periods x 0

-- The entries that g lets pass are written, whichever g tells by the tables.
abbrev pub ListsAll : ℕ → (lows highs loads : List ℕ) → Option ℕ → (periods weights phases : List ℕ) → ℕ →
    (list list' : List ℕ) → ℕ → Type 0
ListsAll n lows highs loads cap periods weights phases h list list' count =
    (g : ℕ → ℕ → Bool) → TellsMoves g n lows highs loads cap periods weights phases h →
    Written (join_below n (λ x. passing x (get_or periods x 0) (g x))) list list' count

-- The tables are those of the accepted pair q of these texts.
pub record AcceptedBy (text reads schedule : List ℕ) (t : PairTables) (q : Pair) : Type 0 where
  pub pair_is : pair_of text schedule ≡ accepted q
  pub arranged : Arranged text reads t q.program q.schedule
  pub hyper : t.hypercycle ≡ q.hypercycle

-- Text, reads and tables are those of some accepted pair.
pub record Accepted (text reads : List ℕ) (t : PairTables) : Type 0 where
  pub schedule : List ℕ
  pub pair : Pair
  pub known : AcceptedBy text reads schedule t pair

-- Of the phases of each signal of q those are left at which every read and every chain stays.
abbrev pub NarrowedBy : Pair → (h : ℕ) → (lows highs lows' highs' : List ℕ) → Type 0
NarrowedBy q h lows highs lows' highs' =
    Narrowed q.program
    (λ x f. ReadsStay q.program q.schedule x f × ChainsStay q.program q.schedule h x f) lows highs lows' highs'
