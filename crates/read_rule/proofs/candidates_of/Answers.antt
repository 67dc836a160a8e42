-- `read_rule::candidates_of` meets its contract. Assumes nothing.
use mathlib.Core.Path.{sym}
use native.Mathlib.Omega.{arith}
use borrow.Author.Rules.{rules}
use Rattle.model.specs.Rules.Search.{first_below}
use Rattle.read_rule.proofs.Searches.{search-one, search-from}
use Rattle.read_rule.proofs.candidates_of.Goals as goal

pub returns-in-Fixed : goal.returns-in-Fixed
returns-in-Fixed c =
    let e = c.from_byte.ensures.0 in
    record {
      few = omega (arith, c.from_byte-in-Fixed.ensures.1);
      finds = rw (c.in-Fixed.is, c.from_byte-in-Fixed.ensures.0, e) (search-one _ _);
    }

pub returns-in-Open : goal.returns-in-Open
unfolding first_below
returns-in-Open c =
    let m = c in
    record {
      few = omega (arith, c.from_byte-in-Open.ensures.1);
      finds =
          rw (m.in-Open.is, c.from_byte-in-Open.ensures.0) (sym (search-from _ _ _ m.lowest_index.ensures));
    }
