-- `decimal::put_natural` meets its contract. Assumes nothing.
use Rattle.decimal.proofs.Puts.{put_one, put_then, put_is, put-length}
use Rattle.model.proofs.Bench.Decimals.{natural-one, natural-more}
use lib.ListN.{length, length-append}
use mathlib.Core.Path.{sym, ap}
use native.Mathlib.Omega.{arith}
use Rattle.decimal.proofs.+put_natural.Goals as goal

pub bounds-out-at : goal.bounds-out-at
bounds-out-at t c = omega (arith, c.requires, ap length (natural-one c.args.n (omega arith)))

pub returns-then-n-lt10 : goal.returns-then-n-lt10
returns-then-n-lt10 t c =
    put_is (sym (natural-one c.args.n (omega arith)))
    (put_one _ _ _ (omega (arith, c.requires, ap length (natural-one c.args.n (omega arith)))))

pub put_natural-last-requires : goal.put_natural-last-requires
put_natural-last-requires t c =
    let more = simp length-append at (ap length (natural-more c.args.n (omega arith))) in
    (omega arith, omega (arith, c.requires, more))

pub bounds-out-last : goal.bounds-out-last
bounds-out-last t c =
    let more = simp length-append at (ap length (natural-more c.args.n (omega arith))) in
    let p = c.put_natural-last.ensures in
    omega (arith, c.requires, more, p.ends, put-length p)

pub returns : goal.returns
returns t c =
    let more = simp length-append at (ap length (natural-more c.args.n (omega arith))) in
    let p = c.put_natural-last.ensures in
    put_is (sym (natural-more c.args.n (omega arith)))
    (put_then p (put_one _ _ _ (omega (arith, c.requires, more, p.ends, put-length p))))
