use Rattle.std.proofs.Common.{arith}
use Rattle.choosing.proofs.Rows.{one_look, two_looks, kept_then, along}
use Rattle.choosing.proofs.Seen.look_along.Goals as goal

pub returns-then-period-eq255 : goal.returns-then-period-eq255
returns-then-period-eq255 c =
    let s = c.args.self in
    let found = c.beside-period in
    along c.look-kept.ensures
    (one_look s.wanted.clock s.wanted.rate (omega (arith, s.wanted.in_range.slow)) c.args.divisor (omega arith) s.pair found.result (omega arith) found.ensures)

pub returns : goal.returns
returns c =
    let s = c.args.self in
    let found = c.beside-period in
    along (kept_then c.look-kept.ensures c.look.ensures)
    (two_looks s.wanted.clock s.wanted.rate (omega (arith, s.wanted.in_range.slow)) c.args.divisor (omega arith) s.pair found.result
    (omega (arith, found.ensures.most)) found.ensures)
