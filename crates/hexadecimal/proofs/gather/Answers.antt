use Rattle.std.proofs.Common.{rules}
use Rattle.hexadecimal.proofs.Pieces.{gathers_pairs, gathers_follow}
use Rattle.hexadecimal.proofs.gather.Goals as goal

pub follow-requires-clause-from_in_bounds : goal.follow-requires-clause-from_in_bounds
follow-requires-clause-from_in_bounds c =
    let reached = c.pairs-count.ensures.reached c.args.line.last c.requires.from_in_bounds.1.last in
    (reached.within, reached.fits)

pub returns-then-line-eq0 : goal.returns-then-line-eq0
returns-then-line-eq0 c = search (rules, gathers_pairs)

pub returns : goal.returns
returns c = search (rules, gathers_follow)
