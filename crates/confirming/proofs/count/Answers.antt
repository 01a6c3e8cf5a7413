use Rattle.std.proofs.Common.{arith}
use Rattle.std.proofs.lemmas.Result.{err_from_is_err_and}
use Rattle.confirming.proofs.Passes.{passes_one, one_more, counts_too_many, counts_all, counts_no_further}
use Rattle.confirming.proofs.count.Goals as goal

pub returns-in_err-next : goal.returns-in_err-next
returns-in_err-next c =
    let p = err_from_is_err_and c.from_residual.result c.from_residual.ensures.1 in
    rw (p.1, p.2) (counts_no_further c.loop-count.invariant.passing c.next.ensures c.requires c.args.most _ c.in_err-next.was)

pub returns-then-count-most : goal.returns-then-count-most
returns-then-count-most c =
    counts_too_many c.loop-count.invariant.passing c.next.ensures c.requires c.args.most c.in-Some.field-0 (cc) c.if-count-most.true

pub loop-count-smaller : goal.loop-count-smaller
loop-count-smaller c = omega (arith, one_more c.loop-count.invariant.passing c.next.ensures c.in-Some.field-0 (cc))

pub loop-count-preserved : goal.loop-count-preserved
loop-count-preserved c =
    record { passing = passes_one c.loop-count.invariant.passing c.next.ensures c.in-Some.field-0 (cc); few = omega arith }

pub returns : goal.returns
returns c = counts_all c.loop-count.invariant.passing c.next.ensures c.requires c.args.most (cc) c.loop-count.invariant.few
