use Rattle.std.proofs.Common.{arith}
use Rattle.page.proofs.Digits.{backwards_none, backwards_more, backwards_all}
use Rattle.page.proofs.fill_digits.Goals as goal

pub loop-left-init : goal.loop-left-init
loop-left-init c = backwards_none _ _

pub loop-left-preserved : goal.loop-left-preserved
loop-left-preserved c = backwards_more c.loop-left.invariant (omega arith)

pub returns : goal.returns
returns c = backwards_all c.loop-left.invariant (omega arith)
