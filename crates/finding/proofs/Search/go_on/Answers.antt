use Rattle.std.proofs.Common.{arith, sym, ◌∙◌}
use Rattle.finding.proofs.Walking.{follows_slice, follows_on, follows_quiet, walks_to_one}
use Rattle.finding.proofs.Search.go_on.Goals as goal

pub returns-then-is_some : goal.returns-then-is_some
returns-then-is_some c =
    let w = follows_slice _ _ _ _ _ c.loop-at.invariant _ _ c.settle-count.ensures in
    let v = follows_on _ _ _ _ _ w (omega (arith, w.within, c.if-at-piece.false)) _ (sym c.take-taken.ensures ∙ c.in-Ok.is) in
    walks_to_one _ _ _ _ _ _ v (sym c.is_some.ensures ∙ c.if-is_some.true) (omega (arith, w.onward))

pub loop-at-preserved : goal.loop-at-preserved
loop-at-preserved c =
    let w = follows_slice _ _ _ _ _ c.loop-at.invariant _ _ c.settle-count.ensures in
    let v = follows_on _ _ _ _ _ w (omega (arith, w.within, c.if-at-piece.false)) _ (sym c.take-taken.ensures ∙ c.in-Ok.is) in
    follows_quiet _ _ _ _ _ _ v (sym c.is_some.ensures ∙ c.if-is_some.false)
