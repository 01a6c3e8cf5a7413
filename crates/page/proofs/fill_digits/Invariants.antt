-- The digits behind those that are left are written.
use Rattle.page.proofs.Digits.{Backwards}
use Rattle.page.proofs.fill_digits.Given as goal

abbrev pub invariant-loop-left : goal.invariant-loop-left
invariant-loop-left l = Backwards l.fn.bytes l.fn.number l.bytes l.front l.left
