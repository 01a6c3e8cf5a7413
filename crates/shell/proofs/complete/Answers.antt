use Rattle.std.proofs.Common.{arith, ◌∙◌}
use lib.ListN.{length-set}
use borrow.Author.Tests.{ne_eqb}
use Rattle.serving.specs.Program.{missing}
use Rattle.shell.proofs.Pieces.{first_set}
use Rattle.shell.proofs.complete.Goals as goal

pub returns : goal.returns
unfolding missing
returns c =
    (simp length-set (omega arith), first_set c.args.piece.now 10 (omega arith) ∙ simp (ne_eqb _ _ c.if-line-eq0.false))
