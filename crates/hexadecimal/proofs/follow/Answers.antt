use Rattle.std.proofs.Common.{rules}
use Rattle.hexadecimal.proofs.Pieces.{reached_start, reached_more, reached_newline, reached_end}
use Rattle.hexadecimal.proofs.follow.Goals as goal

pub loop-at-init : goal.loop-at-init
loop-at-init c = search (rules, reached_start)

pub returns-then-character-eq-NEWLINE : goal.returns-then-character-eq-NEWLINE
returns-then-character-eq-NEWLINE c = search (rules, reached_newline)

pub loop-at-preserved : goal.loop-at-preserved
loop-at-preserved c = search (rules, reached_more)

pub returns : goal.returns
returns c = search (rules, reached_end)
