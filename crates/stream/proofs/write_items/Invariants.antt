-- Both buffers fill.
use Rattle.std.proofs.Common.{length}
use Rattle.stream.proofs.Laws.{Writing}
use Rattle.stream.proofs.write_items.Given as goal

abbrev pub invariant-loop-item : goal.invariant-loop-item
invariant-loop-item l = Writing l.stream l.initial.sorts l.initial.bytes l.sorts l.bytes l.unread l.count

abbrev pub decreases-loop-item : goal.decreases-loop-item
decreases-loop-item l = length l.unread
