use Rattle.std.proofs.Common.{arith}
use Rattle.stream.proofs.Laws.{sorts_written, bytes_written}
use Rattle.stream.proofs.write_items.Goals as goal

pub returns-clause-sorts_after : goal.returns-clause-sorts_after
returns-clause-sorts_after c = sorts_written c.loop-item.invariant c.in_default.ensures (omega arith)

pub returns-clause-bytes_after : goal.returns-clause-bytes_after
returns-clause-bytes_after c = bytes_written c.loop-item.invariant c.in_default.ensures (omega arith)
