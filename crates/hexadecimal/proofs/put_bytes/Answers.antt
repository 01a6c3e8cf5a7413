use Rattle.std.proofs.Common.{arith}
use Rattle.hexadecimal.proofs.Laws.{room_for_more, put_more}
use Rattle.hexadecimal.proofs.put_bytes.Goals as goal

pub put_byte-requires : goal.put_byte-requires
put_byte-requires c = room_for_more c.args.bytes.now c.loop-byte.byte-index _ _ c.loop-byte.invariant (omega arith) c.requires

pub loop-byte-preserved : goal.loop-byte-preserved
loop-byte-preserved c = put_more c.args.bytes.now c.loop-byte.byte-index _ _ c.loop-byte.invariant _ (omega arith) c.put_byte.ensures
