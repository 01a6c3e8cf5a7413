use Rattle.std.proofs.Common.{arith}
use Rattle.fitting.proofs.Words.{read_size_short}
use Rattle.fitting.proofs.put_signed.Goals as goal

pub put_behind-requires : goal.put_behind-requires
put_behind-requires c = omega (arith, read_size_short _ c.ranges.deviation c.deviation_size-size.ensures)

pub put_behind-requires-else-deviation-lt0 : goal.put_behind-requires-else-deviation-lt0
put_behind-requires-else-deviation-lt0 c = omega (arith, read_size_short _ c.ranges.deviation c.deviation_size-size.ensures)
