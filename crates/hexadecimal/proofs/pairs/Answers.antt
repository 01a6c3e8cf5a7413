use Rattle.std.proofs.Common.{arith, refl}
use Rattle.hexadecimal.proofs.Bytes.{or_above}
use Rattle.hexadecimal.proofs.Pieces.{paired_start, paired_more}
use Rattle.hexadecimal.proofs.pairs.Goals as goal

pub loop-count-init : goal.loop-count-init
loop-count-init c = paired_start c.requires.from_in_bounds.0 c.requires.from_in_bounds.1

pub overflow_add-frame : goal.overflow_add-frame
overflow_add-frame c = omega (arith, or_above c.value-high.result c.value-low.result)

pub overflow_mul-frame : goal.overflow_mul-frame
overflow_mul-frame c = omega (arith, or_above c.value-high.result c.value-low.result)

pub loop-count-preserved : goal.loop-count-preserved
loop-count-preserved c =
    paired_more c.value-high.result c.value-low.result c.loop-count.invariant (omega arith) refl (omega arith) c.value-high.ensures c.value-low.ensures
    c.if-high-low-gt15.false
