use Rattle.std.proofs.Common.{arith, refl}
use Rattle.rate.proofs.main.Goals as goal

pub loop-i-init : goal.loop-i-init
loop-i-init c = record { word = omega arith; out = refl }
