use Rattle.std.proofs.Common.{◌+◌, ◌≡◌, length}
use Rattle.fitting.specs.Lines.{longest}
use Rattle.rate.proofs.main.Given as goal

abbrev pub invariant-loop-i : goal.invariant-loop-i
invariant-loop-i l = record { word : length l.word ≡ 131072; out : length l.out ≡ 131072 + longest }
