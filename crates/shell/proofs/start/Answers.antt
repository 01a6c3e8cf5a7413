use Rattle.std.proofs.Common.{refl, rules}
use Rattle.shell.proofs.Pieces.{fresh_fits}
use Rattle.shell.proofs.start.Goals as goal

pub loop-init : goal.loop-init
loop-init g c = record { sound = c.fresh.ensures.1; fits = fresh_fits; piece = refl; page = search rules }

pub slice_bounds-piece-end-in-Some-Last : goal.slice_bounds-piece-end-in-Some-Last
slice_bounds-piece-end-in-Some-Last g c = (c.next_piece.ensures.last c.in-Some-Last.n (search rules)).0
