use Rattle.std.proofs.Common.{arith}
use Rattle.asking.proofs.Onward.{bytes_small, leads_behind, leads_on}
use lib.ListN.{length-take}
use Rattle.asking.proofs.next_line.Goals as goal

pub slice_bounds-find-end : goal.slice_bounds-find-end
slice_bounds-find-end c =
    let fits = c.gather-cut.ensures.fits in
    omega (arith, bytes_small _ _ fits, c.bytes_in-long.ensures, fits.room)

pub slice_bounds-find-end-then-cut : goal.slice_bounds-find-end-then-cut
slice_bounds-find-end-then-cut c =
    let fits = c.gather-cut.ensures.fits in
    omega (arith, bytes_small _ _ fits, c.bytes_in-long.ensures, fits.room, length-take c.bytes_in-long.result c.gather-cut.new.frame)

pub returns-then-cut : goal.returns-then-cut
returns-then-cut c =
    leads_behind _ _ _ _ _ _ c.gather-cut.ensures c.if-cut.true _ _ c.bytes_in-long.ensures c.find.ensures

pub returns : goal.returns
returns c = leads_on _ _ _ _ _ _ c.gather-cut.ensures c.if-cut.false
