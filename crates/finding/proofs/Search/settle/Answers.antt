use Rattle.std.proofs.Common.{arith}
use Rattle.finding.proofs.Stretching.{follows_stretch}
use Rattle.finding.proofs.Search.settle.Goals as goal

pub returns : goal.returns
returns c =
    rw c.behind.ensures
    (follows_stretch
    _
    _
    _
    c.requires.sound_search
    c.in-Nothing.is
    (omega (arith, c.if-piece-self.false, c.requires.sound_search.finder.passed))
    c.stretch_length-count.ensures)
