use Rattle.std.proofs.Common.{arith}
use Rattle.queue.specs.Held.{places}
use Rattle.queue.proofs.Laws.{count_is, lose_sound}
use Rattle.queue.proofs.Queue.overrun.Goals as goal

pub bounds-self-newest : goal.bounds-self-newest
bounds-self-newest c = omega (arith, count_is places places c.args.self c.requires.sound, c.requires.sound.waiting)

pub returns : goal.returns
returns c =
    lose_sound places places c.args.self c.requires.sound c.saturating_add.result (omega (arith, c.saturating_add.ensures)) c.requires.waiting
