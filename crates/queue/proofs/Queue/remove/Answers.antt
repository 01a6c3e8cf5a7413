use Rattle.std.proofs.Common.{arith, rules, lit≤}
use Rattle.queue.specs.Held.{places}
use Rattle.queue.proofs.Laws.{count_is, close_sound}
use Rattle.queue.proofs.Queue.remove.Goals as goal

pub close_up-requires : goal.close_up-requires
close_up-requires c = (omega (arith, count_is places places c.args.self c.requires.sound, c.requires.sound.waiting), search rules)

pub returns : goal.returns
returns c =
    rw (c.close_up.ensures, c.close_up-2.ensures, c.close_up-3.ensures)
    (close_sound places places c.args.n c.args.self c.requires.sound c.requires.waiting (lit≤ tt))
