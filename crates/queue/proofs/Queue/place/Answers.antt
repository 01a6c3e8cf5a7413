use Rattle.std.proofs.Common.{◌≤◌, ◌<◌, length, arith}
use borrow.Author.Tests.{lt-ltb, le-ltb}
use Rattle.queue.specs.Held.{places, queue_in, placing}
use Rattle.queue.proofs.Laws.{count_is}
use Rattle.queue.proofs.Queue.place.Goals as goal

pub returns-in-Ok : goal.returns-in-Ok
unfolding placing
returns-in-Ok c =
    let d = c.args.depth in
    let room : length (queue_in c.args.self).slots < d = omega (arith, count_is places d c.args.self c.requires.sound) in
    rw (c.store.ensures, c.in-Ok.is, lt-ltb _ _ room)

pub returns-in-Ok-2 : goal.returns-in-Ok-2
unfolding placing
returns-in-Ok-2 c =
    let d = c.args.depth in
    let full : d ≤ length (queue_in c.args.self).slots = omega (arith, count_is places d c.args.self c.requires.sound) in
    rw (c.overrun.ensures, c.in-Ok-2.is, le-ltb _ _ full)
