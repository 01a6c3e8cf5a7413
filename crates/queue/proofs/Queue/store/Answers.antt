use Rattle.queue.specs.Held.{places}
use Rattle.queue.proofs.Laws.{put_sound}
use Rattle.queue.proofs.Queue.store.Goals as goal

pub returns : goal.returns
returns c =
    rw (c.kind_of.ensures, c.byte_of.ensures) (put_sound places places c.args.self c.requires.sound c.args.item c.requires.room)
