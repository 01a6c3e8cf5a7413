use mathlib.Core.Path.{ap}
use lib.Dec.{leb}
use Rattle.queue.proofs.Laws.{count_is}
use Rattle.channel.specs.Held.{channel_in}
use Rattle.channel.specs.Promise.{at_threshold}
use Rattle.channel.proofs.Laws.{queue_sound}
use Rattle.channel.proofs.Channel.ready.Goals as goal

pub returns : goal.returns
unfolding at_threshold channel_in
returns c =
    let x = c.args.self in
    rw c.from.ensures (ap (leb x.settings.threshold) (count_is _ _ x.queue (queue_sound x c.requires)))
