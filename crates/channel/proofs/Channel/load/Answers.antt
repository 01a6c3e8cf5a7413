use Rattle.paper.specs.Transmitter.{load, transmit_step}
use Rattle.transmitter.specs.Held.{loads}
use Rattle.channel.proofs.Laws.{transmitter_sound, sends}
use Rattle.channel.proofs.Channel.load.Goals as goal

pub load-requires : goal.load-requires
load-requires c = transmitter_sound c.args.self c.requires

pub returns : goal.returns
unfolding transmit_step loads
returns c = rw c.send.ensures (sends c.args.self c.requires (load c.args.bytes.now) _ c.load.ensures)
