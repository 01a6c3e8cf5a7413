use Rattle.paper.specs.Transmitter.{turn, transmit_step}
use Rattle.transmitter.specs.Held.{turns}
use Rattle.channel.proofs.Laws.{transmitter_sound, sends}
use Rattle.channel.proofs.Channel.turn.Goals as goal

pub turn-requires : goal.turn-requires
turn-requires c = transmitter_sound c.args.self c.requires

pub returns : goal.returns
unfolding transmit_step turns
returns c = rw c.send.ensures (sends c.args.self c.requires turn _ c.turn.ensures)
