use Rattle.paper.specs.Transmitter.{set_cts, transmit_step}
use Rattle.transmitter.specs.Held.{sets_cts}
use Rattle.channel.proofs.Laws.{transmitter_sound, sends}
use Rattle.channel.proofs.Channel.set_cts.Goals as goal

pub set_cts-requires : goal.set_cts-requires
set_cts-requires c = transmitter_sound c.args.self c.requires

pub returns : goal.returns
unfolding transmit_step sets_cts
returns c = rw c.send.ensures (sends c.args.self c.requires (set_cts c.args.value) _ c.set_cts.ensures)
