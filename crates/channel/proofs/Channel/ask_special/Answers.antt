use Rattle.paper.specs.Transmitter.{ask_special, transmit_step}
use Rattle.transmitter.specs.Held.{asks_special}
use Rattle.channel.proofs.Laws.{transmitter_sound, sends}
use Rattle.channel.proofs.Channel.ask_special.Goals as goal

pub ask_special-requires : goal.ask_special-requires
ask_special-requires c = transmitter_sound c.args.self c.requires

pub returns : goal.returns
unfolding transmit_step asks_special
returns c = rw c.send.ensures (sends c.args.self c.requires (ask_special c.args.number) _ c.ask_special.ensures)
