-- The record that holds the paper's channel, and the channel that a record holds.
use Rattle.std.specs.Prelude.{◌≡◌}
use Rattle.paper.specs.Settings.{Size, card_size}
use Rattle.paper.specs.Channel as model
use Rattle.paper.specs.Bounds.{SoundChannel}
use Rattle.queue.specs.Held.{queue_of, queue_in}
use Rattle.transmitter.specs.Held.{transmitter_of, transmitter_in}
use Rattle.channel.specs.declared.Channel.{Channel}

-- the size of a channel's record: the card's own
abbrev pub size_of : Channel → Size
size_of c = card_size

unfoldable pub channel_of : Size → model.Channel Unit → Channel
channel_of z h =
    record {
      settings = h.settings;
      flags = h.flags;
      queue = queue_of z.depth h.queue;
      transmitter = transmitter_of h.transmitter;
    }

unfoldable pub channel_in : Channel → model.Channel Unit
channel_in c =
    record {
      settings = c.settings;
      flags = c.flags;
      queue = queue_in c.queue;
      transmitter = transmitter_in c.transmitter;
    }

-- "A card or record here means one that a fresh start and these calls can give": the record of the channel that it holds, within the paper's bounds
pub record Sound (c : Channel) : Type 0 where
  pub is : c ≡ channel_of (size_of c) (channel_in c)
  pub bounds : SoundChannel (size_of c) (channel_in c)
