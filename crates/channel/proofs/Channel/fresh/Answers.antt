use mathlib.Core.Path.{◌≡◌, refl}
use lib.Dec.{lit≤}
use Rattle.paper.specs.Settings.{card_size}
use Rattle.paper.specs.Channel.{fresh, fresh_flags}
use Rattle.channel.specs.Held.{channel_of}
use Rattle.channel.proofs.Laws.{fresh_sound}
use Rattle.channel.proofs.Channel.fresh.Goals as goal

pub returns : goal.returns
unfolding channel_of
returns c =
    let r = channel_of card_size fresh in
    let e : record { settings = c.fresh_settings.result; flags = fresh_flags; queue = c.fresh.result; transmitter = c.fresh-2.result } ≡ r =
    rw (c.fresh_settings.ensures, c.fresh.ensures, c.fresh-2.ensures) in
    (e, rw e (fresh_sound card_size refl (lit≤ tt)))
