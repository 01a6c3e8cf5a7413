use Rattle.std.proofs.Common.{rules, arith, refl}
use Rattle.card.proofs.Laws.{channel_sound}
use Rattle.serving.proofs.Loop.{part, two_or_longer, channel_line, shown_line, refused_line, small_refusal}
use Rattle.serving.proofs.serve.Goals as goal

pub arrive-requires : goal.arrive-requires
arrive-requires c = (channel_sound _ c.loop-spot.invariant.sound _ _ (omega arith), search rules)

pub loop-spot-preserved-in-Arrive : goal.loop-spot-preserved-in-Arrive
loop-spot-preserved-in-Arrive c =
    channel_line _ _ _ _ _ c.next_line-next.ensures _ _ _ _ _ _ c.loop-spot.invariant c.from-i.result c.in-Some-Ok-OnChannel.asked (search rules)
    _ _ _ _ _ c.in-Arrive.is refl c.arrive.ensures

pub read-requires : goal.read-requires
read-requires c = (channel_sound _ c.loop-spot.invariant.sound _ _ (omega arith), search rules)

pub loop-spot-preserved-in-Read : goal.loop-spot-preserved-in-Read
loop-spot-preserved-in-Read c =
    channel_line _ _ _ _ _ c.next_line-next.ensures _ _ _ _ _ _ c.loop-spot.invariant c.from-i.result c.in-Some-Ok-OnChannel.asked (search rules)
    _ _ _ _ _ c.in-Read.is refl c.read.ensures

pub slice_bounds-load-count : goal.slice_bounds-load-count
slice_bounds-load-count c = omega (arith, two_or_longer _ _ _ _ _ _ c.next_line-next.ensures c.from-i.result c.in-Some-Ok-OnChannel.asked (search rules))

pub slice_bounds-load-start : goal.slice_bounds-load-start
slice_bounds-load-start c = omega (arith, two_or_longer _ _ _ _ _ _ c.next_line-next.ensures c.from-i.result c.in-Some-Ok-OnChannel.asked (search rules))

pub load-requires : goal.load-requires
load-requires c = (channel_sound _ c.loop-spot.invariant.sound _ _ (omega arith), search rules)

pub loop-spot-preserved-in-Load : goal.loop-spot-preserved-in-Load
loop-spot-preserved-in-Load c =
    channel_line _ _ _ _ _ c.next_line-next.ensures _ _ _ _ _ _ c.loop-spot.invariant c.from-i.result c.in-Some-Ok-OnChannel.asked (search rules)
    _ _ _ _ _ c.in-Load.is (rw part) c.load.ensures

pub turn-requires : goal.turn-requires
turn-requires c = (channel_sound _ c.loop-spot.invariant.sound _ _ (omega arith), search rules)

pub loop-spot-preserved-in-Turn : goal.loop-spot-preserved-in-Turn
loop-spot-preserved-in-Turn c =
    channel_line _ _ _ _ _ c.next_line-next.ensures _ _ _ _ _ _ c.loop-spot.invariant c.from-i.result c.in-Some-Ok-OnChannel.asked (search rules)
    _ _ _ _ _ c.in-Turn.is refl c.turn.ensures

pub set_cts-requires : goal.set_cts-requires
set_cts-requires c = (channel_sound _ c.loop-spot.invariant.sound _ _ (omega arith), search rules)

pub loop-spot-preserved-in-SetCts : goal.loop-spot-preserved-in-SetCts
loop-spot-preserved-in-SetCts c =
    channel_line _ _ _ _ _ c.next_line-next.ensures _ _ _ _ _ _ c.loop-spot.invariant c.from-i.result c.in-Some-Ok-OnChannel.asked (search rules)
    _ _ _ _ _ c.in-SetCts.is refl c.set_cts.ensures

pub ask_special-requires : goal.ask_special-requires
ask_special-requires c = (channel_sound _ c.loop-spot.invariant.sound _ _ (omega arith), search rules)

pub loop-spot-preserved-in-AskSpecial : goal.loop-spot-preserved-in-AskSpecial
loop-spot-preserved-in-AskSpecial c =
    channel_line _ _ _ _ _ c.next_line-next.ensures _ _ _ _ _ _ c.loop-spot.invariant c.from-i.result c.in-Some-Ok-OnChannel.asked (search rules)
    _ _ _ _ _ c.in-AskSpecial.is refl c.ask_special.ensures

pub slice_bounds-take_settings-count : goal.slice_bounds-take_settings-count
slice_bounds-take_settings-count c = omega (arith, two_or_longer _ _ _ _ _ _ c.next_line-next.ensures c.from-i.result c.in-Some-Ok-OnChannel.asked (search rules))

pub slice_bounds-take_settings-start : goal.slice_bounds-take_settings-start
slice_bounds-take_settings-start c = omega (arith, two_or_longer _ _ _ _ _ _ c.next_line-next.ensures c.from-i.result c.in-Some-Ok-OnChannel.asked (search rules))

pub take_settings-requires : goal.take_settings-requires
take_settings-requires c = (channel_sound _ c.loop-spot.invariant.sound _ _ (omega arith), search rules)

pub loop-spot-preserved-in-TakeSettings : goal.loop-spot-preserved-in-TakeSettings
loop-spot-preserved-in-TakeSettings c =
    channel_line _ _ _ _ _ c.next_line-next.ensures _ _ _ _ _ _ c.loop-spot.invariant c.from-i.result c.in-Some-Ok-OnChannel.asked (search rules)
    _ _ _ _ _ c.in-TakeSettings.is (rw part) c.take_settings.ensures

pub reset-requires : goal.reset-requires
reset-requires c = (channel_sound _ c.loop-spot.invariant.sound _ _ (omega arith), search rules)

pub loop-spot-preserved-in-Reset : goal.loop-spot-preserved-in-Reset
loop-spot-preserved-in-Reset c =
    channel_line _ _ _ _ _ c.next_line-next.ensures _ _ _ _ _ _ c.loop-spot.invariant c.from-i.result c.in-Some-Ok-OnChannel.asked (search rules)
    _ _ _ _ _ c.in-Reset.is refl c.reset.ensures

pub state-requires : goal.state-requires
state-requires c = (channel_sound _ c.loop-spot.invariant.sound _ _ (omega arith), search rules)

pub loop-spot-preserved-in-State : goal.loop-spot-preserved-in-State
loop-spot-preserved-in-State c =
    shown_line _ _ _ _ _ c.next_line-next.ensures _ _ _ _ _ _ c.loop-spot.invariant c.from-i.result c.in-Some-Ok-OnChannel.asked (search rules)
    _ _ _ _ c.in-State.is refl c.state.ensures

pub put_refused-requires : goal.put_refused-requires
put_refused-requires c = (search rules, small_refusal _ _ _ _ _ _ c.next_line-next.ensures c.in-Some-Err.refusal (search rules))

pub loop-spot-preserved-in-Some-Err : goal.loop-spot-preserved-in-Some-Err
loop-spot-preserved-in-Some-Err c =
    refused_line _ _ _ _ _ c.next_line-next.ensures _ _ _ _ _ _ c.loop-spot.invariant c.in-Some-Err.refusal (search rules) _ c.put_refused.ensures
