use native.Mathlib.Omega.{arith}
use Rattle.card.proofs.Laws.{channel_sound, refuses_asked, calls}
use Rattle.card.proofs.Card.call.Goals as goal

pub returns-then-channel-gt3 : goal.returns-then-channel-gt3
returns-then-channel-gt3 c = refuses_asked c.args.self c.requires c.args.channel c.args.asked c.args.bytes.now c.args.place c.if-channel-gt3.true

pub call-given-requires : goal.call-given-requires
call-given-requires c = rw c.from-named.ensures (channel_sound c.args.self c.requires c.args.channel _ (omega arith))

pub returns : goal.returns
returns c =
    let given = rw c.from-named.ensures at c.call-given.ensures in
    rw c.from-named.ensures (calls c.args.self c.requires c.args.channel _ c.args.asked c.args.bytes.now c.args.place _ _ (omega arith) given)
