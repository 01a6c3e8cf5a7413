use native.Mathlib.Omega.{arith}
use Rattle.card.proofs.Laws.{channel_sound, place_small, looked}
use Rattle.card.proofs.Card.next_ready.Goals as goal

pub ready-requires : goal.ready-requires
ready-requires c = channel_sound c.args.self c.requires _ _ (omega arith)

pub ready-requires-2 : goal.ready-requires-2
ready-requires-2 c = channel_sound c.args.self c.requires _ _ (omega arith)

pub ready-requires-3 : goal.ready-requires-3
ready-requires-3 c = channel_sound c.args.self c.requires _ _ (omega arith)

pub ready-requires-4 : goal.ready-requires-4
ready-requires-4 c = channel_sound c.args.self c.requires _ _ (omega arith)

pub look-requires : goal.look-requires
look-requires c = omega (arith, place_small c.args.self c.requires)

pub returns : goal.returns
returns c = looked c.args.self c.requires _ c.ready.ensures c.ready-2.ensures c.ready-3.ensures c.ready-4.ensures c.look.ensures
