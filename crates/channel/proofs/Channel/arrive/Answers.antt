use native.Mathlib.Omega.{arith}
use lib.Dec.{lit≤}
use Rattle.paper.specs.Channel.{arrive}
use Rattle.paper.specs.declared.Refusal.TheVariants.{BadKind}
use Rattle.channel.proofs.Laws.{queue_sound, refuses, bad_kind, arrives}
use Rattle.channel.proofs.Channel.arrive.Goals as goal

pub returns-then-kind-gt3 : goal.returns-then-kind-gt3
returns-then-kind-gt3 c =
    let x = c.args.self in
    rw c.refuse.ensures (refuses x c.requires (arrive c.args.kind c.args.byte) BadKind (bad_kind x _ _ (omega arith)))

pub place-placed-requires : goal.place-placed-requires
place-placed-requires c = record { sound = queue_sound c.args.self c.requires; not_0 = lit≤ tt; within = lit≤ tt }

pub returns : goal.returns
returns c = arrives c.args.self c.requires c.args.kind c.args.byte (omega arith) _ c.arrival-outcome.ensures _ c.place-placed.ensures
