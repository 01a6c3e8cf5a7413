use native.Mathlib.Omega.{arith}
use Rattle.paper.specs.Channel.{read}
use Rattle.paper.specs.declared.Refusal.TheVariants.{TooMany, NoRoom}
use Rattle.channel.proofs.Laws.{queue_sound, refuses, too_many, place_beyond, no_room_lem, room, hands}
use Rattle.channel.proofs.Channel.read.Goals as goal
use Rattle.channel.proofs.Channel.read.Goals.{then-buffer-place-via-then-buffer-place, then-buffer-place-via-else-buffer-place+then-buffer-place-2}

pub returns-then-from-n : goal.returns-then-from-n
returns-then-from-n c =
    let x = c.args.self in
    rw c.refuse.ensures (refuses x c.requires (read c.args.n c.args.place c.args.buffer.now) TooMany
    (too_many x _ _ _ (omega (arith, c.from.ensures))))

pub returns-then-buffer-place : goal.returns-then-buffer-place
returns-then-buffer-place c =
    let x = c.args.self in
    rw c.refuse-then-buffer-place.ensures (refuses x c.requires (read c.args.n c.args.place c.args.buffer.now) NoRoom
    (elim c.then-buffer-place.branch [
      | then-buffer-place-via-then-buffer-place w ↦ place_beyond x _ _ _ (omega (arith, c.from.ensures)) w.if-buffer-place.true
      | then-buffer-place-via-else-buffer-place+then-buffer-place-2 w ↦
          no_room_lem x _ _ _ (omega (arith, c.from.ensures)) (omega arith) w.if-buffer-place-2.true
    ]))

pub hand_over-handed-requires : goal.hand_over-handed-requires
hand_over-handed-requires c = record { sound = queue_sound c.args.self c.requires; room = omega arith }

pub returns : goal.returns
returns c =
    let x = c.args.self in
    let e = room x c.args.n c.args.place c.args.buffer.now (omega (arith, c.from.ensures)) (omega arith) (omega arith) in
    let h = c.hand_over-handed in
    hands x c.requires c.args.n c.args.place c.args.buffer.now e _ h.ensures.value _ h.ensures.buffer_after
