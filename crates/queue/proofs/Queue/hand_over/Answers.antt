use Rattle.std.proofs.Common.{arith}
use Rattle.queue.specs.Held.{places, handing}
use Rattle.queue.proofs.Laws.{count_is, characters, flagged_count, items_out, left}
use Rattle.queue.proofs.Queue.hand_over.Goals as goal

pub shared_ref_as_front-count_flags : goal.shared_ref_as_front-count_flags
shared_ref_as_front-count_flags c =
    omega (arith, c.min-characters.ensures, count_is places places c.args.self c.requires.sound, c.requires.sound.waiting)

pub returns : goal.returns
unfolding handing
returns c =
    let m = c.min-characters in
    let q = c.args.self in
    let e = items_out places places c.args.n q c.requires.sound m.result m.ensures in
    record {
      value =
          rw (
            c.remove-queue.ensures,
            c.count_flags-flagged.ensures,
            c.put_images-bytes.ensures.value,
            e,
            flagged_count places places c.args.n q c.requires.sound m.result m.ensures,
            left places places c.args.n q c.requires.sound m.result m.ensures,
            characters places places c.args.n q c.requires.sound m.result m.ensures,
          );
      buffer_after = rw e at c.put_images-bytes.ensures.buffer_after;
    }
