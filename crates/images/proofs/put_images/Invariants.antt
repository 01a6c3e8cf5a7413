use Rattle.std.proofs.Common.{length, take, ◌≡◌, ◌*◌, ◌≤◌}
use Rattle.paper.specs.Channel.{written}
use Rattle.images.specs.Code.{images_in}
use Rattle.images.proofs.put_images.Given as goal

abbrev pub invariant-loop-kind : goal.invariant-loop-kind
invariant-loop-kind l =
    let ks = take (length l.yielded) l.kinds in
    let bs = take (length l.yielded) l.bytes in
    record {
      short : l.long ≤ 3 * length l.yielded;
      same_length : length l.buffer ≡ length l.initial.buffer;
      long_is : l.long ≡ length (images_in ks bs);
      buffer_is : l.buffer ≡ written l.initial.buffer l.place (images_in ks bs);
    }
