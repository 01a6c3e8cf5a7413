use Rattle.std.proofs.Common.{arith, rules, ◌+◌, ◌≤◌, ◌++◌, ◌∷◌, [], ◌∙◌, ap, length, take, length-append}
use Rattle.std.proofs.lemmas.Slice.Zip.{zip_turn}
use Rattle.paper.specs.Stream.{image, images}
use Rattle.images.specs.Code.{item_in, items_in}
use Rattle.images.proofs.Laws.{image_short, length-written, part_written, images_more}
use Rattle.images.proofs.put_images.Goals as goal

pub loop-kind-preserved : goal.loop-kind-preserved
loop-kind-preserved c =
    let l = c.loop-kind in
    let r = c.put_image-long in
    let ks = c.args.kinds.now in
    let bs = c.args.bytes.now in
    let old = c.args.buffer.now in
    let n = length l.yielded in
    let turn = zip_turn ks bs l.yielded c.into_iter-kind-iterator.result l.kind-iterator c.next.new.self c.next.result (search rules) (search rules) l.yielded_by _ c.in-Some.is c.next.ensures.steps in
    let xs = images (items_in (take n ks) (take n bs)) in
    let item = item_in c.in-Some.kind.now c.in-Some.byte.now in
    let e = rw (← turn.2 0, ← turn.3 0) at (images_more ks bs n turn.0 turn.1) in
    let m = part_written old c.args.place xs (image item) l.buffer r.new.part (c.args.place + l.long) l.invariant.buffer_is
    (ap (c.args.place +◌) l.invariant.long_is) (omega arith) r.ensures.part_after in
    let fits : c.args.place + length (xs ++ image item) ≤ length old =
    omega (arith, length-append xs (image item), l.invariant.long_is, image_short item) in
    rw (length-append l.yielded ((c.in-Some.kind, c.in-Some.byte) ∷ []))
    record {
      short = omega (arith, r.ensures.value, image_short item);
      same_length = ap length m ∙ length-written old c.args.place (xs ++ image item) fits;
      long_is = rw e (omega (arith, length-append xs (image item), l.invariant.long_is, r.ensures.value));
      buffer_is = rw e m;
    }
