use Rattle.std.proofs.Common.{arith, ap, ◌∙◌, ◌≡◌}
use Rattle.paper.specs.Transmitter.{transmit_depth}
use Rattle.transmitter.proofs.Laws.{load_room, written_to, load_start, load_step, load_end}
use Rattle.transmitter.proofs.Transmitter.load.Goals as goal

pub overflow_sub-count : goal.overflow_sub-count
unfolding transmit_depth
overflow_sub-count c = omega (arith, load_room c.args.self c.requires)

pub loop-i-init : goal.loop-i-init
loop-i-init c = load_start c.args.self c.requires c.args.bytes.now

pub loop-i-preserved : goal.loop-i-preserved
unfolding transmit_depth
loop-i-preserved c =
    rw c.loop-i.invariant (load_step c.args.self c.requires c.args.bytes.now c.loop-i.i (omega arith) (omega arith))

pub returns : goal.returns
unfolding transmit_depth
returns c =
    let e : c.loop-i.i ≡ c.min-taken.result = omega arith in
    load_end c.args.self c.requires c.args.bytes.now c.min-taken.result c.min-taken.ensures
    (c.loop-i.invariant ∙ ap (written_to c.args.self c.args.bytes.now) e)
