use Rattle.std.proofs.Common.{drop, sym, ◌∙◌, add-one, drop-cons}
use Rattle.finding.proofs.Stretching.{step_sound, over_more}
use Rattle.finding.proofs.Form.over.Goals as goal

pub loop-byte-preserved : goal.loop-byte-preserved
loop-byte-preserved c =
    let is = sym c.step.ensures ∙ c.in_ok-form.was in
    record {
      sound = step_sound _ _ _ is c.loop-byte.invariant.sound;
      same = sym (over_more _ _ _ is _ (drop c.loop-byte.byte-index c.args.bytes.now) (rw (add-one, drop-cons c.args.bytes.now c.loop-byte.byte-index 0 c.loop-byte-test.true))) ∙ c.loop-byte.invariant.same;
    }
