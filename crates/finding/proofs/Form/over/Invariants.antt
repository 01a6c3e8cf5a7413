use Rattle.std.proofs.Common.{◌≡◌, Some, drop}
use Rattle.finding.specs.Bounds.{SoundForm}
use Rattle.finding.specs.Stretches.{form_over}
use Rattle.finding.proofs.Form.over.Given as goal

abbrev pub invariant-loop-byte : goal.invariant-loop-byte
invariant-loop-byte l =
    record { sound : SoundForm l.form; same : form_over (Some l.form) (drop l.byte-index l.bytes) ≡ form_over (Some l.fn.self) l.bytes }
