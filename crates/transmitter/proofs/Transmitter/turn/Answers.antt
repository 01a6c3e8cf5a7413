use Rattle.std.proofs.Math.Option.{none, some}
use Rattle.transmitter.specs.Held.{transmitter_in, sends_next}
use Rattle.transmitter.proofs.Laws.{special_with, answers, special_waits, no_special, turns_by}
use Rattle.transmitter.proofs.Transmitter.turn.Goals as goal

pub returns-then-self : goal.returns-then-self
returns-then-self c =
    let t = c.args.self in
    let first = turns_by c.args.s t c.args.f (some t.special) (special_waits t c.if-self.true) in
    rw first (answers _ _ _ (special_with c.requires none))

pub returns-then-is_held : goal.returns-then-is_held
returns-then-is_held c =
    let t = c.args.self in
    let otherwise = turns_by c.args.s t c.args.f none (no_special t c.if-self.false) in
    rw (otherwise, ← c.is_held.ensures, c.if-is_held.true) (answers _ _ _ c.requires.is)

pub returns : goal.returns
unfolding sends_next transmitter_in
returns c =
    let t = c.args.self in
    let otherwise = turns_by c.args.s t c.args.f none (no_special t c.if-self.false) in
    rw (otherwise, ← c.is_held.ensures, c.if-is_held.false) c.send_next.ensures
