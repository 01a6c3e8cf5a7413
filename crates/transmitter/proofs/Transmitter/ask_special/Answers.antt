use Rattle.std.proofs.Common.{rules, ◌≡◌, true, false, ◌||◌}
use Rattle.std.proofs.Math.Option.{none, some}
use lib.Dec.{ltb}
use Rattle.transmitter.specs.Held.{asks_special}
use Rattle.transmitter.proofs.Laws.{special_with, answers, special_waits, no_special, asks_by}
use Rattle.transmitter.proofs.Transmitter.ask_special.Goals as goal

pub returns-then-not-contains : goal.returns-then-not-contains
unfolding asks_special
returns-then-not-contains c =
    let outside : (ltb c.args.number 1 || ltb 4 c.args.number) ≡ true = search rules in
    rw outside (answers _ _ _ c.requires.is)

pub returns-then-self : goal.returns-then-self
returns-then-self c =
    let t = c.args.self in
    let inside : (ltb c.args.number 1 || ltb 4 c.args.number) ≡ false = search rules in
    rw (asks_by c.args.s t c.args.number (some t.special) inside (special_waits t c.if-self.true)) (answers _ _ _ c.requires.is)

pub returns : goal.returns
returns c =
    let t = c.args.self in
    let inside : (ltb c.args.number 1 || ltb 4 c.args.number) ≡ false = search rules in
    rw (asks_by c.args.s t c.args.number none inside (no_special t c.if-self.false), c.special_character.ensures)
    (answers _ _ _ (special_with c.requires (some _)))
