use borrow.Author.Rules.{rules}
use Rattle.calling.proofs.Answers.{fits}
use Rattle.calling.proofs.turn.Goals as goal

pub put_turn-requires : goal.put_turn-requires
put_turn-requires c = search (rules, fits)
