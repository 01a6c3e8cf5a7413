use borrow.Author.Rules.{rules}
use Rattle.calling.proofs.Answers.{fits}
use Rattle.calling.proofs.arrive.Goals as goal

pub put_arrival-requires : goal.put_arrival-requires
put_arrival-requires c = search (rules, fits)
