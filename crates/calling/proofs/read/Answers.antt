use Rattle.calling.proofs.Answers.{fits}
use borrow.Author.Rules.{rules}
use Rattle.calling.proofs.read.Goals as goal

pub put_answer-requires : goal.put_answer-requires
put_answer-requires c = search (rules, fits)

pub returns : goal.returns
returns c =
    record { answer = _; lent = _; kept = rw c.from.ensures at c.read-given.ensures; wrote = c.put_answer.ensures }
