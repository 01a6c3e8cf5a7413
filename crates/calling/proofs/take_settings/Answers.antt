use borrow.Author.Rules.{rules}
use Rattle.calling.proofs.Answers.{fits}
use Rattle.calling.proofs.take_settings.Goals as goal

pub put_change-requires : goal.put_change-requires
put_change-requires c = search (rules, fits)
