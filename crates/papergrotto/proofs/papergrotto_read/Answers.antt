use Rattle.papergrotto.proofs.Laws.{kept}
use Rattle.papergrotto.proofs.papergrotto_read.Goals as goal

pub returns : goal.returns
returns c = kept c.read-given.ensures c.stored.ensures.0 c.stored.ensures.1
