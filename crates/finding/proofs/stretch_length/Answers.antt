use Rattle.std.proofs.Common.{◌∙◌, rules, tests}
use Rattle.std.proofs.lemmas.Iterator.{YieldsList-from_slice}
use Rattle.std.proofs.lemmas.Iterator.Consumers.{count_from_yields_List}
use Rattle.std.proofs.lemmas.Iterator.Search.{YieldsList-from_take_while}
use Rattle.std.proofs.lemmas.List.Folds.{length-prefix_len}
use Rattle.finding.specs.Stretches.{is_plain}
use Rattle.finding.proofs.stretch_length.Goals as goal

pub returns : goal.returns
returns c =
    count_from_yields_List
    c.take_while.result
    _
    c.count.ensures.ran
    (YieldsList-from_take_while
    _
    is_plain
    (YieldsList-from_slice c.args.piece.now cc)
    c.take_while.ensures.closure
    c.take_while.ensures.done
    (λ x b q k. search (rules, tests)))
    ∙ length-prefix_len is_plain c.args.piece.now
