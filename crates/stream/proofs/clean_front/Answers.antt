use Rattle.std.proofs.Common.{◌≡◌, cond, Some, None, eqb, ltb, length, refl, rules, tests}
use Rattle.std.proofs.lemmas.Iterator.{YieldsList-from_slice}
use Rattle.std.proofs.lemmas.Iterator.Search.{position_from_yields_List}
use Rattle.stream.proofs.Laws.{before_ff, clean_to}
use Rattle.stream.proofs.clean_front.Goals as goal

pub returns : goal.returns
returns c =
    let found : c.position.result
    ≡ cond
    (ltb (before_ff c.args.stream.now) (length c.args.stream.now))
    (Some (before_ff c.args.stream.now))
    None =
    position_from_yields_List (λ b. eqb b 0xFF) _ _ c.position.result c.position.ensures.ran (YieldsList-from_slice c.args.stream.now cc) (λ x b q k. search (rules, tests))
    in
    (refl, clean_to c.args.stream.now c.position.result c.unwrap_or-n.result found c.unwrap_or-n.ensures)
