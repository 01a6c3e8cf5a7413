use Rattle.std.proofs.Common.{arith, sym, ◌∙◌}
use Rattle.finding.proofs.Searching.{place_fits}
use Rattle.finding.proofs.Search.pass.Goals as goal

pub overflow_add-result : goal.overflow_add-result
overflow_add-result c =
    omega (arith, place_fits _ _ _ _ (sym c.advance.ensures ∙ c.in_ok-step.was) c.requires.sound_search c.requires.width_bound)
