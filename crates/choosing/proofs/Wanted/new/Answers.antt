use Rattle.std.proofs.Common.{sym, ◌∙◌}
use Rattle.rates.proofs.Rates.{in_range}
use Rattle.choosing.proofs.Wanted.new.Goals as goal

pub invariant_of-result : goal.invariant_of-result
invariant_of-result c = record { in_range = in_range _ _ (sym c.is_out_of_range.ensures ∙ c.if-is_out_of_range.false) }
