-- Request c's cases of the larger divisors, by computation over the single looks that the choice is equal to: there are 1275 of them, where the
-- definition's own words ask for hundreds of thousands of comparisons.
use mathlib.Core.Path.{refl, ◌∙◌}
use native.Mathlib.Omega.{arith}
use Rattle.paper.specs.Rate.{row, rows, pairs, gap, nearer, deviation, out_of_range, too_far}
use Rattle.rates.specs.Looks.{pick, best}
use Rattle.rates.specs.RateCases.{SlowRateCases}
use Rattle.rates.proofs.Rates.{by_looks}

pub slow_rate_cases : SlowRateCases
unfolding row rows pairs gap nearer deviation out_of_range too_far pick best
slow_rate_cases =
    record {
      slow = by_looks 60000000 113 (omega arith) refl ∙ refl;
      last_pair = by_looks 60000000 115 (omega arith) refl ∙ refl;
      divisors = by_looks 1000000 50 (omega arith) refl ∙ refl;
      five_hundred_and_twelve = by_looks 25000000 300 (omega arith) refl ∙ refl;
    }
