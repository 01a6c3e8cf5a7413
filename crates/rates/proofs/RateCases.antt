-- Request c's cases of the choice, by computation over the definitions: all 1275 pairs are looked at.
use mathlib.Core.Path.{refl}
use Rattle.paper.specs.Rate.{row, rows, pairs, every, first_of, gap, nearer, deviation, out_of_range, too_far, choose}
use Rattle.rates.specs.RateCases.{ChoiceCases, TieCases, RateRefusalCases}

-- what the cases compute with: to unfold one of these names is to unfold all that its own line names
computed : Unit {0}
unfolding row rows pairs every first_of gap nearer deviation out_of_range too_far choose
computed = tt

pub choice_cases : ChoiceCases
unfolding computed
choice_cases =
    record {
      request = refl;
      below = refl;
      exact = refl;
      just_above = refl;
      just_below = refl;
      as_fractions = refl;
      first_pair = refl;
    }

pub tie_cases : TieCases
unfolding computed
tie_cases =
    record {
      divisors = refl;
      divisors_near = refl;
      periods = refl;
    }

pub rate_refusal_cases : RateRefusalCases
unfolding computed
rate_refusal_cases =
    record {
      clock_below = refl;
      least_clock = refl;
      greatest_clock = refl;
      clock_above = refl;
      rate_below = refl;
      least_rate = refl;
      greatest_rate = refl;
      rate_above = refl;
      both = refl;
      edge_above = refl;
      past_above = refl;
      edge_below = refl;
      past_below = refl;
      too_slow = refl;
    }
