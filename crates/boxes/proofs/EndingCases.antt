-- Request h's cases of the single setting, by computation over the definitions.
use mathlib.Core.Path.{refl}
use Rattle.paper.specs.Arrival.{ending}
use Rattle.paper.specs.TwoBoxes.{works, single, one_ending}
use Rattle.boxes.specs.EndingCases.{ActsCases, FollowedCases, SingleCases, OneEndingCases}

pub acts_cases : ActsCases
unfolding ending
acts_cases =
    record { zero = refl; one = refl; two = refl; three = refl; four = refl; five = refl; six = refl; seven = refl; nothing = refl }

pub followed_cases : FollowedCases
unfolding ending
followed_cases = record { one_then_four = refl; four_then_one = refl; three_twice = refl }

pub single_cases : SingleCases
unfolding ending works single
single_cases =
    record {
      three_three = refl;
      two_one = refl;
      one_two = refl;
      zero_three = refl;
      zero_six = refl;
      four_seven = refl;
      five_three = refl;
      one_four = refl;
      three_five = refl;
      seven_six = refl;
      four_for_zero = refl;
    }

pub one_ending_cases : OneEndingCases
unfolding ending works single one_ending
one_ending_cases =
    record {
      first_pair = refl;
      last_pair = refl;
      last_with_one = refl;
      first_above = refl;
      second_above = refl;
      both_above = refl;
      greatest = refl;
    }
