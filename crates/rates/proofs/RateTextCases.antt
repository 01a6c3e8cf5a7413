-- Request c's cases of numbers, words and lines, by computation over the definitions.
use mathlib.Core.Path.{refl}
use Rattle.paper.specs.Decimal.{digit, number_of, decimal}
use Rattle.paper.specs.Rate.{row, rows, pairs, every, first_of, gap, nearer, deviation, out_of_range, too_far, choose}
use Rattle.paper.specs.RateLines.{refused_words, choice_words, rate_line, rate_text}
use Rattle.rates.specs.RateCases.{ChoosingNumberCases, WordCases, RateTextCases, UsualRateCases}

-- what a line computes with: to unfold this name is to unfold all that its own line names
printed : Unit {0}
unfolding digit number_of decimal refused_words choice_words rate_line rate_text row rows pairs every first_of gap nearer deviation out_of_range too_far choose
printed = tt

pub choosing_number_cases : ChoosingNumberCases
choosing_number_cases =
    record {
      above = refl;
      below = refl;
      exact = refl;
      outside = refl;
      too_far = refl;
    }

pub word_cases : WordCases
unfolding digit number_of
word_cases =
    record {
      plain = refl;
      zero = refl;
      leading_zeros = refl;
      most = refl;
      too_large = refl;
      far_too_large = refl;
      empty = refl;
      signed = refl;
      letter_behind = refl;
      below_digits = refl;
      above_digits = refl;
      space = refl;
    }

pub rate_text_cases : RateTextCases
unfolding printed
rate_text_cases =
    record {
      none = refl;
      signs = refl;
      exact = refl;
      refused = refl;
      as_it_came = refl;
      bad_clock = refl;
      further = refl;
    }

-- whatever the choice is: the lines are those of these words
pub usual_rate_cases : UsualRateCases
unfolding digit number_of decimal rate_text
usual_rate_cases = record { usual = refl }
