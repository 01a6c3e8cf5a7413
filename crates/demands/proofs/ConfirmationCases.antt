-- Request n's cases, by computation over the definitions.
use mathlib.Core.Path.{refl}
use Rattle.paper.specs.Decimal.{digit, decimal}
use Rattle.paper.specs.Confirmations.{fits, confirmation_of, mark, next, judgement_on, countable, confirm}
use Rattle.paper.specs.Yield.{words, judgement_words, line_of, litres_line, broken_line, full_line, yield_sheet}
use Rattle.paper.specs.Channel.{no_room}
use Rattle.paper.specs.Card.{step}
use Rattle.demands.specs.ConfirmationCases.{JudgedCases, AsideCases, RunCases, FormCases, ConfirmCases, TheScale, YieldCases}
use Rattle.demands.proofs.Examples.{called}

-- what the cases compute with: to unfold one of these names is to unfold all that its own line names
listed : Unit {0}
unfolding digit fits confirmation_of mark next judgement_on
listed = tt

confirmed : Unit {0}
unfolding listed countable confirm
confirmed = tt

printed : Unit {0}
unfolding listed countable decimal words judgement_words line_of litres_line broken_line full_line yield_sheet
printed = tt

pub judged_cases : JudgedCases
unfolding listed
judged_cases =
    record {
      first = refl;
      first_zero = refl;
      next = refl;
      round = refl;
      round_wrong = refl;
      round_early = refl;
      repeat = refl;
      repeat_other_litres = refl;
      repeat_twice = refl;
      repeat_next = refl;
      beyond = refl;
      back = refl;
      behind_gap = refl;
      gap_repeated = refl;
    }

pub aside_cases : AsideCases
unfolding listed
aside_cases =
    record {
      digit = refl;
      sixth_digit = refl;
      only_digit = refl;
      damaged_zero = refl;
      damaged_ff = refl;
      any_form = refl;
      before_first = refl;
      then_repeated = refl;
      then_next = refl;
      damaged_end = refl;
      damaged_end_abandoned = refl;
      damaged_start_inside = refl;
      damaged_start = refl;
      outside = refl;
    }

pub run_cases : RunCases
unfolding listed
run_cases =
    record {
      nothing = refl;
      abandoned = refl;
      abandoned_damaged = refl;
      abandoned_at_once = refl;
      unfinished = refl;
      unfinished_damaged = refl;
      end_alone = refl;
    }

pub form_cases : FormCases
unfolding listed
form_cases =
    record {
      one_digit = refl;
      six_digits = refl;
      leading_zeros = refl;
      litres_lengths = refl;
      number_lengths = refl;
      two_spaces = refl;
      no_space = refl;
      number_others = refl;
      litres_others = refl;
      inside = refl;
      passed = refl;
    }

pub confirm_cases : ConfirmCases
unfolding confirmed
confirm_cases =
    record {
      nothing = refl;
      exactly = refl;
      rest_stays = refl;
      one_too_few = refl;
      few_places = refl;
      few_numbers = refl;
      few_litres = refl;
      few_judgements = refl;
      not_listed = refl;
      third = refl;
      broken = refl;
      broken_first = refl;
      cut = refl;
      numbers = refl;
    }

pub the_scale : TheScale
unfolding confirmed called no_room step
the_scale =
    record { bare = refl; bare_refused = refl; through_marks = refl; answers = refl; found = refl; counted = refl; unmarked = refl }

pub yield_cases : YieldCases
unfolding printed
yield_cases =
    record {
      numbers = refl;
      nothing = refl;
      noise = refl;
      sorts = refl;
      no_zeros = refl;
      broken = refl;
      broken_inside = refl;
      cut = refl;
      scale = refl;
      full = refl;
    }
