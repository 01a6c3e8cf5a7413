-- All that is demanded of the choice, in one place.
use Rattle.rates.specs.Demanded.{Demanded}
use Rattle.rates.proofs.Rates.{rates, exactly}
use Rattle.rates.proofs.RateCases.{choice_cases, tie_cases, rate_refusal_cases}
use Rattle.rates.proofs.RateTextCases.{choosing_number_cases, word_cases, rate_text_cases, usual_rate_cases}
use Rattle.rates.proofs.SlowRates.{slow_rate_cases}

pub demanded : Demanded
demanded =
    record {
      choice_cases = choice_cases;
      tie_cases = tie_cases;
      rate_refusal_cases = rate_refusal_cases;
      slow_rate_cases = slow_rate_cases;
      choosing_number_cases = choosing_number_cases;
      word_cases = word_cases;
      rate_text_cases = rate_text_cases;
      usual_rate_cases = usual_rate_cases;
      rates = rates;
      exactly = exactly;
    }
