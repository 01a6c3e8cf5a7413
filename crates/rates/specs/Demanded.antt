-- ALL THAT IS PROVED of request c's choice.
use Rattle.std.specs.Prelude.{ℕ}
use Rattle.rates.specs.Rates.{Rates, Exactly}
use Rattle.rates.specs.RateCases.{ChoiceCases, TieCases, RateRefusalCases, SlowRateCases, ChoosingNumberCases, WordCases, RateTextCases, UsualRateCases}

pub record Demanded : Type 0 where
  pub choice_cases : ChoiceCases
  pub tie_cases : TieCases
  pub rate_refusal_cases : RateRefusalCases
  pub slow_rate_cases : SlowRateCases
  pub choosing_number_cases : ChoosingNumberCases
  pub word_cases : WordCases
  pub rate_text_cases : RateTextCases
  pub usual_rate_cases : UsualRateCases
  pub rates : Rates
  pub exactly : (clock wanted : ℕ) → Exactly clock wanted
