pub mod FirstBest
pub mod Distances
pub mod Rates
pub mod RateCases
pub mod RateTextCases
pub mod SlowRates
pub mod Demanded
