pub mod Looks
pub mod Rates
pub mod RateCases
pub mod Demanded
