mod Rates
mod Words
