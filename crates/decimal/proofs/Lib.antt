pub mod Digits
pub mod ReadBack
mod Words
