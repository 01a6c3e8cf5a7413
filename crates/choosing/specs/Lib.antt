pub mod Search
pub mod Kept
