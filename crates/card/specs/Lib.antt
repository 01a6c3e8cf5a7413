pub mod Held
pub mod Promise
pub mod Runs
