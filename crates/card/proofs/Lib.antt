pub mod Laws
pub mod Runs
