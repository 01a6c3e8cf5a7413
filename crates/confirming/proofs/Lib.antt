pub mod Passes
pub mod Calls
