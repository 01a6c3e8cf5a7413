pub mod Counted
pub mod Entries
pub mod Promise
