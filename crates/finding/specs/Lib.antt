pub mod Finder
pub mod Search
pub mod Bounds
pub mod Stretches
pub mod Walk
