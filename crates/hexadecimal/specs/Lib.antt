pub mod LineSoFar
pub mod Steps
