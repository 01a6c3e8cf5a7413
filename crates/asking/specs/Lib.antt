pub mod Frame
pub mod Leads
