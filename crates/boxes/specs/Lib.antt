pub mod Boxes
pub mod EndingCases
pub mod Demanded
