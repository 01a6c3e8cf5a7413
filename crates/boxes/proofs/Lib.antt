pub mod EndingCases
pub mod EndingTextCases
pub mod Lists
pub mod Boxes
pub mod Demanded
