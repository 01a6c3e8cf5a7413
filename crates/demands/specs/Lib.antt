pub mod Marks
pub mod History
pub mod Conditions
pub mod Spelling
pub mod Examples
pub mod Confirmations
pub mod ConfirmationCases
pub mod Demands
