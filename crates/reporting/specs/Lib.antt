pub mod Reports
pub mod Program
