pub mod Outcomes
pub mod Statements
