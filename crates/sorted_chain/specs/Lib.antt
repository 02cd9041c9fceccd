pub mod Cutting
pub mod Plan
