pub mod Members
pub mod Outputs
