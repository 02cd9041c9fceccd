pub mod Forms
pub mod Items
pub mod Lines
pub mod Listing
pub mod Operands
pub mod Program
pub mod Step
