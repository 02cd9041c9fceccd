pub mod Cards
pub mod Characters
pub mod Names
pub mod Nesting
pub mod Operands
pub mod Tree
pub mod Values
