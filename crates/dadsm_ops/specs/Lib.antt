pub mod Allocating
pub mod Emptying
pub mod Extending
pub mod Naming
pub mod Operations
pub mod Scratching
pub mod Formatting
