pub mod Blocks
pub mod Longest
pub mod Names
pub mod Placing
pub mod Rows
