pub mod Changes
pub mod Entries
pub mod Stores
pub mod Packing
