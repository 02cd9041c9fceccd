pub mod Spelling
pub mod Entries
pub mod Directories
pub mod Reading
pub mod Packed
