pub mod Fields
pub mod Formats
pub mod Parts
pub mod Rows
pub mod Tables
