pub mod Appends
pub mod Buffers
pub mod Calls
pub mod Reads
pub mod Updates
pub mod Written
