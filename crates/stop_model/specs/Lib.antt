pub mod Blocks
pub mod Counts
pub mod Files
pub mod Moments
pub mod Steps
