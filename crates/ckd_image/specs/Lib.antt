pub mod Device
pub mod Fit
pub mod Header
pub mod Track
pub mod Reading
pub mod Break
pub mod Walk
pub mod Writing
