pub mod Command
pub mod Given
pub mod Requests
pub mod Values
