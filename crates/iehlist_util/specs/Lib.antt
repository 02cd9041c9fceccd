pub mod Lines
pub mod Requests
pub mod Directories
pub mod Items
