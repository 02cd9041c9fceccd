pub mod Editing
pub mod Laws
pub mod Lines
pub mod Merging
pub mod Orders
pub mod Records
pub mod Requests
