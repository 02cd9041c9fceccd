pub mod Items
pub mod Requests
