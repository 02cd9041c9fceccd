pub mod Requests
pub mod Orders
pub mod Sets
pub mod Tasks
pub mod Copying
pub mod Items
pub mod Steps
