pub mod Accepted
pub mod Copying
pub mod Expiry
pub mod Items
pub mod Steps
pub mod Taking
