pub mod Checking
pub mod Edited
pub mod Items
