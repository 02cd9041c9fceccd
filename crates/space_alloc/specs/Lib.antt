pub mod Units
pub mod Edits
pub mod Owned
