pub mod Ascii
pub mod Digits
pub mod Levels
pub mod Lists
