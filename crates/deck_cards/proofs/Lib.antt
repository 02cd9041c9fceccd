pub mod Bytes
pub mod LineParts
