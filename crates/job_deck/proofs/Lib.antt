pub mod Absent
pub mod Steps
