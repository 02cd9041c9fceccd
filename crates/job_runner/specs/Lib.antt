pub mod Parts
pub mod Lines
pub mod Space
pub mod DataSets
pub mod Dispositions
pub mod Programs
pub mod Jobs
pub mod Resolving
