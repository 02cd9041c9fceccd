pub mod Words
pub mod Lines
pub mod Names
pub mod Task
pub mod Mount
pub mod Run
