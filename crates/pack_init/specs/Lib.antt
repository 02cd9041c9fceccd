pub mod Init
pub mod Layout
pub mod Progress
