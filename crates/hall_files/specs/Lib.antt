pub mod FileHall
pub mod StdCards
