pub mod Generations
pub mod Laws
