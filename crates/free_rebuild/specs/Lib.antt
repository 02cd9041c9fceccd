pub mod Chain
pub mod Clearing
pub mod Stops
pub mod Repairs
pub mod Durable
pub mod Updates
pub mod Settled
pub mod Operations
