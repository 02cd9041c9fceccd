pub mod AcceptedLemmas
pub mod Blocks
pub mod CallLemmas
pub mod ExpiryLemmas
pub mod Following
pub mod Progress
pub mod Ending
pub mod ListLemmas
mod ItemLemmas
pub mod Reporting
pub mod Taking
mod VolumeLemmas
