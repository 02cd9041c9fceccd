pub mod FreeUnits
pub mod Steps
pub mod Cuts
pub mod Joins
pub mod Changed
pub mod SortedRuns
pub mod FreeTracks
