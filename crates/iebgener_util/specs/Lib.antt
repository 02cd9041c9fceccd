pub mod Requests
pub mod Orders
pub mod Editing
pub mod SkippedGroups
pub mod Items
pub mod Edited
