pub mod LibraryProps
pub mod Sets
pub mod Scans
pub mod Walks
pub mod Repairs
pub mod Settled
