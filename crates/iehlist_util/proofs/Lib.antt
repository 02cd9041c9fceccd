mod SetLemmas
mod DirectoryLemmas
mod Listings
mod ItemLemmas
mod Cases
pub mod AcceptedLemmas
