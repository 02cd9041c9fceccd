pub mod AcceptedLemmas
pub mod Answering
