mod LawLemmas
mod MergeLemmas
pub mod NumberLemmas
mod OrderLemmas
mod PutLemmas
mod Rows
