pub mod BlankLemmas
pub mod CodeLemmas
pub mod DisplayLemmas
pub mod EncodeLemmas
pub mod NameLemmas
