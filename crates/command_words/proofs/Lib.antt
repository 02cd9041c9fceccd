pub mod KindLemmas
pub mod OptionLemmas
pub mod WordLemmas
