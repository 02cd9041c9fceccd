pub mod BlockLemmas
mod Cases
pub mod CutLemmas
pub mod KeptLemmas
pub mod NeededLemmas
pub mod StoreLemmas
