pub mod BlockLemmas
pub mod MomentLemmas
pub mod StageLemmas
pub mod StepLemmas
