mod StepLemmas
pub mod AcceptedLemmas
