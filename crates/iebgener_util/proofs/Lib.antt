mod Cases
mod CopyLemmas
mod EditLemmas
mod EditedLemmas
mod OrderLemmas
mod OutputLemmas
mod RequestLemmas
mod SkipLemmas
mod StepLemmas
pub mod AcceptedLemmas
