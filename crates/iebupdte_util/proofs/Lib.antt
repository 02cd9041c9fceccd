pub mod AcceptedLemmas
mod CheckLemmas
mod EditedLemmas
mod GaveLemmas
mod OldLemmas
mod RunLemmas
mod StepLemmas
mod UpdateLemmas
