pub mod BehindLemmas
pub mod ContinueLemmas
pub mod ImageLemmas
mod PlaceLemmas
pub mod PatchLemmas
mod PutLemmas
pub mod StandLemmas
pub mod UpdateLemmas
pub mod WriteLemmas
pub mod WrittenLemmas
pub mod FrontLemmas
