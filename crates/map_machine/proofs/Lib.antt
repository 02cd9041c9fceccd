pub mod CallLemmas
pub mod Finding
pub mod FreeSpaceLemmas
pub mod OpenLemmas
pub mod PastLemmas
pub mod RoomLemmas
pub mod StepLemmas
