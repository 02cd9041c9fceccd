mod OrderLemmas
mod TaskLemmas
mod WalkLemmas
mod AreaLemmas
mod CopyLemmas
mod PlaceLemmas
mod WholeLemmas
mod WritingLemmas
mod FoundLemmas
mod CopiedLemmas
mod DoesItemsLemmas
mod MemberItems
mod LawfulOrders
mod ApartLemmas
mod StepItems
mod RunLemmas
pub mod AcceptedLemmas
