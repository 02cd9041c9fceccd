pub mod LaterBlocks
pub mod MemberSteps
pub mod PartBlocks
pub mod MemberReads
pub mod Walks
pub mod EndCalls
