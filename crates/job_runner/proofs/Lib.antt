mod ProgramLemmas
mod AcceptedLemmas
pub mod PartLemmas
pub mod OperationLemmas
pub mod DispositionLemmas
pub mod LineLemmas
pub mod SpaceLemmas
pub mod DefinitionLemmas
pub mod JobLemmas
