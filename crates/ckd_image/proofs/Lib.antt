mod Cases
pub mod Counts
pub mod Front
pub mod Patterns
pub mod Steps
pub mod GrammarRecord
pub mod GrammarFront
pub mod GrammarWalk
pub mod Grammar
pub mod GrammarBreak
pub mod GrammarBegin
pub mod GrammarFirstBreak
pub mod WrittenHeaders
pub mod WrittenTracks
pub mod FitBytes
pub mod GeometryLemmas
