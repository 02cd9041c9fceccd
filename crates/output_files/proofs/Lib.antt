pub mod AcceptedLemmas
pub mod BothFound
pub mod EnterLemmas
pub mod MemberLemmas
pub mod OutputLemmas
pub mod StoreLemmas
