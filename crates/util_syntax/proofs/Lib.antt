mod Cases
pub mod Absent
pub mod Reading
pub mod Tables
pub mod FormLemmas
pub mod MemberNames
