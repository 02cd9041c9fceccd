pub mod DateLemmas
