pub mod HeldLengths
pub mod RecordWrites
pub mod Tellings
