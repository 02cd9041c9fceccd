pub mod Numbers
pub mod Parts
pub mod Dates
pub mod DataSet
pub mod Disposition
pub mod Volume
pub mod SpaceRequest
pub mod Attributes
