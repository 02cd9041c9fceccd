mod EventCases
mod ShelfCases
mod RowCases
mod WriteCases
mod CatalogCases
mod DeviceCases
