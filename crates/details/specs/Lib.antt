-- Values and the detail row.
pub mod Value
pub mod Detail
