-- The laws of the calendar, on plain values: the table of months, the parts of a date, and day numbers and dates as each other's inverse.
pub mod Table
pub mod Dates
pub mod Laws
