-- The plain loader, in document 01's order: rows and records, the table, lines and units, calls; then what a real call promises, and the claim.
pub mod Rows
pub mod Table
pub mod Loader
pub mod Call
pub mod Promise
pub mod Claim
pub mod Record
