-- Laws of the definitions, by subject; each function's proof cites them.
pub mod LineMore
pub mod HeaderRows
pub mod DetailRows
pub mod Skipping
pub mod Passing
