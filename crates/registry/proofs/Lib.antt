-- Laws of the definitions, by subject; each function's proof cites them.
pub mod Entries
pub mod Opening
pub mod Reading
pub mod Laws
pub mod Walk
pub mod Halves
