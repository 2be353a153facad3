-- Laws of the definitions, by subject; each function's proof cites them.
pub mod Passing
pub mod Refusals
pub mod Entries
pub mod Puts
