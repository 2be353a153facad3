-- Laws of the definitions, by subject; each function's proof cites them.
pub mod Copies
pub mod FreshWords
pub mod Parts
