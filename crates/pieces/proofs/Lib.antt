-- Laws of the definitions, by subject; each function's proof cites them.
pub mod Running
pub mod PlainLine
pub mod Moving
pub mod Batches
