-- Laws of the definitions, by subject; each function's proof cites them.
pub mod Texts
pub mod Lengths
pub mod Parts
